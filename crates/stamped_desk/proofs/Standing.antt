-- What stands in a slot after an event stood there before, or was drawn by it.
use Rattle.std.proofs.Common.{◌≡◌, ℕ, suc, zero, ◌<◌, Bool, true, false, Option, Some, List, [], ◌∷◌, Result, Ok, Err, refl, sym, ap, ◌∙◌, subst, arith}
use Rattle.std.specs.Prelude.{slice_get, slice_set}
use Rattle.doc_model.specs.declared.command.Outcome.TheVariants.{Done}
use Rattle.doc_model.specs.Changes.{changed}
use Rattle.doc_model.specs.Jobs.{reads}
use Rattle.doc_model.specs.Layers.{plain}
use Rattle.doc_model.specs.Picture.{Doc}
use Rattle.doc_model.specs.Shots.{shot_of}
use Rattle.doc_model.specs.Strokes.{Stroke, Entry, Strokes, Changes, Undoes, Redoes, Purges, Exports}
use Rattle.doc_model.specs.declared.tree.TreeFault.{TreeFault}
use Rattle.machine_model.specs.State.{State, Painter, Walker, Slot, Free, Paints, Walks, Reach, Whole, Part}
use Rattle.machine_model.specs.Event.{Event, Feed, Init, Start, Publish, End, Finish, Cancel, Act, WalkStart, WalkPublish, WalkEnd}
use Rattle.machine_model.specs.Step.{Step}
use Rattle.machine_model.specs.Guards.{is_paint}
use Rattle.machine_model.specs.Walks.{walk_shot}
use Rattle.machine_model.specs.Effects.{layer_in, moved_to, with_outcome, after_change, after_undo, after_redo, after_entry, after_finish}

-- work with a serial below the bound stood there before: the same job, with the same index and shot, or the same walk
abbrev pub StoodBefore : ℕ → Option Slot → Slot → Type 0
StoodBefore bound old Free = Unit {0}
StoodBefore bound old (Paints w) = w.serial < bound → (v : Painter) × (old ≡ Some (Paints v)) × (v.serial ≡ w.serial) × (v.index ≡ w.index) × (v.job ≡ w.job) × (v.shot ≡ w.shot)
StoodBefore bound old (Walks w) = w.serial < bound → (v : Walker) × (old ≡ Some (Walks v)) × (v.serial ≡ w.serial) × (v.patch ≡ w.patch) × (v.shot ≡ w.shot)

-- so it is in each slot
abbrev pub AllStood : ℕ → List Slot → List Slot → Type 0
AllStood bound old new = (p : ℕ) (y : Slot) → slice_get new p ≡ Some y → StoodBefore bound (slice_get old p) y

stands : (bound : ℕ) (y : Slot) → StoodBefore bound (Some y) y
stands bound Free = tt
stands bound (Paints w) = λ less. (w, refl, refl, refl, refl, refl)
stands bound (Walks w) = λ less. (w, refl, refl, refl, refl)

stand : (bound : ℕ) (slots : List Slot) → AllStood bound slots slots
stand bound slots p y at = subst (λ o. StoodBefore bound o y) (sym at) (stands bound y)

one_slot : (x y : Slot) → ◌≡◌ {A = Option Slot} (Some x) (Some y) → x ≡ y
one_slot x y e = cc

-- one slot set to something that stood there
set_stood : (bound : ℕ) (slots : List Slot) (place : ℕ) (x : Slot) → StoodBefore bound (slice_get slots place) x → AllStood bound slots (slice_set slots place x)
set_stood bound [] place x stood p y at = absurd cc
set_stood bound (z ∷ slots) zero x stood zero y at = subst (λ s. StoodBefore bound (Some z) s) (one_slot x y at) stood
set_stood bound (z ∷ slots) zero x stood (suc p) y at = stand bound slots p y at
set_stood bound (z ∷ slots) (suc place) x stood zero y at = subst (λ s. StoodBefore bound (Some z) s) (one_slot z y at) (stands bound z)
set_stood bound (z ∷ slots) (suc place) x stood (suc p) y at = set_stood bound slots place x stood p y at

not_below : (n bound : ℕ) → n ≡ bound → n < bound → ⊥
not_below n bound e h = omega arith

-- a job at work that has published more
painter_stood : (bound : ℕ) (o : Option Slot) (v w : Painter) → o ≡ Some (Paints v) → v.serial ≡ w.serial → v.index ≡ w.index → v.job ≡ w.job → v.shot ≡ w.shot → StoodBefore bound o (Paints w)
painter_stood bound o v w at serial index job shot less = (v, at, serial, index, job, shot)

-- a walk that has
walker_stood : (bound : ℕ) (o : Option Slot) (v w : Walker) → o ≡ Some (Walks v) → v.serial ≡ w.serial → v.patch ≡ w.patch → v.shot ≡ w.shot → StoodBefore bound o (Walks w)
walker_stood bound o v w at serial patch shot less = (v, at, serial, patch, shot)

-- work that was just drawn
painter_drawn : (bound : ℕ) (o : Option Slot) (w : Painter) → w.serial ≡ bound → StoodBefore bound o (Paints w)
painter_drawn bound o w drawn less = absurd (not_below w.serial bound drawn less)

walker_drawn : (bound : ℕ) (o : Option Slot) (w : Walker) → w.serial ≡ bound → StoodBefore bound o (Walks w)
walker_drawn bound o w drawn less = absurd (not_below w.serial bound drawn less)

-- an entry that leaves the queue leaves the slots as they were
change_slots : (s : State) (r : Result Doc TreeFault) → (after_change s r).slots ≡ s.slots
change_slots s (Ok new) = refl
change_slots s (Err fault) = refl

moved_slots : (s : State) (new : Doc) (reach : Reach) → (moved_to s new reach).slots ≡ s.slots
moved_slots s new Whole = refl
moved_slots s new (Part layer keys) = refl

undo_slots : (s : State) (past : List (Doc × Reach)) → (after_undo s past).slots ≡ s.slots
undo_slots s [] = refl
undo_slots s (e ∷ past) = moved_slots (record (with_outcome s Done) { past = past; future = (s.base, e.1) ∷ s.future }) e.0 e.1

redo_slots : (s : State) (future : List (Doc × Reach)) → (after_redo s future).slots ≡ s.slots
redo_slots s [] = refl
redo_slots s (e ∷ future) = moved_slots (record (with_outcome s Done) { past = (s.base, e.1) ∷ s.past; future = future }) e.0 e.1

entry_slots : (s : State) (entry : Entry) → (after_entry s entry).slots ≡ s.slots
entry_slots s (Strokes stroke) = refl
entry_slots s (Changes change) = change_slots s (changed plain change s.base)
entry_slots s Undoes = undo_slots s s.past
entry_slots s Redoes = redo_slots s s.future
entry_slots s (Purges n) = refl
entry_slots s Exports = refl

finish_slots : (s : State) (stroke : Stroke) (b : Bool) → (after_finish s stroke b).slots ≡ s.slots
finish_slots s stroke true = refl
finish_slots s stroke false = refl

same_slots : (a b : State) → b.slots ≡ a.slots → AllStood a.next a.slots b.slots
same_slots a b e = subst (AllStood a.next a.slots) (sym e) (stand a.next a.slots)

-- every event leaves in each slot what stood there, or what it has drawn, or nothing
pub step_stood : (a b : State) (e : Event) → Step a e b → AllStood a.next a.slots b.slots
step_stood a b (Feed c) step = same_slots a b (ap (λ (s : State). s.slots) step.1)
step_stood a b Init step = same_slots a b (ap (λ (s : State). s.slots) step.new_is)
step_stood a b (Start place) step = subst (AllStood a.next a.slots) (sym (ap (λ (s : State). s.slots) step.new_is)) (set_stood a.next a.slots place _ (painter_drawn a.next _ (record { serial = a.next; index = step.next; job = step.job.1; shot = shot_of (reads step.job.1) (layer_in step.stroke.layer a.present); published = [] }) refl))
step_stood a b (Publish place key) step = subst (AllStood a.next a.slots) (sym (ap (λ (s : State). s.slots) step.new_is)) (set_stood a.next a.slots place _ (painter_stood a.next _ step.painter (record step.painter { published = key ∷ step.painter.published }) step.runs refl refl refl refl))
step_stood a b (End place) step = subst (AllStood a.next a.slots) (sym (ap (λ (s : State). s.slots) step.new_is)) (set_stood a.next a.slots place Free tt)
step_stood a b Finish step = same_slots a b (ap (λ (s : State). s.slots) step.new_is ∙ finish_slots a step.stroke (is_paint step.stroke.layer a.base))
step_stood a b Cancel step = same_slots a b (ap (λ (s : State). s.slots) step.new_is)
step_stood a b Act step = same_slots a b (ap (λ (s : State). s.slots) step.new_is ∙ entry_slots a step.entry)
step_stood a b (WalkStart place patch) step = subst (AllStood a.next a.slots) (sym (ap (λ (s : State). s.slots) step.new_is)) (set_stood a.next a.slots place _ (walker_drawn a.next _ (record { serial = a.next; patch = patch; shot = walk_shot a patch; published = [] }) refl))
step_stood a b (WalkPublish place g key) step = subst (AllStood a.next a.slots) (sym (ap (λ (s : State). s.slots) step.new_is)) (set_stood a.next a.slots place _ (walker_stood a.next _ step.walker (record step.walker { published = (g, key) ∷ step.walker.published }) step.runs refl refl refl))
step_stood a b (WalkEnd place) step = subst (AllStood a.next a.slots) (sym (ap (λ (s : State). s.slots) step.new_is)) (set_stood a.next a.slots place Free tt)
