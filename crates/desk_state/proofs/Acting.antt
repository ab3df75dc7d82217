-- An entry that is no stroke: what the desk does is the event of the machine.
use Rattle.std.proofs.Common.{◌≡◌, ℕ, true, Option, Some, None, Err, List, [], ◌∷◌, ◌++◌, map, take, refl, sym, ap, ◌∙◌, subst}
use Rattle.std.specs.Prelude.{All, slice_get}
use Rattle.std.specs.Ordering.{nat_cmp}
use Rattle.std.specs.FinSet as set
use Rattle.std.specs.FinMap.{FinMap}
use Rattle.geom_core.specs.Areas.{Area}
use Rattle.doc_model.specs.declared.canvas.Walk.TheVariants.{Up}
use Rattle.doc_model.specs.declared.command.Command.{Command}
use Rattle.doc_model.specs.declared.command.Command.TheVariants as command
use Rattle.doc_model.specs.declared.command.Outcome.{Outcome}
use Rattle.doc_model.specs.declared.command.Outcome.TheVariants as outcome
use Rattle.doc_model.specs.declared.tree.Change.{Change}
use Rattle.doc_model.specs.declared.tree.TreeFault.{TreeFault}
use Rattle.doc_model.specs.Changes.{changed}
use Rattle.doc_model.specs.Layers.{Layer, plain}
use Rattle.doc_model.specs.Picture.{Doc, frame, canvas_area}
use Rattle.doc_model.specs.Strokes as doc
use Rattle.doc_model.specs.Strokes.{Stroke, Fate, Open, Ended, Cancelled, Strokes, Changes, Undoes, Redoes, Purges, Exports}
use Rattle.doc_model.specs.Updates.{queued, refreshed}
use Rattle.frame_core.specs.Frames.{Scene}
use Rattle.frame_core.specs.Scenes.{HasSides, colours_of}
use Rattle.entry_queue.specs.declared.entry.Entry.{Entry}
use Rattle.entry_queue.specs.declared.entry.Entry.TheVariants as item
use Rattle.entry_queue.specs.Pushed as pushed
use Rattle.entry_queue.specs.Pushed.{StandsFor, may_leave}
use Rattle.entry_queue.proofs.Standing.{stands_popped}
use Rattle.desk_steps.specs.Archives as archives
use Rattle.desk_steps.specs.Archives.{Archive, undone, redone}
use Rattle.machine_model.specs.State.{State, Reach, Whole, Part, head_stroke}
use Rattle.machine_model.specs.Event.{Act}
use Rattle.machine_model.specs.Step.{Step}
use Rattle.machine_model.specs.Slots.{no_walker}
use Rattle.machine_model.specs.Groups.{parent_of}
use Rattle.machine_model.specs.UnderWay.{AtRest, IsOnWay}
use Rattle.machine_model.specs.Effects.{after_entry, after_change, after_undo, after_redo, moved_to, with_outcome, caches_for, updates_with}
use Rattle.geom_core.specs.Touches.{bound_of}
use Rattle.machine_model.proofs.RunsSound.{step_keeps_sound}
use Rattle.update_queue.specs.Waiting.{Waiting, widened_by}
use Rattle.desk_state.specs.Parts.{Parts, state_of}
use Rattle.desk_state.specs.Tied.{IsDesk, IsWay}
use Rattle.desk_state.specs.After.{after_act, after_outcome, moved_updates, moved_caches}
use Rattle.desk_state.proofs.Keeping.{going}
use Rattle.desk_state.proofs.Heads.{IsHead, head_of, other_head}

-- the entry that a command makes, where that is no stroke
abbrev pub entry_of : Command → Option doc.Entry
entry_of (command.Change change) = Some (Changes change)
entry_of (command.Stroke n layer exclusive) = None
entry_of (command.Add n kind job) = None
entry_of (command.End n) = None
entry_of (command.Cancel n) = None
entry_of command.Undo = Some Undoes
entry_of command.Redo = Some Redoes
entry_of (command.Purge keep) = Some (Purges keep)
entry_of command.Export = Some Exports

pub is_entry : (e : doc.Entry) (c : Command) → pushed.queued e ≡ item.Other c → entry_of c ≡ Some e
is_entry e c q = go e q
  where
    same : (a b : Command) → item.Other a ≡ item.Other b → a ≡ b
    same a b h = cc

    by : (s : Stroke) (t : Fate) → pushed.queued (Strokes (record s { fate = t })) ≡ item.Other c → entry_of c ≡ Some (Strokes s)
    by s Open q = cc
    by s Ended q = cc
    by s Cancelled q = cc

    go : (e : doc.Entry) → pushed.queued e ≡ item.Other c → entry_of c ≡ Some e
    go (Strokes s) q = by s s.fate q
    go (Changes change) q = ap entry_of (sym (same _ _ q))
    go Undoes q = ap entry_of (sym (same _ _ q))
    go Redoes q = ap entry_of (sym (same _ _ q))
    go (Purges keep) q = ap entry_of (sym (same _ _ q))
    go Exports q = ap entry_of (sym (same _ _ q))

-- the entry at the head is no stroke, and no walk is at work
pub record MayAct (d : Parts) (c : Command) (e : doc.Entry) : Type 0 where
  pub first : slice_get d.queue.left 0 ≡ Some (item.Other c)
  pub entry : entry_of c ≡ Some e
  pub no_walks : no_walker (state_of d) ≡ true
  pub clean : e ≡ Exports → d.updates.patches ≡ []

some_entry : (a b : doc.Entry) → Some a ≡ Some b → a ≡ b
some_entry a b h = cc

-- nothing is under way
pub at_rest : (d : Parts) (c : Command) (e : doc.Entry) → IsDesk d → MayAct d c e → d.way ≡ None
at_rest d c e desk may = go d.way refl
  where
    none : head_stroke (state_of d) ≡ None
    none = other_head d c (head_of d (item.Other c) desk may.first)

    never : (s : Stroke) → Some s ≡ None → ⊥
    never s h = cc

    go : (o : Option ℕ) → d.way ≡ o → o ≡ None
    go None h = refl
    go (Some n) h = absurd (never _ (sym (going d n desk h).begun.at_head ∙ none))

pub act_step : (d new : Parts) (c : Command) (e : doc.Entry) → IsDesk d → MayAct d c e → state_of new ≡ after_entry (state_of d) e → Step (state_of d) Act (state_of new)
act_step d new c e desk may is = record {
  entry = e;
  at_head = x.at_head ∙ ap Some same;
  no_stroke = other_head d c x;
  no_walks = may.no_walks;
  clean = may.clean;
  new_is = is;
}
  where
    x : IsHead d (item.Other c)
    x = head_of d (item.Other c) desk may.first

    same : x.entry ≡ e
    same = some_entry _ _ (sym (is_entry x.entry c x.is) ∙ may.entry)

pub act_keeps : (d : Parts) (c : Command) (e : doc.Entry) (o : Outcome) (store : Archive) (caches : FinMap nat_cmp Layer) (updates : Waiting) (frames : List Scene) → IsDesk d → MayAct d c e
    → store.way ≡ None → updates.canvas ≡ d.updates.canvas → All (HasSides d.canvas.w d.canvas.h) frames → state_of (after_act d o store caches updates frames) ≡ after_entry (state_of d) e → IsDesk (after_act d o store caches updates frames)
act_keeps d c e o store caches updates frames desk may way area sides is = record {
  sound = step_keeps_sound (state_of d) (state_of new) Act desk.sound (act_step d new c e desk may is);
  queue = stands_popped d.fed d.queue o (may_go d.queue.left may.first) desk.queue;
  way = subst (IsWay (state_of new) store) (sym (at_rest d c e desk may)) way;
  slots = desk.slots;
  area = area ∙ desk.area;
  few = desk.few;
  sides = sides;
}
  where
    new : Parts
    new = after_act d o store caches updates frames

    other : (x : Entry) (es : List Entry) → Some x ≡ Some (item.Other c) → may_leave (x ∷ es) ≡ true
    other (item.Waiting s) es h = cc
    other (item.Whole k) es h = refl
    other (item.Other k) es h = refl

    may_go : (es : List Entry) → slice_get es 0 ≡ Some (item.Other c) → may_leave es ≡ true
    may_go [] h = cc
    may_go (x ∷ es) h = other x es h

-- present is base between strokes
pub present_is : (d : Parts) (c : Command) (e : doc.Entry) → IsDesk d → MayAct d c e → d.store.present ≡ d.store.base
present_is d c e desk may =
    let rest : AtRest (state_of d) = subst (IsOnWay (state_of d)) (at_rest d c e desk may) desk.sound.orderly.on_way in
    rest.same

-- and the store has begun no stroke
pub no_way : (d : Parts) (c : Command) (e : doc.Entry) → IsDesk d → MayAct d c e → d.store.way ≡ None
no_way d c e desk may = subst (IsWay (state_of d) d.store) (at_rest d c e desk may) desk.way

-- only an outcome
outcome_is : (d : Parts) (o : Outcome) → d.store.present ≡ d.store.base → state_of (after_outcome d o) ≡ with_outcome (state_of d) o
outcome_is d o same = λ i. record (state_of d) { present = same i; outcomes = d.queue.outcomes ++ o ∷ [] }

pub refused_is : (d : Parts) (change : Change) (fault : TreeFault) → d.store.present ≡ d.store.base → changed plain change d.store.base ≡ Err fault → state_of (after_outcome d (outcome.Tree fault)) ≡ after_entry (state_of d) (Changes change)
refused_is d change fault same err = outcome_is d (outcome.Tree fault) same ∙ ap (after_change (state_of d)) (sym err)

pub nothing_undone : (d : Parts) → d.store.present ≡ d.store.base → d.store.past ≡ [] → state_of (after_outcome d outcome.NothingToUndo) ≡ after_entry (state_of d) Undoes
nothing_undone d same none = outcome_is d outcome.NothingToUndo same ∙ ap (after_undo (state_of d)) (sym none)

pub nothing_redone : (d : Parts) → d.store.present ≡ d.store.base → d.store.future ≡ [] → state_of (after_outcome d outcome.NothingToRedo) ≡ after_entry (state_of d) Redoes
nothing_redone d same none = outcome_is d outcome.NothingToRedo same ∙ ap (after_redo (state_of d)) (sym none)

-- the state with other documents, and what moving to them leaves of the caches and updates
with_moved : State → Outcome → List (Doc × Reach) → List (Doc × Reach) → Doc → FinMap nat_cmp Layer → Waiting → State
with_moved s o past future new caches updates = record s { outcomes = s.outcomes ++ o ∷ []; past = past; future = future; base = new; present = new; caches = caches; updates = updates.patches }

moved_is : (d : Parts) (past future : List (Doc × Reach)) (new : Doc) (r : Reach) → d.updates.canvas ≡ canvas_area d.canvas
    → with_moved (state_of d) outcome.Done past future new (moved_caches d.caches new r) (moved_updates d.updates new r) ≡ moved_to (record (with_outcome (state_of d) outcome.Done) { past = past; future = future }) new r
unfolding with_moved
moved_is d past future new Whole area = ap (λ a. record (state_of d) { outcomes = d.queue.outcomes ++ outcome.Done ∷ []; past = past; future = future; base = new; present = new; caches = caches_for d.caches new; updates = refreshed a d.updates.patches a }) area
moved_is d past future new (Part layer keys) area = go (bound_of (set.items keys))
  where
    go : (r : Option Area) → (record (state_of d) { outcomes = d.queue.outcomes ++ outcome.Done ∷ []; past = past; future = future; base = new; present = new; updates = (widened_by d.updates (parent_of layer new) r).patches })
        ≡ (record (state_of d) { outcomes = d.queue.outcomes ++ outcome.Done ∷ []; past = past; future = future; base = new; present = new; updates = updates_with (state_of d) (parent_of layer new) r })
    go None = refl
    go (Some a) = ap (λ canvas. record (state_of d) { outcomes = d.queue.outcomes ++ outcome.Done ∷ []; past = past; future = future; base = new; present = new; updates = queued canvas d.updates.patches (Up (parent_of layer new)) a }) area

-- a change of the tree
pub change_is : (d : Parts) (change : Change) (store : Archive) → d.updates.canvas ≡ canvas_area d.canvas → archives.Changes change d.store store
    → state_of (after_act d outcome.Done store (moved_caches d.caches store.base Whole) (moved_updates d.updates store.base Whole) d.frames) ≡ after_entry (state_of d) (Changes change)
unfolding with_moved
change_is d change store area made =
    ap (λ (a : Archive). record (state_of d) { outcomes = d.queue.outcomes ++ outcome.Done ∷ []; past = a.past; future = a.future; base = a.base; present = a.present; caches = caches_for d.caches store.base; updates = (moved_updates d.updates store.base Whole).patches }) made.new_is
    ∙ moved_is d ((d.store.base, Whole) ∷ d.store.past) [] store.base Whole area
    ∙ ap (after_change (state_of d)) (sym made.gives)

pub undo_is : (d : Parts) (e : Doc × Reach) (past : List (Doc × Reach)) → d.updates.canvas ≡ canvas_area d.canvas → d.store.past ≡ e ∷ past
    → state_of (after_act d outcome.Done (undone d.store.past d.store) (moved_caches d.caches e.0 e.1) (moved_updates d.updates e.0 e.1) d.frames) ≡ after_entry (state_of d) Undoes
unfolding with_moved
undo_is d e past area some =
    ap (λ es. state_of (after_act d outcome.Done (undone es d.store) (moved_caches d.caches e.0 e.1) (moved_updates d.updates e.0 e.1) d.frames)) some
    ∙ moved_is d past ((d.store.base, e.1) ∷ d.store.future) e.0 e.1 area
    ∙ ap (after_undo (state_of d)) (sym some)

pub redo_is : (d : Parts) (e : Doc × Reach) (future : List (Doc × Reach)) → d.updates.canvas ≡ canvas_area d.canvas → d.store.future ≡ e ∷ future
    → state_of (after_act d outcome.Done (redone d.store.future d.store) (moved_caches d.caches e.0 e.1) (moved_updates d.updates e.0 e.1) d.frames) ≡ after_entry (state_of d) Redoes
unfolding with_moved
redo_is d e future area some =
    ap (λ es. state_of (after_act d outcome.Done (redone es d.store) (moved_caches d.caches e.0 e.1) (moved_updates d.updates e.0 e.1) d.frames)) some
    ∙ moved_is d ((d.store.base, e.1) ∷ d.store.past) future e.0 e.1 area
    ∙ ap (after_redo (state_of d)) (sym some)

pub purge_is : (d : Parts) (n : ℕ) → d.store.present ≡ d.store.base
    → state_of (after_act d outcome.Done (record d.store { past = take n d.store.past }) d.caches d.updates d.frames) ≡ after_entry (state_of d) (Purges n)
purge_is d n same = λ i. record (state_of d) { past = take n d.store.past; present = same i; outcomes = d.queue.outcomes ++ outcome.Done ∷ [] }

map_last : {A B : Type 0} (f : A → B) (xs : List A) (x : A) → map f (xs ++ x ∷ []) ≡ map f xs ++ f x ∷ []
map_last f [] x = refl
map_last f (y ∷ xs) x = ap (λ zs. f y ∷ zs) (map_last f xs x)

pub export_is : (d : Parts) (shown : Scene) → d.store.present ≡ d.store.base → colours_of shown ≡ frame d.store.base d.canvas
    → state_of (after_act d outcome.Done d.store d.caches d.updates (d.frames ++ shown ∷ [])) ≡ after_entry (state_of d) Exports
export_is d shown same shows = λ i. record (state_of d) { present = same i; frames = (map_last colours_of d.frames shown ∙ ap (λ f. map colours_of d.frames ++ f ∷ []) shows) i; outcomes = d.queue.outcomes ++ outcome.Done ∷ [] }
