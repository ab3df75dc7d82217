-- Whether a desk is settled, by what its parts have.
use Rattle.std.proofs.Common.{◌≡◌, ◌≤◌, ◌-◌, Bool, true, false, ◌&&◌, ◌↔◌, List, [], ◌∷◌, drop, length, refl, sym, ap, ◌∙◌, arith}
use Rattle.std.specs.Prelude.{not, IsTrue}
use Rattle.std.specs.List.{list_any, list_all}
use Rattle.std.proofs.lemmas.List.{length-drop, length-map}
use Rattle.doc_model.specs.Strokes.{entries}
use Rattle.doc_model.specs.declared.canvas.Patch.{Patch}
use Rattle.entry_queue.specs.Pushed.{queued}
use Rattle.machine_model.specs.State.{State, Slot, Free, Paints, Walks, is_free}
use Rattle.machine_model.specs.Settled.{IsSettled}
use Rattle.machine_model.specs.Slots.{is_painter, is_walker, no_painter, no_walker}
use Rattle.desk_state.specs.Choices.{is_clean}
use Rattle.desk_state.specs.Parts.{Parts, state_of}
use Rattle.desk_state.specs.Tied.{IsDesk}
use Rattle.desk_state.proofs.Choosing.{clash, empty_is}
use Rattle.geom_core.proofs.Tests.{not_true}
use Rattle.desk_events.proofs.Exactly.{exactly, refuses}

-- how many entries have no outcome
left_length : (d : Parts) → IsDesk d → length d.queue.left ≡ length (entries d.fed) - length d.queue.outcomes
left_length d desk = ap length desk.queue.left_is ∙ length-map (drop (length d.queue.outcomes) (entries d.fed)) queued ∙ length-drop (length d.queue.outcomes) (entries d.fed)

all_told : (d : Parts) → IsDesk d → d.queue.left ≡ [] → length d.queue.outcomes ≡ length (entries d.fed)
all_told d desk none =
    let e : length (entries d.fed) - length d.queue.outcomes ≡ 0 = sym (left_length d desk) ∙ ap length none in
    let few : length d.queue.outcomes ≤ length (entries d.fed) = desk.queue.few in
    omega arith

empty : {A : Type 0} (xs : List A) → length xs ≡ 0 → xs ≡ []
empty [] e = refl
empty (x ∷ xs) e = absurd (omega arith)

none_left : (d : Parts) → IsDesk d → length d.queue.outcomes ≡ length (entries d.fed) → d.queue.left ≡ []
none_left d desk told = empty d.queue.left (let e : length d.queue.left ≡ length (entries d.fed) - length d.queue.outcomes = left_length d desk in omega arith)

-- a slot in which neither a job nor a walk is at work is free
nobody_free : (slots : List Slot) → list_any is_painter slots ≡ false → list_any is_walker slots ≡ false → list_all is_free slots ≡ true
nobody_free [] p w = refl
nobody_free (Free ∷ slots) p w = nobody_free slots p w
nobody_free (Paints x ∷ slots) p w = cc
nobody_free (Walks x ∷ slots) p w = cc

free_nobody : (slots : List Slot) → list_all is_free slots ≡ true → (list_any is_painter slots ≡ false) × (list_any is_walker slots ≡ false)
free_nobody [] h = (refl, refl)
free_nobody (Free ∷ slots) h = free_nobody slots h
free_nobody (Paints x ∷ slots) h = cc
free_nobody (Walks x ∷ slots) h = cc

-- nothing is left, waits or is at work
settled_is : (d : Parts) → IsDesk d → d.queue.left ≡ [] → is_clean (state_of d) ≡ true → no_painter (state_of d) ≡ true → no_walker (state_of d) ≡ true → IsSettled (state_of d)
settled_is d desk none clean idle still = record {
  entries = all_told d desk none;
  slots = nobody_free (state_of d).slots (not_true _ idle) (not_true _ still);
  updates = empty_is d.updates.patches clean;
}

-- something is left, waits or is at work
entry_left : (d : Parts) → IsDesk d → (d.queue.left ≡ [] → ⊥) → IsSettled (state_of d) → ⊥
entry_left d desk some settled = some (none_left d desk settled.entries)

patch_left : (s : State) → is_clean s ≡ false → IsSettled s → ⊥
patch_left s dirty settled = clash (is_clean s) (ap (λ (xs : List Patch). is_clean (record s { updates = xs })) settled.updates) dirty

job_left : (s : State) → no_painter s ≡ false → IsSettled s → ⊥
job_left s busy settled = clash (no_painter s) (ap not (free_nobody s.slots settled.slots).0) busy

walk_left : (s : State) → no_walker s ≡ false → IsSettled s → ⊥
walk_left s busy settled = clash (no_walker s) (ap not (free_nobody s.slots settled.slots).1) busy

-- whether it is, where no entry is left
pub rests : (d : Parts) → IsDesk d → (b : Bool) → d.queue.left ≡ [] → b ≡ (is_clean (state_of d) && no_painter (state_of d) && no_walker (state_of d)) → IsTrue b ↔ IsSettled (state_of d)
rests d desk b none is = go (is_clean (state_of d)) (no_painter (state_of d)) (no_walker (state_of d)) refl refl refl is
  where
    s : State
    s = state_of d

    go : (x y z : Bool) → is_clean s ≡ x → no_painter s ≡ y → no_walker s ≡ z → b ≡ (x && y && z) → IsTrue b ↔ IsSettled s
    go true true true p q r e = exactly b (λ h. settled_is d desk none p q r) (λ h t. clash b e h)
    go true true false p q r e = exactly b (λ h. absurd (clash b h e)) (λ h t. walk_left s r t)
    go true false z p q r e = exactly b (λ h. absurd (clash b h e)) (λ h t. job_left s q t)
    go false y z p q r e = exactly b (λ h. absurd (clash b h e)) (λ h t. patch_left s p t)

-- and where one is
pub goes_on : (d : Parts) → IsDesk d → (d.queue.left ≡ [] → ⊥) → IsTrue false ↔ IsSettled (state_of d)
goes_on d desk some = refuses (entry_left d desk some)
