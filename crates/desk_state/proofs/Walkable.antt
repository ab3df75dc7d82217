-- When a waiting patch may be walked.
use Rattle.std.proofs.Common.{◌≡◌, ℕ, suc, zero, Bool, true, false, cond, ◌||◌, Option, Some, None, List, [], ◌∷◌, map, refl, sym, ap, ◌∙◌}
use Rattle.std.specs.Prelude.{slice_get, not}
use Rattle.std.specs.List.{list_any, find, position_or_len, AllByRecursion}
use Rattle.std.proofs.lemmas.List.Folds.{find_at}
use Rattle.geom_core.specs.Areas.{Area, meets}
use Rattle.doc_model.specs.declared.canvas.Patch.{Patch}
use Rattle.machine_model.specs.State.{State, Free, head_stroke}
use Rattle.machine_model.specs.Guards.{is_exclusive, meets_walker}
use Rattle.slot_core.specs.declared.Busy.{Busy}
use Rattle.slot_core.specs.Busy.{walkers}
use Rattle.update_queue.specs.Waiting.{avoids}
use Rattle.desk_state.specs.declared.work.Work.{Work}
use Rattle.desk_state.specs.declared.work.Work.TheVariants.{Paint, Walk}
use Rattle.desk_state.specs.Choices.{CanWalk, WalksWait}
use Rattle.desk_state.specs.Parts.{Parts, state_of, slot_of}
use Rattle.desk_state.specs.Tied.{IsDesk, IsKept}
use Rattle.desk_state.proofs.Choosing.{clash}
use Rattle.geom_core.proofs.Tests.{not_true, never}

one : (rect : Area) (x : Work) (o : Option Area) (rest : List (Option (Busy Work))) → IsKept (Some (record { work = x; walker = o })) → list_any (meets rect) (walkers rest) ≡ list_any (meets_walker rect) (map slot_of rest)
    → list_any (meets rect) (walkers (Some (record { work = x; walker = o }) ∷ rest)) ≡ list_any (meets_walker rect) (map slot_of (Some (record { work = x; walker = o }) ∷ rest))
one rect (Paint w) None rest k e = e
one rect (Paint w) (Some a) rest k e = let none : Some a ≡ None = k.0 in cc
one rect (Walk w) None rest k e = let some : None ≡ Some w.inputs.patch.rect = k in cc
one rect (Walk w) (Some a) rest k e = let same : a ≡ w.inputs.patch.rect = some_area a w.inputs.patch.rect k in (λ i. meets rect (same i) || e i)
  where
    some_area : (a b : Area) → Some a ≡ Some b → a ≡ b
    some_area a b h = cc

-- the rectangles that the slots tell are those of the walks at work
pub walkers_meet : (rect : Area) (slots : List (Option (Busy Work))) → AllByRecursion IsKept slots → list_any (meets rect) (walkers slots) ≡ list_any (meets_walker rect) (map slot_of slots)
walkers_meet rect [] k = refl
walkers_meet rect (None ∷ slots) k = walkers_meet rect slots k.1
walkers_meet rect (Some b ∷ slots) k = one rect b.work b.walker slots k.0 (walkers_meet rect slots k.1)

pub first_same : (slots : List (Option (Busy Work))) (patches : List Patch) → AllByRecursion IsKept slots → find (avoids (walkers slots)) patches ≡ find (λ p. not (list_any (meets_walker p.rect) (map slot_of slots))) patches
first_same slots patches k = λ i. find (λ (p : Patch). not (walkers_meet p.rect slots k i)) patches

pub found_fits : (p : Patch → Bool) (xs : List Patch) (x : Patch) → find p xs ≡ Some x → p x ≡ true
found_fits p [] x h = cc
found_fits p (y ∷ xs) x h = go (p y) refl (found_fits p xs x) h
  where
    go : (b : Bool) → p y ≡ b → (find p xs ≡ Some x → p x ≡ true) → cond b (Some y) (find p xs) ≡ Some x → p x ≡ true
    go true e more h = let same : y ≡ x = cc in ap p (sym same) ∙ e
    go false e more h = more h

lost_fits : (p : Patch → Bool) (xs : List Patch) (i : ℕ) (x : Patch) → find p xs ≡ None → slice_get xs i ≡ Some x → p x ≡ false
lost_fits p [] i x none h = cc
lost_fits p (y ∷ xs) zero x none h = go (p y) refl none
  where
    go : (b : Bool) → p y ≡ b → cond b (Some y) (find p xs) ≡ None → p x ≡ false
    go true e n = cc
    go false e n = let same : y ≡ x = cc in ap p (sym same) ∙ e
lost_fits p (y ∷ xs) (suc i) x none h = go (p y) refl (λ n. lost_fits p xs i x n h) none
  where
    go : (b : Bool) → p y ≡ b → (find p xs ≡ None → p x ≡ false) → cond b (Some y) (find p xs) ≡ None → p x ≡ false
    go true e more n = cc
    go false e more n = more n

-- the first patch that meets no walk may be walked
pub can_walk : (d : Parts) (place : ℕ) (patch : Patch) → IsDesk d → find (avoids (walkers d.slots)) d.updates.patches ≡ Some patch → slice_get (state_of d).slots place ≡ Some Free → is_exclusive (head_stroke (state_of d)) d.way ≡ false → CanWalk (state_of d) place
can_walk d place patch desk found free shared = record {
  patch = patch;
  first = first;
  enabled = (
    _,
    record {
      i = position_or_len test d.updates.patches;
      waits = sym (find_at test d.updates.patches) ∙ first;
      free = free;
      not_exclusive = shared;
      avoids = not_true _ (found_fits test d.updates.patches patch first);
      new_is = refl;
    },
  );
}
  where
    test : Patch → Bool
    test p = not (list_any (meets_walker p.rect) (state_of d).slots)

    first : find test d.updates.patches ≡ Some patch
    first = sym (first_same d.slots d.updates.patches desk.slots) ∙ found

-- no patch may be walked where each meets a walk, no slot is free, or an exclusive stroke is under way
pub all_meet_wait : (d : Parts) → IsDesk d → find (avoids (walkers d.slots)) d.updates.patches ≡ None → WalksWait (state_of d)
all_meet_wait d desk none place patch can =
    let fits : not (list_any (meets_walker patch.rect) (state_of d).slots) ≡ false = lost_fits (λ p. not (list_any (meets_walker p.rect) (state_of d).slots)) d.updates.patches can.1.i patch (sym (first_same d.slots d.updates.patches desk.slots) ∙ none) can.1.waits in
    clash (not (list_any (meets_walker patch.rect) (state_of d).slots)) (ap not can.1.avoids) fits

pub full_wait : (s : State) → ((place : ℕ) → slice_get s.slots place ≡ Some Free → ⊥) → WalksWait s
full_wait s full place patch can = full place can.1.free

pub exclusive_wait : (s : State) → is_exclusive (head_stroke s) s.way ≡ true → WalksWait s
exclusive_wait s alone place patch can = clash _ alone can.1.not_exclusive
