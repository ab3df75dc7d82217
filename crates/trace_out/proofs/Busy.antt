-- Where something is at work.
use Rattle.std.proofs.Common.{◌≡◌, ℕ, suc, zero, ◌+◌, ◌≤◌, ◌&&◌, true, false, Option, Some, None, List, [], ◌∷◌, map, drop, length, is_some, Bor, refl, sym, ap, ◌∙◌, subst, arith}
use Rattle.std.specs.Prelude.{slice_get, option_copied, option_map, IsSomeAnd}
use Rattle.std.specs.List.{list_all}
use Rattle.std.proofs.lemmas.Option.{slice_get-map}
use Rattle.geom_core.specs.Areas.{Area}
use Rattle.machine_model.specs.State.{State, Slot, Free, is_free}
use Rattle.slot_core.specs.declared.Busy.{Busy}
use Rattle.slot_core.specs.Busy.{work_at, work_in}
use Rattle.desk_state.specs.declared.work.Work.{Work}
use Rattle.desk_state.specs.declared.work.Work.TheVariants.{Paint, Walk}
use Rattle.desk_state.specs.Parts.{slot_of}
use Rattle.trace_out.specs.Writing.{IsTied}

busy_slot : (b : Busy Work) → is_free (slot_of (Some b)) ≡ false
busy_slot b = by b.work
  where
    by : (x : Work) → is_free (slot_of (Some (record { work = x; walker = b.walker }))) ≡ false
    by (Paint w) = refl
    by (Walk w) = refl

-- a place with work
pub busy_at : (held : List (Option (Busy Work))) (s : State) (place : ℕ) (o : Option (Bor Work)) → IsTied held s → option_copied o ≡ work_at place held → is_some o ≡ true → IsSomeAnd (slice_get s.slots place) (λ slot. is_free slot ≡ false)
busy_at held s place None tie h e = cc
busy_at held s place (Some w) tie h e = go (slice_get held place) refl h
  where
    go : (v : Option (Option (Busy Work))) → slice_get held place ≡ v → Some w.now ≡ work_in v → IsSomeAnd (slice_get s.slots place) (λ slot. is_free slot ≡ false)
    go None is k = cc
    go (Some None) is k = cc
    go (Some (Some b)) is k = subst (λ v. IsSomeAnd v (λ slot. is_free slot ≡ false)) (sym (ap (option_map slot_of) is) ∙ sym (slice_get-map slot_of held place) ∙ ap (λ l. slice_get l place) tie.slots) (busy_slot b)

-- no place was left out
pub all_passed : (xs : List Slot) (n : ℕ) → length xs ≤ n → list_all is_free (drop n xs) ≡ true
all_passed [] zero h = refl
all_passed [] (suc n) h = refl
all_passed (x ∷ xs) zero h = absurd (omega arith)
all_passed (x ∷ xs) (suc n) h = all_passed xs n (omega arith)

-- a place without work isn't busy
pub not_busy : (held : List (Option (Busy Work))) (s : State) (place : ℕ) → IsTied held s → work_at place held ≡ None → IsSomeAnd (slice_get s.slots place) (λ slot. is_free slot ≡ false) → ⊥
not_busy held s place tie h busy = go (slice_get held place) refl h
  where
    there : slice_get s.slots place ≡ option_map slot_of (slice_get held place)
    there = ap (λ l. slice_get l place) (sym tie.slots) ∙ slice_get-map slot_of held place

    go : (v : Option (Option (Busy Work))) → slice_get held place ≡ v → work_in v ≡ None → ⊥
    go None is k = subst (λ v. IsSomeAnd v (λ slot. is_free slot ≡ false)) (there ∙ ap (option_map slot_of) is) busy
    go (Some None) is k = let e : true ≡ false = subst (λ v. IsSomeAnd v (λ slot. is_free slot ≡ false)) (there ∙ ap (option_map slot_of) is) busy in cc
    go (Some (Some b)) is k = cc
