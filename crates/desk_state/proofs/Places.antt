-- What stands in a slot, from what the machine has there.
use Rattle.std.proofs.Common.{◌≡◌, ℕ, suc, zero, Bool, true, false, Option, Some, None, List, [], ◌∷◌, map, refl, sym, ap, ◌∙◌, subst}
use Rattle.std.specs.Prelude.{slice_get, slice_set, option_map}
use Rattle.std.specs.List.{AllByRecursion}
use Rattle.std.proofs.lemmas.Option.{slice_get-map}
use Rattle.machine_model.specs.State as state
use Rattle.machine_model.specs.State.{Slot, Free, Paints, Walks}
use Rattle.machine_model.proofs.Lists.{all_get}
use Rattle.slot_core.specs.declared.Busy.{Busy}
use Rattle.slot_core.specs.Busy.{work_in, work_at}
use Rattle.desk_state.specs.declared.work.Painter.{Painter}
use Rattle.desk_state.specs.declared.work.Work.{Work}
use Rattle.desk_state.specs.declared.work.Work.TheVariants.{Paint, Walk}
use Rattle.desk_state.specs.Parts.{slot_of, painter_of}
use Rattle.desk_state.specs.Tied.{IsKept}
use Rattle.desk_state.specs.After.{busy_painter}
use Rattle.geom_core.proofs.Tests.{never}

-- the job in a slot, as the desk keeps it
pub record IsPainting (slots : List (Option (Busy Work))) (place : ℕ) (w : Painter) : Type 0 where
  pub there : slice_get slots place ≡ Some (Some (busy_painter w))
  pub kept : IsKept (Some (busy_painter w))

-- what the slots' reader gives of a job at work
pub painting_at : (slots : List (Option (Busy Work))) (place : ℕ) (w : Painter) → AllByRecursion IsKept slots → work_at place slots ≡ Some (Paint w) → IsPainting slots place w
painting_at slots place w kept h = go (slice_get slots place) refl h
  where
    by : (b : Busy Work) → slice_get slots place ≡ Some (Some b) → (x : Work) → b.work ≡ x → IsKept (Some (record { work = x; walker = b.walker })) → Some x ≡ Some (Paint w) → IsPainting slots place w
    by b e (Walk v) same k h = cc
    by b e (Paint v) same k h = record { there = e ∙ ap (λ y. Some (Some y)) is; kept = subst (λ y. IsKept (Some y)) is (all_get IsKept slots place (Some b) kept e) }
      where
        painter : (a c : Painter) → Some (Paint a) ≡ Some (Paint c) → a ≡ c
        painter a c p = cc

        is : b ≡ busy_painter w
        is = λ i. record { work = (same ∙ ap Paint (painter v w h)) i; walker = k.0 i }

    go : (o : Option (Option (Busy Work))) → slice_get slots place ≡ o → work_in o ≡ Some (Paint w) → IsPainting slots place w
    go None e h = cc
    go (Some None) e h = cc
    go (Some (Some b)) e h = by b e b.work refl (all_get IsKept slots place (Some b) kept e) h

-- the same from what the machine has there
pub record IsPaintingAs (slots : List (Option (Busy Work))) (place : ℕ) (p : state.Painter) : Type 0 where
  pub painter : Painter
  pub at_work : work_at place slots ≡ Some (Paint painter)
  pub is : painter_of painter ≡ p

-- the job in a slot of the machine, or that one
abbrev painter_or : state.Painter → Option Slot → state.Painter
painter_or d (Some (Paints w)) = w
painter_or d o = d

-- whether a job is there
abbrev has_painter : Option Slot → Bool
has_painter (Some (Paints w)) = true
has_painter o = false

as_work : (slots : List (Option (Busy Work))) (place : ℕ) (p : state.Painter) (b : Busy Work) → slice_get slots place ≡ Some (Some b) → (x : Work) → b.work ≡ x → Some (slot_of (Some (record { work = x; walker = b.walker }))) ≡ Some (Paints p) → IsPaintingAs slots place p
as_work slots place p b e (Walk v) same h = absurd (never (ap has_painter h))
as_work slots place p b e (Paint v) same h = record { painter = v; at_work = ap work_in e ∙ ap Some same; is = ap (painter_or p) h }

as_slot : (slots : List (Option (Busy Work))) (place : ℕ) (p : state.Painter) (o : Option (Option (Busy Work))) → slice_get slots place ≡ o → option_map slot_of o ≡ Some (Paints p) → IsPaintingAs slots place p
as_slot slots place p None e h = absurd (never (ap has_painter h))
as_slot slots place p (Some None) e h = absurd (never (ap has_painter h))
as_slot slots place p (Some (Some b)) e h = as_work slots place p b e b.work refl h

pub painting_as : (slots : List (Option (Busy Work))) (place : ℕ) (p : state.Painter) → slice_get (map slot_of slots) place ≡ Some (Paints p) → IsPaintingAs slots place p
painting_as slots place p h = as_slot slots place p (slice_get slots place) refl (sym (slice_get-map slot_of slots place) ∙ h)

-- whether a free slot is there
abbrev has_free : Option Slot → Bool
has_free (Some Free) = true
has_free o = false

free_slot : (slots : List (Option (Busy Work))) (place : ℕ) (o : Option (Option (Busy Work))) → slice_get slots place ≡ o → option_map slot_of o ≡ Some Free → slice_get slots place ≡ Some None
free_slot slots place None e h = absurd (never (ap has_free h))
free_slot slots place (Some None) e h = e
free_slot slots place (Some (Some b)) e h = absurd (never (sym (busy b.work) ∙ ap has_free h))
  where
    busy : (x : Work) → has_free (Some (slot_of (Some (record { work = x; walker = b.walker })))) ≡ false
    busy (Paint v) = refl
    busy (Walk v) = refl

-- a slot that is free in the machine is free
pub free_as : (slots : List (Option (Busy Work))) (place : ℕ) → slice_get (map slot_of slots) place ≡ Some Free → slice_get slots place ≡ Some None
free_as slots place h = free_slot slots place (slice_get slots place) refl (sym (slice_get-map slot_of slots place) ∙ h)

-- a slot that is emptied and filled again
pub set_twice : {A : Type 0} (xs : List A) (i : ℕ) (x y : A) → slice_set (slice_set xs i x) i y ≡ slice_set xs i y
set_twice [] i x y = refl
set_twice (z ∷ xs) zero x y = refl
set_twice (z ∷ xs) (suc i) x y = ap (λ ys. z ∷ ys) (set_twice xs i x y)

pub set_same : {A : Type 0} (xs : List A) (i : ℕ) (x : A) → slice_get xs i ≡ Some x → slice_set xs i x ≡ xs
set_same [] i x h = refl
set_same (z ∷ xs) zero x h = let e : z ≡ x = cc in ap (λ y. y ∷ xs) (sym e)
set_same (z ∷ xs) (suc i) x h = ap (λ ys. z ∷ ys) (set_same xs i x h)
