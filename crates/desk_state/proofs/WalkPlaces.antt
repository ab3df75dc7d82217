-- The walk in a slot, from what the slots have there and from what the machine has there.
use Rattle.std.proofs.Common.{◌≡◌, ℕ, Bool, true, false, Option, Some, None, List, map, refl, sym, ap, ◌∙◌}
use Rattle.std.specs.Prelude.{slice_get, option_map}
use Rattle.std.specs.List.{AllByRecursion}
use Rattle.std.proofs.lemmas.Option.{slice_get-map}
use Rattle.machine_model.specs.State as state
use Rattle.machine_model.specs.State.{Slot, Free, Paints, Walks}
use Rattle.machine_model.proofs.Lists.{all_get}
use Rattle.slot_core.specs.declared.Busy.{Busy}
use Rattle.slot_core.specs.Busy.{work_in, work_at}
use Rattle.desk_state.specs.declared.work.Walker.{Walker}
use Rattle.desk_state.specs.declared.work.Work.{Work}
use Rattle.desk_state.specs.declared.work.Work.TheVariants.{Paint, Walk}
use Rattle.desk_state.specs.Parts.{slot_of, walker_of}
use Rattle.desk_state.specs.Tied.{IsKept}
use Rattle.desk_state.specs.After.{busy_walker}
use Rattle.geom_core.proofs.Tests.{never}

-- what the slots' reader gives of a walk at work
pub walking_at : (slots : List (Option (Busy Work))) (place : ℕ) (w : Walker) → AllByRecursion IsKept slots → work_at place slots ≡ Some (Walk w) → slice_get slots place ≡ Some (Some (busy_walker w))
walking_at slots place w kept h = go (slice_get slots place) refl h
  where
    by : (b : Busy Work) → slice_get slots place ≡ Some (Some b) → (x : Work) → b.work ≡ x → IsKept (Some (record { work = x; walker = b.walker })) → Some x ≡ Some (Walk w) → slice_get slots place ≡ Some (Some (busy_walker w))
    by b e (Paint v) same k h = cc
    by b e (Walk v) same k h = e ∙ ap (λ y. Some (Some y)) is
      where
        walk : (a c : Walker) → Some (Walk a) ≡ Some (Walk c) → a ≡ c
        walk a c p = cc

        is : b ≡ busy_walker w
        is = λ i. record { work = (same ∙ ap Walk (walk v w h)) i; walker = (k ∙ ap (λ (u : Walker). Some u.inputs.patch.rect) (walk v w h)) i }

    go : (o : Option (Option (Busy Work))) → slice_get slots place ≡ o → work_in o ≡ Some (Walk w) → slice_get slots place ≡ Some (Some (busy_walker w))
    go None e h = cc
    go (Some None) e h = cc
    go (Some (Some b)) e h = by b e b.work refl (all_get IsKept slots place (Some b) kept e) h

-- the same from what the machine has there
pub record IsWalkingAs (slots : List (Option (Busy Work))) (place : ℕ) (w : state.Walker) : Type 0 where
  pub walker : Walker
  pub at_work : work_at place slots ≡ Some (Walk walker)
  pub is : walker_of walker ≡ w

-- the walk in a slot of the machine, or that one
abbrev walker_or : state.Walker → Option Slot → state.Walker
walker_or d (Some (Walks w)) = w
walker_or d o = d

-- whether a walk is there
abbrev has_walker : Option Slot → Bool
has_walker (Some (Walks w)) = true
has_walker o = false

as_work : (slots : List (Option (Busy Work))) (place : ℕ) (w : state.Walker) (b : Busy Work) → slice_get slots place ≡ Some (Some b) → (x : Work) → b.work ≡ x → Some (slot_of (Some (record { work = x; walker = b.walker }))) ≡ Some (Walks w) → IsWalkingAs slots place w
as_work slots place w b e (Paint v) same h = absurd (never (ap has_walker h))
as_work slots place w b e (Walk v) same h = record { walker = v; at_work = ap work_in e ∙ ap Some same; is = ap (walker_or w) h }

as_slot : (slots : List (Option (Busy Work))) (place : ℕ) (w : state.Walker) (o : Option (Option (Busy Work))) → slice_get slots place ≡ o → option_map slot_of o ≡ Some (Walks w) → IsWalkingAs slots place w
as_slot slots place w None e h = absurd (never (ap has_walker h))
as_slot slots place w (Some None) e h = absurd (never (ap has_walker h))
as_slot slots place w (Some (Some b)) e h = as_work slots place w b e b.work refl h

pub walking_as : (slots : List (Option (Busy Work))) (place : ℕ) (w : state.Walker) → slice_get (map slot_of slots) place ≡ Some (Walks w) → IsWalkingAs slots place w
walking_as slots place w h = as_slot slots place w (slice_get slots place) refl (sym (slice_get-map slot_of slots place) ∙ h)
