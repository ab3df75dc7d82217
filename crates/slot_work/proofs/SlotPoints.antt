-- What the work in a slot changes or composes.
use Rattle.std.proofs.Common.{◌≡◌, ℕ, ℤ, zero, suc, to_z, of_z, w32, SFits, Bool, true, Option, Some, None, List, [], ◌∷◌, map, refl, sym, ap, ◌∙◌}
use Rattle.std.specs.Prelude.{slice_get}
use Rattle.std.specs.List.{AllByRecursion}
use Rattle.std.proofs.lemmas.Int.{to_z-of_z}
use Rattle.geom_core.specs.Areas.{Point, point}
use Rattle.doc_model.specs.Jobs.{checks}
use Rattle.machine_model.specs.State.{Slot, Free, Paints, Walks}
use Rattle.slot_core.specs.declared.Busy.{Busy}
use Rattle.slot_core.specs.Busy.{work_at}
use Rattle.desk_state.specs.declared.work.Painter.{Painter}
use Rattle.desk_state.specs.declared.work.Work.{Work}
use Rattle.desk_state.specs.declared.work.Work.TheVariants.{Paint, Walk}
use Rattle.desk_state.specs.Choices.{works_on}
use Rattle.desk_state.specs.Parts.{slot_of, painter_of, walker_of}
use Rattle.desk_state.specs.Tied.{IsKept}
use Rattle.desk_state.proofs.Places.{painting_at}
use Rattle.desk_state.proofs.SlotTests.{slot_is}

-- a point of numbers that are passed on
pub point_read : (x y : ℤ) → SFits w32 x → SFits w32 y → point (to_z w32 (of_z w32 x)) (to_z w32 (of_z w32 y)) ≡ point x y
point_read x y h k = λ i. point (to_z-of_z w32 x h i) (to_z-of_z w32 y k i)

-- the slot of what is at work in a place, or of nothing
abbrev pub slot_of_work : Option Work → Slot
slot_of_work None = Free
slot_of_work (Some (Paint w)) = Paints (painter_of w)
slot_of_work (Some (Walk w)) = Walks (walker_of w)

-- what is at work in a place, and its slot
pub busy_is : (b : Busy Work) → slot_of_work (Some b.work) ≡ slot_of (Some b)
busy_is b = go b.work refl
  where
    go : (x : Work) → b.work ≡ x → slot_of_work (Some x) ≡ slot_of (Some b)
    go (Paint w) e = sym (slot_is b (Paint w) (ap Some e))
    go (Walk w) e = sym (slot_is b (Walk w) (ap Some e))

pub slot_there : (slots : List (Option (Busy Work))) (place : ℕ) (o : Option Work) (slot : Slot) → o ≡ work_at place slots → slice_get (map slot_of slots) place ≡ Some slot → slot_of_work o ≡ slot
slot_there [] place o slot h e = cc
slot_there (None ∷ slots) zero o slot h e = ap slot_of_work h ∙ (let same : Free ≡ slot = cc in same)
slot_there (Some b ∷ slots) zero o slot h e = ap slot_of_work h ∙ busy_is b ∙ (let same : slot_of (Some b) ≡ slot = cc in same)
slot_there (x ∷ slots) (suc place) o slot h e = slot_there slots place o slot h e

-- whether it works on the point
pub work_works : (slots : List (Option (Busy Work))) (place : ℕ) (p : Point) (o : Option Work) (slot : Slot) (b : Bool) → o ≡ work_at place slots → b ≡ works_on p (slot_of_work o) → slice_get (map slot_of slots) place ≡ Some slot → b ≡ works_on p slot
work_works slots place p o slot b h is e = is ∙ ap (works_on p) (slot_there slots place o slot h e)

-- a job at work lies in the world
pub checked_at : (slots : List (Option (Busy Work))) (place : ℕ) (w : Painter) → AllByRecursion IsKept slots → Some (Paint w) ≡ work_at place slots → checks w.job ≡ true
checked_at slots place w kept h = (painting_at slots place w kept (sym h)).kept.2
