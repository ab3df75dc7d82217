-- A pass over the slots for one at work.
use Rattle.std.proofs.Common.{◌≡◌, ℕ, suc, zero, ◌+◌, ◌&&◌, true, false, Option, Some, None, List, [], ◌∷◌, map, drop, is_some, Bor, refl, sym, ap, ◌∙◌}
use Rattle.std.specs.Prelude.{slice_get, option_copied}
use Rattle.std.specs.List.{list_all}
use Rattle.machine_model.specs.State.{Slot, is_free}
use Rattle.slot_core.specs.declared.Busy.{Busy}
use Rattle.slot_core.specs.Busy.{work_at}
use Rattle.desk_state.specs.declared.work.Work.{Work}
use Rattle.desk_state.specs.Parts.{slot_of}
use Rattle.slot_work.proofs.SlotPoints.{slot_there}
use Rattle.geom_core.proofs.Tests.{add_one}

free_here : (slots : List (Option (Busy Work))) (i : ℕ) (o : Option (Bor Work)) → option_copied o ≡ work_at i slots → is_some o ≡ false → (slot : Slot) → slice_get (map slot_of slots) i ≡ Some slot → is_free slot ≡ true
free_here slots i None h e slot at = sym (ap is_free (slot_there slots i None slot h at))
free_here slots i (Some w) h e slot at = cc

passed : (ys : List Slot) (i : ℕ) → ((slot : Slot) → slice_get ys i ≡ Some slot → is_free slot ≡ true) → list_all is_free (drop i ys) ≡ list_all is_free (drop (suc i) ys)
passed [] zero is = refl
passed [] (suc i) is = refl
passed (y ∷ ys) zero is = ap (λ b. b && list_all is_free ys) (is y refl)
passed (y ∷ ys) (suc i) is = passed ys i is

-- nothing is at work in one more
pub free_next : (slots : List (Option (Busy Work))) (i : ℕ) (o : Option (Bor Work)) → option_copied o ≡ work_at i slots → is_some o ≡ false → list_all is_free (drop i (map slot_of slots)) ≡ list_all is_free (map slot_of slots) → list_all is_free (drop (i + 1) (map slot_of slots)) ≡ list_all is_free (map slot_of slots)
free_next slots i o h e so_far = ap (λ k. list_all is_free (drop k (map slot_of slots))) (add_one i) ∙ sym (passed (map slot_of slots) i (free_here slots i o h e)) ∙ so_far
