-- A pass over the slots for a walk of another sort.
use Rattle.std.proofs.Common.{◌≡◌, ◌<◌, ◌≤◌, ◌+◌, ◌↔◌, ℕ, suc, zero, Bool, true, false, Option, Some, None, List, [], ◌∷◌, length, map, drop, refl, ap, subst, sym, ◌∙◌, arith}
use Rattle.std.specs.Prelude.{IsTrue, slice_get}
use Rattle.std.specs.List.{AllByRecursion}
use Rattle.std.proofs.lemmas.List.{drop_all}
use Rattle.geom_core.proofs.Tests.{add_one, never}
use Rattle.doc_model.specs.declared.canvas.Walk as model
use Rattle.machine_model.specs.State.{Slot}
use Rattle.machine_model.proofs.Lists.{all_get}
use Rattle.slot_core.specs.declared.Busy.{Busy}
use Rattle.slot_core.specs.Busy.{work_at}
use Rattle.desk_state.specs.declared.work.Work.{Work}
use Rattle.desk_state.specs.Parts.{slot_of}
use Rattle.slot_work.proofs.SlotPoints.{busy_is, slot_of_work, slot_there}
use Rattle.desk_events.specs.AtWork.{WalksAs, patch_of}

-- what is told of the work is told of its slot
pub told_at : (slots : List (Option (Busy Work))) (place : ℕ) (walk : model.Walk) (o : Option Work) (slot : Slot) (b : Bool) → o ≡ work_at place slots → (IsTrue b ↔ WalksAs walk (slot_of_work o)) → slice_get (map slot_of slots) place ≡ Some slot → IsTrue b ↔ WalksAs walk slot
told_at slots place walk o slot b is told at = subst (λ (t : Slot). IsTrue b ↔ WalksAs walk t) (slot_there slots place o slot is at) told

-- the patch of the walk in a place is that of its slot
pub patch_there : (slots : List (Option (Busy Work))) (place : ℕ) (o : Option Work) → o ≡ work_at place slots → patch_of (Some (slot_of_work o)) ≡ patch_of (slice_get (map slot_of slots) place)
patch_there [] place o h = ap (λ (p : Option Work). patch_of (Some (slot_of_work p))) h
patch_there (None ∷ slots) zero o h = ap (λ (p : Option Work). patch_of (Some (slot_of_work p))) h
patch_there (Some b ∷ slots) zero o h = ap (λ (p : Option Work). patch_of (Some (slot_of_work p))) h ∙ ap (λ (slot : Slot). patch_of (Some slot)) (busy_is b)
patch_there (x ∷ slots) (suc place) o h = patch_there slots place o h

-- if those from a place on are so, all are
abbrev pub RestDecides : model.Walk → ℕ → List Slot → Type 0
RestDecides walk place slots = AllByRecursion (WalksAs walk) (drop place slots) → AllByRecursion (WalksAs walk) slots

front : (walk : model.Walk) (slots : List Slot) (i : ℕ) → ((slot : Slot) → slice_get slots i ≡ Some slot → WalksAs walk slot) → AllByRecursion (WalksAs walk) (drop (suc i) slots) → AllByRecursion (WalksAs walk) (drop i slots)
front walk [] zero here rest = tt
front walk [] (suc i) here rest = tt
front walk (x ∷ slots) zero here rest = (here x refl, rest)
front walk (x ∷ slots) (suc i) here rest = front walk slots i here rest

-- one more is so
pub one_more : (walk : model.Walk) (slots : List Slot) (place : ℕ) (b : Bool) → b ≡ true → ((slot : Slot) → slice_get slots place ≡ Some slot → IsTrue b ↔ WalksAs walk slot) → RestDecides walk place slots → RestDecides walk (place + 1) slots
one_more walk slots place b is told so_far rest = so_far (front walk slots place (λ slot at. (told slot at).0 is) (subst (λ n. AllByRecursion (WalksAs walk) (drop n slots)) (add_one place) rest))

-- and all at the end
pub all_so : (walk : model.Walk) (slots : List Slot) (place : ℕ) → length slots ≤ place → RestDecides walk place slots → AllByRecursion (WalksAs walk) slots
all_so walk slots place low so_far = so_far (subst (AllByRecursion (WalksAs walk)) (sym (drop_all place slots low)) tt)

slot_at : (slots : List Slot) (i : ℕ) → i < length slots → (slot : Slot) × (slice_get slots i ≡ Some slot)
slot_at [] i h = absurd (omega arith)
slot_at (x ∷ slots) zero h = (x, refl)
slot_at (x ∷ slots) (suc i) h = slot_at slots i (omega arith)

-- where one isn't, not all are
pub not_so : (walk : model.Walk) (slots : List Slot) (place : ℕ) (b : Bool) → b ≡ false → place < length slots → ((slot : Slot) → slice_get slots place ≡ Some slot → IsTrue b ↔ WalksAs walk slot) → AllByRecursion (WalksAs walk) slots → ⊥
not_so walk slots place b is low told all =
    let at : (slot : Slot) × (slice_get slots place ≡ Some slot) = slot_at slots place low in
    never (sym is ∙ (told at.0 at.1).1 (all_get (WalksAs walk) slots place at.0 all at.1))
