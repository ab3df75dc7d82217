-- Where something will compose the root anew.
use Rattle.std.proofs.Common.{◌≡◌, ◌≤◌, ◌<◌, ℕ, Bool, true, false, ◌&&◌, ◌||◌, List, [], ◌∷◌, refl, ap, ◌∙◌, arith}
use Rattle.std.specs.Prelude.{pos, negsuc, ◌+ℤ◌, int_le, int_lt}
use Rattle.std.specs.List.{list_any, AllByRecursion}
use borrow.Author.Differences.{ints}
use Rattle.geom_core.specs.Areas.{holds, Point, point, world}
use Rattle.geom_core.specs.Rects.{any_holds}
use Rattle.geom_core.proofs.Tests.{both_true}
use Rattle.doc_model.specs.declared.canvas.Canvas.{Canvas}
use Rattle.doc_model.specs.declared.canvas.Walk.TheVariants.{Up}
use Rattle.doc_model.specs.declared.canvas.Patch.{Patch}
use Rattle.doc_model.specs.Canvases.{IsOfLimits}
use Rattle.doc_model.specs.Jobs.{writes}
use Rattle.doc_model.specs.Picture.{canvas_area}
use Rattle.doc_model.specs.Queues.{queued_for}
use Rattle.machine_model.specs.State.{Slot, Free, Paints, Walks, State, head_stroke}
use Rattle.machine_model.specs.Groups.{on}
use Rattle.machine_model.specs.Covers.{covered, painted_group, composes}
use Rattle.machine_model.specs.Walking.{WalkStands}
use Rattle.machine_model.specs.Sound.{IsOrderly}
use Rattle.machine_model.proofs.WalkPaths.{path_root}
use Rattle.machine_model.proofs.Covers.{groups_of, slot_on, any_slot, painted_path, covered_is}
use Rattle.desk_state.specs.Choices.{works_on}

and_true : (a b : Bool) → b ≡ true → (a && b) ≡ a
and_true true b e = e
and_true false b e = refl

-- the root is covered just where a patch that waits or what is at work holds the point
pub covered_root : (s : State) (p : Point) → IsOrderly s → covered s 0 p ≡ (list_any (λ (q : Patch). holds q.rect p) s.updates || list_any (works_on p) s.slots)
covered_root s p sound = covered_is s 0 p ∙ (λ i. patches s.updates i || slots s.slots sound.walking.walks i)
  where
    patches : (ps : List Patch) → queued_for (composes 0 s.present) ps p ≡ list_any (λ (q : Patch). holds q.rect p) ps
    patches [] = refl
    patches (q ∷ ps) = λ i. ap (λ b. b && holds q.rect p) (path_root q.walk s.present) i || patches ps i

    slots : (xs : List Slot) → AllByRecursion (WalkStands s) xs → list_any (λ slot. any_slot slot && slot_on (painted_path s) 0 p slot) xs ≡ list_any (works_on p) xs
    slots [] a = refl
    slots (Free ∷ xs) a = slots xs a.1
    slots (Paints w ∷ xs) a = λ i. and_true (any_holds (writes w.job) p) (on 0 (painted_path s)) (path_root (Up (painted_group s (head_stroke s))) s.present) i || slots xs a.1 i
    slots (Walks w ∷ xs) a = λ i. and_true (holds w.patch.rect p) (on 0 (groups_of w)) (ap (on 0) a.0.1 ∙ path_root w.patch.walk s.present) i || slots xs a.1 i

below : (x n : ℕ) → x < n → (int_le (pos 0) (pos x) && int_lt (pos x) (pos 0 +ℤ pos n)) ≡ true
below x n h = grind (arith, ints)

-- a point of the canvas
pub in_canvas : (c : Canvas) (x y : ℕ) → x < c.w → y < c.h → holds (canvas_area c) (point (pos x) (pos y)) ≡ true
in_canvas c x y h k = both_true _ _ (below x c.w h) (below y c.h k)

near : (x n : ℕ) → x < n → n ≤ 2048 → (int_le (negsuc 16383) (pos x) && int_lt (pos x) (negsuc 16383 +ℤ pos 32768)) ≡ true
near x n h k = grind (arith, ints)

-- is one of the world
pub in_world : (c : Canvas) (x y : ℕ) → IsOfLimits c → x < c.w → y < c.h → holds world (point (pos x) (pos y)) ≡ true
in_world c x y is h k = both_true _ _ (near x c.w h is.w.1) (near y c.h k is.h.1)
