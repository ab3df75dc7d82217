-- The laws of the list of patches, for canvases of the limits.
use Rattle.std.proofs.Common.{◌≡◌, ℕ, ◌≤◌, Bool, true, false, ◌&&◌, cond, List, [], ◌∷◌, Some, None, refl, arith, inl, inr}
use Rattle.std.specs.Prelude.{ℤ, pos, ◌+ℤ◌, int_le, int_lt}
use borrow.Author.Differences.{ints}
use Rattle.geom_core.specs.Areas.{Area, holds, meets, Point}
use Rattle.geom_core.specs.Overlaps.{common}
use Rattle.geom_core.specs.Grid.{parts}
use Rattle.geom_core.proofs.Tests.{and_left, and_right, both_true, or_cases}
use Rattle.doc_model.specs.declared.canvas.Canvas.{Canvas}
use Rattle.doc_model.specs.declared.canvas.Walk.{Walk}
use Rattle.doc_model.specs.declared.canvas.Walk.TheVariants.{All}
use Rattle.doc_model.specs.declared.canvas.Patch.{Patch}
use Rattle.doc_model.specs.Canvases.{IsOfLimits}
use Rattle.doc_model.specs.Picture.{canvas_area}
use Rattle.doc_model.specs.Updates.{refreshed, refreshed_part, bound_all}
use Rattle.doc_model.specs.Queues.{queued_for}
use Rattle.doc_model.specs.UpdateLaws.{TakesAll, QueuedKeepsPlaces, QueuedCovers}
use Rattle.doc_model.proofs.Patches.{queued_right, refreshed_right}
use Rattle.doc_model.proofs.QueueLaws.{in_grid, map_patch, parts_hold, bound_all_patch}
use Rattle.doc_model.proofs.QueueWhole.{queued_stays, queued_takes, refreshed_takes}

pub queued_keeps_places : QueuedKeepsPlaces
queued_keeps_places = record {
  empty = λ canvas. record { places = refl; unlike = refl; few = omega arith };
  queued = queued_right;
  refreshed = refreshed_right;
}

axis : (x : ℤ) (n : ℕ) → n ≤ 2048 → (int_le (pos 0) x && int_lt x (pos 0 +ℤ pos n)) ≡ true → (int_le (pos 0) x && int_lt x (pos 0 +ℤ pos 2048)) ≡ true
axis x n few h = grind (arith, ints)

-- a canvas of the limits lies in the largest one
in_largest : (canvas : Canvas) (p : Point) → IsOfLimits canvas → holds (canvas_area canvas) p ≡ true → in_grid p ≡ true
in_largest canvas p l h = both_true _ _ (axis p.x canvas.w l.w.1 (and_left _ _ h)) (axis p.y canvas.h l.h.1 (and_right (int_le (pos 0) p.x && int_lt p.x (pos 0 +ℤ pos canvas.w)) _ h))

all_too : (covers : Walk → Bool) → TakesAll covers → (patches : List Patch) (p : Point) → queued_for covers patches p ≡ true → covers All ≡ true
all_too covers all [] p h = cc
all_too covers all (q ∷ patches) p h = elim (or_cases (covers q.walk && holds q.rect p) _ h) [ inl e ↦ all q.walk (and_left (covers q.walk) _ e) | inr e ↦ all_too covers all patches p e ]

refreshed_stays : (covers : Walk → Bool) → TakesAll covers → (canvas : Area) (patches : List Patch) (rect : Area) (p : Point) → in_grid p ≡ true
    → queued_for covers patches p ≡ true → queued_for covers (refreshed canvas patches rect) p ≡ true
unfolding refreshed
refreshed_stays covers all canvas patches rect p g h = go (meets canvas rect)
  where
    go : (b : Bool) → queued_for covers (refreshed_part patches (cond b (Some (common canvas rect)) None)) p ≡ true
    go true = map_patch covers All (parts (bound_all (common canvas rect) patches)) p (all_too covers all patches p h)
        (parts_hold (bound_all (common canvas rect) patches) p g (bound_all_patch covers (common canvas rect) patches p h))
    go false = h

pub queued_covers : QueuedCovers
queued_covers covers all canvas l = record {
  stays = λ patches walk rect p k h. queued_stays covers all (canvas_area canvas) patches walk rect p (in_largest canvas p l k) h;
  comes = λ patches walk rect p k c h. queued_takes covers all (canvas_area canvas) patches walk rect p (in_largest canvas p l k) k c h;
  stays_refreshed = λ patches rect p k h. refreshed_stays covers all (canvas_area canvas) patches rect p (in_largest canvas p l k) h;
  comes_refreshed = λ patches rect p k c h. refreshed_takes covers c (canvas_area canvas) patches rect p (in_largest canvas p l k) k h;
}
