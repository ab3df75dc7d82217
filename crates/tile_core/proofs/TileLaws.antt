-- The proofs of the laws.
use Rattle.std.proofs.Common.{◌≡◌, ℕ, ◌+◌, ◌*◌, ◌/◌, ◌%◌, ◌<◌, Bool, true, false, ◌&&◌, cond, Option, Some, get_or, sym, ap, ◌∙◌, arith, refl}
use Rattle.std.specs.Prelude.{pos, int_le, int_lt, ◌+ℤ◌}
use borrow.Author.Differences.{ints}
use Rattle.std.specs.FinMap as map
use Rattle.std.proofs.lemmas.List.{ext_get_or}
use Rattle.pixel_core.specs.Rgba.{Rgba, clear}
use Rattle.geom_core.specs.Areas.{holds, Point, point}
use Rattle.geom_core.specs.Grid.{key_of, same_key}
use Rattle.geom_core.specs.Keys.{key_cmp_total}
use Rattle.geom_core.proofs.Tests.{both_true}
use Rattle.tile_core.specs.Pixels.{Pixels, pixel_at, pixel_or, whole_tile}
use Rattle.tile_core.specs.Laws.{FixedByPoints, SeenAfterPut}

inside : (n : ℕ) → n < 64 → (int_le (pos 0) (pos n) && int_lt (pos n) (pos 0 +ℤ pos 64)) ≡ true
inside n h = grind (arith, ints)

place_back : (i : ℕ) → i < 4096 → 64 * ((i / 64 + 16384) % 64) + (i % 64 + 16384) % 64 ≡ i
place_back i h = omega arith

pub fixed_by_points : FixedByPoints
fixed_by_points tile other n m same = ext_get_or clear tile other (n ∙ sym m) (λ i h.
    let small : i < 4096 = omega (arith, n) in
    let p : Point = point (pos (i % 64)) (pos (i / 64)) in
    let held : holds whole_tile p ≡ true = both_true _ _ (inside (i % 64) (omega arith)) (inside (i / 64) (omega arith)) in
    let at : (t : Pixels) → get_or t i clear ≡ pixel_at t (point (pos (i % 64)) (pos (i / 64))) = (λ t. ap (λ j. get_or t j clear) (sym (place_back i small))) in
    at tile ∙ same p held ∙ sym (at other))

-- what stands at a point after one tile more
pub after_put : (b : Bool) (tile : Pixels) (o : Option Pixels) (d : Rgba) (p : Point) → pixel_or (cond b (Some tile) o) d p ≡ cond b (pixel_at tile p) (pixel_or o d p)
after_put true tile o d p = refl
after_put false tile o d p = refl

pub seen_after_put : SeenAfterPut
seen_after_put s k tile p = ap (λ o. pixel_or o s.default_pixel p) (map.get-insert key_cmp_total s.tiles k tile (key_of p)) ∙ after_put (same_key (key_of p) k) tile (map.get s.tiles (key_of p)) s.default_pixel p
