use Rattle.std.proofs.Common.{◌≡◌, ℕ, ℤ, pos, negsuc, ◌<◌, ◌-ℤ◌, ◌+◌, ◌*◌, to_z, of_z, w32, true, false, ◌∙◌, sym, subst, arith}
use Rattle.std.specs.Prelude.{◌≤ℤ◌}
use borrow.Author.Differences.{ints}
use Rattle.geom_core.specs.Areas.{Area, area, lies_in, world}
use Rattle.geom_core.specs.Rects.{IsInWorld}
use Rattle.doc_model.specs.Jobs.{grown}
use Rattle.doc_model.proofs.InWorld.{outside}
use Rattle.blur_core.proofs.blur.grown.Goals as goal

-- a corner with r more before it, as the code counts
before : (x a : ℤ) (r : ℕ) → x ≡ a → negsuc 16383 ≤ℤ x → x ≤ℤ pos 16383 → r < 256 → to_z w32 (of_z w32 (to_z w32 (of_z w32 x) -ℤ to_z w32 r)) ≡ a -ℤ pos r
before x a r e low high h = omega (arith, ints)

-- what was made is the rectangle with more on each side
made : (a : Area) (x y : ℤ) (w h r : ℕ) → x ≡ a.x → negsuc 16383 ≤ℤ x → x ≤ℤ pos 16383 → y ≡ a.y → negsuc 16383 ≤ℤ y → y ≤ℤ pos 16383 → w ≡ a.w → h ≡ a.h → r < 256
    → area (to_z w32 (of_z w32 (to_z w32 (of_z w32 x) -ℤ to_z w32 r))) (to_z w32 (of_z w32 (to_z w32 (of_z w32 y) -ℤ to_z w32 r))) (w + 2 * r) (h + 2 * r) ≡ grown a r
made a x y w h r ex lx hx ey ly hy ew eh small =
    let fx : to_z w32 (of_z w32 (to_z w32 (of_z w32 x) -ℤ to_z w32 r)) ≡ a.x -ℤ pos r = before x a.x r ex lx hx small in
    let fy : to_z w32 (of_z w32 (to_z w32 (of_z w32 y) -ℤ to_z w32 r)) ≡ a.y -ℤ pos r = before y a.y r ey ly hy small in
    λ i. area (fx i) (fy i) (ew i + 2 * r) (eh i + 2 * r)

pub unreachable-requires : goal.unreachable-requires
unreachable-requires c =
    let same = made c.args.part.now c.x.result c.y.result c.w.result c.h.result c.args.r c.x.ensures.value c.x.ensures.low c.x.ensures.high c.y.ensures.value c.y.ensures.low c.y.ensures.high c.w.ensures.value c.h.ensures.value c.ranges.r.fits in
    let out : lies_in (grown c.args.part.now c.args.r) world ≡ false = outside (grown c.args.part.now c.args.r) (λ is. c.in-Err.ensures.outside (subst (λ (a : Area). IsInWorld a) (sym same) is)) in
    let inside : lies_in (grown c.args.part.now c.args.r) world ≡ true = c.requires in
    let e : true ≡ false = sym inside ∙ out in cc

pub returns : goal.returns
returns c = c.in-Ok.ensures.ok ∙ made c.args.part.now c.x.result c.y.result c.w.result c.h.result c.args.r c.x.ensures.value c.x.ensures.low c.x.ensures.high c.y.ensures.value c.y.ensures.low c.y.ensures.high c.w.ensures.value c.h.ensures.value c.ranges.r.fits
