use Rattle.std.proofs.Common.{◌≡◌, ◌++◌, length, take, drop, sym, ap, subst, arith, ◌∙◌}
use Rattle.std.proofs.Math.Seq.{take-append_seam}
use Rattle.std.proofs.lemmas.Result.{IfOk-weaker}
use Rattle.memento_core.specs.Planes.{tile_under}
use Rattle.tile_core.specs.Pixels.{Pixels, pixel_at}
use Rattle.paint_device.specs.Sheets.{tile_or}
use Rattle.desk_steps.specs.Tiles.{IsPaintedOn}
use Rattle.desk_steps.proofs.Lain.{stands_at}
use Rattle.desk_steps.proofs.Painted.{points_laid}
use Rattle.desk_steps.proofs.painting.painted_copy.Goals as goal

pub returns : goal.returns
returns c =
    let w = c.args.work.now in
    let s = c.args.device.now in
    let new = c.lay.new.tile in
    let rest = drop (length new) c.in_ok-pixels.pixels.items in
    let full : length new ≡ c.in_ok-pixels.pixels.len = omega (arith, c.in_ok-pixels.ensures.all, c.deref_mut.ensures.len, c.lay.auto.tile) in
    let same : take c.in_ok-pixels.pixels.len (new ++ rest) ≡ new = ap (λ n. take n (new ++ rest)) (sym full) ∙ take-append_seam new rest in
    let stood : c.deref_mut.result.now ≡ tile_or (tile_under s.tiles w.key) s.default_pixel = c.deref_mut.ensures.value ∙ c.in_ok-pixels.ensures.value ∙ ap (λ k. tile_or (tile_under s.tiles k) s.default_pixel) c.key.ensures.value in
    IfOk-weaker c.from_pixels.result (λ t. t ≡ take c.in_ok-pixels.pixels.len (new ++ rest)) (IsPaintedOn w s)
    (λ t e. subst (IsPaintedOn w s) (sym (e ∙ same)) (points_laid w s c.deref_mut.result.now new (λ p h. ap (λ (t : Pixels). pixel_at t p) stood ∙ stands_at s w.key p h) c.lay.ensures)) c.from_pixels.ensures
