use Rattle.std.proofs.Common.{◌≡◌, ◌++◌, length, take, drop, sym, ap, subst, arith, ◌∙◌}
use Rattle.std.proofs.Math.Seq.{take-append_seam}
use Rattle.std.proofs.lemmas.Result.{IfOk-weaker}
use Rattle.tile_core.specs.Pixels.{Pixels}
use Rattle.whole_tiles.specs.Base.{tile_of}
use Rattle.whole_tiles.specs.Wholes.{LaysPaint}
use Rattle.whole_tiles.proofs.pixels.patched.Goals as goal

pub returns : goal.returns
returns c =
    let w = c.args.painted.now in
    let new = c.lay_blocks.new.tile in
    let rest = drop (length new) c.in_ok-pixels.pixels.items in
    let full : length new ≡ c.in_ok-pixels.pixels.len = omega (arith, c.in_ok-pixels.ensures.all, c.deref_mut.ensures.len, c.lay_blocks.auto.tile) in
    let same : take c.in_ok-pixels.pixels.len (new ++ rest) ≡ new = ap (λ n. take n (new ++ rest)) (sym full) ∙ take-append_seam new rest in
    let own : tile_of c.shot.result.now c.key.result ≡ tile_of w.shot w.key = λ i. tile_of (c.shot.ensures i) (c.key.ensures.value i) in
    let stood : c.deref_mut.result.now ≡ tile_of w.shot w.key = c.deref_mut.ensures.value ∙ c.in_ok-pixels.ensures.value ∙ own in
    IfOk-weaker c.from_pixels.result (λ t. t ≡ take c.in_ok-pixels.pixels.len (new ++ rest)) (LaysPaint w (tile_of w.shot w.key))
    (λ t e. subst (LaysPaint w (tile_of w.shot w.key)) (sym (e ∙ same)) (subst (λ (old : Pixels). LaysPaint w old new) stood c.lay_blocks.ensures)) c.from_pixels.ensures
