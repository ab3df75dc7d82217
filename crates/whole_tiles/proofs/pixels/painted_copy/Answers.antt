use Rattle.std.proofs.Common.{◌≡◌, ◌++◌, length, take, drop, sym, ap, subst, arith, ◌∙◌}
use Rattle.std.proofs.Math.Seq.{take-append_seam}
use Rattle.std.proofs.lemmas.Result.{IfOk-weaker}
use Rattle.tile_core.specs.Pixels.{Pixels}
use Rattle.job_core.specs.Points.{LaysPoints}
use Rattle.whole_tiles.specs.Base.{tile_of}
use Rattle.whole_tiles.proofs.pixels.painted_copy.Goals as goal

pub returns : goal.returns
returns c =
    let w = c.args.work.now in
    let s = c.args.shot.now in
    let new = c.lay.new.tile in
    let rest = drop (length new) c.in_ok-pixels.pixels.items in
    let full : length new ≡ c.in_ok-pixels.pixels.len = omega (arith, c.in_ok-pixels.ensures.all, c.deref_mut.ensures.len, c.lay.auto.tile) in
    let same : take c.in_ok-pixels.pixels.len (new ++ rest) ≡ new = ap (λ n. take n (new ++ rest)) (sym full) ∙ take-append_seam new rest in
    let stood : c.deref_mut.result.now ≡ tile_of s w.key = c.deref_mut.ensures.value ∙ c.in_ok-pixels.ensures.value ∙ ap (tile_of s) c.key.ensures.value in
    IfOk-weaker c.from_pixels.result (λ t. t ≡ take c.in_ok-pixels.pixels.len (new ++ rest)) (LaysPoints w (tile_of s w.key))
    (λ t e. subst (LaysPoints w (tile_of s w.key)) (sym (e ∙ same)) (subst (λ (old : Pixels). LaysPoints w old new) stood c.lay.ensures)) c.from_pixels.ensures
