use Rattle.std.proofs.Common.{◌≡◌, sym, subst}
use Rattle.std.proofs.lemmas.Result.{IfOk-weaker}
use Rattle.tile_core.specs.Pixels.{Pixels}
use Rattle.whole_tiles.specs.Base.{tile_of}
use Rattle.whole_tiles.specs.Wholes.{IsNew, LaysPaint}
use Rattle.whole_tiles.proofs.News.{blocks_new, whole_laid}
use Rattle.whole_tiles.proofs.pixels.assembled.Goals as goal

pub returns-then-is_whole : goal.returns-then-is_whole
returns-then-is_whole c =
    let w = c.in_ok-painted.painted in
    let s = c.args.shot.now in
    let job = c.args.job.now in
    let pixels = c.into_whole.result.items in
    IfOk-weaker c.from_pixels.result (λ t. t ≡ pixels) (IsNew job s c.args.key)
    (λ t e. subst (IsNew job s c.args.key) (sym e) (blocks_new job s c.args.key w pixels c.in_ok-painted.ensures.job c.in_ok-painted.ensures.shot c.in_ok-painted.ensures.key
    (whole_laid w (tile_of s c.args.key) pixels c.into_whole.ensures.value))) c.from_pixels.ensures

pub returns-else-is_whole : goal.returns-else-is_whole
returns-else-is_whole c =
    let w = c.in_ok-painted.painted in
    let s = c.args.shot.now in
    let job = c.args.job.now in
    IfOk-weaker c.patched.result (LaysPaint w (tile_of w.shot w.key)) (IsNew job s c.args.key)
    (λ t lays. blocks_new job s c.args.key w t c.in_ok-painted.ensures.job c.in_ok-painted.ensures.shot c.in_ok-painted.ensures.key
    (subst (λ (old : Pixels). LaysPaint w old t) (λ i. tile_of (c.in_ok-painted.ensures.shot i) (c.in_ok-painted.ensures.key i)) lays)) c.patched.ensures
