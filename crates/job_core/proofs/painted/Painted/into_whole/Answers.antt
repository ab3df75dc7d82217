use Rattle.std.proofs.Common.{◌≡◌, Some, length, ap, subst, ◌∙◌, arith}
use Rattle.std.specs.Prelude.{slice_get}
use Rattle.job_core.specs.Paints.{Paint, IsPainted}
use Rattle.job_core.proofs.WholeTiles.{whole_filled, whole_length}
use Rattle.job_core.proofs.painted.Painted.into_whole.Goals as goal

pub returns-clause-all : goal.returns-clause-all
returns-clause-all c =
    let first : Some c.into_first.result ≡ slice_get c.args.self.blocks 0 = c.into_first.ensures ∙ ap (λ (w : Paint). slice_get w.blocks 0) c.self.view_is in
    let full : length c.into_pixels.result.items ≡ 4096 = ap length c.into_pixels.ensures.value ∙ whole_length c.into_first.result c.args.self.blocks c.into_pixels.ensures.known c.requires first in
    omega (arith, full)

pub returns-clause-value : goal.returns-clause-value
returns-clause-value c =
    let first : Some c.into_first.result ≡ slice_get c.args.self.blocks 0 = c.into_first.ensures ∙ ap (λ (w : Paint). slice_get w.blocks 0) c.self.view_is in
    whole_filled c.args.self c.into_first.result c.into_pixels.result.items (subst IsPainted c.self.view_is c.self.invariant) c.into_pixels.ensures.known c.requires first c.into_pixels.ensures.value
