use Rattle.std.proofs.Common.{false, refl, arith}
use Rattle.tile_core.proofs.SameParts.{not_true, is_true}
use Rattle.tile_core.proofs.SameSights.{one_tile_more, all_tiles}
use Rattle.tile_core.proofs.shot.Shot.same_on_one.Goals as goal

pub loop-i-preserved : goal.loop-i-preserved
loop-i-preserved c = one_tile_more c.args.self.now c.args.other.now c.args.rect.now c.loop-i.i c.tile_at.result c.tile_at.ensures.value c.loop-i.invariant (c.same_in.ensures.0 (is_true c.same_in.result c.if-not-same_in.false))

pub returns-then-not-same_in : goal.returns-then-not-same_in
returns-then-not-same_in c = (
  (λ t. not_true false refl t),
  (λ all. not_true c.same_in.result c.if-not-same_in.true (c.same_in.ensures.1 (λ p h at. all p h))),
)

pub returns : goal.returns
returns c = (
  (λ t. all_tiles c.args.self.now c.args.other.now c.args.rect.now c.loop-i.i (omega arith) (omega arith) c.loop-i.invariant),
  (λ all. refl),
)
