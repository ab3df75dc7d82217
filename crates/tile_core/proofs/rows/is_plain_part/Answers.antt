use Rattle.std.proofs.Common.{false, refl, arith, ◌+◌, ◌*◌}
use Rattle.tile_core.proofs.SameParts.{none_so_far, one_more, row_of, not_true, is_true}
use Rattle.tile_core.proofs.rows.is_plain_part.Goals as goal

pub loop-row-init : goal.loop-row-init
loop-row-init c = none_so_far c.args.tile.now (λ _. c.args.p) c.args.part.left c.args.part.top c.args.part.w 0 (64 * c.args.part.top + c.args.part.left) refl refl

pub returns-then-not-is_plain_row : goal.returns-then-not-is_plain_row
returns-then-not-is_plain_row c = (
  (λ t. not_true false refl t),
  (λ all. not_true c.is_plain_row.result c.if-not-is_plain_row.true (c.is_plain_row.ensures.1 (row_of c.args.tile.now (λ _. c.args.p) c.args.part.left c.args.part.top c.args.part.w c.args.part.h c.loop-row._row c.loop-row.from c.loop-row.invariant (omega (arith, c.loop-row-test.true)) all))),
)

pub loop-row-preserved : goal.loop-row-preserved
loop-row-preserved c = one_more c.args.tile.now (λ _. c.args.p) c.args.part.left c.args.part.top c.args.part.w c.loop-row._row c.loop-row.from c.loop-row.invariant (c.is_plain_row.ensures.0 (is_true c.is_plain_row.result c.if-not-is_plain_row.false))
