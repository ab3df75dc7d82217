use Rattle.std.proofs.Common.{◌≡◌, ◌∙◌, ◌+◌, arith, get_or}
use Rattle.blur_core.specs.Sums.{nothing, sum_from}
use Rattle.blur_core.proofs.ColumnSums.{few_columns, columns_sum, first_columns, square_added, square_part, square_moved, no_means, mean_pushed}
use Rattle.blur_core.proofs.columns.push_means.Goals as goal

pub loop-col-init : goal.loop-col-init
loop-col-init c = record {
  square = c.sum_of-square.ensures ∙ first_columns c.args.columns.now c.args.more c.requires.long;
  means = no_means c.args.columns.now (c.args.more + 1) c.args.means.now.items;
}

pub plus-square-requires-clause-small : goal.plus-square-requires-clause-small
plus-square-requires-clause-small c = few_columns c.args.columns.now (c.args.more + 1) c.loop-col.col c.args.more c.loop-col.square c.requires.each c.loop-col.invariant.square (omega arith) (omega arith)

pub mean-requires-clause-fits : goal.mean-requires-clause-fits
mean-requires-clause-fits c =
    let whole : c.plus-square.result ≡ sum_from (λ k. get_or c.args.columns.now k nothing) c.loop-col.col (c.args.more + 1) = square_added c.args.columns.now c.loop-col.col c.args.more c.loop-col.square c.plus-square.result c.loop-col.invariant.square c.plus-square.ensures in
    columns_sum c.args.columns.now (c.args.more + 1) c.loop-col.col (c.args.more + 1) _ c.plus-square.result c.requires.each whole (omega arith)

pub less-square-requires : goal.less-square-requires
less-square-requires c = square_part c.args.columns.now c.loop-col.col c.args.more c.plus-square.result (square_added c.args.columns.now c.loop-col.col c.args.more c.loop-col.square c.plus-square.result c.loop-col.invariant.square c.plus-square.ensures)

pub loop-col-preserved : goal.loop-col-preserved
loop-col-preserved c =
    let whole : c.plus-square.result ≡ sum_from (λ k. get_or c.args.columns.now k nothing) c.loop-col.col (c.args.more + 1) = square_added c.args.columns.now c.loop-col.col c.args.more c.loop-col.square c.plus-square.result c.loop-col.invariant.square c.plus-square.ensures in
    record {
      square = square_moved c.args.columns.now c.loop-col.col c.args.more c.plus-square.result c.less-square.result whole c.less-square.ensures;
      means = mean_pushed c.args.columns.now c.loop-col.col c.args.more c.plus-square.result c.args.means.now.items c.loop-col.means.items c.push.new.self.items c.mean.result whole c.loop-col.invariant.means c.mean.ensures c.in_ok-push.ensures.items;
    }
