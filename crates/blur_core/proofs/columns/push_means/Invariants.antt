use Rattle.std.proofs.Common.{◌≡◌, ◌++◌, get_or}
use Rattle.blur_core.specs.Sums.{nothing, sum_from}
use Rattle.blur_core.specs.Rows.{row_means}
use Rattle.blur_core.proofs.columns.push_means.Given as goal

abbrev pub invariant-loop-col : goal.invariant-loop-col
invariant-loop-col l = record {
  square : l.square ≡ sum_from (λ k. get_or l.columns k nothing) l.col l.more;
  means : l.means.items ≡ l.initial.means.items ++ row_means l.columns l.side l.col;
}
