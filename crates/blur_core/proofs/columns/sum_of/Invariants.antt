use Rattle.std.proofs.Common.{◌≡◌, get_or}
use Rattle.blur_core.specs.Sums.{nothing, sum_from}
use Rattle.blur_core.proofs.columns.sum_of.Given as goal

abbrev pub invariant-loop-i : goal.invariant-loop-i
invariant-loop-i l = l.all ≡ sum_from (λ k. get_or l.columns k nothing) 0 l.i
