use Rattle.std.proofs.Common.{◌≡◌, ◌≤ℤ◌, pos, to_z, w32, arith, subst, sym}
use borrow.Author.Differences.{ints}
use Rattle.script_lines.specs.Values.{number}
use Rattle.script_lines.specs.Fronts.{Begins}
use Rattle.script_lines.proofs.FieldLemmas.{number_first}
use Rattle.script_lines.proofs.fronts.number_in_before.Goals as goal

pub returns-then-n-high-clause-number : goal.returns-then-n-high-clause-number
returns-then-n-high-clause-number c =
    let n = to_z w32 c.in_ok-n.n in
    let small = c.in_ok-n.ensures.small in
    let same : n ≡ pos c.in_ok-n.n = omega (arith, ints) in
    let is = subst (λ z. Begins number c.args.mark c.args.text.now z c.in_ok-n.behind.now) (sym same) c.in_ok-n.ensures.number in
    let low : c.args.low ≤ℤ n = omega (arith, ints) in
    let high : n ≤ℤ c.args.high = omega (arith, ints) in
    number_first c.args.low c.args.high n c.args.mark c.args.text.now c.in_ok-n.behind.now is low high
