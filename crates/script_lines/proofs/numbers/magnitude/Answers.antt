use Rattle.std.proofs.Common.{rules, arith, ◌≡◌, ◌<◌, ◌-◌, get_or, true, false}
use Rattle.std.specs.Char.{is_ascii_digit}
use Rattle.std.proofs.lemmas.List.Folds.{list_all_at}
use Rattle.std.proofs.lemmas.Grind.{common_steps}
use Rattle.script_lines.specs.Values.{magnitude}
use Rattle.script_lines.proofs.DigitLemmas.{all_more, value_more, digit}
use Rattle.script_lines.proofs.numbers.magnitude.Goals as goal

pub returns-then-not-is_ascii_digit-clause-value : goal.returns-then-not-is_ascii_digit-clause-value
unfolding magnitude
returns-then-not-is_ascii_digit-clause-value c =
    let d : is_ascii_digit (get_or c.args.bytes.now c.loop-b.b-index 0) ≡ false = search rules in
    let none = list_all_at is_ascii_digit c.args.bytes.now c.loop-b.b-index 0 c.loop-b-test.true d in
    rw none (search rules)

pub loop-b-preserved : goal.loop-b-preserved
loop-b-preserved c =
    let xs = c.args.bytes.now in
    let i = c.loop-b.b-index in
    let d : is_ascii_digit (get_or xs i 0) ≡ true = search rules in
    let below : get_or xs i 0 - 48 < 10 = search (rules, digit) in
    record {
      short = c.loop-b.invariant.short;
      some = c.loop-b.invariant.some;
      small = grind (arith, common_steps, c.loop-b.invariant.small, below);
      digits = all_more xs i c.loop-b-test.true c.loop-b.invariant.digits d;
      value = value_more xs i c.loop-b.n c.loop-b-test.true c.loop-b.invariant.value d;
    }
