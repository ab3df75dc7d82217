use Rattle.std.proofs.Common.{◌≡◌, subst, to_z, of_z, w32, arith}
use borrow.Author.Differences.{ints}
use Rattle.script_forms.specs.Plain.{BeginsTip}
use Rattle.script_forms.proofs.PlainLines.{tip_first}
use Rattle.script_forms.proofs.plain.tip_before.Goals as goal

pub returns-clause-tip : goal.returns-clause-tip
returns-clause-tip c =
    let x : c.in_ok-x.x ≡ to_z w32 (of_z w32 c.in_ok-x.x) = omega (arith, ints) in
    let y : c.in_ok-y.y ≡ to_z w32 (of_z w32 c.in_ok-y.y) = omega (arith, ints) in
    subst (λ t. BeginsTip c.args.text.now t c.in_ok-soft.behind.now) (λ i. record { x = x i; y = y i; r = c.in_ok-r.r; soft = c.in_ok-soft.soft })
    (tip_first c.args.text.now c.in_ok-x.text.now c.in_ok-y.text.now c.in_ok-r.text.now c.in_ok-soft.behind.now (record { x = c.in_ok-x.x; y = c.in_ok-y.y; r = c.in_ok-r.r; soft = c.in_ok-soft.soft }) c.in_ok-x.ensures.number c.in_ok-y.ensures.number c.in_ok-r.ensures.natural c.in_ok-soft.ensures)
