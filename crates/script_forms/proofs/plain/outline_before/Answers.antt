use Rattle.std.proofs.Common.{◌≡◌, subst, to_z, of_z, w32, arith}
use borrow.Author.Differences.{ints}
use Rattle.script_forms.specs.Plain.{BeginsOutline}
use Rattle.script_forms.proofs.PlainLines.{outline_first}
use Rattle.script_forms.proofs.plain.outline_before.Goals as goal

pub returns-clause-outline : goal.returns-clause-outline
returns-clause-outline c =
    let x : c.in_ok-x.x ≡ to_z w32 (of_z w32 c.in_ok-x.x) = omega (arith, ints) in
    let y : c.in_ok-y.y ≡ to_z w32 (of_z w32 c.in_ok-y.y) = omega (arith, ints) in
    subst (λ o. BeginsOutline c.args.text.now o c.in_ok-h.behind.now) (λ i. record { x = x i; y = y i; w = c.in_ok-w.w; h = c.in_ok-h.h })
    (outline_first c.args.text.now c.in_ok-x.text.now c.in_ok-y.text.now c.in_ok-w.text.now c.in_ok-h.behind.now c.in_ok-x.x c.in_ok-y.y c.in_ok-w.w c.in_ok-h.h c.in_ok-x.ensures.number c.in_ok-y.ensures.number c.in_ok-w.ensures.natural c.in_ok-h.ensures.natural)
