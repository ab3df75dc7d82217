use Rattle.std.proofs.Common.{◌∷◌, [], arith}
use Rattle.script_lines.proofs.FieldLemmas.{digits_first}
use Rattle.script_lines.proofs.fronts.digits_before.Goals as goal

pub returns-in-Some-clause-number : goal.returns-in-Some-clause-number
returns-in-Some-clause-number c =
    digits_first c.args.mark _ c.args.text.now c.in-Some.behind.now c.in_ok-a.a [] (c.in_ok-a.ensures.worth, tt) (omega arith)
    (cc (c.in_ok-a.ensures.text, c.in-Some.ensures)) (omega arith)

pub returns-in-Some-behind_mark-clause-number : goal.returns-in-Some-behind_mark-clause-number
returns-in-Some-behind_mark-clause-number c =
    digits_first c.args.mark _ c.args.text.now c.in-Some-behind_mark.behind.now c.in_ok-a.a (c.in_ok-b.b ∷ []) (c.in_ok-a.ensures.worth, (c.in_ok-b.ensures.worth, tt)) (omega arith)
    (cc (c.in_ok-a.ensures.text, c.in_ok-b.ensures.text, c.in-Some-behind_mark.ensures)) (omega arith)

pub returns-in-Some-behind_mark-2-clause-number : goal.returns-in-Some-behind_mark-2-clause-number
returns-in-Some-behind_mark-2-clause-number c =
    digits_first c.args.mark _ c.args.text.now c.in-Some-behind_mark-2.behind.now c.in_ok-a.a (c.in_ok-b.b ∷ c.in_ok-c.c ∷ []) (c.in_ok-a.ensures.worth, (c.in_ok-b.ensures.worth, (c.in_ok-c.ensures.worth, tt))) (omega arith)
    (cc (c.in_ok-a.ensures.text, c.in_ok-b.ensures.text, c.in_ok-c.ensures.text, c.in-Some-behind_mark-2.ensures)) (omega arith)

pub returns-in-Some-behind_mark-3-clause-number : goal.returns-in-Some-behind_mark-3-clause-number
returns-in-Some-behind_mark-3-clause-number c =
    digits_first c.args.mark _ c.args.text.now c.in-Some-behind_mark-3.behind.now c.in_ok-a.a (c.in_ok-b.b ∷ c.in_ok-c.c ∷ c.in_ok-d.d ∷ []) (c.in_ok-a.ensures.worth, (c.in_ok-b.ensures.worth, (c.in_ok-c.ensures.worth, (c.in_ok-d.ensures.worth, tt)))) (omega arith)
    (cc (c.in_ok-a.ensures.text, c.in_ok-b.ensures.text, c.in_ok-c.ensures.text, c.in_ok-d.ensures.text, c.in-Some-behind_mark-3.ensures)) (omega arith)

pub returns-clause-number : goal.returns-clause-number
returns-clause-number c =
    digits_first c.args.mark _ c.args.text.now c.in_ok-behind.behind.now c.in_ok-a.a (c.in_ok-b.b ∷ c.in_ok-c.c ∷ c.in_ok-d.d ∷ c.in_ok-e.e ∷ []) (c.in_ok-a.ensures.worth, (c.in_ok-b.ensures.worth, (c.in_ok-c.ensures.worth, (c.in_ok-d.ensures.worth, (c.in_ok-e.ensures.worth, tt))))) (omega arith)
    (cc (c.in_ok-a.ensures.text, c.in_ok-b.ensures.text, c.in_ok-c.ensures.text, c.in_ok-d.ensures.text, c.in_ok-e.ensures.text, c.in_ok-behind.ensures)) (omega arith)
