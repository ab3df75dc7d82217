use Rattle.std.proofs.Common.{rules, ◌≡◌, [], ◌∷◌, ◌∙◌, refl, sym, inl, inr}
use Rattle.strokes_c.proofs.strokes_frame_row.Goals as goal

pub returns-in_default-clause-same : goal.returns-in_default-clause-same
returns-in_default-clause-same c = c.in_default.ensures.shut ∙ sym c.in_default.ensures.none

pub returns-in_default-clause-told : goal.returns-in_default-clause-told
returns-in_default-clause-told c = inl (c.in_default.ensures.none, c.code.ensures, refl)

pub returns-clause-same : goal.returns-clause-same
returns-clause-same c = c.put.ensures ∙ sym c.in-Some.ensures.some

pub returns-clause-told : goal.returns-clause-told
returns-clause-told c =
    let old : c.args.desk.now.value ≡ c.deref.result.now ∷ [] = search rules in
    inr (c.deref.result.now, c.frame_row-answer.result, old, c.code-2.ensures, c.frame_row-answer.ensures)
