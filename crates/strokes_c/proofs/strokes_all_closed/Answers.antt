use Rattle.std.proofs.Common.{rules, ◌≡◌, [], ◌∷◌, ◌∙◌, refl, ap, inl, inr}
use Rattle.strokes_c.specs.Calls.{closed_answer}
use Rattle.strokes_c.proofs.strokes_all_closed.Goals as goal

pub returns-in_default : goal.returns-in_default
returns-in_default c = inl (c.in_default.ensures.none, c.in_default.ensures.shut, c.code.ensures)

pub returns : goal.returns
returns c =
    let old : c.args.desk.now.value ≡ c.deref.result.now ∷ [] = search rules in
    let new : c.put.new.self.value ≡ c.deref.result.now ∷ [] = search rules in
    inr (c.deref.result.now, c.deref.result.now, c.closed-answer.result, old, new, c.code-2.ensures, (c.closed-answer.ensures ∙ ap closed_answer c.all_closed.ensures, refl))
