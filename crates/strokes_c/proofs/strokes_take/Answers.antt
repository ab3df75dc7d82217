use Rattle.std.proofs.Common.{rules, ◌≡◌, [], ◌∷◌, refl, inl, inr}
use Rattle.strokes_c.proofs.strokes_take.Goals as goal

pub returns-in_default : goal.returns-in_default
returns-in_default c = inl (c.in_default.ensures.none, c.in_default.ensures.shut, refl, c.code.ensures)

pub returns : goal.returns
returns c =
    let old : c.args.desk.now.value ≡ c.deref_mut.result.now ∷ [] = search rules in
    let new : c.put.new.self.value ≡ c.take-answer.new.host ∷ [] = search rules in
    inr (c.deref_mut.result.now, c.take-answer.new.host, c.take-answer.result, old, new, c.code-2.ensures, c.take-answer.ensures)
