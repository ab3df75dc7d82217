use Rattle.std.proofs.Common.{rules, ◌≡◌, [], ◌∷◌, inl, inr}
use Rattle.strokes_c.proofs.strokes_work.Goals as goal

pub returns-in_default : goal.returns-in_default
returns-in_default c = inl (c.in_default.ensures.none, c.in_default.ensures.shut, c.code.ensures)

pub returns : goal.returns
returns c =
    let old : c.args.piece.now.value ≡ c.deref_mut.result.now ∷ [] = search rules in
    let new : c.put.new.self.value ≡ c.work-answer.new.self ∷ [] = search rules in
    inr (c.deref_mut.result.now, c.work-answer.new.self, c.work-answer.result, old, new, c.code-2.ensures, c.work-answer.ensures)
