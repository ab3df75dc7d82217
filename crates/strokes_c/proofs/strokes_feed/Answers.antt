use Rattle.std.proofs.Common.{rules, ◌≡◌, [], ◌∷◌, inl, inr}
use Rattle.strokes_c.proofs.CalledDesks.{line_fed}
use Rattle.strokes_c.proofs.strokes_feed.Goals as goal

pub returns-in_default : goal.returns-in_default
returns-in_default c = inl (c.in_default.ensures.none, c.in_default.ensures.shut, c.code.ensures)

pub returns : goal.returns
returns c =
    let old : c.args.desk.now.value ≡ c.deref_mut.result.now ∷ [] = search rules in
    let new : c.put.new.self.value ≡ c.line-answer.new.self ∷ [] = search rules in
    inr (c.deref_mut.result.now, c.line-answer.new.self, c.line-answer.result, old, new, c.code-2.ensures, line_fed c.args.line.now c.deref_mut.result.now c.line-answer.new.self c.line-answer.result c.line-answer.ensures.more c.line-answer.ensures.fed)
