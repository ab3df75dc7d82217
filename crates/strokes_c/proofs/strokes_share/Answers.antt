use Rattle.std.proofs.Common.{rules, ◌≡◌, [], ◌∷◌, refl, inl, inr}
use Rattle.strokes_c.proofs.strokes_share.Goals as goal

pub returns-in_default : goal.returns-in_default
returns-in_default c = inl (c.in_default.ensures.none, c.in_default.ensures.shut, refl, c.code.ensures)

pub returns : goal.returns
returns c =
    let old : c.args.piece.now.value ≡ c.deref_mut.result.now ∷ [] = search rules in
    let new : c.put.new.self.value ≡ c.share-answer.new.work ∷ [] = search rules in
    inr (c.deref_mut.result.now, c.share-answer.new.work, c.share-answer.result, old, new, c.code-2.ensures, c.share-answer.ensures)
