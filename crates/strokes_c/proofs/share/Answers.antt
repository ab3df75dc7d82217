use Rattle.std.proofs.Common.{rules, ◌≡◌, [], ◌∷◌, ◌∙◌, sym, inl, inr}
use Rattle.strokes_c.proofs.CalledDesks.{is_done, not_done, shared_none}
use Rattle.strokes_c.proofs.share.Goals as goal

pub returns-then-eq : goal.returns-then-eq
returns-then-eq c =
    let new : c.put.new.self.value ≡ c.share-answer.result.1 ∷ [] = search rules in
    let old : c.args.other.now.value ≡ [] = search rules in
    inr (inl (c.share-answer.result.1, old, new, is_done c.share-answer.result.0 (sym c.eq.ensures ∙ c.if-eq.true), c.share-answer.ensures))

pub returns : goal.returns
returns c =
    let not = not_done c.share-answer.result.0 (sym c.eq.ensures ∙ c.if-eq.false) in
    let old : c.args.other.now.value ≡ [] = search rules in
    let new : c.room_for.new.piece.value ≡ [] = search rules in
    inr (inr (old, new, not, shared_none c.args.shares c.args.work.now c.share-answer.result.0 c.share-answer.result.1 c.share-answer.new.self not c.share-answer.ensures))
