use Rattle.std.proofs.Common.{rules, ◌≡◌, [], ◌∷◌, ◌∙◌, sym, inl, inr}
use Rattle.strokes_c.proofs.CalledDesks.{is_done, not_done, took_none}
use Rattle.strokes_c.proofs.take.Goals as goal

pub returns-then-eq : goal.returns-then-eq
returns-then-eq c =
    let new : c.put.new.self.value ≡ c.take-answer.result.1 ∷ [] = search rules in
    let old : c.args.piece.now.value ≡ [] = search rules in
    inr (inl (c.take-answer.result.1, old, new, is_done c.take-answer.result.0 (sym c.eq.ensures ∙ c.if-eq.true), c.take-answer.ensures))

pub returns : goal.returns
returns c =
    let other = not_done c.take-answer.result.0 (sym c.eq.ensures ∙ c.if-eq.false) in
    let old : c.args.piece.now.value ≡ [] = search rules in
    let new : c.room_for.new.piece.value ≡ [] = search rules in
    inr (inr (old, new, other, took_none c.args.host.now c.take-answer.result.0 c.take-answer.result.1 c.take-answer.new.self other c.take-answer.ensures))
