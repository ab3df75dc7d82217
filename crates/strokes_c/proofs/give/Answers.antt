use Rattle.std.proofs.Common.{rules, ◌≡◌, [], ◌∷◌, ◌∙◌, refl, sym, ap, inl, inr}
use Rattle.host_lines.specs.declared.answer.Answer.TheVariants as answer
use Rattle.host_pieces.specs.Pieces.{patch_in}
use Rattle.strokes_c.proofs.CalledDesks.{is_done, not_done}
use Rattle.host_lines.specs.Structs.{rect_by}
use Rattle.strokes_c.proofs.give.Goals as goal

pub returns-in_default : goal.returns-in_default
returns-in_default c = inl (c.in_default.ensures.none, c.in_default.ensures.shut, refl, refl, refl)

pub returns-then-eq : goal.returns-then-eq
returns-then-eq c =
    let old : c.args.piece.now.value ≡ c.deref_mut.result.now ∷ [] = search rules in
    let done : c.give-answer.result.0 ≡ answer.Done = is_done c.give-answer.result.0 (sym c.eq.ensures ∙ c.if-eq.true) in
    let patch : c.give-answer.result.1 ≡ patch_in c.deref_mut.result.now = c.give-answer.ensures.patch done in
    inr (inl (
      c.deref_mut.result.now,
      old,
      c.in-Some.ensures.shut,
      c.rect_of.ensures ∙ ap rect_by patch,
      done,
      c.give-answer.ensures.given,
      c.give-answer.ensures.within (λ e. let wrong : answer.Done ≡ answer.NoMemory = sym done ∙ e in cc),
    ))

pub returns : goal.returns
returns c =
    let old : c.args.piece.now.value ≡ c.deref_mut.result.now ∷ [] = search rules in
    let new : c.put.new.self.value ≡ c.give-answer.new.piece ∷ [] = search rules in
    let other = not_done c.give-answer.result.0 (sym c.eq.ensures ∙ c.if-eq.false) in
    inr (inr (c.deref_mut.result.now, c.give-answer.new.piece, old, new, refl, other, c.give-answer.ensures.given, c.give-answer.ensures.same other, c.give-answer.ensures.kept other, c.give-answer.ensures.within))
