use Rattle.std.proofs.Common.{◌≡◌, ◌∙◌, sym, subst}
use Rattle.host_lines.specs.declared.answer.Answer.TheVariants as answer
use Rattle.host_lines.specs.declared.answer.Answer.{Answer}
use Rattle.strokes_c.proofs.CalledDesks.{is_done, kept_rect, not_done}
use Rattle.strokes_c.specs.Calls.{DirtyTold}
use Rattle.strokes_c.proofs.tile.Goals as goal

pub returns-then-eq : goal.returns-then-eq
returns-then-eq c =
    let done : c.tile-answer.result.0 ≡ answer.Done = is_done c.tile-answer.result.0 (sym c.eq.ensures ∙ c.if-eq.true) in
    (c.tile-answer.result.1, c.tile-answer.ensures, subst (λ (a : Answer). DirtyTold a c.tile-answer.result.1 c.args.dirty.now c.rect_of.result) (sym done) c.rect_of.ensures)

pub returns : goal.returns
returns c = (c.tile-answer.result.1, c.tile-answer.ensures, kept_rect c.tile-answer.result.0 c.tile-answer.result.1 c.args.dirty.now (not_done c.tile-answer.result.0 (sym c.eq.ensures ∙ c.if-eq.false)))
