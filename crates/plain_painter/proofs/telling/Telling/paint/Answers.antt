use Rattle.std.proofs.Common.{sym, ◌∙◌}
use Rattle.plain_painter.proofs.Entries.{laid_ends}
use Rattle.plain_painter.proofs.telling.Telling.paint.Goals as goal

pub returns : goal.returns
returns c = λ e h. laid_ends c.args.self.now c.lay.new.self e c.args.stroke.now c.lay.result h (sym c.in_default.ensures) (sym c.if-cancelled.ensures)
    (λ s layer jobs. c.lay.ensures s (layer ∙ sym c.layer.ensures) (jobs ∙ sym c.jobs.ensures.value))
