use Rattle.std.proofs.Common.{true, false, sym}
use Rattle.plain_painter.proofs.Entries.{not_laid, all_sound}
use Rattle.plain_painter.proofs.telling.Telling.lay.Goals as goal

pub painted-requires-clause-sound : goal.painted-requires-clause-sound
painted-requires-clause-sound c = all_sound c.args.jobs.now c.requires.checked c.requires.limits

pub returns-then-has : goal.returns-then-has
returns-then-has c = λ s layer jobs. not_laid c.args.self.now c.tree.result.now c.args.layer true s (sym c.if-paints.ensures) c.tree.ensures.value (sym c.if-has.ensures) layer

pub returns-else-has : goal.returns-else-has
returns-else-has c = λ s layer jobs. not_laid c.args.self.now c.tree.result.now c.args.layer false s (sym c.if-paints.ensures) c.tree.ensures.value (sym c.if-has.ensures) layer
