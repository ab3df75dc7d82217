use Rattle.std.proofs.Common.{sym, ◌∙◌, ap, Some}
use Rattle.geom_core.proofs.Common.{held_apart}
use Rattle.geom_core.proofs.rect.Rect.clip.Goals as goal

pub returns-then-meets-clause-value : goal.returns-then-meets-clause-value
returns-then-meets-clause-value c = rw (← c.meets.ensures, c.if-meets.true) (ap Some c.common_part.ensures.value)

pub returns-else-meets-clause-apart : goal.returns-else-meets-clause-apart
returns-else-meets-clause-apart c = λ p h. held_apart c.args.self.now c.args.other.now p (sym c.meets.ensures ∙ c.if-meets.false) h
