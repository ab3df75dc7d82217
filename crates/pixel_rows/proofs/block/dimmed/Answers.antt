use Rattle.std.proofs.Common.{◌∙◌, ap}
use Rattle.pixel_core.specs.Compose.{compose}
use Rattle.pixel_rows.proofs.Dimming.{dimmed_is}
use Rattle.pixel_rows.proofs.block.dimmed.Goals as goal

pub returns : goal.returns
returns c = λ op d.
    ap (λ p. compose op p d 255) (rw (c.mul.ensures.value, c.bytes.ensures.value) at c.new.ensures) ∙ dimmed_is op c.args.s d c.args.strength
