use Rattle.std.proofs.Common.{◌∙◌, refl, sym}
use Rattle.pixel_core.specs.declared.blending.Op.TheVariants.{Erase}
use Rattle.pixel_core.proofs.Rounding.{whole}
use Rattle.pixel_core.proofs.Sums.{erase_is}
use Rattle.pixel_rows.proofs.blends.ErasingMix.mix.Goals as goal

pub returns : goal.returns
returns c =
    (rw c.bytes-2.ensures.value at c.new.ensures) ∙ erase_is Erase c.args.s c.args.d 255 c.args.s.a c.mul.result refl (sym (whole c.args.s.a)) (rw (c.bytes.ensures.value, c.bytes-2.ensures.value) at c.mul.ensures.value)
