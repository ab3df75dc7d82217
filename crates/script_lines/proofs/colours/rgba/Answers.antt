use Rattle.std.proofs.Common.{arith, ◌∙◌}
use Rattle.script_lines.specs.Colours.{pixel_by}
use Rattle.script_lines.proofs.SpelledPixels.{eight}
use Rattle.script_lines.proofs.colours.rgba.Goals as goal

pub returns-in-len8-clause-value : goal.returns-in-len8-clause-value
returns-in-len8-clause-value c =
    c.pixel_of.ensures.value ∙ ((λ i. pixel_by (c.hex_byte-red.ensures.value i) (c.hex_byte-green.ensures.value i) (c.hex_byte-blue.ensures.value i) (c.hex_byte-alpha.ensures.value i)) ∙ eight c.args.field.now (omega (arith, c.in-len8.len_at_least, c.in-len8.len_below)))
