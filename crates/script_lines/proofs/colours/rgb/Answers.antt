use Rattle.std.proofs.Common.{◌≡◌, ◌==◌, ◌∙◌, Ok, length, false, sym, arith}
use Rattle.std.proofs.lemmas.Bool.Decides.{nat_tests}
use Rattle.std.proofs.lemmas.Grind.{common_steps}
use Rattle.script_lines.specs.Colours.{pixel_by}
use Rattle.script_lines.proofs.SpelledPixels.{six, not_six}
use Rattle.script_lines.proofs.colours.rgb.Goals.{in_default-via-then-field-lt6, in_default-via-else-field-lt6+else-field-lt7}
use Rattle.script_lines.proofs.colours.rgb.Goals as goal

pub returns-in-len6-clause-value : goal.returns-in-len6-clause-value
returns-in-len6-clause-value c =
    c.pixel_of.ensures.value ∙ ((λ i. pixel_by (c.hex_byte-red.ensures.value i) (c.hex_byte-green.ensures.value i) (c.hex_byte-blue.ensures.value i) (Ok 255)) ∙ six c.args.field.now (omega (arith, c.in-len6.len_at_least, c.in-len6.len_below)))

pub returns-in_default-clause-value : goal.returns-in_default-clause-value
returns-in_default-clause-value c = elim c.in_default.branch [
  | in_default-via-then-field-lt6 w ↦
      let other : (length c.args.field.now == 6) ≡ false = grind (arith, nat_tests, common_steps, w) in
      sym (not_six c.args.field.now other)
  | in_default-via-else-field-lt6+else-field-lt7 w ↦
      let other : (length c.args.field.now == 6) ≡ false = grind (arith, nat_tests, common_steps, w) in
      sym (not_six c.args.field.now other)
]
