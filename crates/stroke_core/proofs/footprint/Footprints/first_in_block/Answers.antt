use Rattle.std.proofs.Common.{◌≡◌, ◌+◌, ◌-◌, ◌*◌, length, arith}
use Rattle.std.specs.Prelude.{min}
use Rattle.std.proofs.lemmas.Grind.{common_steps}
use Rattle.stroke_core.specs.Marks.{marks_clash}
use Rattle.stroke_core.proofs.Blocks.{whole_block}
use Rattle.stroke_core.proofs.footprint.Footprints.first_in_block.Goals as goal

pub returns : goal.returns
returns c =
    let few : c.min.result ≡ min 64 (length c.args.self.now - 64 * c.args.i) = grind (arith, common_steps) in
    whole_block (λ f. marks_clash f c.args.new.now) c.args.self.now c.args.i (c.args.i * 64) (c.args.i * 64 + c.min.result) c.min.result c.first_within.result (omega arith) (omega arith) few c.first_within.ensures
