use Rattle.std.proofs.Common.{◌∙◌, sym}
use Rattle.pixel_rows.proofs.Blocks.{first_block}
use Rattle.pixel_rows.proofs.block.lay_bounded.Goals as goal

pub returns-in_default : goal.returns-in_default
returns-in_default c =
    rw c.copy_from_slice.ensures.after (first_block c.args.op c.args.sources.now c.args.row.now _ _ (c.requires.row ∙ sym c.requires.sources) c.in_default.not-Erase c.if-below-eq0.true c.tell_canonical.ensures c.requires.below)
