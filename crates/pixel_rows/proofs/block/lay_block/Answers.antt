use Rattle.std.proofs.Common.{◌∙◌, sym}
use Rattle.pixel_rows.proofs.Blocks.{unseen_block, hiding_block}
use Rattle.pixel_rows.proofs.block.lay_block.Goals as goal

pub returns-then-above-eq0 : goal.returns-then-above-eq0
returns-then-above-eq0 c =
    unseen_block c.args.op c.args.sources.now c.args.row.now _ _ (c.requires.row ∙ sym c.requires.sources) c.if-above-eq0.true c.alphas_of_block-above.ensures c.tell_canonical.ensures

pub returns-in-Over : goal.returns-in-Over
returns-in-Over c =
    rw (c.in-Over.is, c.copy_from_slice.ensures.after)
    (hiding_block c.args.sources.now c.args.row.now _ _ (c.requires.row ∙ sym c.requires.sources) c.if-above.true c.alphas_of_block-above.ensures c.tell_canonical.ensures)
