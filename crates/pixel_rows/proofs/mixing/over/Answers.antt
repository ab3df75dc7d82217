use Rattle.std.proofs.Common.{◌∙◌, arith}
use Rattle.pixel_rows.proofs.Weights.{over_is}
use Rattle.pixel_rows.proofs.mixing.over.Goals as goal

pub returns : goal.returns
returns c =
    c.new.ensures ∙ over_is c.args.s c.args.d _ _ _ _ (let h = c.bytes.ensures.known.a in omega (arith, h)) (let h = c.bytes-2.ensures.known.a in omega (arith, h))
    (rw (c.new-parts.ensures.source, c.new-parts.ensures.backdrop, c.bytes.ensures.value, c.bytes-2.ensures.value) at c.mixed-r.ensures)
    (rw (c.new-parts.ensures.source, c.new-parts.ensures.backdrop, c.bytes.ensures.value, c.bytes-2.ensures.value) at c.mixed-g.ensures)
    (rw (c.new-parts.ensures.source, c.new-parts.ensures.backdrop, c.bytes.ensures.value, c.bytes-2.ensures.value) at c.mixed-b.ensures)
    (rw (c.new-parts.ensures.cover, c.bytes.ensures.value, c.bytes-2.ensures.value) at c.nearest_255th-a.ensures)
