use Rattle.std.proofs.Common.{◌∙◌, arith}
use Rattle.pixel_rows.proofs.Weights.{over_opaque_is}
use Rattle.pixel_rows.proofs.mixing.over_opaque.Goals as goal

pub returns : goal.returns
returns c =
    c.new.ensures ∙ over_opaque_is c.args.s c.args.d _ _ _ (let h = c.bytes.ensures.known.a in omega (arith, h)) c.requires
    (rw (c.bytes.ensures.value, c.bytes-2.ensures.value) at c.mixed_whole-r.ensures)
    (rw (c.bytes.ensures.value, c.bytes-2.ensures.value) at c.mixed_whole-g.ensures)
    (rw (c.bytes.ensures.value, c.bytes-2.ensures.value) at c.mixed_whole-b.ensures)
