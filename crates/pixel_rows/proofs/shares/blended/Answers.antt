use Rattle.std.proofs.Common.{◌∙◌, arith}
use Rattle.pixel_rows.proofs.Weights.{blended_is}
use Rattle.pixel_rows.proofs.shares.blended.Goals as goal

pub returns : goal.returns
returns c = λ op o ex ey ez.
    c.new.ensures ∙ blended_is op c.args.s c.args.d _ _ _ _ c.args.r c.args.g c.args.b o (let h = c.bytes.ensures.known.a in omega (arith, h)) (let h = c.bytes-2.ensures.known.a in omega (arith, h)) ex ey ez
    (rw (c.new-shares.ensures.source, c.new-shares.ensures.backdrop, c.new-shares.ensures.both, c.bytes.ensures.value, c.bytes-2.ensures.value) at c.mixed-r.ensures)
    (rw (c.new-shares.ensures.source, c.new-shares.ensures.backdrop, c.new-shares.ensures.both, c.bytes.ensures.value, c.bytes-2.ensures.value) at c.mixed-g.ensures)
    (rw (c.new-shares.ensures.source, c.new-shares.ensures.backdrop, c.new-shares.ensures.both, c.bytes.ensures.value, c.bytes-2.ensures.value) at c.mixed-b.ensures)
    (rw (c.new-shares.ensures.cover, c.bytes.ensures.value, c.bytes-2.ensures.value) at c.nearest_255th-a.ensures)
