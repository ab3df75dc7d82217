use Rattle.std.proofs.Common.{◌≡◌, ◌+◌, ◌-◌, ◌*◌, ◌<◌, Some, length, refl, arith}
use Rattle.std.specs.Prelude.{slice_get}
use Rattle.std.proofs.lemmas.Grind.{common_steps}
use Rattle.std.proofs.lemmas.Option.{slice_get_read}
use Rattle.stroke_core.proofs.Blocks.{blocks_more, blocks_wider, widened}
use Rattle.stroke_core.proofs.footprint.add_to_blocks.Goals as goal

pub returns-then-len-eq0 : goal.returns-then-len-eq0
returns-then-len-eq0 c = λ u marks m same h r.
    let full : length marks ≡ 64 * length c.args.blocks.now.items = omega (arith, same, c.if-len-eq0.true, h.enough, h.needed) in
    rw c.push_reserved.ensures (blocks_more u marks c.args.blocks.now.items m c.args.bound h full r)

pub returns : goal.returns
returns c = λ u marks m same h r.
    let room : length marks < 64 * length c.args.blocks.now.items = omega (arith, same, c.if-len-eq0.false, h.enough, h.needed) in
    let end : c.len-last.result - 1 + 1 ≡ length c.args.blocks.now.items = grind (arith, common_steps) in
    let at_last : slice_get c.args.blocks.now.items (c.len-last.result - 1) ≡ Some c.index.result.now = slice_get_read c.args.blocks.now.items (length c.args.blocks.now.items) (c.len-last.result - 1) c.index.result.now refl (omega arith) (grind (arith, common_steps)) in
    blocks_wider u marks c.args.blocks.now.items m (c.len-last.result - 1) c.index.result.now c.joined.result h end at_last room c.joined.ensures.kept (λ t. widened c.args.bound c.joined.result m c.joined.ensures.more (r t))
