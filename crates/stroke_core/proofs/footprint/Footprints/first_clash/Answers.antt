use Rattle.std.proofs.Common.{◌+◌, ◌*◌, Bool, arith, sym, ap, subst, ◌∙◌}
use Rattle.stroke_core.specs.Bounds.{AreBlocks}
use Rattle.stroke_core.specs.Marks.{Marks, marks_clash}
use Rattle.stroke_core.proofs.Blocks.{blocks_passed, none_passed}
use Rattle.stroke_core.proofs.FirstPlace.{block_none, block_some}
use Rattle.stroke_core.proofs.footprint.Footprints.first_clash.Goals as goal

pub loop-i-init : goal.loop-i-init
loop-i-init c =
    let blocks : AreBlocks c.args.new.now.unique c.args.self.now c.blocks_for-blocks.result.now = subst (λ (u : Bool). AreBlocks u c.args.self.now c.blocks_for-blocks.result.now) (ap (λ (m : Marks). m.unique) c.new.view_is) c.blocks_for-blocks.ensures in
    record {
      inside = c.next_near-i.ensures.inside;
      behind = blocks_passed c.args.self.now c.blocks_for-blocks.result.now c.args.new.now c.bound-bound.result 0 c.next_near-i.result blocks c.bound-bound.ensures c.next_near-i.ensures.later c.next_near-i.ensures.passed (none_passed (λ f. marks_clash f c.args.new.now) c.args.self.now);
    }

pub returns-then-is_some : goal.returns-then-is_some
returns-then-is_some c = block_some (λ f. marks_clash f c.args.new.now) c.args.self.now (64 * c.loop-i.i) 64 c.first_in_block-found.result c.loop-i.invariant.behind c.first_in_block-found.ensures (sym c.is_some.ensures ∙ c.if-is_some.true)

pub loop-i-preserved : goal.loop-i-preserved
loop-i-preserved c =
    let blocks : AreBlocks c.args.new.now.unique c.args.self.now c.blocks_for-blocks.result.now = subst (λ (u : Bool). AreBlocks u c.args.self.now c.blocks_for-blocks.result.now) (ap (λ (m : Marks). m.unique) c.new.view_is) c.blocks_for-blocks.ensures in
    record {
      inside = c.next_near-i-in-loop-i.ensures.inside;
      behind = blocks_passed c.args.self.now c.blocks_for-blocks.result.now c.args.new.now c.bound-bound.result (c.loop-i.i + 1) c.next_near-i-in-loop-i.result blocks c.bound-bound.ensures c.next_near-i-in-loop-i.ensures.later c.next_near-i-in-loop-i.ensures.passed
          (block_none (λ f. marks_clash f c.args.new.now) c.args.self.now (64 * c.loop-i.i) 64 (64 * (c.loop-i.i + 1)) c.first_in_block-found.result (omega arith) c.loop-i.invariant.behind c.first_in_block-found.ensures (sym c.is_some.ensures ∙ c.if-is_some.false));
    }
