use Rattle.std.proofs.Common.{◌≡◌, Some, sym, ◌∙◌, subst, arith}
use Rattle.std.specs.Prelude.{slice_get}
use borrow.Author.Count.{below_more}
use Rattle.geom_core.proofs.Tests.{never}
use Rattle.whole_tiles.specs.Wholes.{Entire}
use Rattle.machine_model.specs.State.{State}
use Rattle.desk_events.specs.AtWork.{HasPublished}
use Rattle.host_pieces.proofs.KeptTiles.{all_published, lacks_at, published_at}
use Rattle.host_pieces.proofs.giving.first_lacking.Goals as goal

pub loop-i-preserved : goal.loop-i-preserved
loop-i-preserved c =
    below_more (λ k. (x : Entire) → slice_get c.args.tiles.now k ≡ Some x → HasPublished c.args.desk.now c.args.slot.place c.args.slot.serial x.key) c.loop-i.i c.loop-i.invariant
    (published_at c.args.desk.now c.args.slot.place c.args.slot.serial c.args.tiles.now c.loop-i.i c.index-tiles-i.result c.key.result c.index-tiles-i.is c.key.ensures.value (subst (λ (s : State). HasPublished s c.args.slot.place c.args.slot.serial c.key.result) c.deref.ensures (c.has_published.ensures.0 c.if-not-has_published.false)))

pub returns-then-not-has_published : goal.returns-then-not-has_published
returns-then-not-has_published c = record {
  few = omega arith;
  published = λ k x h at. c.loop-i.invariant k h x at;
  next = lacks_at c.args.desk.now c.args.slot.place c.args.slot.serial c.args.tiles.now c.loop-i.i c.index-tiles-i.result c.key.result c.index-tiles-i.is c.key.ensures.value
      (λ h. never (sym c.if-not-has_published.true ∙ c.has_published.ensures.1 (subst (λ (s : State). HasPublished s c.args.slot.place c.args.slot.serial c.key.result) (sym c.deref.ensures) h)));
}

pub returns : goal.returns
returns c = all_published c.args.desk.now c.args.slot c.args.tiles.now c.loop-i.i c.loop-i-test.false c.loop-i.invariant
