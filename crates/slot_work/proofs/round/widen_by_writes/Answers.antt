use Rattle.std.proofs.Common.{◌∙◌, subst}
use Rattle.geom_core.specs.Rects.{any_holds}
use Rattle.slot_work.specs.Round.{Widens}
use Rattle.slot_work.proofs.round.widen_by_writes.Goals as goal

pub returns : goal.returns
returns c = subst (λ rects. Widens c.args.bounds.now (any_holds rects) c.args.so_far c.widen_by_all.result) (c.as_slice.ensures.value ∙ c.writes-writes.ensures) c.widen_by_all.ensures
