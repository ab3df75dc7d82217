use Rattle.std.proofs.Common.{◌∙◌, ap}
use Rattle.std.specs.List.{list_any}
use Rattle.geom_core.specs.Areas.{Area, meets}
use Rattle.geom_core.specs.Grid.{tile}
use Rattle.slot_work.proofs.painting.meets_writes.Goals as goal

pub returns : goal.returns
returns c = c.some_meets.ensures ∙ ap (λ rects. list_any (λ (r : Area). meets r (tile c.args.key)) rects) (c.as_slice.ensures.value ∙ c.writes-writes.ensures)
