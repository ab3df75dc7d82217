use Rattle.std.proofs.Common.{take}
use Rattle.geom_core.specs.Areas.{Area}
use Rattle.compose_core.specs.Piles.{IsPile}
use Rattle.walker_core.specs.Lower.{LaysSources}
use Rattle.walker_core.proofs.row.lay_sources.Given as goal

-- the children so far are laid
abbrev pub invariant-loop-source : goal.invariant-loop-source
invariant-loop-source l = (IsPile l.pile) × ((rect : Area) → LaysSources rect l.key l.below l.group (take l.source-index l.sources) l.initial.pile l.pile)
