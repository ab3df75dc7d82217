use Rattle.std.proofs.Common.{◌≡◌, true, sym, subst}
use Rattle.std.specs.List.{list_all}
use Rattle.walker_core.specs.Composing.{has_pair}
use Rattle.slot_work.proofs.PairsLaid.{all_composed}
use Rattle.slot_work.proofs.own_work.compose_own.Goals as goal

-- the tile was composed of all groups of the walk
pub lay_groups-requires-clause-composed : goal.lay_groups-requires-clause-composed
lay_groups-requires-clause-composed c = subst (λ gs. list_all (λ g. has_pair c.in_ok-composed.composed g c.args.key) gs ≡ true) (sym c.path-path.ensures)
    (all_composed c.args.walker.now.inputs c.in_ok-composed.composed c.args.key c.in_ok-composed.ensures)
