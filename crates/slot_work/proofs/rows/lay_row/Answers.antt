use Rattle.std.proofs.Common.{◌≡◌, true, sym, subst}
use Rattle.std.specs.List.{list_all}
use Rattle.walker_core.specs.Readings.{path_in}
use Rattle.walker_core.specs.Composing.{has_pair}
use Rattle.desk_steps.proofs.Devices.{more_ok, more_err}
use Rattle.slot_work.specs.LaidTiles.{Lays, LaysFront, LaysSome, laid_as, pairs_at}
use Rattle.slot_work.proofs.PairsLaid.{same_lays, same_lays_front, same_lays_some}
use Rattle.slot_work.proofs.rows.lay_row.Goals as goal

pub lay_groups-requires-clause-composed : goal.lay_groups-requires-clause-composed
lay_groups-requires-clause-composed c = subst (λ gs. list_all (λ g. has_pair c.args.composed.now g c.args.key) gs ≡ true) (sym c.path.ensures) c.requires.of.all

pub returns-clause-front : goal.returns-clause-front
returns-clause-front c = same_lays_front c.args.inputs.now c.args.composed.now.readings c.args.key (path_in c.args.inputs.now) _ _ c.requires.of.same
    (subst (λ gs. LaysFront c.args.composed.now.readings (pairs_at gs c.args.key) (laid_as c.args.filmed.now.caches c.args.published.now) (laid_as c.lay_groups.new.filmed.caches c.lay_groups.new.published)) c.path.ensures c.lay_groups.ensures.front)

pub returns-clause-some : goal.returns-clause-some
returns-clause-some c = more_err c.lay_groups.result
    (λ some. same_lays_some c.args.inputs.now c.args.composed.now.readings c.args.key (path_in c.args.inputs.now) _ _ c.requires.of.same
    (subst (λ gs. LaysSome c.args.composed.now.readings (pairs_at gs c.args.key) (laid_as c.args.filmed.now.caches c.args.published.now) (laid_as c.lay_groups.new.filmed.caches c.lay_groups.new.published)) c.path.ensures some))
    c.lay_groups.ensures.some

pub returns-clause-all : goal.returns-clause-all
returns-clause-all c = more_ok c.lay_groups.result
    (λ all. same_lays c.args.inputs.now c.args.composed.now.readings c.args.key (path_in c.args.inputs.now) _ _ c.requires.of.same
    (subst (λ gs. Lays c.args.composed.now.readings (pairs_at gs c.args.key) (laid_as c.args.filmed.now.caches c.args.published.now) (laid_as c.lay_groups.new.filmed.caches c.lay_groups.new.published)) c.path.ensures all))
    c.lay_groups.ensures.all
