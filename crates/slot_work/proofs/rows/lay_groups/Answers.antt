use Rattle.std.proofs.Common.{◌∙◌}
use Rattle.std.proofs.lemmas.Option.{slice_get-get_or}
use Rattle.desk_steps.proofs.Devices.{on_err}
use Rattle.slot_work.proofs.PairsLaid.{groups_next, groups_stop, groups_left}
use Rattle.slot_work.proofs.rows.lay_groups.Goals as goal

pub returns-in_err-lay_group-clause-front : goal.returns-in_err-lay_group-clause-front
returns-in_err-lay_group-clause-front c = groups_stop c.args.composed.now.readings c.args.path.now c.args.key c.loop-group.group-index _ _ _ c.loop-group.invariant.0 c.in_err-lay_group.ensures.err

pub returns-in_err-lay_group-clause-some : goal.returns-in_err-lay_group-clause-some
returns-in_err-lay_group-clause-some c = on_err c.from_residual.result
    (groups_left c.args.composed.now.readings c.args.path.now c.args.key c.loop-group.group-index _ _ _ _ (slice_get-get_or c.args.path.now c.loop-group.group-index _ c.loop-group-test.true) c.loop-group.invariant.0 c.in_err-lay_group.ensures.err c.in_err-lay_group.ensures.fresh)

pub loop-group-preserved : goal.loop-group-preserved
loop-group-preserved c = (
  groups_next c.args.composed.now.readings c.args.path.now c.args.key c.loop-group.group-index _ _ _ _ (slice_get-get_or c.args.path.now c.loop-group.group-index _ c.loop-group-test.true) c.loop-group.invariant.0 c.in_ok-lay_group.ensures.ok,
  c.in_ok-lay_group.ensures.frames ∙ c.loop-group.invariant.1,
)
