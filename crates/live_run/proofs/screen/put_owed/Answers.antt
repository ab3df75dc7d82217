use Rattle.std.proofs.Common.{arith, refl, get_or, ◌∙◌}
use Rattle.std.proofs.lemmas.Option.{slice_get-get_or}
use Rattle.live_view.specs.Views.{all_updates}
use Rattle.live_run.proofs.Owing.{lays_none, lays_more, lays_all}
use Rattle.live_run.proofs.screen.put_owed.Goals as goal

pub loop-i-init : goal.loop-i-init
loop-i-init g c = (c.requires.few, refl, lays_none (all_updates c.args.live.now) c.args.desk.now c.args.owed.now)

pub loop-i-preserved : goal.loop-i-preserved
loop-i-preserved g c = (
  c.put_tile.ensures.few,
  c.put_tile.ensures.published ∙ c.loop-i.invariant.1,
  lays_more (all_updates c.args.live.now) (all_updates c.loop-i.live) (all_updates c.put_tile.new.live) c.args.desk.now c.args.owed.now c.loop-i.i
      (get_or c.args.owed.now c.loop-i.i _) (slice_get-get_or c.args.owed.now c.loop-i.i _ (omega arith)) c.in_ok-put_tile.ensures.ok c.loop-i.invariant.2,
)

pub returns-clause-laid : goal.returns-clause-laid
returns-clause-laid g c = lays_all (all_updates c.args.live.now) (all_updates c.loop-i.live) c.args.desk.now c.args.owed.now c.loop-i.i (omega arith) c.loop-i.invariant.2
