use Rattle.std.proofs.Common.{drop, arith}
use Rattle.std.proofs.lemmas.List.{drop_all}
use Rattle.filmed_caches.proofs.PliesAdded.{all_added, none_added, stage_passed}
use Rattle.filmed_caches.proofs.plies.plies_of.Goals as goal

pub loop-stage-init : goal.loop-stage-init
loop-stage-init c = none_added c.args.store.now.present c.args.key c.args.stages.now c.new-plies.result.items c.requires.limits c.requires.stages c.new-plies.ensures.items

pub returns : goal.returns
returns c = all_added c.args.store.now.present c.args.key (drop c.loop-stage.stage-index c.args.stages.now) c.loop-stage.plies.items (drop_all c.loop-stage.stage-index c.args.stages.now (omega arith)) c.loop-stage.invariant

pub add_stage-requires : goal.add_stage-requires
add_stage-requires c = c.loop-stage.invariant.clean

pub loop-stage-preserved : goal.loop-stage-preserved
loop-stage-preserved c = stage_passed c.args.store.now.present c.args.key c.args.stages.now c.loop-stage.stage-index _ c.loop-stage.plies.items c.add_stage.new.plies.items (omega arith) c.loop-stage.invariant c.in_ok-add_stage.ensures
