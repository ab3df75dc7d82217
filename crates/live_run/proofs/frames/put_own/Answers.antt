use Rattle.std.proofs.Common.{subst}
use Rattle.std.proofs.lemmas.Result.{on_ok_weaker}
use Rattle.machine_model.specs.State.{State}
use Rattle.filmed_caches.proofs.CacheFrames.{tile_put, clear_put}
use Rattle.desk_events.specs.Shown.{IsRootTile, RootIsClear}
use Rattle.live_run.proofs.frames.put_own.Goals as goal

pub returns-in-Some : goal.returns-in-Some
returns-in-Some c = on_ok_weaker c.put.result (tile_put c.args.desk.now.caches c.args.key c.in-Some.tile.now c.args.frame.now c.put.new.self (subst (λ (s : State). IsRootTile s c.args.key c.in-Some.tile.now) c.deref.ensures c.in-Some.ensures.some)) c.put.ensures.ok

pub returns-in-None : goal.returns-in-None
returns-in-None c = clear_put c.args.desk.now.caches c.args.key c.args.frame.now (subst (λ (s : State). RootIsClear s c.args.key) c.deref.ensures c.in-None.ensures.none)
