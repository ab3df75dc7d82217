use Rattle.std.proofs.Common.{◌^◌, subst, arith}
use Rattle.std.proofs.lemmas.Result.{on_ok_weaker}
use Rattle.machine_model.specs.State.{State}
use Rattle.desk_events.specs.Shown.{IsRootTile, RootIsClear}
use Rattle.live_run.proofs.Owing.{put_total, put_none}
use Rattle.live_run.proofs.RootTiles.{put_more, clear_shown}
use Rattle.live_run.proofs.screen.put_tile.Goals as goal

pub returns-in-Some-clause-few : goal.returns-in-Some-clause-few
returns-in-Some-clause-few g c = put_total c.put.result c.args.live.now c.put.new.self (record { key = c.args.key; tile = c.in-Some.tile.now }) (2 ^ 62) c.put.ensures.published c.put.ensures.ok c.put.ensures.err (omega arith)

pub returns-in-Some-clause-ok : goal.returns-in-Some-clause-ok
returns-in-Some-clause-ok g c = on_ok_weaker c.put.result (put_more c.args.live.now c.put.new.self c.args.desk.now c.args.key c.in-Some.tile.now c.put.ensures.published (subst (λ (s : State). IsRootTile s c.args.key c.in-Some.tile.now) c.deref.ensures c.in-Some.ensures.some)) c.put.ensures.ok

pub returns-in-Some-clause-err : goal.returns-in-Some-clause-err
returns-in-Some-clause-err g c = put_none c.put.result c.args.live.now c.put.new.self c.put.ensures.published c.put.ensures.err

pub returns-in-None-clause-few : goal.returns-in-None-clause-few
returns-in-None-clause-few g c = put_total c.put-in-None.result c.args.live.now c.put-in-None.new.self (record { key = c.args.key; tile = c.args.blank.now }) (2 ^ 62) c.put-in-None.ensures.published c.put-in-None.ensures.ok c.put-in-None.ensures.err (omega arith)

pub returns-in-None-clause-ok : goal.returns-in-None-clause-ok
returns-in-None-clause-ok g c =
    on_ok_weaker c.put-in-None.result (put_more c.args.live.now c.put-in-None.new.self c.args.desk.now c.args.key c.args.blank.now c.put-in-None.ensures.published (clear_shown c.args.desk.now c.args.key c.args.blank.now 4096 c.requires.blank (subst (λ (s : State). RootIsClear s c.args.key) c.deref.ensures c.in-None.ensures.none))) c.put-in-None.ensures.ok

pub returns-in-None-clause-err : goal.returns-in-None-clause-err
returns-in-None-clause-err g c = put_none c.put-in-None.result c.args.live.now c.put-in-None.new.self c.put-in-None.ensures.published c.put-in-None.ensures.err
