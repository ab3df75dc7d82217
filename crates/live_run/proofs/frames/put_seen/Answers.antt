use Rattle.std.proofs.Common.{sym, ◌∙◌}
use Rattle.std.proofs.lemmas.Result.{on_ok_weaker}
use Rattle.filmed_caches.proofs.CacheFrames.{tile_put}
use Rattle.live_view.specs.Shown.{updates_of}
use Rattle.live_view.specs.Views.{published}
use Rattle.live_run.proofs.RootTiles.{seen_tile}
use Rattle.live_run.proofs.frames.put_seen.Goals as goal

pub returns-in-Some-Some-clause-ok : goal.returns-in-Some-Some-clause-ok
returns-in-Some-Some-clause-ok g c =
    on_ok_weaker c.put.result (tile_put c.args.desk.now.caches c.args.key c.in-Some-Some.tile c.args.frame.now c.put.new.self (seen_tile (updates_of (published c.args.live.now)) c.args.desk.now c.args.key c.in-Some-Some.tile c.requires.shows (sym c.in-Some-Some.field-0-is ∙ c.in-Some-Some.ensures.tile))) c.put.ensures.ok
