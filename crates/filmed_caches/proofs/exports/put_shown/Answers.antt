use Rattle.std.proofs.Common.{sym, ap, ◌∙◌}
use Rattle.std.specs.Option.{option_copied}
use Rattle.std.proofs.lemmas.Result.{on_ok_weaker}
use Rattle.filmed_caches.proofs.CacheFrames.{put_again, tile_inside}
use Rattle.filmed_caches.proofs.exports.put_shown.Goals as goal

pub plies_in-requires : goal.plies_in-requires
plies_in-requires c = tile_inside c.args.scenery.now.canvas c.args.key c.in-Some.other.now c.requires.key (c.requires.before c.in-Some.other.now (ap option_copied c.in-Some.is)).sides

pub put_of-requires-clause-there : goal.put_of-requires-clause-there
put_of-requires-clause-there c = tile_inside c.args.scenery.now.canvas c.args.key c.in-Some.other.now c.requires.key (c.requires.before c.in-Some.other.now (ap option_copied c.in-Some.is)).sides

pub returns : goal.returns
returns c = on_ok_weaker c.put_of.result
    (put_again c.args.scenery.now.caches.now c.args.scenery.now.canvas c.args.before.now.laid.now c.args.key c.args.frame.now c.put_of.new.self c.in-Some.other.now (c.requires.before c.in-Some.other.now (ap option_copied c.in-Some.is)) (sym c.has.ensures ∙ c.if-has.false))
    c.put_of.ensures.ok
