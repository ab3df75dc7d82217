use Rattle.std.proofs.Common.{refl}
use Rattle.std.proofs.lemmas.Result.{on_ok_weaker}
use Rattle.group_caches.specs.Laying.{LaysPoints}
use Rattle.group_caches.proofs.Layers.{block_given, nothing_given, none_under}
use Rattle.group_caches.proofs.painting.lay_part.Goals as goal

pub returns-then-is_none-clause-ok : goal.returns-then-is_none-clause-ok
returns-then-is_none-clause-ok c = nothing_given c.args.part.now c.args.key c.args.given.now c.args.device.now c.requires.clear (c.if-is_clear.ensures.0 refl) (none_under c.tile.result c.args.device.now c.args.key c.tile.ensures c.if-is_none.ensures)

pub returns-clause-ok : goal.returns-clause-ok
returns-clause-ok c = on_ok_weaker c.lay_block.result
    (λ (lays : LaysPoints c.args.device.now c.lay_block.new.device c.from_pixels-block.result). block_given c.args.part.now c.args.key c.args.given.now c.in_ok-pixels.pixels.items c.from_pixels-block.result c.args.device.now c.lay_block.new.device c.from_pixels-block.ensures c.requires.inside c.in_ok-pixels.ensures.has lays)
    c.lay_block.ensures.ok
