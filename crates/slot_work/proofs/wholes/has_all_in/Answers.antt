use Rattle.std.proofs.Common.{sym, ◌∙◌}
use Rattle.std.specs.FinSet as set
use Rattle.geom_core.specs.Grid.{keys_of}
use Rattle.slot_work.specs.Lacking.{is_seen}
use Rattle.filmed_caches.proofs.Passes.{all_passed, all_failed}
use Rattle.slot_work.proofs.wholes.has_all_in.Goals as goal

pub returns-then-not-is_there : goal.returns-then-not-is_there
returns-then-not-is_there c = sym (all_failed (is_seen c.args.painter.now.published (set.from_list c.args.keys.now.keys)) (keys_of c.args.rect.now) c.loop-i.i c.tile_at.result c.tile_at.ensures.value (sym c.is_there.ensures ∙ c.if-not-is_there.true) c.loop-i.invariant)

pub loop-i-preserved : goal.loop-i-preserved
loop-i-preserved c = all_passed (is_seen c.args.painter.now.published (set.from_list c.args.keys.now.keys)) (keys_of c.args.rect.now) c.loop-i.i c.tile_at.result c.tile_at.ensures.value (sym c.is_there.ensures ∙ c.if-not-is_there.false) c.loop-i.invariant
