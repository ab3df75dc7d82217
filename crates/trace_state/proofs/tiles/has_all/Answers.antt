use Rattle.std.proofs.Common.{sym, ◌∙◌}
use Rattle.std.specs.FinSet as set
use Rattle.geom_core.specs.Grid.{keys_of}
use Rattle.trace_state.proofs.Passes.{all_passed, all_failed}
use Rattle.trace_state.proofs.tiles.has_all.Goals as goal

pub returns-then-not-has : goal.returns-then-not-has
returns-then-not-has c = all_failed (set.contains c.args.keys.now) (keys_of c.args.rect.now) c.loop-i.i c.tile_at.result c.tile_at.ensures.value (sym c.has.ensures ∙ c.if-not-has.true) c.loop-i.invariant

pub loop-i-preserved : goal.loop-i-preserved
loop-i-preserved c = all_passed (set.contains c.args.keys.now) (keys_of c.args.rect.now) c.loop-i.i c.tile_at.result c.tile_at.ensures.value (sym c.has.ensures ∙ c.if-not-has.false) c.loop-i.invariant
