use Rattle.std.proofs.Common.{sym, ◌∙◌}
use Rattle.geom_core.specs.Grid.{same_key, keys_of}
use Rattle.filmed_caches.proofs.KeyLists.{key_test}
use Rattle.filmed_caches.proofs.Passes.{any_at, any_passed}
use Rattle.slot_work.proofs.walking.is_tile_of.Goals as goal

pub returns-then-eq-clause-value : goal.returns-then-eq-clause-value
returns-then-eq-clause-value c = sym (any_at (same_key c.args.key) (keys_of c.args.rect.now) c.loop-i.i c.tile_at.result c.tile_at.ensures.value (key_test c.args.key c.tile_at.result ∙ sym c.eq.ensures ∙ c.if-eq.true))

pub loop-i-preserved : goal.loop-i-preserved
loop-i-preserved c = any_passed (same_key c.args.key) (keys_of c.args.rect.now) c.loop-i.i c.tile_at.result c.tile_at.ensures.value (key_test c.args.key c.tile_at.result ∙ sym c.eq.ensures ∙ c.if-eq.false) c.loop-i.invariant
