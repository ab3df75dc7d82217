use Rattle.std.proofs.Common.{sym, ◌∙◌}
use Rattle.std.specs.List.{list_any}
use Rattle.geom_core.specs.Grid.{Key, same_key, keys_of}
use Rattle.filmed_caches.proofs.Passes.{all_passed, all_failed}
use Rattle.filmed_caches.proofs.KeyLists.{key_in}
use Rattle.slot_work.proofs.remaining.next_in.Goals as goal

pub returns-then-not-has_key-clause-some : goal.returns-then-not-has_key-clause-some
returns-then-not-has_key-clause-some c = (key_in (keys_of c.args.rect.now) c.loop-i.i c.tile_at-key.result c.tile_at-key.ensures.value, sym c.has_key.ensures ∙ c.if-not-has_key.true)

pub returns-then-not-has_key-clause-none : goal.returns-then-not-has_key-clause-none
returns-then-not-has_key-clause-none c = sym (all_failed (λ (k : Key). list_any (same_key k) c.args.painter.now.published) (keys_of c.args.rect.now) c.loop-i.i c.tile_at-key.result c.tile_at-key.ensures.value (sym c.has_key.ensures ∙ c.if-not-has_key.true) c.loop-i.invariant)

pub loop-i-preserved : goal.loop-i-preserved
loop-i-preserved c = all_passed (λ (k : Key). list_any (same_key k) c.args.painter.now.published) (keys_of c.args.rect.now) c.loop-i.i c.tile_at-key.result c.tile_at-key.ensures.value (sym c.has_key.ensures ∙ c.if-not-has_key.false) c.loop-i.invariant
