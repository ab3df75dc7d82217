use Rattle.std.proofs.Common.{◌≡◌, ◌+◌, refl, arith, sym, subst, take, cond, None, List}
use Rattle.std.specs.List.{list_any}
use Rattle.geom_core.specs.Grid.{Key, keys_of, same_key}
use Rattle.frame_core.specs.Damage.{part_at}
use Rattle.walker_core.specs.declared.known.Damaged.{Damaged}
use Rattle.walker_core.specs.Knowing.{stale_in}
use Rattle.desk_core.proofs.Shots.{part_more, part_none, stale_whole}
use Rattle.desk_core.proofs.known.damaged_on.Goals as goal
use Rattle.desk_core.proofs.known.damaged_on.Goals.{in-Some+in_ok-push, in_default}

pub loop-i-preserved : goal.loop-i-preserved
loop-i-preserved c = elim c.match-part.branch [
  | in-Some+in_ok-push w ↦ subst (λ (ds : List Damaged). (k : Key) → stale_in ds k ≡ cond (list_any (same_key k) (take (c.loop-i.i + 1) (keys_of c.args.rect.now))) (part_at c.args.damage.now k) None) (λ i. (sym w.parts-is i).items)
      (part_more c.args.damage.now (keys_of c.args.rect.now) c.loop-i.i c.tile_at-key.result w.in-Some.part c.loop-i.parts.items w.push.new.self.items _ c.tile_at-key.ensures.value w.in-Some.ensures.value refl w.in_ok-push.ensures.items c.loop-i.invariant)
  | in_default w ↦ subst (λ (ds : List Damaged). (k : Key) → stale_in ds k ≡ cond (list_any (same_key k) (take (c.loop-i.i + 1) (keys_of c.args.rect.now))) (part_at c.args.damage.now k) None) (λ i. (sym w.parts-is i).items)
      (part_none c.args.damage.now (keys_of c.args.rect.now) c.loop-i.i c.tile_at-key.result c.loop-i.parts.items c.tile_at-key.ensures.value w.in_default.ensures.value c.loop-i.invariant)
]

pub returns : goal.returns
returns c = λ p h. stale_whole c.args.damage.now c.args.rect.now c.loop-i.i c.loop-i.parts.items p (omega (arith, c.tile_count-i-end.ensures.value)) c.loop-i.invariant h
