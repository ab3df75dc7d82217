use Rattle.std.proofs.Common.{◌∙◌, refl, arith}
use Rattle.group_caches.specs.Entries.{caches_of}
use Rattle.group_caches.proofs.Keeping.{entry_more, others_more, clear_more}
use Rattle.group_caches.proofs.caches.bring.Goals as goal

pub loop-group-preserved : goal.loop-group-preserved
loop-group-preserved c = record {
  entries = entry_more (caches_of c.args.from.now.items) (caches_of c.loop-group.from.items) c.args.groups.now c.loop-group.group-index _ c.loop-group.to.items c.push_reserved.new.self.items c.taken-place.result c.push_reserved.ensures.items (omega arith) refl c.requires.once c.taken-place.ensures.group c.taken-place.ensures.layer c.loop-group.invariant.others c.loop-group.invariant.entries;
  count = omega (arith, c.push_reserved.ensures.len, c.loop-group.invariant.count);
  others = others_more (caches_of c.args.from.now.items) (caches_of c.loop-group.from.items) (caches_of c.taken-place.new.places.items) c.args.groups.now c.loop-group.group-index _ (omega arith) refl c.taken-place.ensures.others c.loop-group.invariant.others;
  clear_from = c.taken-place.ensures.still;
  clear_to = clear_more c.loop-group.to.items c.push_reserved.new.self.items c.taken-place.result c.push_reserved.ensures.items c.loop-group.invariant.clear_to c.taken-place.ensures.clear;
  from_room = c.taken-place.ensures.room ∙ c.loop-group.invariant.from_room;
  to_room = c.push_reserved.ensures.capacity ∙ c.loop-group.invariant.to_room;
}
