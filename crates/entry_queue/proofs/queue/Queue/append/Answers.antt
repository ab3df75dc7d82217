use Rattle.std.proofs.Common.{◌≡◌, ◌+◌, ◌≤◌, suc, length, [], ◌∷◌, ◌++◌, ap, ◌∙◌, arith}
use Rattle.std.specs.Prelude.{vec_len, vec_capacity}
use Rattle.std.specs.Ordering.{nat_cmp}
use Rattle.std.specs.BTreeMap as tree
use Rattle.slab.specs.Slab.{get}
use Rattle.entry_queue.specs.declared.entry.Entry.TheVariants.{Other}
use Rattle.entry_queue.specs.Pushed.{Pending}
use Rattle.entry_queue.proofs.Indexed.{IsPushed, all_stay, entries_more, indexed_more, length_key, slots_same}
use Rattle.entry_queue.proofs.queue.Queue.append.Goals as goal

pub invariant_of-self-2 : goal.invariant_of-self-2
invariant_of-self-2 c =
    let pushed : IsPushed (get c.self.inside.entries) (get c.take_room.new.entries) (get c.add_last.new.entries) c.self.inside.keys.items c.take_room.new.keys.items c.add_last.new.keys.items c.take_room.new.entries.vacant_key (Other c.args.command) = record { slots_are = slots_same c.take_room.new.entries c.self.inside.entries c.take_room.ensures.entries; keys_are = c.take_room.ensures.keys; keys_then = c.add_last.ensures.keys; free = c.add_last.ensures.vacant; now = c.add_last.ensures.entries.changed; others = c.add_last.ensures.entries.others } in
    let longer : length c.add_last.new.keys.items ≡ suc (length c.take_room.new.keys.items) = ap length c.add_last.ensures.keys ∙ length_key _ _ in
    let room : vec_len c.take_room.new.outcomes + length c.take_room.new.keys.items + 1 ≤ vec_capacity c.take_room.new.outcomes = c.in_ok-take_room.ensures.one_outcome in (
      indexed_more _ _ _ (tree.get nat_cmp c.self.inside.waiting.keys) (tree.get nat_cmp c.self.inside.waiting.keys) _ _ _ _ _ c.self.invariant.0 pushed (λ s e. cc) (all_stay _ _ _),
      omega arith,
    )

pub returns-clause-ok : goal.returns-clause-ok
returns-clause-ok c =
    let pushed : IsPushed (get c.self.inside.entries) (get c.take_room.new.entries) (get c.add_last.new.entries) c.self.inside.keys.items c.take_room.new.keys.items c.add_last.new.keys.items c.take_room.new.entries.vacant_key (Other c.args.command) = record { slots_are = slots_same c.take_room.new.entries c.self.inside.entries c.take_room.ensures.entries; keys_are = c.take_room.ensures.keys; keys_then = c.add_last.ensures.keys; free = c.add_last.ensures.vacant; now = c.add_last.ensures.entries.changed; others = c.add_last.ensures.entries.others } in
    λ i. record {
      left = (entries_more _ _ _ (tree.get nat_cmp c.self.inside.waiting.keys) _ _ _ _ _ c.self.invariant.0 pushed ∙ ap (λ (q : Pending). q.left ++ Other c.args.command ∷ []) c.self.view_is) i;
      outcomes = (c.take_room.ensures.outcomes ∙ ap (λ (q : Pending). q.outcomes) c.self.view_is) i;
    }
