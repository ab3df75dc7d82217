use Rattle.std.proofs.Common.{◌≡◌, ◌+◌, ◌≤◌, Some, false, suc, length, [], ◌∷◌, ◌++◌, sym, ap, ◌∙◌, subst, arith}
use Rattle.std.specs.Prelude.{vec_len, vec_capacity}
use Rattle.std.specs.List.{list_any}
use Rattle.std.specs.Ordering.{nat_cmp}
use Rattle.std.specs.BTreeMap as tree
use Rattle.slab.specs.Slab.{get}
use Rattle.stroke_core.specs.Fed.{Fed}
use Rattle.entry_queue.specs.declared.entry.Entry.TheVariants.{Waiting}
use Rattle.entry_queue.specs.Pushed.{Pending, is_numbered}
use Rattle.entry_queue.proofs.Indexed.{IsPushed, at_other, entries_more, indexed_more, length_key, not_numbered, others_stay, slots_same}
use Rattle.entry_queue.proofs.queue.Queue.open.Goals as goal

pub invariant_of-self-2 : goal.invariant_of-self-2
invariant_of-self-2 c =
    let pushed : IsPushed (get c.self.inside.entries) (get c.take_room.new.entries) (get c.add_last.new.entries) c.self.inside.keys.items c.take_room.new.keys.items c.add_last.new.keys.items c.take_room.new.entries.vacant_key (Waiting c.new-stroke.result) = record { slots_are = slots_same c.take_room.new.entries c.self.inside.entries c.take_room.ensures.entries; keys_are = c.take_room.ensures.keys; keys_then = c.add_last.ensures.keys; free = c.add_last.ensures.vacant; now = c.add_last.ensures.entries.changed; others = c.add_last.ensures.entries.others } in
    let longer : length c.add_last.new.keys.items ≡ suc (length c.take_room.new.keys.items) = ap length c.add_last.ensures.keys ∙ length_key _ _ in
    let room : vec_len c.take_room.new.outcomes + length c.take_room.new.keys.items + 1 ≤ vec_capacity c.take_room.new.outcomes = c.in_ok-take_room.ensures.one_outcome in
    let new_number : list_any (is_numbered c.args.no) (Rattle.entry_queue.specs.Keys.entries_at (get c.self.inside.entries) c.self.inside.keys.items) ≡ false = subst (λ (q : Pending). list_any (is_numbered c.args.no) q.left ≡ false) (sym c.self.view_is) c.requires in (
      indexed_more _ _ _ (tree.get nat_cmp c.self.inside.waiting.keys) (tree.get nat_cmp c.insert.new.self.keys) _ _ _ _ _ c.self.invariant.0 pushed
          (λ s e. let same : c.new-stroke.result ≡ s = cc in ap (tree.get nat_cmp c.insert.new.self.keys) (ap (λ (f : Fed). f.no) (sym same ∙ c.new-stroke.ensures.value)) ∙ c.in_ok-insert.ensures.updates.1 ∙ ap Some c.vacant_key.ensures.value)
          (others_stay (get c.self.inside.entries) (tree.get nat_cmp c.self.inside.waiting.keys) (tree.get nat_cmp c.insert.new.self.keys) c.self.inside.keys.items c.args.no (not_numbered (get c.self.inside.entries) c.self.inside.keys.items c.args.no new_number) (λ m apart. c.in_ok-insert.ensures.updates.2 m (at_other c.args.no m apart))),
      omega arith,
    )

pub returns-clause-ok : goal.returns-clause-ok
returns-clause-ok c =
    let pushed : IsPushed (get c.self.inside.entries) (get c.take_room.new.entries) (get c.add_last.new.entries) c.self.inside.keys.items c.take_room.new.keys.items c.add_last.new.keys.items c.take_room.new.entries.vacant_key (Waiting c.new-stroke.result) = record { slots_are = slots_same c.take_room.new.entries c.self.inside.entries c.take_room.ensures.entries; keys_are = c.take_room.ensures.keys; keys_then = c.add_last.ensures.keys; free = c.add_last.ensures.vacant; now = c.add_last.ensures.entries.changed; others = c.add_last.ensures.entries.others } in
    λ i. record {
      left = (entries_more _ _ _ (tree.get nat_cmp c.self.inside.waiting.keys) _ _ _ _ _ c.self.invariant.0 pushed ∙ ap (λ (q : Pending). q.left ++ Waiting c.new-stroke.result ∷ []) c.self.view_is ∙ ap (λ s. c.args.self.now.left ++ Waiting s ∷ []) c.new-stroke.ensures.value) i;
      outcomes = (c.take_room.ensures.outcomes ∙ ap (λ (q : Pending). q.outcomes) c.self.view_is) i;
    }
