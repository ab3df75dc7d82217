use Rattle.std.proofs.Common.{◌≡◌, Some, None, true, map, IsSomeAnd, option_map, sym, ap, ◌∙◌, subst}
use Rattle.std.specs.List.{list_any}
use Rattle.std.specs.Ordering.{nat_cmp}
use Rattle.std.specs.BTreeMap as tree
use Rattle.slab.specs.Slab.{Updates, get}
use Rattle.entry_queue.specs.declared.entry.Entry.TheVariants.{Waiting}
use Rattle.entry_queue.specs.Pushed.{Pending, TakesJob, after_job, grown, has_room, with_job}
use Rattle.entry_queue.proofs.Indexed.{IsAt, find_room, held_at, indexed_grown, indexed_same, left_added, on_either, on_ok, room_of, updated}
use Rattle.entry_queue.proofs.queue.Queue.add.Goals as goal

pub unreachable-requires : goal.unreachable-requires
unreachable-requires c =
    let there : IsAt (get c.self.inside.entries) (tree.get nat_cmp c.self.inside.waiting.keys) c.args.no (has_room c.args.no) = find_room (get c.self.inside.entries) (tree.get nat_cmp c.self.inside.waiting.keys) c.self.inside.keys.items c.args.no c.self.invariant.0 (subst (λ (q : Pending). list_any (has_room c.args.no) q.left ≡ true) (sym c.self.view_is) c.requires.room) in
    let e : None ≡ Some there.key = c.in_default.ensures.value ∙ there.known in
    cc

pub feed-requires-clause-room : goal.feed-requires-clause-room
feed-requires-clause-room c =
    let there : IsAt (get c.self.inside.entries) (tree.get nat_cmp c.self.inside.waiting.keys) c.args.no (has_room c.args.no) = find_room (get c.self.inside.entries) (tree.get nat_cmp c.self.inside.waiting.keys) c.self.inside.keys.items c.args.no c.self.invariant.0 (subst (λ (q : Pending). list_any (has_room c.args.no) q.left ≡ true) (sym c.self.view_is) c.requires.room) in
    let held : get c.self.inside.entries c.in-Some.key ≡ Some (Waiting there.stroke) = held_at (get c.self.inside.entries) (tree.get nat_cmp c.self.inside.waiting.keys) c.args.no (has_room c.args.no) there c.in-Some.key (sym c.in-Some.ensures.value) in
    subst (λ o. IsSomeAnd o TakesJob) (sym held) (room_of c.args.no there.stroke there.passes)

pub invariant_of-self : goal.invariant_of-self
invariant_of-self c =
    let there : IsAt (get c.self.inside.entries) (tree.get nat_cmp c.self.inside.waiting.keys) c.args.no (has_room c.args.no) = find_room (get c.self.inside.entries) (tree.get nat_cmp c.self.inside.waiting.keys) c.self.inside.keys.items c.args.no c.self.invariant.0 (subst (λ (q : Pending). list_any (has_room c.args.no) q.left ≡ true) (sym c.self.view_is) c.requires.room) in
    let held : get c.self.inside.entries c.in-Some.key ≡ Some (Waiting there.stroke) = held_at (get c.self.inside.entries) (tree.get nat_cmp c.self.inside.waiting.keys) c.args.no (has_room c.args.no) there c.in-Some.key (sym c.in-Some.ensures.value) in (
      on_either c.feed.result _ _ _
          (λ more. indexed_grown (get c.self.inside.entries) (get c.feed.new.entries) (tree.get nat_cmp c.self.inside.waiting.keys) c.self.inside.keys.items c.in-Some.key (c.args.kind, c.args.job.now) there.stroke c.self.invariant.0 held (updated c.self.inside.entries c.feed.new.entries c.in-Some.key (Waiting (grown there.stroke (c.args.kind, c.args.job.now))) (subst (λ o. Updates c.self.inside.entries c.feed.new.entries c.in-Some.key (option_map (after_job (c.args.kind, c.args.job.now)) o)) held more)))
          (indexed_same (get c.self.inside.entries) (get c.feed.new.entries) (tree.get nat_cmp c.self.inside.waiting.keys) c.self.inside.keys.items c.self.invariant.0)
          c.feed.ensures.ok c.feed.ensures.err,
      c.self.invariant.1,
    )

pub returns-clause-ok : goal.returns-clause-ok
returns-clause-ok c =
    let there : IsAt (get c.self.inside.entries) (tree.get nat_cmp c.self.inside.waiting.keys) c.args.no (has_room c.args.no) = find_room (get c.self.inside.entries) (tree.get nat_cmp c.self.inside.waiting.keys) c.self.inside.keys.items c.args.no c.self.invariant.0 (subst (λ (q : Pending). list_any (has_room c.args.no) q.left ≡ true) (sym c.self.view_is) c.requires.room) in
    let held : get c.self.inside.entries c.in-Some.key ≡ Some (Waiting there.stroke) = held_at (get c.self.inside.entries) (tree.get nat_cmp c.self.inside.waiting.keys) c.args.no (has_room c.args.no) there c.in-Some.key (sym c.in-Some.ensures.value) in
    on_ok c.feed.result _ _ (λ more i. record {
      left = (left_added (get c.self.inside.entries) (get c.feed.new.entries) (tree.get nat_cmp c.self.inside.waiting.keys) c.self.inside.keys.items c.args.no c.in-Some.key (c.args.kind, c.args.job.now) there.stroke c.self.invariant.0 (sym c.in-Some.ensures.value) held there.number (updated c.self.inside.entries c.feed.new.entries c.in-Some.key (Waiting (grown there.stroke (c.args.kind, c.args.job.now))) (subst (λ o. Updates c.self.inside.entries c.feed.new.entries c.in-Some.key (option_map (after_job (c.args.kind, c.args.job.now)) o)) held more)) ∙ ap (λ (q : Pending). map (with_job c.args.no (c.args.kind, c.args.job.now)) q.left) c.self.view_is) i;
      outcomes = ap (λ (q : Pending). q.outcomes) c.self.view_is i;
    }) c.feed.ensures.ok
