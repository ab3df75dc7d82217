use Rattle.std.proofs.Common.{◌≡◌, Some, None, true, map, sym, ap, ◌∙◌, subst}
use Rattle.std.specs.List.{list_any}
use Rattle.std.specs.Ordering.{nat_cmp}
use Rattle.std.specs.BTreeMap as tree
use Rattle.slab.specs.Slab.{get}
use Rattle.stroke_core.specs.Fed.{Fed}
use Rattle.entry_queue.specs.declared.entry.Entry.TheVariants.{Waiting, Whole}
use Rattle.entry_queue.specs.Pushed.{Pending, closed, is_waiting}
use Rattle.entry_queue.proofs.Indexed.{IsAt, IsReplaced, at_other, find_stroke, held_at, indexed_closed, left_closed, replaced}
use Rattle.entry_queue.proofs.queue.Queue.close.Goals as goal

pub unreachable-requires : goal.unreachable-requires
unreachable-requires c =
    let there : IsAt (get c.self.inside.entries) (tree.get nat_cmp c.self.inside.waiting.keys) c.args.no (is_waiting c.args.no) = find_stroke (get c.self.inside.entries) (tree.get nat_cmp c.self.inside.waiting.keys) c.self.inside.keys.items c.args.no c.self.invariant.0 (subst (λ (q : Pending). list_any (is_waiting c.args.no) q.left ≡ true) (sym c.self.view_is) c.requires) in
    let e : None ≡ Some there.key = c.in_default.ensures.value ∙ there.known in
    cc

pub take_waiting-stroke-requires : goal.take_waiting-stroke-requires
take_waiting-stroke-requires c =
    let there : IsAt (get c.self.inside.entries) (tree.get nat_cmp c.self.inside.waiting.keys) c.args.no (is_waiting c.args.no) = find_stroke (get c.self.inside.entries) (tree.get nat_cmp c.self.inside.waiting.keys) c.self.inside.keys.items c.args.no c.self.invariant.0 (subst (λ (q : Pending). list_any (is_waiting c.args.no) q.left ≡ true) (sym c.self.view_is) c.requires) in
    let held : get c.self.inside.entries c.in-Some.key ≡ Some (Waiting there.stroke) = held_at (get c.self.inside.entries) (tree.get nat_cmp c.self.inside.waiting.keys) c.args.no (is_waiting c.args.no) there c.in-Some.key (sym c.in-Some.ensures.value) in
    (there.stroke, held)

pub invariant_of-self : goal.invariant_of-self
invariant_of-self c =
    let r : IsReplaced (get c.self.inside.entries) (get c.insert_reserved.new.self) c.in-Some.key (Whole c.close.result) = replaced c.self.inside.entries c.take_waiting-stroke.new.entries c.insert_reserved.new.self c.in-Some.key c.insert_reserved.result (Whole c.close.result) c.take_waiting-stroke.ensures.entries (c.insert_reserved.ensures.key ∙ c.take_waiting-stroke.ensures.next) c.insert_reserved.ensures.updates in
    (indexed_closed (get c.self.inside.entries) (get c.insert_reserved.new.self) (tree.get nat_cmp c.self.inside.waiting.keys) (tree.get nat_cmp c.remove.new.self.keys) c.self.inside.keys.items c.args.no c.in-Some.key c.close.result c.self.invariant.0 (sym c.in-Some.ensures.value) r (λ m apart. c.in-Some.ensures.updates.2 m (at_other c.args.no m apart)), c.self.invariant.1)

pub returns : goal.returns
returns c =
    let there : IsAt (get c.self.inside.entries) (tree.get nat_cmp c.self.inside.waiting.keys) c.args.no (is_waiting c.args.no) = find_stroke (get c.self.inside.entries) (tree.get nat_cmp c.self.inside.waiting.keys) c.self.inside.keys.items c.args.no c.self.invariant.0 (subst (λ (q : Pending). list_any (is_waiting c.args.no) q.left ≡ true) (sym c.self.view_is) c.requires) in
    let held : get c.self.inside.entries c.in-Some.key ≡ Some (Waiting there.stroke) = held_at (get c.self.inside.entries) (tree.get nat_cmp c.self.inside.waiting.keys) c.args.no (is_waiting c.args.no) there c.in-Some.key (sym c.in-Some.ensures.value) in
    let stroke : c.take_waiting-stroke.result ≡ there.stroke = (let e : Some (Waiting c.take_waiting-stroke.result) ≡ Some (Waiting there.stroke) = sym c.take_waiting-stroke.ensures.stroke ∙ held in cc) in
    let r : IsReplaced (get c.self.inside.entries) (get c.insert_reserved.new.self) c.in-Some.key (Whole c.close.result) = replaced c.self.inside.entries c.take_waiting-stroke.new.entries c.insert_reserved.new.self c.in-Some.key c.insert_reserved.result (Whole c.close.result) c.take_waiting-stroke.ensures.entries (c.insert_reserved.ensures.key ∙ c.take_waiting-stroke.ensures.next) c.insert_reserved.ensures.updates in
    λ i. record {
      left = (left_closed (get c.self.inside.entries) (get c.insert_reserved.new.self) (tree.get nat_cmp c.self.inside.waiting.keys) c.self.inside.keys.items c.args.no c.in-Some.key c.args.cancelled c.take_waiting-stroke.result c.close.result c.self.invariant.0 (sym c.in-Some.ensures.value) c.take_waiting-stroke.ensures.stroke (ap (λ (s : Fed). s.no) stroke ∙ there.number) r c.close.ensures ∙ ap (λ (q : Pending). map (closed c.args.no c.args.cancelled) q.left) c.self.view_is) i;
      outcomes = ap (λ (q : Pending). q.outcomes) c.self.view_is i;
    }
