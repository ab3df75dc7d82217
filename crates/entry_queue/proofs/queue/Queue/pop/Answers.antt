use Rattle.std.proofs.Common.{◌≡◌, ◌+◌, ◌≤◌, suc, length, drop, [], ◌∷◌, ◌++◌, sym, ap, ◌∙◌, subst, arith}
use Rattle.std.specs.Prelude.{vec_len, vec_capacity}
use Rattle.std.specs.Ordering.{nat_cmp}
use Rattle.std.specs.BTreeMap as tree
use Rattle.slab.specs.Slab.{get}
use Rattle.entry_queue.specs.Pushed.{Pending, StandsFor}
use Rattle.entry_queue.specs.Keys.{entries_at}
use Rattle.entry_queue.proofs.Indexed.{entries_popped, indexed_popped}
use Rattle.entry_queue.proofs.Standing.{stands_popped}
use Rattle.entry_queue.proofs.queue.Queue.pop.Goals as goal

pub invariant_of-self : goal.invariant_of-self
invariant_of-self c =
    let keys : c.self.inside.keys.items ≡ c.in-Some.key ∷ c.pop_front.new.self.items = c.in-Some.ensures.items in
    let longer : length c.self.inside.keys.items ≡ suc (length c.pop_front.new.self.items) = ap length keys in
    let before : vec_len c.self.inside.outcomes + length c.self.inside.keys.items ≤ vec_capacity c.self.inside.outcomes = c.self.invariant.1 in
    let len : vec_len c.push.new.self ≡ vec_len c.self.inside.outcomes + 1 = c.in-Ok.ensures.len in
    let capacity : vec_capacity c.self.inside.outcomes ≤ vec_capacity c.push.new.self = c.in-Ok.ensures.capacity in
    (indexed_popped (get c.self.inside.entries) (get c.try_remove.new.self) (tree.get nat_cmp c.self.inside.waiting.keys) _ _ c.in-Some.key c.self.invariant.0 keys c.try_remove.ensures.updates.others, omega arith)

pub returns-clause-left : goal.returns-clause-left
returns-clause-left c =
    entries_popped (get c.self.inside.entries) (get c.try_remove.new.self) (tree.get nat_cmp c.self.inside.waiting.keys) _ _ c.in-Some.key c.self.invariant.0 c.in-Some.ensures.items c.try_remove.ensures.updates.others
    ∙ ap (λ (q : Pending). drop 1 q.left) c.self.view_is

pub returns-clause-stands : goal.returns-clause-stands
returns-clause-stands c = λ before h.
    let left : entries_at (get c.try_remove.new.self) c.pop_front.new.self.items ≡ drop 1 c.args.self.now.left = entries_popped (get c.self.inside.entries) (get c.try_remove.new.self) (tree.get nat_cmp c.self.inside.waiting.keys) _ _ c.in-Some.key c.self.invariant.0 c.in-Some.ensures.items c.try_remove.ensures.updates.others ∙ ap (λ (q : Pending). drop 1 q.left) c.self.view_is in
    let outcomes : c.push.new.self.items ≡ c.args.self.now.outcomes ++ c.args.outcome ∷ [] = c.in-Ok.ensures.items ∙ ap (λ (q : Pending). q.outcomes ++ c.args.outcome ∷ []) c.self.view_is in
    subst (StandsFor before) (λ i. record { left = sym left i; outcomes = sym outcomes i }) (stands_popped before c.args.self.now c.args.outcome c.requires h)
