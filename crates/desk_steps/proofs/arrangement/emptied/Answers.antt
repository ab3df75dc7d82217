use Rattle.std.proofs.Common.{◌≡◌, inl, inr, rules, ap, subst, sym, ◌∙◌}
use Rattle.std.specs.Map.Iter.{deref_pair}
use Rattle.std.proofs.lemmas.Map.Iter.{btree_map_turn, rest_all}
use Rattle.std.proofs.lemmas.Cmp.{nat_cmp_total}
use Rattle.desk_steps.specs.Slots.{AllHave, device_in, has_slot, once_filled}
use Rattle.desk_steps.proofs.Arranged.{Emptied, none_emptied, one_left, one_emptied, all_emptied}
use Rattle.desk_steps.proofs.arrangement.emptied.Goals.{else-is_some-via-then-is_some+else-not-is_paint, else-is_some-via-else-is_some}
use Rattle.desk_steps.proofs.arrangement.emptied.Goals as goal
use Rattle.geom_core.proofs.Tests.{is_some-None}

pub loop-id-init : goal.loop-id-init
loop-id-init c =
    let start : c.into_iter-id-iterator.result ≡ c.args.devices.now.entries = search rules in
    subst (Emptied c.args.tree.now c.args.devices.now c.new-slots.result.items) (sym start) (none_emptied c.args.tree.now c.args.devices.now c.new-slots.result.items c.new-slots.ensures.items)

pub loop-id-preserved-then-not-is_paint : goal.loop-id-preserved-then-not-is_paint
loop-id-preserved-then-not-is_paint c =
    let turn = btree_map_turn deref_pair c.loop-id.yielded c.into_iter-id-iterator.result c.loop-id.id-iterator c.next.new.self c.next.result (c.in-Some.id, c.in-Some.device) c.loop-id.yielded_by c.in-Some.is c.next.ensures.steps nat_cmp_total c.args.devices.now (search rules) (search rules) in
    let so = subst (Emptied c.args.tree.now c.args.devices.now c.loop-id.slots.items) c.in-Some.ensures.steps c.loop-id.invariant in
    subst (λ slots. Emptied c.args.tree.now c.args.devices.now slots c.next.new.self) (sym c.in_ok-push.ensures.items)
    (one_emptied c.args.tree.now c.args.devices.now c.loop-id.slots.items c.in-Some.id.now c.in-Some.device.now c.next.new.self so turn.1 (sym c.is_paint.ensures ∙ c.if-not-is_paint.true))

pub loop-id-preserved : goal.loop-id-preserved
loop-id-preserved c =
    let turn = btree_map_turn deref_pair c.loop-id.yielded c.into_iter-id-iterator.result c.loop-id.id-iterator c.next.new.self c.next.result (c.in-Some.id, c.in-Some.device) c.loop-id.yielded_by c.in-Some.is c.next.ensures.steps nat_cmp_total c.args.devices.now (search rules) (search rules) in
    let so = subst (Emptied c.args.tree.now c.args.devices.now c.loop-id.slots.items) c.in-Some.ensures.steps c.loop-id.invariant in
    one_left c.args.tree.now c.args.devices.now c.loop-id.slots.items c.in-Some.id.now c.in-Some.device.now c.next.new.self so turn.1 (elim c.else-is_some.branch [
      | else-is_some-via-then-is_some+else-not-is_paint w ↦ inr (sym w.is_paint.ensures ∙ w.if-not-is_paint.false)
      | else-is_some-via-else-is_some w ↦ inl (is_some-None c.in-Some.device.now (sym c.is_some.ensures ∙ w.if-is_some.false))
    ])

pub returns-clause-ok : goal.returns-clause-ok
returns-clause-ok c q =
    ap (λ slots. once_filled (λ o. o) (device_in c.args.devices.now) slots q) c.shrink_to_fit.ensures.items
    ∙ all_emptied c.args.tree.now c.args.devices.now c.loop-id.slots.items c.loop-id.id-iterator (rest_all deref_pair c.loop-id.id-iterator c.next.new.self c.next.result c.in-None.is c.next.ensures.steps) c.loop-id.invariant q

pub returns-clause-there : goal.returns-clause-there
returns-clause-there c = subst (AllHave (has_slot c.args.devices.now)) (sym c.shrink_to_fit.ensures.items) c.loop-id.invariant.have
