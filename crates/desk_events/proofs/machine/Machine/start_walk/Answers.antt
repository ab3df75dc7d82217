use Rattle.std.proofs.Common.{◌≡◌, ℕ, ◌+◌, Some, suc, refl, sym, ap, ◌∙◌, subst, arith}
use Rattle.std.specs.Prelude.{remove, slice_set}
use Rattle.std.specs.List.{find, position_or_len}
use Rattle.machine_model.specs.State.{State}
use Rattle.machine_model.specs.Step.{WalkStartStep}
use Rattle.machine_model.specs.Walking.{IsGroupOf}
use Rattle.machine_model.specs.Walks.{walk_shot}
use Rattle.update_queue.specs.Waiting.{avoids, waiting}
use Rattle.walker_core.specs.Readings.{Readings}
use Rattle.desk_state.specs.declared.work.Work.TheVariants.{Walk}
use Rattle.desk_state.specs.Choices.{CanWalk}
use Rattle.desk_state.specs.Parts.{state_of}
use Rattle.desk_state.specs.Tied.{IsDesk}
use Rattle.desk_state.proofs.Places.{free_as}
use Rattle.desk_state.proofs.JobDoing.{serial_fits}
use Rattle.desk_state.proofs.WalkDoing.{walk_start_does, group_found, not_lost}
use Rattle.desk_events.specs.Kept.{parts_of}
use Rattle.desk_events.proofs.TicketsMatch.{walk_ticket}
use Rattle.desk_events.proofs.machine.Machine.start_walk.Goals as goal

add_one : (n : ℕ) → suc n ≡ n + 1
add_one n = omega arith

pub inputs_of-requires : goal.inputs_of-requires
inputs_of-requires c = subst (λ (s : State). IsGroupOf s.present c.in-Some.patch.walk) c.self.view_is (group_found (parts_of c.self.inside) c.in-Some.patch c.self.invariant (ap (λ rects. find (avoids rects) c.self.inside.updates.patches) (sym (c.as_slice.ensures.value ∙ c.running-running.ensures)) ∙ sym c.peek.ensures ∙ c.in-Some.is))

pub put-requires : goal.put-requires
put-requires c = free_as c.self.inside.slots c.args.place (subst (λ s. CanWalk s c.args.place) (sym c.self.view_is) c.requires).enabled.1.free

pub overflow_add-self : goal.overflow_add-self
overflow_add-self c = let h = serial_fits (parts_of c.self.inside) c.self.invariant in omega (arith, h)

pub unreachable-requires : goal.unreachable-requires
unreachable-requires c = not_lost (parts_of c.self.inside) c.args.place c.self.invariant (subst (λ s. CanWalk s c.args.place) (sym c.self.view_is) c.requires) (ap (λ rects. find (avoids rects) c.self.inside.updates.patches) (sym (c.as_slice.ensures.value ∙ c.running-running.ensures)) ∙ sym c.in_default.ensures)

pub invariant_of-self : goal.invariant_of-self
invariant_of-self c = subst IsDesk (λ i. (record (parts_of c.self.inside) { updates = c.take-patch.new.self; slots = c.put.new.self; next = add_one c.self.inside.next i })) (walk_start_does (parts_of c.self.inside) c.args.place (record { serial = c.self.inside.next; inputs = c.in_ok-kept.kept; published = c.new.result }) c.take-patch.new.self c.put.new.self c.self.invariant (subst (λ s. CanWalk s c.args.place) (sym c.self.view_is) c.requires)
    ((ap (λ rects. find (avoids rects) c.self.inside.updates.patches) (sym (c.as_slice.ensures.value ∙ c.running-running.ensures)) ∙ sym c.peek.ensures ∙ c.in-Some.is) ∙ ap Some (sym (ap (λ (r : Readings). r.patch) c.in_ok-kept.ensures))) refl
    (ap (λ (r : Readings). r.groups) c.in_ok-kept.ensures ∙ (λ i. walk_shot (sym c.self.view_is i) (sym (ap (λ (r : Readings). r.patch) c.in_ok-kept.ensures) i))) c.new.ensures
    (c.take-patch.ensures.left ∙ ap (λ rects. waiting c.self.inside.updates.canvas (remove c.self.inside.updates.patches (position_or_len (avoids rects) c.self.inside.updates.patches))) (c.as_slice-2.ensures.value ∙ c.running-running.ensures))
    (c.put.ensures ∙ (λ i. slice_set c.self.inside.slots c.args.place (Some (record { work = Walk (record { serial = c.self.inside.next; inputs = c.in_ok-kept.kept; published = c.new.result }); walker = Some ((sym (ap (λ (r : Readings). r.patch) c.in_ok-kept.ensures)) i).rect }))))).desk

pub returns-clause-ok : goal.returns-clause-ok
returns-clause-ok c = subst (λ s. WalkStartStep s c.args.place c.in_ok-inputs.inputs.patch (state_of (record (parts_of c.self.inside) { updates = c.take-patch.new.self; slots = c.put.new.self; next = c.self.inside.next + 1 }))) c.self.view_is
    (subst (λ p. WalkStartStep (state_of (parts_of c.self.inside)) c.args.place p (state_of (record (parts_of c.self.inside) { updates = c.take-patch.new.self; slots = c.put.new.self; next = c.self.inside.next + 1 }))) (sym (ap (λ (r : Readings). r.patch) c.in_ok-inputs.ensures))
    (subst (λ t. WalkStartStep (state_of (parts_of c.self.inside)) c.args.place c.in_ok-kept.kept.patch t) (λ i. state_of (record (parts_of c.self.inside) { updates = c.take-patch.new.self; slots = c.put.new.self; next = add_one c.self.inside.next i }))
    (walk_start_does (parts_of c.self.inside) c.args.place (record { serial = c.self.inside.next; inputs = c.in_ok-kept.kept; published = c.new.result }) c.take-patch.new.self c.put.new.self c.self.invariant (subst (λ s. CanWalk s c.args.place) (sym c.self.view_is) c.requires)
    ((ap (λ rects. find (avoids rects) c.self.inside.updates.patches) (sym (c.as_slice.ensures.value ∙ c.running-running.ensures)) ∙ sym c.peek.ensures ∙ c.in-Some.is) ∙ ap Some (sym (ap (λ (r : Readings). r.patch) c.in_ok-kept.ensures))) refl
    (ap (λ (r : Readings). r.groups) c.in_ok-kept.ensures ∙ (λ i. walk_shot (sym c.self.view_is i) (sym (ap (λ (r : Readings). r.patch) c.in_ok-kept.ensures) i))) c.new.ensures
    (c.take-patch.ensures.left ∙ ap (λ rects. waiting c.self.inside.updates.canvas (remove c.self.inside.updates.patches (position_or_len (avoids rects) c.self.inside.updates.patches))) (c.as_slice-2.ensures.value ∙ c.running-running.ensures))
    (c.put.ensures ∙ (λ i. slice_set c.self.inside.slots c.args.place (Some (record { work = Walk (record { serial = c.self.inside.next; inputs = c.in_ok-kept.kept; published = c.new.result }); walker = Some ((sym (ap (λ (r : Readings). r.patch) c.in_ok-kept.ensures)) i).rect }))))).step))

pub returns-clause-ticket : goal.returns-clause-ticket
returns-clause-ticket c = walk_ticket c.args.self.now (state_of (record (parts_of c.self.inside) { updates = c.take-patch.new.self; slots = c.put.new.self; next = c.self.inside.next + 1 }))
    (record { slot = record { place = c.args.place; serial = c.self.inside.next }; inputs = c.in_ok-inputs.inputs }) (returns-clause-ok c) (ap (λ (s : State). s.next) c.self.view_is)
    (ap (λ (r : Readings). r.groups) (c.in_ok-inputs.ensures ∙ c.in_ok-kept.ensures) ∙ ap (walk_shot c.args.self.now) (sym (ap (λ (r : Readings). r.patch) (c.in_ok-inputs.ensures ∙ c.in_ok-kept.ensures))))
