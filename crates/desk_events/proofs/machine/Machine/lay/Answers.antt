use Rattle.std.proofs.Common.{◌≡◌, Option, Some, OnOk, OnErr, List, sym, ap, ◌∙◌, subst}
use Rattle.std.specs.Prelude.{slice_get, slice_set}
use Rattle.machine_model.specs.State.{State}
use Rattle.machine_model.specs.Step.{PublishStep}
use Rattle.slot_core.specs.declared.Busy.{Busy}
use Rattle.desk_state.specs.Enabled.{Takes}
use Rattle.desk_state.specs.declared.work.Work.{Work}
use Rattle.desk_state.specs.declared.work.Work.TheVariants.{Paint}
use Rattle.desk_state.specs.Parts.{Parts, state_of}
use Rattle.desk_state.proofs.Laying.{IsLaidAt, begun_at_work, laid_at}
use Rattle.desk_state.proofs.Taking.{job_at_walk, job_at_none}
use Rattle.desk_events.specs.Kept.{parts_of}
use Rattle.desk_events.proofs.AtWork.{lent_at, lent_job, none_at}
use Rattle.desk_events.proofs.machine.Machine.lay.Goals as goal

pub lay-requires : goal.lay-requires
lay-requires c = begun_at_work _ c.args.slot.place c.requires.painter c.self.invariant (ap (λ (s : State). slice_get s.slots c.args.slot.place) c.self.view_is ∙ c.requires.runs)

-- the parts as they were
abbrev before : goal.After-self-in-Paint-1 → Parts
before c = parts_of c.self.inside

-- the slots as they are
abbrev slots : goal.After-self-in-Paint-1 → List (Option (Busy Work))
slots c = slice_set c.self.inside.slots c.args.slot.place (Some (record { work = Paint (record c.in-Paint.painter { published = c.lay.new.published }); walker = c.in-Some.busy.now.walker }))

-- and as they are
abbrev after : goal.After-self-in-Paint-1 → Parts
after c = record (before c) { store = c.lay.new.store; slots = slots c }

laid : (c : goal.After-self-in-Paint-1) → IsLaidAt (before c) (after c) c.args.slot.place c.args.painted.now c.lay.result
laid c = laid_at (before c) c.args.slot.place c.args.slot.serial c.in-Paint.painter c.args.painted.now c.lay.result c.lay.new.store c.lay.new.published (slots c) c.self.invariant
    (lent_at c.self.inside.slots c.args.slot.place c.in-Some.busy.now _ (sym c.in-Some.ensures.busy) c.in-Paint.is)
    (subst (λ s. Takes s c.args.slot.place c.args.slot.serial c.args.painted.now) (sym c.self.view_is) c.requires)
    c.lay.ensures.store c.lay.ensures.keys c.lay.ensures.same_store c.lay.ensures.same_keys
    (lent_job c.self.inside.slots c.args.slot.place c.in-Some.busy.now c.in-Paint.painter (record c.in-Paint.painter { published = c.lay.new.published }) c.self.invariant.slots (sym c.in-Some.ensures.busy) c.in-Paint.is)

pub invariant_of-self : goal.invariant_of-self
invariant_of-self c = (laid c).desk

pub returns-clause-ok : goal.returns-clause-ok
returns-clause-ok c = subst (λ s. OnOk c.lay.result (PublishStep s c.args.slot.place c.args.painted.now.key (state_of (after c)))) c.self.view_is (laid c).ok

pub returns-clause-err : goal.returns-clause-err
returns-clause-err c = subst (λ s. OnErr c.lay.result (state_of (after c) ≡ s)) c.self.view_is (laid c).err

pub unreachable-requires : goal.unreachable-requires
unreachable-requires c = job_at_walk (parts_of c.self.inside) c.args.slot.place _ c.requires.painter (lent_at c.self.inside.slots c.args.slot.place c.in-Some.busy.now _ (sym c.in-Some.ensures.busy) c.in-Walk.is) (ap (λ (s : State). slice_get s.slots c.args.slot.place) c.self.view_is ∙ c.requires.runs)

pub unreachable-requires-in-None : goal.unreachable-requires-in-None
unreachable-requires-in-None c = job_at_none (parts_of c.self.inside) c.args.slot.place c.requires.painter (none_at c.self.inside.slots c.args.slot.place (sym c.in-None.ensures.busy)) (ap (λ (s : State). slice_get s.slots c.args.slot.place) c.self.view_is ∙ c.requires.runs)
