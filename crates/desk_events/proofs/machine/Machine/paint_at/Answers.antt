use Rattle.std.proofs.Common.{◌≡◌, Option, Some, OnOk, OnErr, List, [], sym, ap, ◌∙◌, subst}
use Rattle.std.specs.Prelude.{slice_get, slice_set}
use Rattle.std.specs.List.{list_any}
use Rattle.geom_core.specs.Grid.{same_key, all_keys_of}
use Rattle.doc_model.specs.Jobs.{writes}
use Rattle.job_core.specs.Paints.{paint}
use Rattle.machine_model.specs.State as state
use Rattle.machine_model.specs.State.{State}
use Rattle.machine_model.specs.Event.{Publish}
use Rattle.machine_model.specs.Step.{PublishStep}
use Rattle.slot_core.specs.declared.Busy.{Busy}
use Rattle.desk_state.specs.Enabled.{Enabled}
use Rattle.desk_state.specs.declared.work.Work.{Work}
use Rattle.desk_state.specs.declared.work.Work.TheVariants.{Paint}
use Rattle.desk_state.specs.Parts.{Parts, state_of}
use Rattle.desk_state.proofs.Places.{painting_at}
use Rattle.desk_state.proofs.Laying.{IsLaidAt, begun_at_work}
use Rattle.desk_state.proofs.Taking.{job_is, job_at_walk, job_at_none}
use Rattle.desk_events.specs.Kept.{parts_of}
use Rattle.desk_events.proofs.AtWork.{lent_at, lent_job, none_at}
use Rattle.desk_events.proofs.OwnTiles.{painted_at}
use Rattle.desk_events.proofs.machine.Machine.paint_at.Goals as goal

pub paint_own-requires-clause-begun : goal.paint_own-requires-clause-begun
paint_own-requires-clause-begun c = begun_at_work (parts_of c.self.inside) c.args.place c.requires.1.painter c.self.invariant (ap (λ (s : State). slice_get s.slots c.args.place) c.self.view_is ∙ c.requires.1.runs)

pub paint_own-requires-clause-checked : goal.paint_own-requires-clause-checked
paint_own-requires-clause-checked c = (painting_at c.self.inside.slots c.args.place c.in-Paint.painter c.self.invariant.slots (lent_at c.self.inside.slots c.args.place c.in-Some.busy.now _ (sym c.in-Some.ensures.busy) c.in-Paint.is)).kept.2

pub paint_own-requires-clause-limits : goal.paint_own-requires-clause-limits
paint_own-requires-clause-limits c = (painting_at c.self.inside.slots c.args.place c.in-Paint.painter c.self.invariant.slots (lent_at c.self.inside.slots c.args.place c.in-Some.busy.now _ (sym c.in-Some.ensures.busy) c.in-Paint.is)).kept.3

pub paint_own-requires-clause-seen : goal.paint_own-requires-clause-seen
paint_own-requires-clause-seen c = (painting_at c.self.inside.slots c.args.place c.in-Paint.painter c.self.invariant.slots (lent_at c.self.inside.slots c.args.place c.in-Some.busy.now _ (sym c.in-Some.ensures.busy) c.in-Paint.is)).kept.1

pub paint_own-requires-clause-met : goal.paint_own-requires-clause-met
paint_own-requires-clause-met c = ap (λ (q : state.Painter). list_any (same_key c.args.key) (all_keys_of (writes q.job))) (job_is (parts_of c.self.inside) c.args.place c.in-Paint.painter c.requires.1.painter (lent_at c.self.inside.slots c.args.place c.in-Some.busy.now _ (sym c.in-Some.ensures.busy) c.in-Paint.is) (ap (λ (s : State). slice_get s.slots c.args.place) c.self.view_is ∙ c.requires.1.runs)) ∙ c.requires.1.in_job

-- the parts as they were
abbrev before : goal.After-self-in-Paint-1 → Parts
before c = parts_of c.self.inside

-- the slots as they are
abbrev slots : goal.After-self-in-Paint-1 → List (Option (Busy Work))
slots c = slice_set c.self.inside.slots c.args.place (Some (record { work = Paint c.paint_own.new.painter; walker = c.in-Some.busy.now.walker }))

-- and as they are
abbrev after : goal.After-self-in-Paint-1 → Parts
after c = record (before c) { store = c.paint_own.new.store; slots = slots c }

laid : (c : goal.After-self-in-Paint-1) → IsLaidAt (before c) (after c) c.args.place (paint c.in-Paint.painter.job c.in-Paint.painter.shot c.args.key []) c.paint_own.result
laid c = painted_at (before c) c.args.place c.in-Paint.painter c.paint_own.new.painter c.args.key c.paint_own.result c.paint_own.new.store (slots c) c.self.invariant
    (lent_at c.self.inside.slots c.args.place c.in-Some.busy.now _ (sym c.in-Some.ensures.busy) c.in-Paint.is)
    (subst (λ s. Enabled s (Publish c.args.place c.args.key)) (sym c.self.view_is) c.requires)
    c.paint_own.ensures.store c.paint_own.ensures.noted c.paint_own.ensures.same_store c.paint_own.ensures.same_painter
    (lent_job c.self.inside.slots c.args.place c.in-Some.busy.now c.in-Paint.painter c.paint_own.new.painter c.self.invariant.slots (sym c.in-Some.ensures.busy) c.in-Paint.is)

pub invariant_of-self : goal.invariant_of-self
invariant_of-self c = (laid c).desk

pub returns-clause-ok : goal.returns-clause-ok
returns-clause-ok c = subst (λ s. OnOk c.paint_own.result (PublishStep s c.args.place c.args.key (state_of (after c)))) c.self.view_is (laid c).ok

pub returns-clause-err : goal.returns-clause-err
returns-clause-err c = subst (λ s. OnErr c.paint_own.result (state_of (after c) ≡ s)) c.self.view_is (laid c).err

pub unreachable-requires : goal.unreachable-requires
unreachable-requires c = job_at_walk (parts_of c.self.inside) c.args.place _ c.requires.1.painter (lent_at c.self.inside.slots c.args.place c.in-Some.busy.now _ (sym c.in-Some.ensures.busy) c.in-Walk.is) (ap (λ (s : State). slice_get s.slots c.args.place) c.self.view_is ∙ c.requires.1.runs)

pub unreachable-requires-in-None : goal.unreachable-requires-in-None
unreachable-requires-in-None c = job_at_none (parts_of c.self.inside) c.args.place c.requires.1.painter (none_at c.self.inside.slots c.args.place (sym c.in-None.ensures.busy)) (ap (λ (s : State). slice_get s.slots c.args.place) c.self.view_is ∙ c.requires.1.runs)
