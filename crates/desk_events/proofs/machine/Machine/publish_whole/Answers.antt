use Rattle.std.proofs.Common.{◌≡◌, Option, Some, OnOk, OnErr, List, [], sym, ap, ◌∙◌, subst}
use Rattle.std.specs.Prelude.{slice_get, slice_set}
use Rattle.std.specs.List.{list_any}
use Rattle.geom_core.specs.Grid.{same_key, all_keys_of}
use Rattle.doc_model.specs.Jobs.{writes}
use Rattle.job_core.specs.Paints.{paint}
use Rattle.machine_model.specs.State as state
use Rattle.machine_model.specs.State.{State}
use Rattle.machine_model.specs.Step.{PublishStep}
use Rattle.slot_core.specs.declared.Busy.{Busy}
use Rattle.desk_state.specs.declared.work.Work.{Work}
use Rattle.desk_state.specs.declared.work.Work.TheVariants.{Paint}
use Rattle.desk_state.specs.Parts.{Parts, state_of, painter_of}
use Rattle.desk_state.proofs.Laying.{IsLaidAt, begun_at_work}
use Rattle.desk_state.proofs.Taking.{job_is, job_at_walk, job_at_none}
use Rattle.desk_events.specs.Kept.{parts_of}
use Rattle.desk_events.proofs.AtWork.{lent_at, lent_job, none_at}
use Rattle.desk_events.proofs.OwnTiles.{painted_at, tile_may}
use Rattle.desk_events.specs.Sparing.{StandsAs}
use Rattle.desk_events.proofs.Committing.{own_whole}
use Rattle.desk_events.proofs.Untouched.{known_tile}
use Rattle.desk_events.proofs.machine.Machine.publish_whole.Goals as goal

pub exchange_whole-requires-clause-begun : goal.exchange_whole-requires-clause-begun
exchange_whole-requires-clause-begun c = begun_at_work (parts_of c.self.inside) c.args.place c.requires.takes.painter c.self.invariant (ap (λ (s : State). slice_get s.slots c.args.place) c.self.view_is ∙ c.requires.takes.runs)

pub exchange_whole-requires-clause-of : goal.exchange_whole-requires-clause-of
exchange_whole-requires-clause-of c = own_whole c.in-Paint.painter c.requires.takes.painter c.args.whole.now (job_is (parts_of c.self.inside) c.args.place c.in-Paint.painter c.requires.takes.painter (lent_at c.self.inside.slots c.args.place c.in-Some.busy.now _ (sym c.in-Some.ensures.busy) c.in-Paint.is) (ap (λ (s : State). slice_get s.slots c.args.place) c.self.view_is ∙ c.requires.takes.runs)) c.requires.takes.of

-- the parts as they were
abbrev before : goal.After-self-in-Paint-1 → Parts
before c = parts_of c.self.inside

-- the slots as they are
abbrev slots : goal.After-self-in-Paint-1 → List (Option (Busy Work))
slots c = slice_set c.self.inside.slots c.args.place (Some (record { work = Paint c.exchange_whole.new.painter; walker = c.in-Some.busy.now.walker }))

-- and as they are
abbrev after : goal.After-self-in-Paint-1 → Parts
after c = record (before c) { store = c.exchange_whole.new.store; slots = slots c }

-- the job is the machine's
same : (c : goal.After-self-in-Paint-1) → painter_of c.in-Paint.painter ≡ c.requires.takes.painter
same c = job_is (before c) c.args.place c.in-Paint.painter c.requires.takes.painter (lent_at c.self.inside.slots c.args.place c.in-Some.busy.now _ (sym c.in-Some.ensures.busy) c.in-Paint.is) (ap (λ (s : State). slice_get s.slots c.args.place) c.self.view_is ∙ c.requires.takes.runs)

laid : (c : goal.After-self-in-Paint-1) → IsLaidAt (before c) (after c) c.args.place (paint c.in-Paint.painter.job c.in-Paint.painter.shot c.args.whole.now.key []) c.exchange_whole.result
laid c = painted_at (before c) c.args.place c.in-Paint.painter c.exchange_whole.new.painter c.args.whole.now.key c.exchange_whole.result c.exchange_whole.new.store (slots c) c.self.invariant
    (lent_at c.self.inside.slots c.args.place c.in-Some.busy.now _ (sym c.in-Some.ensures.busy) c.in-Paint.is)
    (tile_may (before c) c.args.place c.in-Paint.painter c.args.whole.now.key c.self.invariant (lent_at c.self.inside.slots c.args.place c.in-Some.busy.now _ (sym c.in-Some.ensures.busy) c.in-Paint.is)
    (ap (λ (q : state.Painter). list_any (same_key c.args.whole.now.key) (all_keys_of (writes q.job))) (same c) ∙ c.requires.takes.in_job) (ap (λ (q : state.Painter). list_any (same_key c.args.whole.now.key) q.published) (same c) ∙ c.requires.takes.fresh))
    c.exchange_whole.ensures.store c.exchange_whole.ensures.noted c.exchange_whole.ensures.same_store c.exchange_whole.ensures.same_painter
    (lent_job c.self.inside.slots c.args.place c.in-Some.busy.now c.in-Paint.painter c.exchange_whole.new.painter c.self.invariant.slots (sym c.in-Some.ensures.busy) c.in-Paint.is)

pub invariant_of-self : goal.invariant_of-self
invariant_of-self c = (laid c).desk

pub returns-clause-ok : goal.returns-clause-ok
returns-clause-ok c = subst (λ s. OnOk c.exchange_whole.result (PublishStep s c.args.place c.args.whole.now.key (state_of (after c)))) c.self.view_is (laid c).ok

pub returns-clause-err : goal.returns-clause-err
returns-clause-err c = subst (λ s. OnErr c.exchange_whole.result (state_of (after c) ≡ s)) c.self.view_is (laid c).err

pub unreachable-requires : goal.unreachable-requires
unreachable-requires c = job_at_walk (parts_of c.self.inside) c.args.place _ c.requires.takes.painter (lent_at c.self.inside.slots c.args.place c.in-Some.busy.now _ (sym c.in-Some.ensures.busy) c.in-Walk.is) (ap (λ (s : State). slice_get s.slots c.args.place) c.self.view_is ∙ c.requires.takes.runs)

pub unreachable-requires-in-None : goal.unreachable-requires-in-None
unreachable-requires-in-None c = job_at_none (parts_of c.self.inside) c.args.place c.requires.takes.painter (none_at c.self.inside.slots c.args.place (sym c.in-None.ensures.busy)) (ap (λ (s : State). slice_get s.slots c.args.place) c.self.view_is ∙ c.requires.takes.runs)

pub exchange_whole-requires-clause-known : goal.exchange_whole-requires-clause-known
exchange_whole-requires-clause-known c known = known_tile (parts_of c.self.inside) c.args.place c.requires.takes.painter c.args.whole.now c.self.invariant (ap (λ (s : State). slice_get s.slots c.args.place) c.self.view_is ∙ c.requires.takes.runs)
    (subst (λ s. StandsAs s c.args.whole.now) (sym c.self.view_is) (c.base_of-base.ensures known))
