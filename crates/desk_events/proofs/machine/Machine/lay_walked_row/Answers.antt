use Rattle.std.proofs.Common.{Option, Some, OnOk, OnErr, List, sym, ap, ◌∙◌, subst}
use Rattle.std.specs.Prelude.{slice_get, slice_set}
use Rattle.machine_model.specs.State.{State}
use Rattle.machine_model.specs.Step.{Run}
use Rattle.slot_core.specs.declared.Busy.{Busy}
use Rattle.desk_state.specs.declared.work.Work.{Work}
use Rattle.desk_state.specs.declared.work.Work.TheVariants.{Walk}
use Rattle.desk_state.specs.Parts.{Parts, state_of}
use Rattle.desk_state.proofs.Taking.{walk_at_job, walk_at_none}
use Rattle.desk_events.specs.Kept.{parts_of}
use Rattle.desk_events.specs.Commits.{MayPublishRow, RunsFront, row_events}
use Rattle.desk_events.proofs.AtWork.{walk_runs, lent_at, lent_walk, none_at}
use Rattle.desk_events.proofs.WalkedRows.{IsRowAt, row_at, row_of}
use Rattle.desk_events.proofs.machine.Machine.lay_walked_row.Goals as goal

pub lay_row-requires-clause-of : goal.lay_row-requires-clause-of
lay_row-requires-clause-of c = (row_of (state_of (parts_of c.self.inside)) c.args.slot.place c.args.slot.serial c.in-Walk.walker c.args.composed.now c.args.key (walk_runs (parts_of c.self.inside) c.args.slot.place c.in-Walk.walker c.self.invariant (lent_at c.self.inside.slots c.args.slot.place c.in-Some.busy.now _ (sym c.in-Some.ensures.busy) c.in-Walk.is)) (subst (λ s. MayPublishRow s c.args.slot.place c.args.slot.serial c.args.composed.now c.args.key) (sym c.self.view_is) c.requires)).of

pub lay_row-requires-clause-world : goal.lay_row-requires-clause-world
lay_row-requires-clause-world c = (row_of (state_of (parts_of c.self.inside)) c.args.slot.place c.args.slot.serial c.in-Walk.walker c.args.composed.now c.args.key (walk_runs (parts_of c.self.inside) c.args.slot.place c.in-Walk.walker c.self.invariant (lent_at c.self.inside.slots c.args.slot.place c.in-Some.busy.now _ (sym c.in-Some.ensures.busy) c.in-Walk.is)) (subst (λ s. MayPublishRow s c.args.slot.place c.args.slot.serial c.args.composed.now c.args.key) (sym c.self.view_is) c.requires)).world

-- the parts as they were
abbrev before : goal.After-self-in-Walk-1 → Parts
before c = parts_of c.self.inside

-- the slots as they are
abbrev slots : goal.After-self-in-Walk-1 → List (Option (Busy Work))
slots c = slice_set c.self.inside.slots c.args.slot.place (Some (record { work = Walk (record c.in-Walk.walker { published = c.lay_row.new.published }); walker = c.in-Some.busy.now.walker }))

-- and as they are
abbrev after : goal.After-self-in-Walk-1 → Parts
after c = record (before c) { caches = c.lay_row.new.filmed.caches; slots = slots c; frames = c.lay_row.new.filmed.frames }

row : (c : goal.After-self-in-Walk-1) → IsRowAt (before c) (after c) c.args.slot.place c.args.key c.lay_row.result
row c = subst (λ frames. IsRowAt (before c) (record (after c) { frames = frames }) c.args.slot.place c.args.key c.lay_row.result) (sym c.lay_row.ensures.frames) (row_at (before c) c.args.slot.place c.in-Walk.walker c.args.key c.lay_row.new.published c.lay_row.result c.lay_row.new.filmed.caches (slots c) c.self.invariant
    (lent_at c.self.inside.slots c.args.slot.place c.in-Some.busy.now _ (sym c.in-Some.ensures.busy) c.in-Walk.is)
    (row_of (state_of (before c)) c.args.slot.place c.args.slot.serial c.in-Walk.walker c.args.composed.now c.args.key (walk_runs (before c) c.args.slot.place c.in-Walk.walker c.self.invariant (lent_at c.self.inside.slots c.args.slot.place c.in-Some.busy.now _ (sym c.in-Some.ensures.busy) c.in-Walk.is)) (subst (λ s. MayPublishRow s c.args.slot.place c.args.slot.serial c.args.composed.now c.args.key) (sym c.self.view_is) c.requires)).in_patch
    c.lay_row.ensures.all c.lay_row.ensures.front c.lay_row.ensures.some
    (lent_walk c.self.inside.slots c.args.slot.place c.in-Some.busy.now c.in-Walk.walker (record c.in-Walk.walker { published = c.lay_row.new.published }) c.self.invariant.slots (sym c.in-Some.ensures.busy) c.in-Walk.is))

pub invariant_of-self : goal.invariant_of-self
invariant_of-self c = (row c).desk

pub returns-clause-all : goal.returns-clause-all
returns-clause-all c = subst (λ (s : State). OnOk c.lay_row.result (Run s (row_events s c.args.slot.place c.args.key) (state_of (after c)))) c.self.view_is (row c).all

pub returns-clause-front : goal.returns-clause-front
returns-clause-front c = subst (λ s. OnErr c.lay_row.result (RunsFront s (row_events s c.args.slot.place c.args.key) (state_of (after c)))) c.self.view_is (row c).front

pub unreachable-requires : goal.unreachable-requires
unreachable-requires c = walk_at_job (parts_of c.self.inside) c.args.slot.place _ c.requires.walker (lent_at c.self.inside.slots c.args.slot.place c.in-Some.busy.now _ (sym c.in-Some.ensures.busy) c.in-Paint.is) (ap (λ (s : State). slice_get s.slots c.args.slot.place) c.self.view_is ∙ c.requires.runs)

pub unreachable-requires-in-None : goal.unreachable-requires-in-None
unreachable-requires-in-None c = walk_at_none (parts_of c.self.inside) c.args.slot.place c.requires.walker (none_at c.self.inside.slots c.args.slot.place (sym c.in-None.ensures.busy)) (ap (λ (s : State). slice_get s.slots c.args.slot.place) c.self.view_is ∙ c.requires.runs)
