use Rattle.std.proofs.Common.{Option, Some, OnOk, OnErr, List, sym, ap, ◌∙◌, subst}
use Rattle.std.specs.Prelude.{slice_get, slice_set}
use Rattle.machine_model.specs.State.{State}
use Rattle.slot_core.specs.declared.Busy.{Busy}
use Rattle.desk_state.specs.declared.work.Work.{Work}
use Rattle.desk_state.specs.declared.work.Work.TheVariants.{Walk}
use Rattle.desk_state.specs.Parts.{Parts, state_of}
use Rattle.desk_state.specs.Settles.{Settles, GoesOn}
use Rattle.desk_state.proofs.Taking.{walk_at_job, walk_at_none}
use Rattle.desk_events.specs.Kept.{parts_of}
use Rattle.desk_events.proofs.AtWork.{lent_at, lent_walk, none_at}
use Rattle.desk_events.specs.OwnWork.{WalkLacks, WalksOn}
use Rattle.desk_events.proofs.OwnTiles.{IsComposedAt, composed_at}
use Rattle.desk_events.proofs.machine.Machine.compose_at.Goals as goal

-- the parts as they were
abbrev before : goal.After-self-in-Walk-1 → Parts
before c = parts_of c.self.inside

-- the slots as they are
abbrev slots : goal.After-self-in-Walk-1 → List (Option (Busy Work))
slots c = slice_set c.self.inside.slots c.args.place (Some (record { work = Walk c.compose_own.new.walker; walker = c.in-Some.busy.now.walker }))

-- and as they are
abbrev after : goal.After-self-in-Walk-1 → Parts
after c = record (before c) { caches = c.compose_own.new.filmed.caches; slots = slots c; frames = c.compose_own.new.filmed.frames }

composed : (c : goal.After-self-in-Walk-1) → IsComposedAt (before c) (after c) c.compose_own.result
composed c = subst (λ frames. IsComposedAt (before c) (record (after c) { frames = frames }) c.compose_own.result) (sym c.compose_own.ensures.frames) (composed_at (before c) c.args.place c.in-Walk.walker c.compose_own.new.walker c.args.key c.compose_own.result c.compose_own.new.filmed.caches (slots c) c.self.invariant
    (lent_at c.self.inside.slots c.args.place c.in-Some.busy.now _ (sym c.in-Some.ensures.busy) c.in-Walk.is)
    (subst (λ s. WalkLacks s c.args.place c.args.key) (sym c.self.view_is) c.requires)
    c.compose_own.ensures.all c.compose_own.ensures.front c.compose_own.ensures.inputs c.compose_own.ensures.serial
    (lent_walk c.self.inside.slots c.args.place c.in-Some.busy.now c.in-Walk.walker c.compose_own.new.walker c.self.invariant.slots (sym c.in-Some.ensures.busy) c.in-Walk.is))

pub invariant_of-self : goal.invariant_of-self
invariant_of-self c = (composed c).desk

pub returns-clause-ok : goal.returns-clause-ok
returns-clause-ok c = subst (λ s. OnOk c.compose_own.result (GoesOn s (state_of (after c)))) c.self.view_is (composed c).ok

pub returns-clause-err : goal.returns-clause-err
returns-clause-err c = subst (λ s. OnErr c.compose_own.result (Settles s (state_of (after c)))) c.self.view_is (composed c).err

pub returns-clause-walks : goal.returns-clause-walks
returns-clause-walks c = subst (λ s. WalksOn s (state_of (after c))) c.self.view_is (composed c).walks

pub unreachable-requires : goal.unreachable-requires
unreachable-requires c = walk_at_job (parts_of c.self.inside) c.args.place _ c.requires.enabled.1.walker (lent_at c.self.inside.slots c.args.place c.in-Some.busy.now _ (sym c.in-Some.ensures.busy) c.in-Paint.is) (ap (λ (s : State). slice_get s.slots c.args.place) c.self.view_is ∙ c.requires.enabled.1.runs)

pub unreachable-requires-in-None : goal.unreachable-requires-in-None
unreachable-requires-in-None c = walk_at_none (parts_of c.self.inside) c.args.place c.requires.enabled.1.walker (none_at c.self.inside.slots c.args.place (sym c.in-None.ensures.busy)) (ap (λ (s : State). slice_get s.slots c.args.place) c.self.view_is ∙ c.requires.enabled.1.runs)
