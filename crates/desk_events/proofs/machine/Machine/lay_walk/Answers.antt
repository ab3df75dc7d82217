use Rattle.std.proofs.Common.{◌≡◌, Option, Some, OnOk, OnErr, List, sym, ap, ◌∙◌, subst}
use Rattle.std.specs.Prelude.{slice_get, slice_set}
use Rattle.std.specs.List.{list_any}
use Rattle.geom_core.specs.Grid.{same_key, keys_of}
use Rattle.doc_model.specs.declared.canvas.Patch.{Patch}
use Rattle.machine_model.specs.State.{State}
use Rattle.machine_model.specs.Step.{WalkPublishStep}
use Rattle.slot_core.specs.declared.Busy.{Busy}
use Rattle.desk_state.specs.Enabled.{TakesWalk}
use Rattle.desk_state.specs.declared.work.Work.{Work}
use Rattle.desk_state.specs.declared.work.Work.TheVariants.{Walk}
use Rattle.desk_state.specs.Parts.{Parts, state_of}
use Rattle.desk_state.proofs.WalkLaying.{IsWalkLaidAt, walk_laid_at}
use Rattle.desk_state.proofs.Taking.{walk_taken_of, walk_at_job, walk_at_none}
use Rattle.desk_events.specs.Kept.{parts_of}
use Rattle.desk_events.proofs.AtWork.{lent_at, lent_walk, none_at}
use Rattle.desk_events.proofs.machine.Machine.lay_walk.Goals as goal

pub lay_composed-requires-clause-pair : goal.lay_composed-requires-clause-pair
lay_composed-requires-clause-pair c = c.requires.composed

pub lay_composed-requires-clause-world : goal.lay_composed-requires-clause-world
lay_composed-requires-clause-world c = c.is_tile_of-there.ensures.world (c.is_tile_of-there.ensures.value ∙ ap (λ (q : Patch). list_any (same_key c.args.key) (keys_of q.rect)) c.patch-rect.ensures
    ∙ (walk_taken_of (parts_of c.self.inside) c.args.slot.place c.args.slot.serial c.in-Walk.walker c.args.composed.now c.args.group c.args.key (lent_at c.self.inside.slots c.args.slot.place c.in-Some.busy.now _ (sym c.in-Some.ensures.busy) c.in-Walk.is) (subst (λ s. TakesWalk s c.args.slot.place c.args.slot.serial c.args.composed.now c.args.group c.args.key) (sym c.self.view_is) c.requires)).takes.in_patch)

-- the parts as they were
abbrev before : goal.After-self-in-Walk-1 → Parts
before c = parts_of c.self.inside

-- the slots as they are
abbrev slots : goal.After-self-in-Walk-1 → List (Option (Busy Work))
slots c = slice_set c.self.inside.slots c.args.slot.place (Some (record { work = Walk (record c.in-Walk.walker { published = c.lay_composed.new.published }); walker = c.in-Some.busy.now.walker }))

-- and as they are
abbrev after : goal.After-self-in-Walk-1 → Parts
after c = record (before c) { caches = c.lay_composed.new.filmed.caches; slots = slots c; frames = c.lay_composed.new.filmed.frames }

laid : (c : goal.After-self-in-Walk-1) → IsWalkLaidAt (before c) (after c) c.args.slot.place c.args.group c.args.key c.lay_composed.result
laid c = subst (λ frames. IsWalkLaidAt (before c) (record (after c) { frames = frames }) c.args.slot.place c.args.group c.args.key c.lay_composed.result) (sym c.lay_composed.ensures.frames) (walk_laid_at (before c) c.args.slot.place c.args.slot.serial c.args.group c.args.key c.in-Walk.walker c.args.composed.now c.lay_composed.result c.lay_composed.new.filmed.caches c.lay_composed.new.published (slots c) c.self.invariant
    (lent_at c.self.inside.slots c.args.slot.place c.in-Some.busy.now _ (sym c.in-Some.ensures.busy) c.in-Walk.is)
    (subst (λ s. TakesWalk s c.args.slot.place c.args.slot.serial c.args.composed.now c.args.group c.args.key) (sym c.self.view_is) c.requires)
    c.lay_composed.ensures.caches c.lay_composed.ensures.noted c.lay_composed.ensures.same_caches c.lay_composed.ensures.same_noted
    (lent_walk c.self.inside.slots c.args.slot.place c.in-Some.busy.now c.in-Walk.walker (record c.in-Walk.walker { published = c.lay_composed.new.published }) c.self.invariant.slots (sym c.in-Some.ensures.busy) c.in-Walk.is))

pub invariant_of-self : goal.invariant_of-self
invariant_of-self c = (laid c).desk

pub returns-clause-ok : goal.returns-clause-ok
returns-clause-ok c = subst (λ s. OnOk c.lay_composed.result (WalkPublishStep s c.args.slot.place c.args.group c.args.key (state_of (after c)))) c.self.view_is (laid c).ok

pub returns-clause-err : goal.returns-clause-err
returns-clause-err c = subst (λ s. OnErr c.lay_composed.result (state_of (after c) ≡ s)) c.self.view_is (laid c).err

pub unreachable-requires : goal.unreachable-requires
unreachable-requires c = walk_at_job (parts_of c.self.inside) c.args.slot.place _ c.requires.walker (lent_at c.self.inside.slots c.args.slot.place c.in-Some.busy.now _ (sym c.in-Some.ensures.busy) c.in-Paint.is) (ap (λ (s : State). slice_get s.slots c.args.slot.place) c.self.view_is ∙ c.requires.runs)

pub unreachable-requires-in-None : goal.unreachable-requires-in-None
unreachable-requires-in-None c = walk_at_none (parts_of c.self.inside) c.args.slot.place c.requires.walker (none_at c.self.inside.slots c.args.slot.place (sym c.in-None.ensures.busy)) (ap (λ (s : State). slice_get s.slots c.args.slot.place) c.self.view_is ∙ c.requires.runs)
