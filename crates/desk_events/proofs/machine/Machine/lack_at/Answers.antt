use Rattle.std.proofs.Common.{Some, sym, ap, ◌∙◌, subst}
use Rattle.machine_model.specs.Event.{Publish, End, WalkEnd}
use Rattle.desk_state.specs.Enabled.{Enabled}
use Rattle.desk_state.proofs.Ends.{job_may_end, walker_may_end}
use Rattle.desk_events.specs.Kept.{parts_of}
use Rattle.desk_events.specs.OwnWork.{WalkLacks}
use Rattle.desk_events.proofs.OwnTiles.{tile_may, pair_may}
use Rattle.desk_events.proofs.machine.Machine.lack_at.Goals as goal

pub returns-in-Some : goal.returns-in-Some
returns-in-Some c = subst (λ s. Enabled s (Publish c.args.place c.in-Some.key)) c.self.view_is
    (tile_may (parts_of c.self.inside) c.args.place c.in-Some-Paint.painter c.in-Some.key c.self.invariant (sym c.in-Some-Paint.ensures ∙ ap Some c.in-Some-Paint.field-0-is) c.in-Some.ensures.some.0 c.in-Some.ensures.some.1)

pub returns-in-None-next_tile : goal.returns-in-None-next_tile
returns-in-None-next_tile c = subst (λ s. Enabled s (End c.args.place)) c.self.view_is
    (job_may_end (parts_of c.self.inside) c.args.place c.in-Some-Paint.painter c.self.invariant (sym c.in-Some-Paint.ensures ∙ ap Some c.in-Some-Paint.field-0-is) (sym c.in-None-next_tile.ensures.none))

pub returns-in-Some-next_pair : goal.returns-in-Some-next_pair
returns-in-Some-next_pair c = subst (λ s. WalkLacks s c.args.place c.in-Some-next_pair.key) c.self.view_is
    (pair_may (parts_of c.self.inside) c.args.place c.in-Some-Walk.walker c.in-Some-next_pair._group c.in-Some-next_pair.key c.self.invariant (sym c.in-Some-Walk.ensures ∙ ap Some c.in-Some-Walk.field-0-is) c.in-Some-next_pair.ensures.world c.in-Some-next_pair.ensures.group c.in-Some-next_pair.ensures.tile c.in-Some-next_pair.ensures.fresh)

pub returns-in-None-next_pair : goal.returns-in-None-next_pair
returns-in-None-next_pair c = subst (λ s. Enabled s (WalkEnd c.args.place)) c.self.view_is
    (walker_may_end (parts_of c.self.inside) c.args.place c.in-Some-Walk.walker c.self.invariant (sym c.in-Some-Walk.ensures ∙ ap Some c.in-Some-Walk.field-0-is) (sym c.in-None-next_pair.ensures.none))
