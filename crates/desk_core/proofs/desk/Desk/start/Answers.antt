use Rattle.frame_core.specs.Damage.{is_damaged}
use Rattle.std.proofs.Common.{ap, ◌∙◌}
use Rattle.geom_core.specs.Rects.{any_holds}
use Rattle.desk_core.proofs.Tracking.{start_tracks}
use Rattle.std.proofs.Common.{subst, sym}
use Rattle.desk_state.specs.Enabled.{Enabled}
use Rattle.machine_model.specs.Event.{Start}
use Rattle.desk_core.proofs.desk.Desk.start.Goals as goal

pub start-requires : goal.start-requires
start-requires c = subst (λ s. Enabled s (Start c.args.place)) (sym c.self.view_is) c.requires

pub invariant_of-self-2 : goal.invariant_of-self-2
invariant_of-self-2 c = start_tracks c.self.inside.machine c.start.new.self c.in_ok-ticket.ticket.slot.place c.self.inside.damage.value c.add_all.new.self c.self.inside.calm c.self.inside.folds.value _ c.in_ok-ticket.ensures.ok c.in_ok-ticket.ensures.ticket.runs
    (λ p on whole. (ap (λ ps. is_damaged ps p) (sym c.deref_mut.ensures.value) ∙ (c.add_all.ensures p on whole).0, ap (λ rs. any_holds rs p) (sym (c.as_slice.ensures.value ∙ c.writes-writes.ensures)) ∙ (c.add_all.ensures p on whole).1)) c.self.invariant
