use Rattle.desk_core.proofs.Tracking.{anew_tracks}
use Rattle.machine_model.proofs.RunsSound.{step_keeps_sound}
use Rattle.std.proofs.Common.{subst, sym, ◌∙◌}
use Rattle.desk_core.proofs.Keeping.{act_keeps}
use Rattle.desk_state.specs.Enabled.{Enabled}
use Rattle.machine_model.specs.Event.{Act}
use Rattle.desk_core.proofs.desk.Desk.act.Goals as goal

pub act-requires : goal.act-requires
act-requires g c = subst (λ s. Enabled s Act) (sym c.self.view_is) c.requires

pub invariant_of-self-2 : goal.invariant_of-self-2
invariant_of-self-2 g c = anew_tracks c.act.new.self c.begin_anew.new.damage c.forget.new.self (step_keeps_sound c.self.inside.machine c.act.new.self Act c.self.invariant.sound c.in_ok-act.ensures.ok)
    (act_keeps c.self.inside.machine c.act.new.self c.forget.new.self c.self.invariant.sound (step_keeps_sound c.self.inside.machine c.act.new.self Act c.self.invariant.sound c.in_ok-act.ensures.ok) c.in_ok-act.ensures.ok c.forget.ensures.folds (c.forget.ensures.since ∙ c.next_serial.ensures)) c.begin_anew.ensures
