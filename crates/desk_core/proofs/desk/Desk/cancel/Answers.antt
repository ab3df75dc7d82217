use Rattle.desk_core.proofs.Tracking.{anew_tracks}
use Rattle.machine_model.proofs.RunsSound.{step_keeps_sound}
use Rattle.std.proofs.Common.{subst, sym, refl}
use Rattle.desk_core.proofs.Keeping.{step_keeps}
use Rattle.desk_state.specs.Enabled.{Enabled}
use Rattle.machine_model.specs.Event.{Cancel}
use Rattle.desk_core.proofs.desk.Desk.cancel.Goals as goal

pub cancel-requires : goal.cancel-requires
cancel-requires g c = subst (λ s. Enabled s Cancel) (sym c.self.view_is) c.requires

pub invariant_of-self : goal.invariant_of-self
invariant_of-self g c = anew_tracks c.cancel.new.self c.begin_anew.new.damage c.self.inside.folds.value (step_keeps_sound c.self.inside.machine c.cancel.new.self Cancel c.self.invariant.sound c.cancel.ensures.step)
    (step_keeps c.self.inside.machine c.cancel.new.self Cancel c.self.inside.folds.value refl c.self.invariant.sound c.cancel.ensures.step c.self.invariant.keeps) c.begin_anew.ensures
