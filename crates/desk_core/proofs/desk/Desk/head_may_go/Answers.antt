use Rattle.std.proofs.Common.{refl}
use Rattle.machine_model.specs.Event.{Finish, Cancel, Act, Init, Start}
use Rattle.geom_core.proofs.Tests.{never}
use Rattle.desk_core.proofs.desk.Desk.head_may_go.Goals as goal

pub returns-in-Finish : goal.returns-in-Finish
returns-in-Finish c = rw (← c.self.view_is) (λ h. (Finish, refl, c.in-Finish.ensures), λ p. refl)

pub returns-in-Cancel : goal.returns-in-Cancel
returns-in-Cancel c = rw (← c.self.view_is) (λ h. (Cancel, refl, c.in-Cancel.ensures), λ p. refl)

pub returns-in-Act : goal.returns-in-Act
returns-in-Act c = rw (← c.self.view_is) (λ h. (Act, refl, c.in-Act.ensures), λ p. refl)

pub returns-in-Init : goal.returns-in-Init
returns-in-Init c = rw (← c.self.view_is) (λ h. (Init, refl, c.in-Init.ensures), λ p. refl)

pub returns-in-Start : goal.returns-in-Start
returns-in-Start c = rw (← c.self.view_is) (λ h. (Start c.in-Start.field-0, refl, c.in-Start.ensures), λ p. refl)

pub returns-in-Wait : goal.returns-in-Wait
returns-in-Wait c = rw (← c.self.view_is) (λ h. absurd (never h), λ p. absurd (c.in-Wait.ensures p.0 p.1 p.2))
