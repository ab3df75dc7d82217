use Rattle.std.proofs.Common.{◌≡◌, ℕ, Some, subst}
use Rattle.std.specs.Prelude.{slice_get, IfSome, IfNone}
use Rattle.machine_model.specs.State.{State, Free}
use Rattle.desk_state.proofs.SlotTests.{free_some, free_nowhere}
use Rattle.desk_events.proofs.machine.Machine.free_place.Goals as goal

pub returns-clause-some : goal.returns-clause-some
returns-clause-some c = subst (λ (s : State). IfSome c.free.result (λ place. slice_get s.slots place ≡ Some Free)) c.self.view_is (free_some c.self.inside.slots c.free.result c.free.ensures)

pub returns-clause-none : goal.returns-clause-none
returns-clause-none c = subst (λ (s : State). IfNone c.free.result ((place : ℕ) → slice_get s.slots place ≡ Some Free → ⊥)) c.self.view_is (free_nowhere c.self.inside.slots c.free.result c.free.ensures)
