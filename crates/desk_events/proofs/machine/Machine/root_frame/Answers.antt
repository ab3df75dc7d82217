use Rattle.std.proofs.Common.{subst}
use Rattle.std.specs.Prelude.{IfOk}
use Rattle.machine_model.specs.State.{State}
use Rattle.desk_state.specs.Cached.{ShowsCache}
use Rattle.desk_events.proofs.machine.Machine.root_frame.Goals as goal

pub root_frame-requires : goal.root_frame-requires
root_frame-requires c = c.self.invariant.sound.orderly.counted.canvas

pub returns : goal.returns
returns c = subst (λ (s : State). IfOk c.root_frame.result (ShowsCache s.caches s.canvas)) c.self.view_is c.root_frame.ensures
