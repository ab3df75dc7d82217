use Rattle.std.proofs.Common.{◌≡◌, ◌≤◌, length, sym, ap, ◌∙◌, arith}
use Rattle.machine_model.specs.State.{State}
use Rattle.desk_state.specs.Parts.{slot_of}
use Rattle.desk_events.proofs.Untouched.{least_more, least_all}
use Rattle.desk_events.proofs.machine.Machine.least_at_work.Goals as goal
use Rattle.geom_core.proofs.Tests.{length_map}

pub loop-place-preserved : goal.loop-place-preserved
loop-place-preserved c = (
  (let h : c.least_with-least.result ≤ c.loop-place.least = c.least_with-least.ensures.low in let k : c.loop-place.least ≤ c.args.own = c.loop-place.invariant.0 in omega arith),
  least_more c.args.self.now.slots c.loop-place.place c.loop-place.least c.least_with-least.result c.loop-place.invariant.1 c.least_with-least.ensures.low c.least_with-least.ensures.at,
)

pub returns-clause-low : goal.returns-clause-low
returns-clause-low c = c.loop-place.invariant.0

pub returns-clause-all : goal.returns-clause-all
returns-clause-all c =
    let many : length c.args.self.now.slots ≡ length c.self.inside.slots = ap (λ (s : State). length s.slots) (sym c.self.view_is) ∙ length_map slot_of c.self.inside.slots in
    let value = c.count-place-end.ensures.value in
    least_all c.args.self.now.slots c.loop-place.place c.loop-place.least (omega (arith, many, value)) c.loop-place.invariant.1
