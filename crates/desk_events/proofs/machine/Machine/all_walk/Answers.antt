use Rattle.std.proofs.Common.{◌≡◌, length, refl, arith, sym, ap, ◌∙◌}
use Rattle.geom_core.proofs.Tests.{length_map, never}
use Rattle.machine_model.specs.State.{State}
use Rattle.desk_state.specs.Parts.{slot_of}
use Rattle.desk_events.proofs.SameWalks.{one_more, all_so, not_so}
use Rattle.desk_events.proofs.machine.Machine.all_walk.Goals as goal

pub loop-place-preserved : goal.loop-place-preserved
loop-place-preserved c = one_more c.args.walk c.args.self.now.slots c.loop-place.place c.walks_as.result c.if-not-walks_as.false c.walks_as.ensures c.loop-place.invariant

pub returns-then-not-walks_as : goal.returns-then-not-walks_as
returns-then-not-walks_as c =
    let many : length c.args.self.now.slots ≡ length c.self.inside.slots = ap (λ (s : State). length s.slots) (sym c.self.view_is) ∙ length_map slot_of c.self.inside.slots in
    let value = c.count-place-end.ensures.value in
    ((λ e. absurd (never e)), (λ all. absurd (not_so c.args.walk c.args.self.now.slots c.loop-place.place c.walks_as.result c.if-not-walks_as.true (omega (arith, many, value)) c.walks_as.ensures all)))

pub returns : goal.returns
returns c =
    let many : length c.args.self.now.slots ≡ length c.self.inside.slots = ap (λ (s : State). length s.slots) (sym c.self.view_is) ∙ length_map slot_of c.self.inside.slots in
    let value = c.count-place-end.ensures.value in
    ((λ e. all_so c.args.walk c.args.self.now.slots c.loop-place.place (omega (arith, many, value)) c.loop-place.invariant), (λ all. refl))
