use Rattle.std.proofs.Common.{Ok, refl, sym, ap, subst, ◌∙◌}
use Rattle.machine_model.specs.State.{State}
use Rattle.machine_model.specs.Event.{Start, WalkStart}
use Rattle.machine_model.specs.Step.{Step}
use Rattle.desk_state.specs.Choices.{HeadWaits, MayWant}
use Rattle.host_pieces.specs.declared.piece.Piece.TheVariants as piece
use Rattle.host_desk.specs.Taking.{Started}
use Rattle.host_pieces.specs.Walks.{WalkWork}
use Rattle.host_desk.proofs.KeptRoots.{did_took, start_keeps, walk_start_keeps}
use Rattle.host_desk.proofs.host.Host.take_on.Goals as goal

pub new-requires-clause-checked : goal.new-requires-clause-checked
new-requires-clause-checked g c = let told = c.in-Ok-Paint.ensures.paint c.in-Ok-Paint.ticket (ap Ok c.in-Ok-Paint.field-0-is) in told.1.checked

pub new-requires-clause-limits : goal.new-requires-clause-limits
new-requires-clause-limits g c = let told = c.in-Ok-Paint.ensures.paint c.in-Ok-Paint.ticket (ap Ok c.in-Ok-Paint.field-0-is) in told.1.limits

pub new-requires-clause-kept : goal.new-requires-clause-kept
new-requires-clause-kept g c = let told = c.in-Ok-Paint.ensures.paint c.in-Ok-Paint.ticket (ap Ok c.in-Ok-Paint.field-0-is) in told.1.reads

pub returns-in-Ok-Paint : goal.returns-in-Ok-Paint
returns-in-Ok-Paint g c =
    let told = c.in-Ok-Paint.ensures.paint c.in-Ok-Paint.ticket (ap Ok c.in-Ok-Paint.field-0-is) in
    let step = subst (λ (s : State). Step s (Start c.in-Ok-Paint.ticket.slot.place) c.take.new.self) c.self.view_is told.0 in
    ((c.in-Ok-Paint.ticket, c.new.ensures, step, told.1), start_keeps c.args.self.now c.take.new.self c.in-Ok-Paint.ticket.slot.place step)

pub returns-in-Ok-Walk : goal.returns-in-Ok-Walk
returns-in-Ok-Walk g c =
    let told = c.in-Ok-Walk.ensures.walk c.in-Ok-Walk.ticket (ap Ok c.in-Ok-Walk.field-0-is) in
    let last = c.in-Ok-Walk.ensures.last c.in-Ok-Walk.ticket (ap Ok c.in-Ok-Walk.field-0-is) in
    let step = subst (λ (s : State). Step s (WalkStart c.in-Ok-Walk.ticket.slot.place c.in-Ok-Walk.ticket.inputs.patch) c.take.new.self) c.self.view_is told.0 in (
      subst (λ (w : WalkWork). Started c.args.self.now (piece.Walk w) c.take.new.self) (sym c.new-in-Ok-Walk.ensures) (step, told.1, subst HeadWaits c.self.view_is last, refl),
      walk_start_keeps c.args.self.now c.take.new.self c.in-Ok-Walk.ticket.slot.place c.in-Ok-Walk.ticket.inputs.patch step,
    )

pub returns-in-Ok-Did : goal.returns-in-Ok-Did
returns-in-Ok-Did g c = did_took _ c.args.self.now _ _ _ c.self.view_is (c.in-Ok-Did.ensures.did (ap Ok c.in-Ok-Did.field-0-is))

pub returns : goal.returns
returns g c = (refl, subst MayWant c.self.view_is c.in-Err.ensures.err.0, c.in-Err.ensures.err.1 ∙ c.self.view_is)
