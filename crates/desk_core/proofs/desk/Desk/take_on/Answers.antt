use Rattle.std.proofs.Common.{Ok, refl, ap, ◌∙◌}
use Rattle.machine_model.specs.Event.{Start, WalkStart}
use Rattle.desk_state.proofs.SettlingRuns.{goes_on, goes_at_once, never_idle}
use Rattle.desk_core.proofs.desk.Desk.take_on.Goals as goal

pub unreachable-requires : goal.unreachable-requires
unreachable-requires g c = never_idle c.args.self.now c.requires.known c.requires.free c.requires.closed (c.take.ensures.idle (c.in_ok-take.was ∙ ap Ok c.in-Idle.is)).0

pub returns-in-Paint-clause-on : goal.returns-in-Paint-clause-on
returns-in-Paint-clause-on g c e = goes_on c.args.self.now c.take.new.self (Start c.in-Paint._ticket.slot.place) refl (c.take.ensures.paint c.in-Paint._ticket (c.in_ok-take.was ∙ ap Ok c.in-Paint.is)).0

pub returns-in-Walk-clause-on : goal.returns-in-Walk-clause-on
returns-in-Walk-clause-on g c e = goes_on c.args.self.now c.take.new.self (WalkStart c.in-Walk._ticket.slot.place c.in-Walk._ticket.inputs.patch) refl (c.take.ensures.walk c.in-Walk._ticket (c.in_ok-take.was ∙ ap Ok c.in-Walk.is)).0

pub returns-in-Did-clause-on : goal.returns-in-Did-clause-on
returns-in-Did-clause-on g c e = goes_at_once (c.take.ensures.did (c.in_ok-take.was ∙ ap Ok c.in-Did.is))
