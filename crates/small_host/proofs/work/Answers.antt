use Rattle.std.proofs.Common.{Ok, refl, ap, ◌∙◌, inl, inr}
use Rattle.machine_model.specs.Event.{Start, WalkStart}
use Rattle.desk_state.proofs.SettlingRuns.{goes_on, goes_at_once, settles_none, settles_then}
use Rattle.small_host.proofs.Bringing.{goes_then}
use Rattle.small_host.proofs.work.Goals as goal

pub returns-in_err-paint-in-Paint-clause-runs : goal.returns-in_err-paint-in-Paint-clause-runs
returns-in_err-paint-in-Paint-clause-runs g c = settles_then (goes_on c.args.desk.now c.take.new.self (Start c.in-Paint.ticket.slot.place) refl (c.take.ensures.paint c.in-Paint.ticket (c.in_ok-ticket.was ∙ ap Ok c.in-Paint.is)).0).settles c.paint.ensures

pub returns-in_ok-paint-in-Paint-clause-runs : goal.returns-in_ok-paint-in-Paint-clause-runs
returns-in_ok-paint-in-Paint-clause-runs g c = settles_then (goes_on c.args.desk.now c.take.new.self (Start c.in-Paint.ticket.slot.place) refl (c.take.ensures.paint c.in-Paint.ticket (c.in_ok-ticket.was ∙ ap Ok c.in-Paint.is)).0).settles c.paint.ensures

pub returns-in_ok-paint-in-Paint-clause-on : goal.returns-in_ok-paint-in-Paint-clause-on
returns-in_ok-paint-in-Paint-clause-on g c e = goes_then (goes_on c.args.desk.now c.take.new.self (Start c.in-Paint.ticket.slot.place) refl (c.take.ensures.paint c.in-Paint.ticket (c.in_ok-ticket.was ∙ ap Ok c.in-Paint.is)).0) c.paint.ensures

pub returns-in_err-compose-in-Walk-clause-runs : goal.returns-in_err-compose-in-Walk-clause-runs
returns-in_err-compose-in-Walk-clause-runs g c = settles_then (goes_on c.args.desk.now c.take.new.self (WalkStart c.in-Walk.ticket.slot.place c.in-Walk.ticket.inputs.patch) refl (c.take.ensures.walk c.in-Walk.ticket (c.in_ok-ticket.was ∙ ap Ok c.in-Walk.is)).0).settles c.compose.ensures

pub returns-in_ok-compose-in-Walk-clause-runs : goal.returns-in_ok-compose-in-Walk-clause-runs
returns-in_ok-compose-in-Walk-clause-runs g c = settles_then (goes_on c.args.desk.now c.take.new.self (WalkStart c.in-Walk.ticket.slot.place c.in-Walk.ticket.inputs.patch) refl (c.take.ensures.walk c.in-Walk.ticket (c.in_ok-ticket.was ∙ ap Ok c.in-Walk.is)).0).settles c.compose.ensures

pub returns-in_ok-compose-in-Walk-clause-on : goal.returns-in_ok-compose-in-Walk-clause-on
returns-in_ok-compose-in-Walk-clause-on g c e = goes_then (goes_on c.args.desk.now c.take.new.self (WalkStart c.in-Walk.ticket.slot.place c.in-Walk.ticket.inputs.patch) refl (c.take.ensures.walk c.in-Walk.ticket (c.in_ok-ticket.was ∙ ap Ok c.in-Walk.is)).0) c.compose.ensures

pub returns-in-Did-clause-runs : goal.returns-in-Did-clause-runs
returns-in-Did-clause-runs g c = (goes_at_once (c.take.ensures.did (c.in_ok-ticket.was ∙ ap Ok c.in-Did.is))).settles

pub returns-in-Did-clause-on : goal.returns-in-Did-clause-on
returns-in-Did-clause-on g c e = goes_at_once (c.take.ensures.did (c.in_ok-ticket.was ∙ ap Ok c.in-Did.is))

pub returns-in-Idle-clause-runs : goal.returns-in-Idle-clause-runs
returns-in-Idle-clause-runs g c = settles_none c.args.desk.now c.take.new.self (c.take.ensures.idle (c.in_ok-ticket.was ∙ ap Ok c.in-Idle.is)).1

pub returns-in-Idle-clause-rest : goal.returns-in-Idle-clause-rest
returns-in-Idle-clause-rest g c e = (inl (c.take.ensures.idle (c.in_ok-ticket.was ∙ ap Ok c.in-Idle.is)).0, (c.take.ensures.idle (c.in_ok-ticket.was ∙ ap Ok c.in-Idle.is)).1)

pub returns-in-Settled-clause-runs : goal.returns-in-Settled-clause-runs
returns-in-Settled-clause-runs g c = settles_none c.args.desk.now c.take.new.self (c.take.ensures.settled (c.in_ok-ticket.was ∙ ap Ok c.in-Settled.is)).1

pub returns-in-Settled-clause-rest : goal.returns-in-Settled-clause-rest
returns-in-Settled-clause-rest g c e = (inr (c.take.ensures.settled (c.in_ok-ticket.was ∙ ap Ok c.in-Settled.is)).0, (c.take.ensures.settled (c.in_ok-ticket.was ∙ ap Ok c.in-Settled.is)).1)
