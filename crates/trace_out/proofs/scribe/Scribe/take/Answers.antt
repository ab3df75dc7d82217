use Rattle.std.proofs.Common.{Ok, refl, sym, ap, ◌∙◌, subst, arith, ◌≤◌}
use Rattle.machine_model.specs.Event.{Start, WalkStart}
use Rattle.trace_out.proofs.Taken.{lent_job, lent_walk}
use Rattle.trace_out.proofs.Fits.{place_fits, waiting_small}
use Rattle.trace_out.proofs.Going.{orderly_by, took_work}
use Rattle.trace_out.proofs.AtOnce.{did_written}
use Rattle.trace_out.proofs.scribe.Scribe.take.Goals as goal

pub hold_job-requires-clause-some : goal.hold_job-requires-clause-some
hold_job-requires-clause-some g c = let n = (c.take.ensures.paint c.in-Paint.ticket (c.in_ok-ticket.was ∙ ap Ok c.in-Paint.is)).1.number in omega (arith, n)

pub hold_job-requires-clause-lent : goal.hold_job-requires-clause-lent
hold_job-requires-clause-lent g c =
    let t = c.take.ensures.paint c.in-Paint.ticket (c.in_ok-ticket.was ∙ ap Ok c.in-Paint.is) in
    lent_job c.args.self.now.held c.args.self.now.desk c.take.new.self c.in-Paint.ticket c.requires t.0 t.1

pub hold_walk-requires-clause-place : goal.hold_walk-requires-clause-place
hold_walk-requires-clause-place g c =
    let t = c.take.ensures.walk c.in-Walk.ticket (c.in_ok-ticket.was ∙ ap Ok c.in-Walk.is) in
    place_fits c.args.self.now.desk c.in-Walk.ticket.slot.place _ (orderly_by c.requires) t.0.free

pub hold_walk-requires-clause-world : goal.hold_walk-requires-clause-world
hold_walk-requires-clause-world g c =
    let t = c.take.ensures.walk c.in-Walk.ticket (c.in_ok-ticket.was ∙ ap Ok c.in-Walk.is) in
    (waiting_small c.args.self.now.desk t.0.i c.in-Walk.ticket.inputs.patch (orderly_by c.requires) t.0.waits).world

pub hold_walk-requires-clause-columns : goal.hold_walk-requires-clause-columns
hold_walk-requires-clause-columns g c =
    let t = c.take.ensures.walk c.in-Walk.ticket (c.in_ok-ticket.was ∙ ap Ok c.in-Walk.is) in
    (waiting_small c.args.self.now.desk t.0.i c.in-Walk.ticket.inputs.patch (orderly_by c.requires) t.0.waits).columns

pub hold_walk-requires-clause-rows : goal.hold_walk-requires-clause-rows
hold_walk-requires-clause-rows g c =
    let t = c.take.ensures.walk c.in-Walk.ticket (c.in_ok-ticket.was ∙ ap Ok c.in-Walk.is) in
    (waiting_small c.args.self.now.desk t.0.i c.in-Walk.ticket.inputs.patch (orderly_by c.requires) t.0.waits).rows

pub hold_walk-requires-clause-lent : goal.hold_walk-requires-clause-lent
hold_walk-requires-clause-lent g c =
    let t = c.take.ensures.walk c.in-Walk.ticket (c.in_ok-ticket.was ∙ ap Ok c.in-Walk.is) in
    lent_walk c.args.self.now.held c.args.self.now.desk c.take.new.self c.in-Walk.ticket c.requires t.0 t.1

pub returns-in_ok-hold_job-in-Paint-clause-something : goal.returns-in_ok-hold_job-in-Paint-clause-something
returns-in_ok-hold_job-in-Paint-clause-something g c =
    let t = c.take.ensures.paint c.in-Paint.ticket (c.in_ok-ticket.was ∙ ap Ok c.in-Paint.is) in
    λ e. took_work c.args.self.now.held c.args.self.now.desk c.take.new.self (Start c.in-Paint.ticket.slot.place) c.args.self.now.out.items c.hold_job.new.self c.requires t.0 refl (place_fits c.args.self.now.desk c.in-Paint.ticket.slot.place _ (orderly_by c.requires) t.0.free) c.in_ok-hold_job-in-Paint.ensures.desk c.in_ok-hold_job-in-Paint.ensures.text c.in_ok-hold_job-in-Paint.ensures.tied

pub returns-in_ok-hold_walk-in-Walk-clause-something : goal.returns-in_ok-hold_walk-in-Walk-clause-something
returns-in_ok-hold_walk-in-Walk-clause-something g c =
    let t = c.take.ensures.walk c.in-Walk.ticket (c.in_ok-ticket.was ∙ ap Ok c.in-Walk.is) in
    λ e. took_work c.args.self.now.held c.args.self.now.desk c.take.new.self (WalkStart c.in-Walk.ticket.slot.place c.in-Walk.ticket.inputs.patch) c.args.self.now.out.items c.hold_walk.new.self c.requires t.0 refl c.in_ok-hold_walk-in-Walk.ensures.fits c.in_ok-hold_walk-in-Walk.ensures.desk c.in_ok-hold_walk-in-Walk.ensures.text c.in_ok-hold_walk-in-Walk.ensures.tied

pub returns-in_ok-add_line-in-Did-clause-something : goal.returns-in_ok-add_line-in-Did-clause-something
returns-in_ok-add_line-in-Did-clause-something g c = λ e. did_written c.args.self.now.desk c.args.self.now.out.items (record c.args.self.now { desk = c.take.new.self; out = c.add_line.new.out }) c.requires (c.take.ensures.did (c.in_ok-ticket.was ∙ ap Ok c.in-Did.is)) c.in_ok-add_line-in-Did.ensures

pub returns-in-Idle-clause-nothing : goal.returns-in-Idle-clause-nothing
returns-in-Idle-clause-nothing g c =
    let t = c.take.ensures.idle (c.in_ok-ticket.was ∙ ap Ok c.in-Idle.is) in
    λ e. (t.0, λ i. record c.args.self.now { desk = t.1 i })

pub returns-in-Settled-clause-settled : goal.returns-in-Settled-clause-settled
returns-in-Settled-clause-settled g c =
    let t = c.take.ensures.settled (c.in_ok-ticket.was ∙ ap Ok c.in-Settled.is) in
    λ e. (t.0, λ i. record c.args.self.now { desk = t.1 i })
