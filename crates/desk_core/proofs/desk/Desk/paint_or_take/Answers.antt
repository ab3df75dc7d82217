use Rattle.std.proofs.Common.{◌≡◌, true, Ok, OnErr, sym, ap, subst}
use Rattle.std.specs.Prelude.{IfSome}
use Rattle.std.specs.List.{list_all}
use Rattle.doc_model.specs.Feeding.{is_closed_entry}
use Rattle.doc_model.specs.Strokes.{entries}
use Rattle.machine_model.specs.State.{State, is_free}
use Rattle.machine_model.specs.Settled.{IsSettled}
use Rattle.machine_model.specs.Sound.{IsOrderly}
use Rattle.desk_state.specs.Settles.{GoesOn}
use Rattle.desk_events.specs.SmallJobs.{PaintsSmall}
use Rattle.desk_core.proofs.SmallJobs.{small_goes}
use Rattle.desk_core.proofs.desk.Desk.paint_or_take.Goals as goal

pub take_on-requires-clause-free : goal.take_on-requires-clause-free
take_on-requires-clause-free g c = subst (λ (s : State). list_all is_free s.slots ≡ true) (sym (c.in_ok-_bound.ensures.none (ap Ok c.in-None.is))) c.requires.free

pub take_on-requires-clause-closed : goal.take_on-requires-clause-closed
take_on-requires-clause-closed g c = subst (λ (s : State). list_all is_closed_entry (entries s.fed) ≡ true) (sym (c.in_ok-_bound.ensures.none (ap Ok c.in-None.is))) c.requires.closed

pub take_on-requires-clause-known : goal.take_on-requires-clause-known
take_on-requires-clause-known g c = subst IsOrderly (sym (c.in_ok-_bound.ensures.none (ap Ok c.in-None.is))) c.requires.known

pub returns-in-Some-clause-on : goal.returns-in-Some-clause-on
returns-in-Some-clause-on g c e = small_goes c.args.self.now c.paint_small.new.self c.in-Some._bound (subst (λ o. IfSome o (λ b. PaintsSmall c.args.self.now b c.paint_small.new.self)) c.in-Some.is c.in_ok-_bound.ensures.some)

pub returns-in-None-clause-on : goal.returns-in-None-clause-on
returns-in-None-clause-on g c e = subst (λ s. GoesOn s c.take_on.new.self) (c.in_ok-_bound.ensures.none (ap Ok c.in-None.is)) (c.take_on.ensures.on e)

pub returns-in-None-clause-settled : goal.returns-in-None-clause-settled
returns-in-None-clause-settled g c e = subst (λ s. IsSettled s × (c.take_on.new.self ≡ s)) (c.in_ok-_bound.ensures.none (ap Ok c.in-None.is)) (c.take_on.ensures.settled e)

pub returns-in-None-clause-err : goal.returns-in-None-clause-err
returns-in-None-clause-err g c = subst (λ s. OnErr c.take_on.result (c.take_on.new.self ≡ s)) (c.in_ok-_bound.ensures.none (ap Ok c.in-None.is)) c.take_on.ensures.err
