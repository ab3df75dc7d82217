use Rattle.std.proofs.Common.{ap}
use Rattle.history_core.specs.Stacks.{IsRedone}
use Rattle.history_core.proofs.Lent.{lent_holds, nothing_is}
use Rattle.memento_core.proofs.Booked.{first_again, first_stood, first_touched, none_counted, rolled_forward}
use Rattle.memento_core.proofs.book.Book.rollforward.Goals as goal

pub returns-in_err-next-clause-counts : goal.returns-in_err-next-clause-counts
returns-in_err-next-clause-counts g c = none_counted c.self.inside.history.future c.args.self.now.redo c.args.steps.now (ap (λ b. b.redo) c.self.view_is) (nothing_is c.self.inside.history.future c.in_err-next.ensures.some.1)

pub returns-clause-forth : goal.returns-clause-forth
returns-clause-forth g c =
    let lent : IsRedone c.self.inside.history (c.redo.follows.lender c.exchange.new.self) c.exchange.new.self = lent_holds c.redo.result c.in_ok-next.next c.in_ok-next.was (c.redo.follows.holds c.exchange.new.self) in
    rolled_forward c.args.self.now c.self.inside.history (c.redo.follows.lender c.exchange.new.self) c.self.inside.index c.in_ok-next.next.now c.exchange.new.self (g.P.Plane.plane c.args.plane.now) (g.P.Plane.plane c.exchange.new.plane)
    (ap (λ b. b.past) c.self.view_is) (ap (λ b. b.redo) c.self.view_is) (ap (λ b. b.index) c.self.view_is) c.exchange.ensures.exchanges c.in_ok-next.ensures.entry lent

pub returns-clause-touched : goal.returns-clause-touched
returns-clause-touched g c = first_touched c.self.inside.history.future c.args.self.now.redo c.in_ok-next.next.now c.exchange.new.self (g.P.Plane.plane c.args.plane.now) (g.P.Plane.plane c.exchange.new.plane) c.touched.result
    (ap (λ b. b.redo) c.self.view_is) c.in_ok-next.ensures.entry c.exchange.ensures.exchanges c.touched.ensures

pub returns-clause-stands : goal.returns-clause-stands
returns-clause-stands g c =
    let lent : IsRedone c.self.inside.history (c.redo.follows.lender c.exchange.new.self) c.exchange.new.self = lent_holds c.redo.result c.in_ok-next.next c.in_ok-next.was (c.redo.follows.holds c.exchange.new.self) in
    first_again _ _ c.in_ok-next.next.now c.exchange.new.self (g.P.Plane.plane c.args.plane.now) (g.P.Plane.plane c.exchange.new.plane) lent.past
    (first_stood c.self.inside.history.future c.args.self.now.redo c.in_ok-next.next.now (g.P.Plane.plane c.args.plane.now) (ap (λ b. b.redo) c.self.view_is) c.in_ok-next.ensures.entry c.requires.stand) c.exchange.ensures.exchanges
