use Rattle.std.proofs.Common.{ap}
use Rattle.history_core.specs.Stacks.{IsUndone}
use Rattle.history_core.proofs.Lent.{lent_holds, nothing_is}
use Rattle.memento_core.proofs.Booked.{first_again, first_stood, first_touched, none_counted, rolled_back}
use Rattle.memento_core.proofs.book.Book.rollback.Goals as goal

pub returns-in_err-newest-clause-counts : goal.returns-in_err-newest-clause-counts
returns-in_err-newest-clause-counts g c = none_counted c.self.inside.history.past c.args.self.now.past c.args.steps.now (ap (λ b. b.past) c.self.view_is) (nothing_is c.self.inside.history.past c.in_err-newest.ensures.some.1)

pub returns-clause-back : goal.returns-clause-back
returns-clause-back g c =
    let lent : IsUndone c.self.inside.history (c.undo.follows.lender c.exchange.new.self) c.exchange.new.self = lent_holds c.undo.result c.in_ok-newest.newest c.in_ok-newest.was (c.undo.follows.holds c.exchange.new.self) in
    rolled_back c.args.self.now c.self.inside.history (c.undo.follows.lender c.exchange.new.self) c.self.inside.index c.in_ok-newest.newest.now c.exchange.new.self (g.P.Plane.plane c.args.plane.now) (g.P.Plane.plane c.exchange.new.plane)
    (ap (λ b. b.past) c.self.view_is) (ap (λ b. b.redo) c.self.view_is) (ap (λ b. b.index) c.self.view_is) c.exchange.ensures.exchanges c.in_ok-newest.ensures.entry lent

pub returns-clause-touched : goal.returns-clause-touched
returns-clause-touched g c = first_touched c.self.inside.history.past c.args.self.now.past c.in_ok-newest.newest.now c.exchange.new.self (g.P.Plane.plane c.args.plane.now) (g.P.Plane.plane c.exchange.new.plane) c.touched.result
    (ap (λ b. b.past) c.self.view_is) c.in_ok-newest.ensures.entry c.exchange.ensures.exchanges c.touched.ensures

pub returns-clause-stands : goal.returns-clause-stands
returns-clause-stands g c =
    let lent : IsUndone c.self.inside.history (c.undo.follows.lender c.exchange.new.self) c.exchange.new.self = lent_holds c.undo.result c.in_ok-newest.newest c.in_ok-newest.was (c.undo.follows.holds c.exchange.new.self) in
    first_again _ _ c.in_ok-newest.newest.now c.exchange.new.self (g.P.Plane.plane c.args.plane.now) (g.P.Plane.plane c.exchange.new.plane) lent.future
    (first_stood c.self.inside.history.past c.args.self.now.past c.in_ok-newest.newest.now (g.P.Plane.plane c.args.plane.now) (ap (λ b. b.past) c.self.view_is) c.in_ok-newest.ensures.entry c.requires.stand) c.exchange.ensures.exchanges
