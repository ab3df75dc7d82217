use Rattle.std.proofs.Common.{subst}
use Rattle.machine_model.specs.State.{State}
use Rattle.host_pieces.specs.Giving.{StaysOutside}
use Rattle.host_pieces.proofs.GivenRows.{given_within}
use Rattle.host_desk.proofs.host.Host.give.Goals as goal

pub returns-then-eq-clause-within : goal.returns-then-eq-clause-within
returns-then-eq-clause-within c =
    subst (λ (s : State). StaysOutside s c.args.piece.now c.give_to-answer.result c.give_to-answer.new.desk) c.self.view_is
    (given_within c.self.inside.desk c.give_to-answer.new.desk c.args.piece.now c.give_to-answer.result c.give_to-answer.ensures.given)

pub returns-clause-within : goal.returns-clause-within
returns-clause-within c =
    subst (λ (s : State). StaysOutside s c.args.piece.now c.give_to-answer.result c.give_to-answer.new.desk) c.self.view_is
    (given_within c.self.inside.desk c.give_to-answer.new.desk c.args.piece.now c.give_to-answer.result c.give_to-answer.ensures.given)
