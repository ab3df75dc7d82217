use Rattle.memento_core.proofs.Booked.{forth_again, back_again}
use Rattle.memento_core.proofs.laws.rolls_back_and_forth.Goals as goal

pub returns-clause-forth_again : goal.returns-clause-forth_again
returns-clause-forth_again g c = forth_again

pub returns-clause-back_again : goal.returns-clause-back_again
returns-clause-back_again g c = back_again
