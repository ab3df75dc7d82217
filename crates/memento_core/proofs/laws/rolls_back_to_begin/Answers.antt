use Rattle.memento_core.proofs.Booked.{back_to_begin, index_begins, index_grows}
use Rattle.memento_core.proofs.laws.rolls_back_to_begin.Goals as goal

pub returns-clause-begins : goal.returns-clause-begins
returns-clause-begins g c = index_begins

pub returns-clause-grows : goal.returns-clause-grows
returns-clause-grows g c = index_grows

pub returns-clause-back : goal.returns-clause-back
returns-clause-back g c = back_to_begin
