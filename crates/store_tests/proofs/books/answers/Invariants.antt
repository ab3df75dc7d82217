use Rattle.store_tests.proofs.Noted.{IsClosed}
use Rattle.store_tests.proofs.books.answers.Given as goal

-- between the calls no transaction is open, and each revision stands
abbrev pub invariant-loop-call : goal.invariant-loop-call
invariant-loop-call g l = IsClosed l.book l.device.tiles
