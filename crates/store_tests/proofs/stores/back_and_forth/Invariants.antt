use Rattle.std.proofs.Common.{◌≡◌, None}
use Rattle.store_tests.proofs.stores.back_and_forth.Given as goal

-- no stroke is under way
abbrev pub invariant-loop-i : goal.invariant-loop-i
invariant-loop-i g l = l.store.way ≡ None

abbrev pub invariant-loop-i-2 : goal.invariant-loop-i-2
invariant-loop-i-2 g l = l.store.way ≡ None
