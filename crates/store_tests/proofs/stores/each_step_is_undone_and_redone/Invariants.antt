use Rattle.std.proofs.Common.{◌≡◌, None}
use Rattle.store_tests.proofs.stores.each_step_is_undone_and_redone.Given as goal

-- no stroke is under way
abbrev pub invariant-loop-step : goal.invariant-loop-step
invariant-loop-step g l = l.store.way ≡ None

abbrev pub ghosts-back_and_forth : goal.ghosts-back_and_forth
ghosts-back_and_forth g a = record { name = a.blank.name; parts = a.blank.parts }
