use Rattle.store_tests.proofs.reverts.a_reverted_stroke_leaves_the_redo.Given as goal

abbrev pub ghosts-redoes_after_revert : goal.ghosts-redoes_after_revert
ghosts-redoes_after_revert g a = record { name = a.blank.name; parts = a.blank.parts }
