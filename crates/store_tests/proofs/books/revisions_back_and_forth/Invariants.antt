use Rattle.store_tests.proofs.books.revisions_back_and_forth.Given as goal

abbrev pub ghosts-answers : goal.ghosts-answers
ghosts-answers g a = record { name = a.blank.name; parts = a.blank.parts }
