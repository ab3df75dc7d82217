use Rattle.wet_paint.proofs.paint.picture_of.Given as goal

-- the live view that was just opened
abbrev pub ghosts-named_picture : goal.ghosts-named_picture
ghosts-named_picture g a = record { book = a.opened }
