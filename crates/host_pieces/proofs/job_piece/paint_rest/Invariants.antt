use Rattle.std.proofs.Common.{◌≡◌, ◌≤◌, length}
use Rattle.host_pieces.specs.Jobs.{AreFirst}
use Rattle.host_pieces.proofs.job_piece.paint_rest.Given as goal

-- the tiles so far are painted
abbrev pub invariant-loop-i : goal.invariant-loop-i
invariant-loop-i l = record { first : AreFirst l.painting l.initial.made.items → AreFirst l.painting l.made.items; so_far : length l.made.items ≡ l.i; count : length l.initial.made.items ≤ length l.made.items }
