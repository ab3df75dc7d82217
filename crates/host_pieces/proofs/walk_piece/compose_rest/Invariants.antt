use Rattle.std.proofs.Common.{◌≡◌, ◌≤◌, length}
use Rattle.walker_core.specs.Composing.{tiles_in}
use Rattle.host_pieces.specs.Walks.{AreFirstRows}
use Rattle.host_pieces.proofs.walk_piece.compose_rest.Given as goal

-- the tiles so far are composed
abbrev pub invariant-loop-i : goal.invariant-loop-i
invariant-loop-i l = record { first : AreFirstRows l.inputs l.part.keys l.rows; so_far : length (tiles_in l.rows) ≡ l.i; count : length (tiles_in l.initial.rows) ≤ length (tiles_in l.rows) }
