use Rattle.std.proofs.Common.{◌≤◌, take}
use Rattle.std.specs.Io.KnownBytes.{Appends}
use Rattle.io_edge.specs.Bytes.{joined}
use Rattle.io_edge.proofs.whole.write_pieces.Given as goal

abbrev pub invariant-loop-piece : goal.invariant-loop-piece
invariant-loop-piece g l = record {
  later : g.K.Sink.faults l.fn.out ≤ g.K.Sink.faults l.out;
  so_far : Appends (g.K.Sink.taken l.fn.out) (g.K.Sink.taken l.out) (joined (take l.piece-index l.pieces));
}
