use Rattle.std.proofs.Common.{◌≡◌, ◌<◌, length, drop}
use Rattle.std.specs.Prelude.{slice_get}
use Rattle.doc_model.proofs.Centres.{chain}
use Rattle.doc_model.proofs.track.track_dab.Given as goal

abbrev pub invariant-loop-k : goal.invariant-loop-k
invariant-loop-k l = record {
  same : slice_get (chain l.gap (drop l.k l.points)) l.left ≡ slice_get (chain l.gap l.points) l.i;
  inside : l.left < length (chain l.gap (drop l.k l.points));
}
