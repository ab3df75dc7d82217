use Rattle.std.proofs.Common.{◌≡◌, ◌≤◌, ◌+◌, ◌*◌, length, drop}
use Rattle.doc_model.proofs.Centres.{chain}
use Rattle.doc_model.proofs.track.track_len.Given as goal

abbrev pub invariant-loop-i : goal.invariant-loop-i
invariant-loop-i l = record {
  counted : l.count + length (chain l.gap (drop l.i l.points)) ≡ 1 + length (chain l.gap l.points);
  small : l.count ≤ 1 + 65535 * l.i;
}
