use Rattle.std.proofs.Common.{◌≡◌, ◌≤◌, take, length}
use Rattle.std.specs.List.{flat_map}
use Rattle.std.specs.Io.KnownBytes.{Appends}
use Rattle.ppm_out.specs.Scenes.{scene_bytes}
use Rattle.ppm_out.specs.Rows.{ShowsFrameBefore}
use Rattle.ppm_out.proofs.picture.write_frames_by.Given as goal

abbrev pub invariant-loop-i : goal.invariant-loop-i
invariant-loop-i g l = record {
  later : g.K.Sink.faults l.fn.out ≤ g.K.Sink.faults l.out;
  room : length l.picture ≡ length l.fn.picture;
  shown : ShowsFrameBefore l.film l.i l.picture;
  so_far : Appends (g.K.Sink.taken l.fn.out) (g.K.Sink.taken l.out) (flat_map scene_bytes (take l.i l.film));
}
