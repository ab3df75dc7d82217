use Rattle.std.proofs.Common.{◌≤◌, ◌-◌, ◌++◌}
use Rattle.std.specs.Io.KnownBytes.{Appends}
use Rattle.frame_core.specs.Frames.{rows_colours}
use Rattle.ppm_out.specs.Pictures.{header}
use Rattle.ppm_out.proofs.picture.write_bands.Given as goal

-- the rows above the top of the next band are written
abbrev pub invariant-loop-top : goal.invariant-loop-top
invariant-loop-top g l = record {
  in_range : l.top ≤ l.frame.height;
  later : g.K.Sink.faults l.fn.out ≤ g.K.Sink.faults l.out;
  so_far : Appends (g.K.Sink.taken l.fn.out) (g.K.Sink.taken l.out) (header l.frame.width l.frame.height ++ rows_colours l.frame 0 l.top);
}

abbrev pub decreases-loop-top : goal.decreases-loop-top
decreases-loop-top g l = l.frame.height - l.top
