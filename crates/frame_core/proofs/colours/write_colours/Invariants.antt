use Rattle.std.proofs.Common.{◌≡◌, ◌*◌, take}
use Rattle.std.specs.List.{flat_map}
use Rattle.frame_core.specs.Frames.{colours}
use Rattle.frame_core.proofs.colours.write_colours.Given as goal

-- the colours of the pixels so far stand there
abbrev pub invariant-loop-i : goal.invariant-loop-i
invariant-loop-i l = take (3 * l.i) l.bytes ≡ flat_map colours (take l.i l.pixels)
