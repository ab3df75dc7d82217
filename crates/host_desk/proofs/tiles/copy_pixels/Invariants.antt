use Rattle.std.proofs.Common.{◌≡◌, ◌*◌, take}
use Rattle.std.specs.List.{flat_map}
use Rattle.pixel_core.specs.Words.{bytes_of}
use Rattle.host_desk.proofs.tiles.copy_pixels.Given as goal

-- the bytes of the pixels so far stand there
abbrev pub invariant-loop-i : goal.invariant-loop-i
invariant-loop-i l = take (4 * l.i) l.out ≡ flat_map bytes_of (take l.i l.pixels)
