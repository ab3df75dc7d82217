use Rattle.std.proofs.Common.{◌≡◌, None, take}
use Rattle.host_pieces.specs.Parts.{rounded}
use Rattle.host_pieces.proofs.part.Part.area.Given as goal

-- the rectangle round the tiles so far
abbrev pub invariant-loop-i : goal.invariant-loop-i
invariant-loop-i l = l.round ≡ rounded None (take l.i l.self.keys)
