use Rattle.std.proofs.Common.{◌≡◌, take}
use Rattle.plain_painter.specs.Means.{sums_of, IsUpTo}
use Rattle.plain_painter.proofs.mean.sums_over.Given as goal

-- the pixels so far are summed
abbrev pub invariant-loop-pixel : goal.invariant-loop-pixel
invariant-loop-pixel l = (l.sums ≡ sums_of (take l.pixel-index l.pixels)) × IsUpTo l.pixel-index l.sums
