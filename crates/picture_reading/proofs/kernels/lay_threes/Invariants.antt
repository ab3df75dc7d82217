use Rattle.std.proofs.Common.{◌≡◌, ℕ, ◌+◌, ◌*◌, ◌<◌, get_or}
use Rattle.pixel_core.specs.Rgba.{clear}
use Rattle.pixel_core.specs.Words.{bytes_of}
use Rattle.picture_reading.proofs.kernels.lay_threes.Given as goal

-- the bytes of the pixels so far stand there
abbrev pub invariant-loop-k : goal.invariant-loop-k
invariant-loop-k l = (j c : ℕ) → j < l.k → c < 3 → get_or l.out (j * 3 + c) 0 ≡ get_or (bytes_of (get_or l.pixels j clear)) c 0
