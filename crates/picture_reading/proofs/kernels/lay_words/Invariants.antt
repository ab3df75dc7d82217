use Rattle.std.proofs.Common.{◌≡◌, ℕ, ◌+◌, ◌*◌, ◌<◌, get_or}
use Rattle.pixel_core.specs.Rgba.{clear}
use Rattle.picture_reading.proofs.kernels.lay_words.Given as goal

-- the bytes of the pixels so far stand there
abbrev pub invariant-loop-k : goal.invariant-loop-k
invariant-loop-k g l = (j c : ℕ) → j < l.k → c < 4 → get_or l.out (j * 4 + c) 0 ≡ get_or (g.B.FourBytes.four (get_or l.pixels j clear)) c 0
