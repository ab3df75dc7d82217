use Rattle.std.proofs.Common.{◌≡◌, ℕ, ◌+◌, ◌*◌, ◌<◌, get_or}
use Rattle.picture_reading.specs.Formats.{pixel_bytes, size}
use Rattle.picture_reading.proofs.reading.read_row.Given as goal

-- the pixels of the tiles so far stand there
abbrev pub invariant-loop-col : goal.invariant-loop-col
invariant-loop-col g l = (k c : ℕ) → k < l.part.w → l.part.x + k < 64 * l.col → c < size l.format
    → get_or l.out (k * size l.format + c) 0 ≡ get_or (pixel_bytes l.format (g.P.Picture.shown l.picture).paper ((g.P.Picture.shown l.picture).pixel (l.part.x + k) (l.part.y + l.row))) c 0
