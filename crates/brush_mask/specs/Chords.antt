-- Chords of a dab's circle.
use Rattle.std.specs.Prelude.{◌≡◌, ℕ, ◌<◌, ◌&&◌, nat_le, nat_lt, false, ℤ, pos, ◌+ℤ◌, nat_abs, if◌then◌else◌}
use Rattle.brush_mask.specs.Mask.{mask}

-- in the row dy below the centre a hard dab paints h columns to each side of it, and no others
abbrev pub IsHalfChord : ℕ → ℤ → ℕ → Type 0
IsHalfChord r dy h = (dx : ℤ) → mask r false dx dy ≡ (if nat_le (nat_abs dx) h then 255 else 0)

-- along a row of some places, of which the first is (dx, dy) from the centre, a hard dab paints those from one up to another
abbrev pub IsChord : ℕ → ℤ → ℤ → ℕ → ℕ → ℕ → Type 0
IsChord r dx dy places first end = (k : ℕ) → k < places → mask r false (dx +ℤ pos k) dy ≡ (if nat_le first k && nat_lt k end then 255 else 0)
