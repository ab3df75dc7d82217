-- Rows of strengths, each place by its distance across.
use Rattle.std.specs.Prelude.{◌≡◌, ℕ, ◌<◌, ◌-◌, ◌*◌, ◌/◌, nat_lt, ℤ, pos, ◌+ℤ◌, nat_abs, if◌then◌else◌, Bool, List, length, slice_index_or}
use Rattle.brush_mask.specs.Mask.{mask}

-- the strengths along a row, of which the first place is (dx, dy) from the centre
abbrev pub IsMaskRow : ℕ → Bool → ℤ → ℤ → List ℕ → Type 0
IsMaskRow r soft dx dy row = (k : ℕ) → k < length row → slice_index_or row k 0 ≡ mask r soft (dx +ℤ pos k) dy

-- what the square of a distance leaves of a room
unfoldable pub spare : ℕ → ℤ → ℕ
spare room dx = room - nat_abs dx * nat_abs dx

-- full where the square of a distance leaves something of a room, 0 elsewhere
unfoldable pub full : ℕ → ℤ → ℕ
full room dx = if nat_lt 0 (spare room dx) then 255 else 0

-- along the row, full where something is left, 0 elsewhere
abbrev pub IsHardRow : ℕ → ℤ → List ℕ → Type 0
IsHardRow room dx row = (k : ℕ) → k < length row → slice_index_or row k 0 ≡ full room (dx +ℤ pos k)

-- along the row, what is left in 255ths of the whole
abbrev pub IsSoftRow : ℕ → ℕ → ℤ → List ℕ → Type 0
IsSoftRow whole room dx row = (k : ℕ) → k < length row → slice_index_or row k 0 ≡ 255 * spare room (dx +ℤ pos k) / whole
