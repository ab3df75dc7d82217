-- Sums over columns and squares of pixels that stand in rows.
use Rattle.std.specs.Prelude.{◌≡◌, ℕ, ◌+◌, ◌*◌, ◌<◌, List, length, map, slice_index_or}
use Rattle.std.specs.List.{range_with_len}
use Rattle.pixel_core.specs.Rgba.{Rgba, clear}
use Rattle.blur_core.specs.declared.sums.Sums.{Sums}
use Rattle.blur_core.specs.Sums.{nothing, weigh, sum_from, mean_of, IsUpTo}

-- the pixel of a column and a row, where rows have that width
abbrev pub pixel_of : List Rgba → ℕ → ℕ → ℕ → Rgba
pixel_of pixels width col row = slice_index_or pixels (row * width + col) clear

-- the sums of n pixels of a column, from a row on
abbrev pub column_sums : List Rgba → ℕ → ℕ → ℕ → ℕ → Sums
column_sums pixels width row n col = sum_from (λ i. weigh (pixel_of pixels width col i)) row n

-- the sums of the square of that side, from a column and a row on
abbrev pub square_sums : List Rgba → ℕ → ℕ → ℕ → ℕ → Sums
square_sums pixels width side col row = sum_from (column_sums pixels width row side) col side

-- each of the sums is that of n pixels of its column, from a row on
abbrev pub HasColumns : List Rgba → ℕ → ℕ → ℕ → List Sums → Type 0
HasColumns pixels width row n columns = (col : ℕ) → col < width → slice_index_or columns col nothing ≡ column_sums pixels width row n col

-- the pixels of the first n rows are of bytes
abbrev pub AreBytes : List Rgba → ℕ → ℕ → Type 0
AreBytes pixels width n = (col row : ℕ) → col < width → row < n → IsUpTo 1 (weigh (pixel_of pixels width col row))

-- each sum is changed by what the pixel at its place adds
abbrev pub ChangesEach : (Sums → Sums → Sums) → List Rgba → List Sums → List Sums → Type 0
ChangesEach change row old new = (k : ℕ) → k < length old → slice_index_or new k nothing ≡ change (slice_index_or old k nothing) (weigh (slice_index_or row k clear))

-- the mean of side columns with these sums, each of side pixels, from a column on
abbrev pub mean_from : List Sums → ℕ → ℕ → Rgba
mean_from columns side col = mean_of (side * side) (sum_from (λ k. slice_index_or columns k nothing) col side)

-- these means from w columns on, from the left
abbrev pub row_means : List Sums → ℕ → ℕ → List Rgba
row_means columns side w = map (mean_from columns side) (range_with_len 0 w)

-- w columns and h rows of the means of the squares of that side, each from its column and row on
abbrev pub HasMeans : List Rgba → ℕ → ℕ → ℕ → ℕ → List Rgba → Type 0
HasMeans pixels width side w h means = (col row : ℕ) → col < w → row < h → slice_index_or means (row * w + col) clear ≡ mean_of (side * side) (square_sums pixels width side col row)
