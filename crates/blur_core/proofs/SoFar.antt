-- How far the loops over columns have come.
use Rattle.std.proofs.Common.{◌≡◌, ℕ, ◌+◌, ◌*◌, ◌<◌, cond, List, length, get_or, ltb}
use Rattle.pixel_core.specs.Rgba.{Rgba, clear}
use Rattle.blur_core.specs.declared.sums.Sums.{Sums}
use Rattle.blur_core.specs.Sums.{nothing, weigh}
use Rattle.blur_core.specs.Rows.{AreBytes, HasColumns, HasMeans}

-- the sums below i are changed, the others are as they were
abbrev pub ChangedSoFar : (Sums → Sums → Sums) → List Rgba → List Sums → List Sums → ℕ → Type 0
ChangedSoFar change row old new i = (k : ℕ) → k < length old → get_or new k nothing ≡ cond (ltb k i) (change (get_or old k nothing) (weigh (get_or row k clear))) (get_or old k nothing)

-- the first n rows are added up
pub record AddedSoFar (pixels : List Rgba) (width n from : ℕ) (so_far : List Sums) : Type 0 where
  pub long : length so_far ≡ width
  pub next : from ≡ n * width
  pub sums : HasColumns pixels width 0 n so_far
  pub bytes : AreBytes pixels width n

-- the means of the first rows are there
pub record MeansSoFar (pixels : List Rgba) (w more row from first : ℕ) (columns : List Sums) (done : List Rgba) : Type 0 where
  pub long : length columns ≡ w + more
  pub next : from ≡ (row + more) * (w + more)
  pub last : first ≡ row * (w + more)
  pub sums : HasColumns pixels (w + more) row more columns
  pub bytes : AreBytes pixels (w + more) (row + more)
  pub all : length done ≡ row * w
  pub means : HasMeans pixels (w + more) (more + 1) w row done
