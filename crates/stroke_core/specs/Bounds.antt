-- Rectangles round all that jobs read and write.
use Rattle.std.specs.Prelude.{◌≡◌, ℕ, ◌+◌, ◌*◌, ◌<◌, ◌≤◌, nat_le, pos, ◌-ℤ◌, ◌≤ℤ◌, Bool, true, false, ◌&&◌, Some, List, length, slice_get, slice_index, All}
use Rattle.geom_core.specs.Areas.{Area, right, bottom}
use Rattle.stroke_core.specs.declared.bound.Bound.{Bound}
use Rattle.stroke_core.specs.Marks.{Marks}

-- the rectangle lies in the bound, which counts from the world's corner and has its last column and row
pub record LiesIn (b : Bound) (a : Area) : Type 0 where
  pub left : (pos b.left -ℤ pos 16384) ≤ℤ a.x
  pub right : right a ≤ℤ (pos (b.right + 1) -ℤ pos 16384)
  pub top : (pos b.top -ℤ pos 16384) ≤ℤ a.y
  pub bottom : bottom a ≤ℤ (pos (b.bottom + 1) -ℤ pos 16384)

-- all that is read and written lies in the bound
pub record Encloses (b : Bound) (m : Marks) : Type 0 where
  pub reads : All (LiesIn b) m.reads
  pub writes : All (LiesIn b) m.writes

-- whether the bounds have a point in common
abbrev pub near : Bound → Bound → Bool
near a b = (nat_le a.left b.right && nat_le b.left a.right) && (nat_le a.top b.bottom && nat_le b.top a.bottom)

-- the bound whose edges stand at a place
abbrev pub bound_at : List ℕ → List ℕ → List ℕ → List ℕ → ℕ → Bound
bound_at lefts rights tops bottoms k = record { left = slice_index lefts k; right = slice_index rights k; top = slice_index tops k; bottom = slice_index bottoms k }

-- the edges at each place enclose the marks at that place; unique jobs don't conflict with each other, so for them the left edge of a unique one may be any
pub record AreEdges (marks : List Marks) (lefts lefts_for_unique rights tops bottoms : List ℕ) : Type 0 where
  pub lefts_len : length lefts ≡ length marks
  pub unique_len : length lefts_for_unique ≡ length marks
  pub rights_len : length rights ≡ length marks
  pub tops_len : length tops ≡ length marks
  pub bottoms_len : length bottoms ≡ length marks
  pub bounded : (k : ℕ) (m : Marks) → slice_get marks k ≡ Some m → Encloses (bound_at lefts rights tops bottoms k) m
  pub seen : (k : ℕ) (m : Marks) → slice_get marks k ≡ Some m → m.unique ≡ false → slice_index lefts_for_unique k ≡ slice_index lefts k

-- how many neighbouring jobs have a bound together
abbrev pub block_size : ℕ
block_size = 64

-- the bound encloses the jobs of the i'th block, from 0, save unique ones where these are left out
abbrev pub IsBoundOf : Bool → List Marks → ℕ → Bound → Type 0
IsBoundOf unique_out marks i b = (k : ℕ) (m : Marks) → block_size * i ≤ k → k < block_size * i + block_size → slice_get marks k ≡ Some m → (unique_out && m.unique) ≡ false → Encloses b m

-- one bound for every full block of neighbouring jobs, and one for those that are left over
pub record AreBlocks (unique_out : Bool) (marks : List Marks) (blocks : List Bound) : Type 0 where
  pub enough : length marks ≤ block_size * length blocks
  pub needed : block_size * length blocks < length marks + block_size
  pub bounded : (i : ℕ) (b : Bound) → slice_get blocks i ≡ Some b → IsBoundOf unique_out marks i b

-- what is kept of the marks of a run: the edges of each bound, and the bounds of the blocks, with all jobs and without the unique ones
pub record IsLaidOut (marks : List Marks) (lefts lefts_for_unique rights tops bottoms : List ℕ) (blocks blocks_for_unique : List Bound) : Type 0 where
  pub edges : AreEdges marks lefts lefts_for_unique rights tops bottoms
  pub all : AreBlocks false marks blocks
  pub shared : AreBlocks true marks blocks_for_unique
