-- Columns or rows of the world that stand one after another.
use Rattle.std.specs.Prelude.{◌≡◌, ◌≤◌, ◌<◌, ◌+◌, ℕ, ℤ, pos, ◌-ℤ◌, int_le, int_lt, Bool, ◌&&◌}
use Rattle.geom_core.specs.Place.{IsOffset}
use Rattle.walker_core.specs.declared.spans.Span.{Span}

-- whether it is one of them
abbrev pub spans : Span → ℤ → Bool
spans s x = int_le (pos s.from -ℤ pos 16384) x && int_lt x (pos s.to -ℤ pos 16384)

-- there is one, and all are of the world
pub record IsSpan (s : Span) : Type 0 where
  pub some : s.from < s.to
  pub inside : s.to ≤ 32768

-- they are the n numbers from x on
pub record IsAlong (s : Span) (x : ℤ) (n : ℕ) : Type 0 where
  pub from : IsOffset s.from x
  pub to : s.to ≡ s.from + n

-- the first are among the second
pub record IsPartOf (s t : Span) : Type 0 where
  pub from : t.from ≤ s.from
  pub to : s.to ≤ t.to
