-- The least rectangle round the points of one that pass a test.
use Rattle.std.specs.Prelude.{◌≡◌, ◌||◌, ◌≤◌, Bool, true, Option, IfSome, IsSomeAnd}
use Rattle.geom_core.specs.Areas.{Area, Point, holds, lies_in}
use Rattle.geom_core.specs.Laws.{AllIn}

-- the second rectangle has the points of the first that pass
abbrev pub HasPassing : Area → (Point → Bool) → Area → Type 0
HasPassing a passes b = (p : Point) → holds a p ≡ true → passes p ≡ true → holds b p ≡ true

-- some point of the rectangle passes
pub record SomePasses (a : Area) (passes : Point → Bool) : Type 0 where
  pub point : Point
  pub inside : holds a point ≡ true
  pub is : passes point ≡ true

-- what was found has all points of the rectangle that pass, and lies in it and in each other one that has them; it is there just where there are some
pub record IsRound (a : Area) (passes : Point → Bool) (found : Option Area) : Type 0 where
  pub covers : (p : Point) → holds a p ≡ true → passes p ≡ true → IsSomeAnd found (λ d. holds d p ≡ true)
  pub some : IfSome found (λ d. SomePasses a passes)
  pub within : IfSome found (λ d. lies_in d a ≡ true)
  pub least : IfSome found (λ d. (b : Area) → HasPassing a passes b → AllIn d b)
  pub sides : IfSome found (λ d. (1 ≤ d.w) × (1 ≤ d.h))

-- what was found is widened by the points that pass another test
abbrev pub Widens : Area → (Point → Bool) → Option Area → Option Area → Type 0
Widens a more old new = (passes : Point → Bool) → IsRound a passes old → IsRound a (λ p. passes p || more p) new
