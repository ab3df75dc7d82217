-- Rectangles of the world, which lie in others, and where their points stand.
use Rattle.std.specs.Prelude.{◌≡◌, ◌+◌, ◌*◌, ℕ, ℤ, ◌-ℤ◌, ◌≤ℤ◌, ◌≤◌, Bool, ◌&&◌, List, nat_abs}
use Rattle.std.specs.List.{list_any}
use Rattle.std.specs.Coded.{Coded, code_by, coded×, coded_ℕ, coded_ℤ}
use Rattle.std.proofs.Common.{refl}
use Rattle.geom_core.specs.Areas.{Point, Area, area, bottom, holds, right, world}

-- whether one of the rectangles holds the point
abbrev pub any_holds : List Area → Point → Bool
any_holds areas p = list_any (λ a. holds a p) areas

-- the first rectangle lies inside the second
pub record IsWithin (a b : Area) : Type 0 where
  pub left : b.x ≤ℤ a.x
  pub right : right a ≤ℤ right b
  pub top : b.y ≤ℤ a.y
  pub bottom : bottom a ≤ℤ bottom b

-- the third rectangle has just the points that the others have in common
pub record IsShared (a b c : Area) : Type 0 where
  pub in_a : IsWithin c a
  pub in_b : IsWithin c b
  pub held : (p : Point) → holds c p ≡ (holds a p && holds b p)

-- each corner point lies in the world
pub record IsInWorld (a : Area) : Type 0 where
  pub left : world.x ≤ℤ a.x
  pub right : right a ≤ℤ right world
  pub top : world.y ≤ℤ a.y
  pub bottom : bottom a ≤ℤ bottom world

-- a rectangle of the world with at least one point
pub record IsRect (a : Area) : Type 0 where
  pub w : 1 ≤ a.w
  pub h : 1 ≤ a.h
  pub inside : IsInWorld a

-- where a point of the rectangle stands among its points in row order
abbrev pub place_in : Area → Point → ℕ
place_in a p = nat_abs (p.y -ℤ a.y) * a.w + nat_abs (p.x -ℤ a.x)

-- the code by which contracts tell rectangles apart
abbrev pub area_code : Coded Area
area_code = code_by ((ℤ × ℤ) × (ℕ × ℕ)) (coded× (coded× coded_ℤ coded_ℤ) (coded× coded_ℕ coded_ℕ)) (λ a. ((a.x, a.y), (a.w, a.h))) (λ t. area t.0.0 t.0.1 t.1.0 t.1.1) (λ _. refl)
