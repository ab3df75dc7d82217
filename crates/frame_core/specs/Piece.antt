-- Rectangles of the largest canvas inside one of its tiles.
use Rattle.std.specs.Prelude.{◌≡◌, pos, ◌≤ℤ◌, ◌≤◌, nat_abs}
use Rattle.std.proofs.Common.{refl}
use Rattle.geom_core.specs.Areas.{Area, area, right, bottom}
use Rattle.frame_core.specs.declared.piece.Piece.TheInside.{Inside}

-- the rectangle of a corner, columns and rows
abbrev pub seen : Inside → Area
seen p = area (pos p.left) (pos p.top) p.w p.h

-- and back
abbrev pub kept : Area → Inside
kept a = record { left = nat_abs a.x; top = nat_abs a.y; w = a.w; h = a.h }

-- what is seen of a piece tells all of it
pub kept-seen : (p : Inside) → kept (seen p) ≡ p
kept-seen p = refl

-- the rectangle has points of the largest canvas alone, and no more columns or rows than a tile
pub record IsPiece (a : Area) : Type 0 where
  pub left : pos 0 ≤ℤ a.x
  pub right : right a ≤ℤ pos 2048
  pub top : pos 0 ≤ℤ a.y
  pub bottom : bottom a ≤ℤ pos 2048
  pub cols : a.w ≤ 64
  pub rows : a.h ≤ 64
