-- Tiles that were exchanged: how many, and the rectangle round them.
use Rattle.std.specs.Prelude.{◌≡◌, true, Bool, Option, Some, None, ◌↔◌, IsNone, IfSome}
use Rattle.std.specs.FinSet as set
use Rattle.std.specs.FinSet.{FinSet}
use Rattle.geom_core.specs.declared.Touched.{Touched}
use Rattle.geom_core.specs.Areas.{Area, lies_in}
use Rattle.geom_core.specs.Overlaps.{bound}
use Rattle.geom_core.specs.Grid.{Key, key_cmp, tile}

-- each of these tiles lies in the rectangle
abbrev pub AllLieIn : (Key → Bool) → Area → Type 0
AllLieIn these a = (k : Key) → these k ≡ true → lies_in (tile k) a ≡ true

-- these tiles lie in the rectangle, and it lies in each other rectangle in which they do
pub record IsLeastRound (these : Key → Bool) (a : Area) : Type 0 where
  pub around : AllLieIn these a
  pub least : (d : Area) → AllLieIn these d → lies_in a d ≡ true

-- how many tiles there are of these keys, and the least rectangle round them, which isn't there just where there are none
pub record HasTouched (keys : FinSet key_cmp) (touched : Touched) : Type 0 where
  pub count : touched.count ≡ set.len keys
  pub none : IsNone touched.bound ↔ (touched.count ≡ 0)
  pub bound : IfSome touched.bound (IsLeastRound (set.contains keys))

-- the least rectangle round one that may be there and another
abbrev pub widened : Option Area → Area → Area
widened None a = a
widened (Some b) a = bound b a

-- whether a rectangle that may be there lies in another
abbrev pub lies_if : Option Area → Area → Bool
lies_if None d = true
lies_if (Some a) d = lies_in a d
