-- Rows laid over the pixels of a rectangle.
use Rattle.std.proofs.Common.{◌≡◌, ℕ, ◌+◌, ◌-◌, ◌*◌, ◌≤◌, ◌<◌, Bool, true, false, ◌&&◌, cond, List, ◌++◌, length, get_or, take, drop, refl, ap, ◌∙◌, arith, ltb, leb}
use Rattle.std.specs.Prelude.{ℤ, pos, ◌+ℤ◌, ◌-ℤ◌, ◌≤ℤ◌, int_le, int_lt, nat_abs, slice_range}
use borrow.Author.Differences.{ints}
use Rattle.std.proofs.lemmas.Bool.Decides.{nat_tests}
use Rattle.std.proofs.lemmas.List.{get_or-take, get_or-drop}
use Rattle.pixel_core.specs.Rgba.{Rgba, clear}
use Rattle.geom_core.specs.Areas.{Area, holds}
use Rattle.geom_core.specs.Rects.{IsWithin}
use Rattle.geom_core.specs.Place.{IsOffset}
use Rattle.geom_core.proofs.Tests.{and_left, and_right}
use Rattle.tile_core.specs.Parts.{in_part}
use Rattle.tile_core.proofs.LaidRows.{get_or-laid, length_range}
use Rattle.job_core.specs.Laid.{row_of, LaysRows, LaysOver}
use Rattle.job_core.proofs.RowChanges.{ChangedSoFar, within, below, row_changed}

-- the first rows of the part are laid, and the next row stands at this place of the source
pub record RowsSoFar (width left top w rows : ℕ) (src old new : List Rgba) (from to : ℕ) : Type 0 where
  pub laid : ChangedSoFar (row_of src w) width left top w rows old new to
  pub from_is : from ≡ rows * w

pub rows_next : (old mid src : List Rgba) (width left top w rows from to : ℕ) → RowsSoFar width left top w rows src old mid from to → left + w ≤ width → to + w ≤ length mid → from + w ≤ length src
    → RowsSoFar width left top w (rows + 1) src old (take to mid ++ slice_range src from (from + w) ++ drop (to + length (slice_range src from (from + w))) mid) (from + w) (to + width)
rows_next old mid src width left top w rows from to so across fits has =
    let n : length (slice_range src from (from + w)) ≡ w = length_range src from w has in
    record {
      laid = row_changed (row_of src w) width left top w rows to old mid _ so.laid across (λ i.
          get_or-laid mid (slice_range src from (from + w)) to i clear (rw n fits)
          ∙ ap (λ m. cond (leb to i && ltb i (to + m)) (get_or (slice_range src from (from + w)) (i - to) clear) (get_or mid i clear)) n
          ∙ within (leb to i && ltb i (to + w)) _ _ _ (λ t.
          get_or-take (from + w - from) (drop from src) (i - to) clear (let small : i - to < w = below to i w t in omega arith)
          ∙ get_or-drop from src (i - to) clear ∙ ap (λ j. get_or src (j + (i - to)) clear) so.from_is));
      from_is = next_from rows w from so.from_is;
    }
  where
    next_from : (rows w from : ℕ) → from ≡ rows * w → from + w ≡ (rows + 1) * w
    next_from rows w from e = omega arith

-- ---- the part as a rectangle

-- a column of the part, or a row, as one of the rectangle
record Along (ax px x : ℤ) (left aw pw : ℕ) : Type 0 where
  test : (leb left (nat_abs (x -ℤ ax)) && ltb (nat_abs (x -ℤ ax)) (left + pw)) ≡ (int_le px x && int_lt x (px +ℤ pos pw))
  place : (int_le px x && int_lt x (px +ℤ pos pw)) ≡ true → nat_abs (x -ℤ ax) - left ≡ nat_abs (x -ℤ px)
  small : nat_abs (x -ℤ ax) < aw

along : (ax px x : ℤ) (al pl aw pw : ℕ) → (pos al -ℤ pos 16384) ≡ ax → (pos pl -ℤ pos 16384) ≡ px → ax ≤ℤ px → (int_le ax x && int_lt x (ax +ℤ pos aw)) ≡ true → Along ax px x (pl - al) aw pw
along ax px x al pl aw pw ea ep le h = record { test = test x al pl aw pw ax px ea ep le h; place = place x al pl aw pw ax px ea ep le h; small = small ax x aw h }
  where
    test : (x : ℤ) (al pl aw pw : ℕ) (ax px : ℤ) → (pos al -ℤ pos 16384) ≡ ax → (pos pl -ℤ pos 16384) ≡ px → ax ≤ℤ px → (int_le ax x && int_lt x (ax +ℤ pos aw)) ≡ true
        → (leb (pl - al) (nat_abs (x -ℤ ax)) && ltb (nat_abs (x -ℤ ax)) ((pl - al) + pw)) ≡ (int_le px x && int_lt x (px +ℤ pos pw))
    test x al pl aw pw ax px ea ep le h = grind (arith, ints, nat_tests)

    place : (x : ℤ) (al pl aw pw : ℕ) (ax px : ℤ) → (pos al -ℤ pos 16384) ≡ ax → (pos pl -ℤ pos 16384) ≡ px → ax ≤ℤ px → (int_le ax x && int_lt x (ax +ℤ pos aw)) ≡ true
        → (int_le px x && int_lt x (px +ℤ pos pw)) ≡ true → nat_abs (x -ℤ ax) - (pl - al) ≡ nat_abs (x -ℤ px)
    place x al pl aw pw ax px ea ep le h k = grind (arith, ints)

    small : (ax x : ℤ) (aw : ℕ) → (int_le ax x && int_lt x (ax +ℤ pos aw)) ≡ true → nat_abs (x -ℤ ax) < aw
    small ax x aw h = grind (arith, ints)

chosen : (t u : Bool) (x y z : Rgba) → t ≡ u → (u ≡ true → x ≡ y) → cond t x z ≡ cond u y z
chosen t true x y z e s = rw e (s refl)
chosen t false x y z e s = rw e refl

pub laid_over : (a part : Area) (al at pl pt w h width : ℕ) (src old new : List Rgba) → IsOffset al a.x → IsOffset at a.y → IsOffset pl part.x → IsOffset pt part.y → IsWithin part a → w ≡ part.w → h ≡ part.h → width ≡ a.w
    → LaysRows width (pl - al) (pt - at) w h src old new → LaysOver a part src old new
laid_over a part al at pl pt w h width src old new xa ya xp yp is ew eh ea laid p held =
    let i : Along a.x part.x p.x (pl - al) a.w part.w = along a.x part.x p.x al pl a.w part.w xa xp is.left (and_left _ _ held) in
    let j : Along a.y part.y p.y (pt - at) a.h part.h = along a.y part.y p.y at pt a.h part.h ya yp is.top (and_right _ _ held) in
    let lays : LaysRows a.w (pl - al) (pt - at) part.w part.h src old new = rw (← ew, ← eh, ← ea) laid in
    lays (nat_abs (p.x -ℤ a.x)) (nat_abs (p.y -ℤ a.y)) i.small
    ∙ chosen (in_part (pl - al) (pt - at) part.w part.h (nat_abs (p.x -ℤ a.x)) (nat_abs (p.y -ℤ a.y))) (holds part p) _ _ _ (λ k. i.test k && j.test k)
    (λ t. λ k. get_or src (j.place (and_right _ _ t) k * part.w + i.place (and_left _ _ t) k) clear)
