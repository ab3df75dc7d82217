-- What rectangles have in common, and what lies round them.
use Rattle.std.specs.Prelude.{Option, Some, None, ℕ, ℤ, pos, ◌+ℤ◌, ◌-ℤ◌, int_lt, if◌then◌else◌, nat_abs}
use Rattle.std.specs.Int.{int_max, int_min}
use Rattle.geom_core.specs.Areas.{Area, area, bottom, meets, right}

-- how many numbers the n from a on and the m from b on have in common
abbrev pub length_between : ℤ → ℕ → ℤ → ℕ → ℕ
length_between a n b m =
    let from = int_max a b in
    let to = int_min (a +ℤ pos n) (b +ℤ pos m) in
    if int_lt from to then nat_abs (to -ℤ from) else 0

-- the common points
abbrev pub common : Area → Area → Area
common a b = area (int_max a.x b.x) (int_max a.y b.y) (length_between a.x a.w b.x b.w) (length_between a.y a.h b.y b.h)

-- the common points, if there are any
abbrev pub clipped : Area → Area → Option Area
clipped a b = if meets a b then Some (common a b) else None

-- the least rectangle round both
abbrev pub bound : Area → Area → Area
bound a b =
    let x = int_min a.x b.x in
    let y = int_min a.y b.y in
    area x y (nat_abs (int_max (right a) (right b) -ℤ x)) (nat_abs (int_max (bottom a) (bottom b) -ℤ y))
