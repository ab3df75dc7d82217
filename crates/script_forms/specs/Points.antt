-- The points of a polyline, as the code keeps them.
use Rattle.std.specs.Prelude.{◌≡◌, ℕ, ℤ, true, List, map, length, take, Result, Ok, Err}
use Rattle.geom_core.specs.Areas.{Point}
use Rattle.doc_model.specs.Tracks.{point_of}
use Rattle.script_lines.specs.declared.cause.Cause.{Cause}
use Rattle.script_forms.specs.Ranges.{is_short}
use Rattle.std.specs.List.{list_all}

-- a pair of coordinates is the point that was told
abbrev pub ReadsPoint : Result Point Cause → Result (ℤ × ℤ) Cause → Type 0
ReadsPoint told (Ok p) = (told ≡ Ok (point_of p)) × (is_short (point_of p) ≡ true)
ReadsPoint told (Err c) = told ≡ Err c

-- the first of eight pairs are the points that were told
abbrev pub ReadsPoints : Result (List Point) Cause → ℕ → Result (List (ℤ × ℤ)) Cause → Type 0
ReadsPoints told n (Ok ps) = (told ≡ Ok (map point_of (take n ps))) × (list_all is_short (map point_of (take n ps)) ≡ true) × (length ps ≡ 8)
ReadsPoints told n (Err c) = told ≡ Err c
