-- Which job is at work, and what it has painted.
use Rattle.std.specs.Prelude.{ℕ, ◌==◌, Bool, true, if◌then◌else◌, Option, Some, None, is_some, List, [], ◌∷◌}
use Rattle.std.specs.List.{list_any}
use Rattle.geom_core.specs.Grid.{Key, same_key}
use Rattle.machine_model.specs.State.{Painter, Slot, Free, Paints, Walks}

-- the painter of the job with that index
abbrev pub painter_in : ℕ → List Slot → Option Painter
painter_in i [] = None
painter_in i (Free ∷ slots) = painter_in i slots
painter_in i (Walks w ∷ slots) = painter_in i slots
painter_in i (Paints w ∷ slots) = if w.index == i then Some w else painter_in i slots

-- whether the job with that index is at work
abbrev pub runs_in : ℕ → List Slot → Bool
runs_in i slots = is_some (painter_in i slots)

-- whether the tile of a job is painted: the job has ended, or it has published it
abbrev pub is_done : Option Painter → Key → Bool
is_done None key = true
is_done (Some w) key = list_any (same_key key) w.published

-- whether the tile of the job with that index is painted
abbrev pub done : List Slot → ℕ → Key → Bool
done slots i key = is_done (painter_in i slots) key
