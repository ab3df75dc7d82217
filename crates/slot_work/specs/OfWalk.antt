-- What was composed, beside the walk that is to be published by it.
use Rattle.std.specs.Prelude.{◌≡◌, true}
use Rattle.std.specs.List.{list_any, list_all}
use Rattle.geom_core.specs.Grid.{Key, same_key, keys_of}
use Rattle.geom_core.specs.Keys.{IsWorldKey}
use Rattle.walker_core.specs.Readings.{Readings, path_in}
use Rattle.walker_core.specs.Sameness.{ReadTheSame}
use Rattle.walker_core.specs.Composing.{Composition, has_pair}

-- all groups of the walk were composed on the tile, of the same as the walk reads there
pub record IsOfWalkAt (r : Readings) (c : Composition) (key : Key) : Type 0 where
  pub same : ReadTheSame r c.readings key
  pub all : list_all (λ g. has_pair c g key) (path_in r) ≡ true

-- the same, and the walk's patch has points in the tile, which lies in the world
pub record IsRowOfWalk (r : Readings) (c : Composition) (key : Key) : Type 0 where
  pub world : IsWorldKey key
  pub in_patch : list_any (same_key key) (keys_of r.patch.rect) ≡ true
  pub of : IsOfWalkAt r c key

-- the walk's patch has points in the tile, and what was composed read the same there
pub record ReadsAlike (r : Readings) (c : Composition) (key : Key) : Type 0 where
  pub in_patch : list_any (same_key key) (keys_of r.patch.rect) ≡ true
  pub same : ReadTheSame r c.readings key
