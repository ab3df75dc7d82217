-- Sets of tiles.
use Rattle.std.specs.Prelude.{◌≤◌, ◌^◌, ◌-◌, List, length, All}
use Rattle.geom_core.specs.Grid.{Key}
use Rattle.geom_core.specs.Keys.{IsWorldKey}

-- tiles of the world, not too many for a count of 32 bits
pub record IsKeySet (keys : List Key) : Type 0 where
  pub few : length keys ≤ 2 ^ 32 - 1
  pub world : All IsWorldKey keys
