-- Changes made to tiles where these stand.
use Rattle.std.specs.Prelude.{◌≡◌, Option, Some}
use Rattle.std.specs.BTreeMap as tree
use Rattle.std.specs.BTreeMap.{BTreeMap}
use Rattle.geom_core.specs.Grid.{Key, key_cmp}
use Rattle.memento_core.specs.Planes.{tile_under}
use Rattle.tile_core.specs.Pixels.{Pixels}
use Rattle.tile_core.specs.Maps.{PutsUnder}
use Rattle.paint_device.specs.Sheets.{Sheet, with_under}

-- a tile stood there, and now stands there with what the change makes of it
pub record LaidAlone (R : Pixels → Pixels → Type 0) (old new : Option Pixels) : Type 0 where
  pub before : Pixels
  pub after : Pixels
  pub was : old ≡ Some before
  pub becomes : new ≡ Some after
  pub lays : R before after

-- the same under a key of a map; all else stays
pub record LaidUnder (R : Pixels → Pixels → Type 0) (old new : BTreeMap Key (Option Pixels)) (key : Key) : Type 0 where
  pub before : Option Pixels
  pub after : Option Pixels
  pub was : tree.get key_cmp old key ≡ Some before
  pub puts : PutsUnder old new key after
  pub lays : LaidAlone R before after

-- the same under a key of a device
pub record LaysUnder (R : Pixels → Pixels → Type 0) (old new : Sheet) (key : Key) : Type 0 where
  pub before : Pixels
  pub after : Pixels
  pub was : tile_under old.tiles key ≡ Some before
  pub lays : R before after
  pub new_is : new ≡ with_under old key (Some after)
