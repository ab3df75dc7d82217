-- What a stroke found in the tiles that it put, and the layer as it was before the stroke.
use Rattle.std.specs.Prelude.{◌≡◌, Bool, true, false, Option, Some, None, map}
use Rattle.std.specs.FinMap as fin
use Rattle.geom_core.specs.Grid.{Key, key_of, tile}
use Rattle.memento_core.specs.Planes.{Keyed, tile_under}
use Rattle.memento_core.specs.Revisions.{Exchanges}
use Rattle.tile_core.specs.Pixels.{Pixels, pixel_or}
use Rattle.doc_model.specs.Layers.{Layer, painted}
use Rattle.paint_device.specs.Sheets.{Sheet}
use Rattle.paint_device.specs.Seen.{layer_of}

-- whether the key is there, in a device that may be there
abbrev pub has_key : Option Sheet → Key → Bool
has_key None k = false
has_key (Some s) k = fin.contains_key s.tiles k

-- all keys of which something was noted are there
abbrev pub StandIn : Keyed Pixels → Option Sheet → Type 0
StandIn found s = (k : Key) → fin.contains_key found k ≡ true → has_key s k ≡ true

-- the layer with what was noted: in each tile of the keys the noted tile's pixels, or the default pixel where None was noted
unfoldable pub patched : Keyed Pixels → Layer → Layer
patched found l = painted (map tile (fin.keys found)) (λ _. true) (λ p. pixel_or (tile_under found (key_of p)) l.default_pixel p) l

-- what was noted is exchanged with the tiles of a device, which keeps its default pixel
pub record ExchangesTiles (found after : Keyed Pixels) (old new : Sheet) : Type 0 where
  pub tiles : Exchanges found after old.tiles new.tiles
  pub default_pixel : new.default_pixel ≡ old.default_pixel

-- a device changes, and what was noted gives back the same layer as before: keys stay, and each noted one is there
pub record GivesBack (found after : Keyed Pixels) (old new : Sheet) : Type 0 where
  pub same : patched after (layer_of new) ≡ patched found (layer_of old)
  pub keys : (k : Key) → fin.contains_key old.tiles k ≡ true → fin.contains_key new.tiles k ≡ true
  pub stand : StandIn after (Some new)
