-- Tiles that are owed, and what is shown on the others.
use Rattle.std.specs.Prelude.{◌≡◌, Bool, true, false, ◌&&◌, ◌⊎◌, not, cond, Option, Some, None, List, take, length}
use Rattle.std.specs.List.{list_any}
use Rattle.pixel_core.specs.Rgba.{Rgba, clear}
use Rattle.geom_core.specs.Areas.{Area, Point}
use Rattle.geom_core.specs.Grid.{Key, key_of, same_key, keys_of}
use Rattle.tile_core.specs.Pixels.{pixel_or}
use Rattle.doc_model.specs.Layers.{at}
use Rattle.machine_model.specs.State.{State}
use Rattle.machine_model.specs.Groups.{cache}
use Rattle.live_view.specs.declared.update.Update.{Update}
use Rattle.live_view.specs.Shown.{Rows, shown}
use Rattle.live_run.specs.declared.owed.Owed.{Owed}

-- whether the tile is owed
abbrev pub owes : List Owed → Key → Bool
owes owed k = list_any (λ (o : Owed). same_key k o.key) owed

-- the pixel that the updates show at a point; a tile that was never put is clear
abbrev pub shown_at : List Update → Point → Rgba
shown_at updates p = pixel_or (shown updates (key_of p)) clear p

-- so it is on the tiles of a rectangle, but none on those that are owed
abbrev pub seen_in : Area → List Owed → List Update → Point → Option Rgba
seen_in tiles owed updates p = cond (list_any (same_key (key_of p)) (keys_of tiles) && not (owes owed (key_of p))) (Some (shown_at updates p)) None

-- of the others none is owed less, but that tile
abbrev pub OwesBut : Key → List Owed → List Owed → Type 0
OwesBut key old new = (k : Key) → owes new k ≡ false → same_key k key ≡ false → owes old k ≡ false

-- of the rectangle's tiles that one is owed too
abbrev pub OwesMore : Key → Area → List Owed → List Owed → Type 0
OwesMore key tiles old new = (k : Key) → list_any (same_key k) (keys_of tiles) ≡ true → owes new k ≡ false → (same_key k key ≡ false) × (owes old k ≡ false)

-- each of the rectangle's tiles is owed
abbrev pub OwesEach : Area → List Owed → Type 0
OwesEach tiles owed = (k : Key) → list_any (same_key k) (keys_of tiles) ≡ true → owes owed k ≡ true

-- the updates show the root's cache at the point
abbrev pub ShowsAt : List Update → State → Point → Type 0
ShowsAt updates s p = shown_at updates p ≡ at (cache s.caches 0) p

-- what was owed is shown, and what was shown still is
abbrev pub LaysDown : List Owed → List Update → List Update → State → Type 0
LaysDown owed old new s = (p : Point) → (owes owed (key_of p) ≡ true) ⊎ ShowsAt old s p → ShowsAt new s p

-- the rows begin with those
abbrev pub BeginsWith : Rows → Rows → Type 0
BeginsWith rows front = front ≡ take (length front) rows
