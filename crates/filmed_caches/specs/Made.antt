-- What an export's frame is made of.
use Rattle.std.specs.Prelude.{◌≡◌, ◌%◌, ℕ, true, false, Option, Some, None, List, ◌∷◌, fold}
use Rattle.std.specs.List.{AllByRecursion}
use Rattle.std.specs.Option.{option_copied}
use Rattle.std.specs.Ordering.{nat_cmp}
use Rattle.std.specs.FinMap as map
use Rattle.std.specs.FinMap.{FinMap}
use Rattle.pixel_core.specs.Canonical.{IsCanonical}
use Rattle.pixel_core.specs.Rgba.{Rgba, clear}
use Rattle.geom_core.specs.Areas.{Point, holds, meets}
use Rattle.geom_core.specs.Grid.{Key, key_of, same_key, tile}
use Rattle.geom_core.specs.Place.{across, down}
use Rattle.doc_model.specs.declared.canvas.Canvas.{Canvas}
use Rattle.doc_model.specs.Laws.{IsDocument}
use Rattle.doc_model.specs.Layers.{Layer, at}
use Rattle.doc_model.specs.Picture.{Doc, picture, canvas_area}
use Rattle.doc_model.specs.Shots.{in_tile}
use Rattle.machine_model.specs.Groups.{cache}
use Rattle.machine_model.specs.Effects.{layer_in}
use Rattle.frame_core.specs.Films.{newest}
use Rattle.frame_core.specs.Frames.{Scene, put_at}
use Rattle.frame_core.specs.Marks.{Grid, has_mark}
use Rattle.frame_core.specs.OpenRows.{laid_on, ended}
use Rattle.tile_core.specs.Pixels.{Pixels, pixel_at}
use Rattle.frame_core.specs.Plies.{IsStack, made_pixels, open_at, then_open}
use Rattle.frame_core.specs.Scenes.{HasSides}
use Rattle.frame_core.specs.declared.ply.Ply.{Ply}
use Rattle.frame_core.specs.declared.ply.Ply.TheVariants as ply
use Rattle.tree_core.specs.declared.outline.Stage.{Stage}
use Rattle.tree_core.specs.declared.outline.Stage.TheVariants as stage
use Rattle.tree_core.specs.Outline.{outline}
use Rattle.compose_core.specs.declared.children.Given.{Given}
use Rattle.compose_core.specs.Spots.{given_on}
use Rattle.desk_steps.specs.Archives.{shape}
use Rattle.filmed_caches.specs.declared.exports.Scenery.{Scenery}
use Rattle.filmed_caches.specs.declared.exports.Before.{Before}

-- the root's cache has the document's picture on the canvas
abbrev pub ShowsDocument : FinMap nat_cmp Layer → Canvas → Doc → Type 0
ShowsDocument caches canvas doc = (p : Point) → holds (canvas_area canvas) p ≡ true → at (cache caches 0) p ≡ picture doc p

-- the stages are those of the store's document, which keeps to the limits, and of which the root's cache is up to date
pub record IsComposedOf (s : Scenery) : Type 0 where
  pub stages : s.stages.now ≡ outline (shape s.store.now.present)
  pub limits : IsDocument s.store.now.present
  pub shown : ShowsDocument s.caches.now s.canvas s.store.now.present

-- the tile has points of the canvas
abbrev pub HasTile : Canvas → Key → Type 0
HasTile canvas key = meets (canvas_area canvas) (tile key) ≡ true

-- the newest frame has the canvas's sides, if there is one
abbrev pub IsOfCanvas : Canvas → List Scene → Type 0
IsOfCanvas canvas frames = (s : Scene) → newest frames ≡ Some s → HasSides canvas.w canvas.h s

-- the tile has the pixels of the root's cache under the key
abbrev pub HasCache : FinMap nat_cmp Layer → Key → Pixels → Type 0
HasCache caches key t = (p : Point) → in_tile key p ≡ true → pixel_at t p ≡ at (cache caches 0) p

-- the frame shows the root's cache on the tile's points of the canvas as well, where nothing was put there before
pub record PutsShown (caches : FinMap nat_cmp Layer) (canvas : Canvas) (key : Key) (old new : Scene) : Type 0 where
  pub width : new.width ≡ old.width
  pub height : new.height ≡ old.height
  pub paper : new.paper ≡ old.paper
  pub here : map.get old.tiles key ≡ None → (p : Point) → holds (canvas_area canvas) p ≡ true → in_tile key p ≡ true → put_at new p ≡ at (cache caches 0) p
  pub others : (k : Key) → same_key k key ≡ false → map.get new.tiles k ≡ map.get old.tiles k

-- a frame has the canvas's sides, and shows the root's cache where no tile is marked
pub record ShowsUnmarked (caches : FinMap nat_cmp Layer) (canvas : Canvas) (laid : Grid) (s : Scene) : Type 0 where
  pub sides : HasSides canvas.w canvas.h s
  pub shows : (p : Point) → holds (canvas_area canvas) p ≡ true → has_mark laid (key_of p) ≡ false → put_at s p ≡ at (cache caches 0) p

-- the frame before does so, if there is one
abbrev pub IsBefore : Scenery → Before → Type 0
IsBefore s before = (scene : Scene) → option_copied before.frame ≡ Some scene → ShowsUnmarked s.caches.now s.canvas before.laid.now scene

-- the pixels of the open groups at a point of a document, the innermost first, with one more stage
abbrev pub with_stage : Doc → Point → List Rgba → Stage → List Rgba
with_stage doc p ps (stage.Layer id look) = laid_on look.op look.opacity (at (layer_in id doc) p) ps
with_stage doc p ps stage.Open = clear ∷ ps
with_stage doc p ps (stage.Close look) = ended look.op look.opacity ps

-- how many groups are open with one more stage
abbrev pub then_staged : Option ℕ → Stage → Option ℕ
then_staged n (stage.Layer id look) = n
then_staged n stage.Open = then_open n ply.Open
then_staged n (stage.Close look) = then_open n (ply.Close look.op look.opacity)

-- the pixels of the open groups at a point of a tile with these plies
abbrev pub open_on : Point → List Ply → List Rgba
open_on p plies = open_at (across p % 64) (down p % 64) plies

-- how many groups are open after these plies
abbrev pub groups_open : List Ply → Option ℕ
groups_open plies = fold then_open (Some 1) plies

-- they are canonical at each point
abbrev pub AreClean : List Ply → Type 0
AreClean plies = (p : Point) → AllByRecursion IsCanonical (open_on p plies)

-- the plies have one more stage on a tile, and a group is open just where one is among the stages
pub record AddsStage (doc : Doc) (key : Key) (s : Stage) (old new : List Ply) : Type 0 where
  pub pixels : (p : Point) → in_tile key p ≡ true → open_on p new ≡ with_stage doc p (open_on p old) s
  pub groups : (n : ℕ) → then_staged (groups_open old) s ≡ Some n → groups_open new ≡ Some n
  pub clean : AreClean new

-- what is given has the layer's pixels on the tile
abbrev pub HasLayer : Doc → ℕ → Key → Given → Type 0
HasLayer doc id key given = (p : Point) → in_tile key p ≡ true → given_on given p ≡ at (layer_in id doc) p

-- the plies make the document's picture on the tile
pub record MakesPicture (doc : Doc) (key : Key) (plies : List Ply) : Type 0 where
  pub stack : IsStack plies
  pub shows : (p : Point) → in_tile key p ≡ true → pixel_at (made_pixels plies) p ≡ picture doc p
