-- Tiles made whole, on a device.
use Rattle.std.proofs.Common.{◌≡◌, ℕ, ◌+◌, ◌<◌, Bool, true, false, ◌&&◌, ◌||◌, cond, List, [], ◌∷◌, ◌++◌, length, take, get_or, Option, Some, None, is_some, refl, sym, ap, subst, ◌∙◌}
use Rattle.std.specs.FinMap as map
use Rattle.std.proofs.lemmas.List.{take_more}
use Rattle.std.proofs.lemmas.List.Folds.{list_any-append}
use Rattle.std.proofs.Math.Seq.{take-length}
use Rattle.geom_core.specs.Areas.{Area, holds, Point}
use Rattle.geom_core.specs.Rects.{any_holds, IsShared}
use Rattle.geom_core.specs.Grid.{Key, key_of, tile}
use Rattle.geom_core.proofs.Tiles.{key_same}
use Rattle.pixel_core.specs.Rgba.{Rgba}
use Rattle.tile_core.specs.Pixels.{Pixels, pixel_at, pixel_or, HasPixels, SameOn}
use Rattle.tile_core.specs.Blocks.{piece, piece_at, LaysBlock}
use Rattle.tile_core.specs.Shots.{Sight, sight, sight_at}
use Rattle.doc_model.specs.Layers.{Layer, at}
use Rattle.doc_model.specs.Jobs.{writes, apply}
use Rattle.doc_model.specs.Shots.{in_tile}
use Rattle.job_core.specs.Paints.{Paint, paint}
use Rattle.job_core.proofs.Values.{tile_held}
use Rattle.whole_tiles.specs.Wholes.{Entire, Shows, IsEntire, IsOf}
use Rattle.whole_tiles.proofs.Seen.{default-layer_of, covered_seen, own_seen}
use Rattle.paint_device.specs.Sheets.{Sheet, sheet_at}
use Rattle.memento_core.specs.Planes.{tile_under}
use Rattle.desk_steps.proofs.Lain.{tile_at}
use Rattle.desk_steps.proofs.Devices.{some_is, content_shown}
use Rattle.desk_steps.proofs.Archived.{way_layer}
use Rattle.desk_steps.specs.declared.document.Document.{Document}
use Rattle.desk_steps.specs.declared.entry.HistoryEntry.{HistoryEntry}
use Rattle.desk_steps.specs.declared.entry.Way.{Way}
use Rattle.desk_steps.specs.Archives.{Archive, layer_now}
use Rattle.desk_steps.specs.Documents.{doc_in}
use Rattle.desk_steps.specs.Entries.{archive_of}
use Rattle.desk_steps.specs.Slots.{device_in}
use Rattle.history_core.specs.Stacks.{Stack}
use Rattle.paint_device.specs.Seen as seen
use Rattle.paint_device.proofs.Shown.{at-layer_of}
use Rattle.std.specs.Option.{option_map}
use Rattle.desk_steps.specs.Tiles.{HasBase, HasBaseIn, IsLaid, IsMadeFrom, IsWholeOn}

-- where the device has the pixels that it was made from, the new tile itself is to stand there
pub base_stands : (x : Entire) (s : Sheet) → IsEntire x → HasBase x s → IsWholeOn x s x.tile
base_stands x s known same p inside = go (any_holds (writes x.job) p) refl
  where
    go : (b : Bool) → any_holds (writes x.job) p ≡ b → pixel_at x.tile p ≡ cond b (pixel_at x.tile p) (sheet_at s p)
    go true h = refl
    go false h = known.rest p inside h ∙ sym (same p inside)

-- what then stands there is what the job makes of each layer that shows the base
pub whole_laid : (x : Entire) (shot : Layer) (s : Sheet) (t : Pixels) → IsEntire x → Shows x.needs x.base shot → IsWholeOn x s t → IsLaid x.job shot x.key s t
whole_laid x shot s t known shows is p inside = is p inside ∙ go (any_holds (writes x.job) p) refl
  where
    go : (b : Bool) → any_holds (writes x.job) p ≡ b → cond b (pixel_at x.tile p) (sheet_at s p) ≡ cond b (at (apply x.job shot) p) (sheet_at s p)
    go true h = known.value shot shows p inside h
    go false h = refl

-- a painting that it is of
abbrev pub own_paint : Entire → Paint
own_paint x = paint x.job (sight x.base.default_pixel (x.needs ∷ []) x.base.tiles) x.key []

pub is_of_own : (x : Entire) → IsOf (own_paint x) x
is_of_own x = record {
  job = refl;
  key = refl;
  shows = record {
    default_pixel = default-layer_of (sight x.base.default_pixel (x.needs ∷ []) x.base.tiles);
    pixels = λ p h. covered_seen (sight x.base.default_pixel (x.needs ∷ []) x.base.tiles) (x.needs ∷ []) p (own_seen (x.needs ∷ []) (x.needs ∷ []) refl) (or_one (holds x.needs p) h);
  };
}
  where
    or_one : (b : Bool) → b ≡ true → (b || false) ≡ true
    or_one true e = refl
    or_one false e = e

-- ---- where the device has other pixels

-- the new tile's pixels are laid on these rectangles
abbrev pub WholeSoFar : Entire → Sheet → Pixels → List Area → Type 0
WholeSoFar x s t rects = (p : Point) → in_tile x.key p ≡ true → pixel_at t p ≡ cond (any_holds rects p) (pixel_at x.tile p) (sheet_at s p)

either : (a b : Bool) (n o : Rgba) → cond b n (cond a n o) ≡ cond (a || (b || false)) n o
either true true n o = refl
either true false n o = refl
either false true n o = refl
either false false n o = refl

pub next_part : (x : Entire) (s : Sheet) (t new : Pixels) (rects : List Area) (i : ℕ) (r : Area) → i < length rects → r ≡ get_or rects i r
    → ((p : Point) → in_tile x.key p ≡ true → pixel_at new p ≡ cond (holds r p) (pixel_at x.tile p) (pixel_at t p)) → WholeSoFar x s t (take i rects) → WholeSoFar x s new (take (i + 1) rects)
next_part x s t new rects i r fits e lays so p inside =
    lays p inside ∙ ap (cond (holds r p) (pixel_at x.tile p)) (so p inside)
    ∙ either (any_holds (take i rects) p) (holds r p) (pixel_at x.tile p) (sheet_at s p)
    ∙ ap (λ b. cond b (pixel_at x.tile p) (sheet_at s p)) (sym (list_any-append (λ (a : Area). holds a p) (take i rects) (r ∷ [])) ∙ ap (λ rs. any_holds rs p) (sym longer))
  where
    longer : take (i + 1) rects ≡ take i rects ++ r ∷ []
    longer = take_more rects i r fits ∙ ap (λ (a : Area). take i rects ++ a ∷ []) (sym e)

pub all_parts : (x : Entire) (s : Sheet) (t : Pixels) (rects : List Area) (i : ℕ) → i ≡ length rects → rects ≡ writes x.job → WholeSoFar x s t (take i rects) → IsWholeOn x s t
all_parts x s t rects i n e so p inside = so p inside ∙ ap (λ rs. cond (any_holds rs p) (pixel_at x.tile p) (sheet_at s p)) (ap (λ m. take m rects) n ∙ take-length rects ∙ e)

-- one part laid as a block
pub part_laid : (key : Key) (rect part t : Area) (old new tile' : Pixels) (pixels : List Rgba) → t ≡ tile key → IsShared rect t part → HasPixels part (pixel_at tile') pixels → LaysBlock old new (piece key part pixels)
    → (p : Point) → in_tile key p ≡ true → pixel_at new p ≡ cond (holds rect p) (pixel_at tile' p) (pixel_at old p)
part_laid key rect part t old new tile' pixels et shared has lays p inside = lays p (tile_held key p ∙ inside) ∙ go (holds part p) (holds rect p) refl same
  where
    same : holds part p ≡ (holds rect p && true)
    same = shared.held p ∙ ap (λ b. holds rect p && b) (ap (λ (a : Area). holds a p) et ∙ tile_held key p ∙ inside)

    go : (a b : Bool) → holds part p ≡ a → holds part p ≡ (b && true) → cond a (piece_at (piece key part pixels) p) (pixel_at old p) ≡ cond b (pixel_at tile' p) (pixel_at old p)
    go true true h e = has p h
    go false false h e = refl
    go true false h e = let no : true ≡ false = sym h ∙ e in cc
    go false true h e = let no : false ≡ true = sym h ∙ e in cc

pub part_none : (key : Key) (rect t : Area) (old tile' : Pixels) → t ≡ tile key → ((p : Point) → holds rect p ≡ true → holds t p ≡ false)
    → (p : Point) → in_tile key p ≡ true → pixel_at old p ≡ cond (holds rect p) (pixel_at tile' p) (pixel_at old p)
part_none key rect t old tile' et apart p inside = go (holds rect p) refl
  where
    go : (b : Bool) → holds rect p ≡ b → pixel_at old p ≡ cond b (pixel_at tile' p) (pixel_at old p)
    go false h = refl
    go true h = let no : true ≡ false = sym (ap (λ (a : Area). holds a p) et ∙ tile_held key p ∙ inside) ∙ apart p h in cc

-- ---- what a device has

-- a device and a base whose tiles have the same pixels show the same there
pub tiles_stand : (s : Sheet) (base : Sight) (key : Key) (a : Area) (now before : Pixels) → a ≡ tile key → Some now ≡ tile_under s.tiles key → Some before ≡ map.get base.tiles key → SameOn a now before
    → (p : Point) → in_tile key p ≡ true → sheet_at s p ≡ sight_at base p
tiles_stand s base key a now before e here there same p inside =
    sym (tile_at s key now p inside here)
    ∙ same p (ap (λ (b : Area). holds b p) e ∙ tile_held key p ∙ inside)
    ∙ ap (λ o. pixel_or o base.default_pixel p) (there ∙ ap (map.get base.tiles) (sym (key_same (key_of p) key inside)))

-- and so do a device and a base without a tile there
pub grounds_stand : (s : Sheet) (base : Sight) (key : Key) → s.default_pixel ≡ base.default_pixel → None ≡ tile_under s.tiles key → None ≡ map.get base.tiles key → (p : Point) → in_tile key p ≡ true → sheet_at s p ≡ sight_at base p
grounds_stand s base key e here there p inside =
    ap (λ k. pixel_or (tile_under s.tiles k) s.default_pixel p) (key_same (key_of p) key inside)
    ∙ (λ i. pixel_or ((sym here ∙ there) i) (e i) p)
    ∙ ap (λ k. pixel_or (map.get base.tiles k) base.default_pixel p) (sym (key_same (key_of p) key inside))

-- the device of the stroke's layer has the base's pixels where the layer has them
pub layer_has_base : (x : Entire) (doc : Document) (history : Stack HistoryEntry) (way : Option Way) (room : Bool) (w : Way) (old : Archive) → way ≡ Some w → archive_of (doc_in doc) history way room ≡ old → is_some (device_in doc.slots w.id) ≡ true
    → IsMadeFrom x (layer_now old) → HasBaseIn x (device_in doc.slots w.id)
layer_has_base x doc history way room w old is view there same =
    let d = some_is (device_in doc.slots w.id) there in
    let l = way_layer (doc_in doc) history way room w (seen.layer_of d.0) old is view (content_shown doc.tree (device_in doc.slots) doc.fits w.id ∙ ap (option_map seen.layer_of) d.1) in
    subst (HasBaseIn x) (sym d.1) (λ p inside. sym (same p inside ∙ ap (λ a. at a p) l ∙ at-layer_of d.0 p))
