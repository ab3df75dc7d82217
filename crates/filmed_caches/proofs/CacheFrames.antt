-- A frame of the root's cache, tile after tile.
use Rattle.std.proofs.Common.{◌≡◌, ℕ, ◌+◌, ◌≤◌, Bool, true, false, ◌&&◌, ◌||◌, cond, List, [], ◌∷◌, length, take, Option, Some, None, refl, sym, ap, subst, ◌∙◌, arith}
use Rattle.std.specs.Prelude.{ℤ, pos, ◌+ℤ◌, ◌*ℤ◌, ◌≤ℤ◌, ◌<ℤ◌, int_lt, slice_get}
use Rattle.std.specs.List.{list_any}
use Rattle.std.specs.Ordering.{nat_cmp}
use Rattle.std.specs.FinMap as map
use Rattle.std.specs.FinMap.{FinMap}
use borrow.Author.Differences.{ints}
use Rattle.std.proofs.lemmas.List.{take_all}
use Rattle.std.proofs.lemmas.List.Folds.{list_any-append}
use Rattle.pixel_core.specs.Rgba.{clear}
use Rattle.geom_core.specs.Areas.{Point, holds}
use Rattle.geom_core.specs.Grid.{Key, key_cmp, key_of, same_key, keys_of}
use Rattle.geom_core.specs.Keys.{key_cmp_total}
use Rattle.geom_core.proofs.Axes.{tiles_met}
use Rattle.geom_core.proofs.Keys.{key_of_held}
use Rattle.geom_core.proofs.Tests.{and_left, and_right, none_left, none_right, taken, kept, or-false}
use Rattle.geom_core.proofs.Tiles.{key_same}
use Rattle.doc_model.specs.declared.canvas.Canvas.{Canvas}
use Rattle.doc_model.specs.Canvases.{IsOfLimits}
use Rattle.doc_model.specs.Layers.{Layer, at}
use Rattle.doc_model.specs.Picture.{Doc, canvas_area}
use Rattle.doc_model.specs.Shots.{in_tile}
use Rattle.machine_model.specs.Groups.{cache}
use Rattle.tile_core.specs.Pixels.{Pixels, pixel_at, pixel_or}
use Rattle.frame_core.specs.Frames.{Scene, scene, put_at, with_put, with_put_of, IsTileOf}
use Rattle.frame_core.specs.Marks.{Grid, has_mark}
use Rattle.frame_core.specs.Plies.{made_pixels}
use Rattle.frame_core.specs.Scenes.{HasSides}
use Rattle.frame_core.specs.declared.ply.Ply.{Ply}
use Rattle.update_queue.proofs.Elements.{take_here}
use Rattle.desk_state.specs.Cached.{ShowsCache, PutsCache}
use Rattle.filmed_caches.specs.Made.{HasCache, HasTile, MakesPicture, PutsShown, ShowsDocument, ShowsUnmarked}
use Rattle.filmed_caches.proofs.KeyLists.{not_before, key_in}

-- a tile with the cache's pixels is put
pub tile_put : (caches : FinMap nat_cmp Layer) (key : Key) (t : Pixels) (old new : Scene) → ((p : Point) → in_tile key p ≡ true → pixel_at t p ≡ at (cache caches 0) p) → new ≡ with_put old key t → PutsCache caches key old new
tile_put caches key t old new shows is = record {
  width = ap (λ (s : Scene). s.width) is;
  height = ap (λ (s : Scene). s.height) is;
  paper = ap (λ (s : Scene). s.paper) is;
  here = λ none p h. ap (λ o. pixel_or o clear p) (under (key_of p) ∙ taken (same_key (key_of p) key) (Some t) (map.get old.tiles (key_of p)) h) ∙ shows p h;
  others = λ k h. under k ∙ kept (same_key k key) (Some t) (map.get old.tiles k) h;
}
  where
    under : (k : Key) → map.get new.tiles k ≡ cond (same_key k key) (Some t) (map.get old.tiles k)
    under k = ap (λ (s : Scene). map.get s.tiles k) is ∙ map.get-insert key_cmp_total old.tiles key t k

-- where the cache is clear nothing has to be put
pub clear_put : (caches : FinMap nat_cmp Layer) (key : Key) (old : Scene) → ((p : Point) → in_tile key p ≡ true → at (cache caches 0) p ≡ clear) → PutsCache caches key old old
clear_put caches key old is = record {
  width = refl;
  height = refl;
  paper = refl;
  here = λ none p h. ap (λ k. pixel_or (map.get old.tiles k) clear p) (key_same (key_of p) key h) ∙ ap (λ o. pixel_or o clear p) none ∙ sym (is p h);
  others = λ k h. refl;
}

-- what shows the cache on a tile shows it on the tile's points of the canvas
pub shown_put : (caches : FinMap nat_cmp Layer) (canvas : Canvas) (key : Key) (old new : Scene) → PutsCache caches key old new → PutsShown caches canvas key old new
shown_put caches canvas key old new put = record { width = put.width; height = put.height; paper = put.paper; here = λ none p on h. put.here none p h; others = put.others }

pub tile_shown : (caches : FinMap nat_cmp Layer) (canvas : Canvas) (key : Key) (t : Pixels) (old new : Scene) → HasCache caches key t → new ≡ with_put old key t → PutsShown caches canvas key old new
tile_shown caches canvas key t old new has is = shown_put caches canvas key old new (tile_put caches key t old new has is)

-- so does a tile with the cache's pixels there
pub made_put : (caches : FinMap nat_cmp Layer) (canvas : Canvas) (key : Key) (t : Pixels) (old new : Scene) → ((p : Point) → holds (canvas_area canvas) p ≡ true → in_tile key p ≡ true → pixel_at t p ≡ at (cache caches 0) p) → new ≡ with_put old key t → PutsShown caches canvas key old new
made_put caches canvas key t old new shows is = record {
  width = ap (λ (s : Scene). s.width) is;
  height = ap (λ (s : Scene). s.height) is;
  paper = ap (λ (s : Scene). s.paper) is;
  here = λ none p on h. ap (λ o. pixel_or o clear p) (under (key_of p) ∙ taken (same_key (key_of p) key) (Some t) (map.get old.tiles (key_of p)) h) ∙ shows p on h;
  others = λ k h. under k ∙ kept (same_key k key) (Some t) (map.get old.tiles k) h;
}
  where
    under : (k : Key) → map.get new.tiles k ≡ cond (same_key k key) (Some t) (map.get old.tiles k)
    under k = ap (λ (s : Scene). map.get s.tiles k) is ∙ map.get-insert key_cmp_total old.tiles key t k

-- or plies that make the picture that the cache shows
pub plies_shown : (caches : FinMap nat_cmp Layer) (canvas : Canvas) (doc : Doc) (key : Key) (plies : List Ply) (old new : Scene) → ShowsDocument caches canvas doc → MakesPicture doc key plies → new ≡ with_put old key (made_pixels plies) → PutsShown caches canvas key old new
plies_shown caches canvas doc key plies old new shown makes is = made_put caches canvas key (made_pixels plies) old new (λ p on h. makes.shows p h ∙ sym (shown p on)) is

-- what another frame has under a key is put, if it is something
none_put : (s other : Scene) (k : Key) → map.get other.tiles k ≡ None → with_put_of s k other ≡ s
none_put s other k e = rw e refl

some_put : (s other : Scene) (k : Key) (t : Pixels) → map.get other.tiles k ≡ Some t → with_put_of s k other ≡ with_put s k t
some_put s other k t e = rw e refl

-- so does what a frame has there that shows the cache where no tile is marked
pub put_again : (caches : FinMap nat_cmp Layer) (canvas : Canvas) (laid : Grid) (key : Key) (old new other : Scene) → ShowsUnmarked caches canvas laid other → has_mark laid key ≡ false → new ≡ with_put_of old key other → PutsShown caches canvas key old new
put_again caches canvas laid key old new other before unmarked is = go (map.get other.tiles key) refl
  where
    there : (p : Point) → holds (canvas_area canvas) p ≡ true → in_tile key p ≡ true → pixel_or (map.get other.tiles key) clear p ≡ at (cache caches 0) p
    there p on h = ap (λ k. pixel_or (map.get other.tiles k) clear p) (sym (key_same (key_of p) key h)) ∙ before.shows p on (ap (has_mark laid) (key_same (key_of p) key h) ∙ unmarked)

    go : (o : Option Pixels) → map.get other.tiles key ≡ o → PutsShown caches canvas key old new
    go (Some t) e = made_put caches canvas key t old new (λ p on h. ap (λ o. pixel_or o clear p) (sym e) ∙ there p on h) (is ∙ some_put old other key t e)
    go None e =
        let f : new ≡ old = is ∙ none_put old other key e in
        record {
          width = ap (λ (s : Scene). s.width) f;
          height = ap (λ (s : Scene). s.height) f;
          paper = ap (λ (s : Scene). s.paper) f;
          here = λ none p on h. ap (λ (s : Scene). put_at s p) f ∙ ap (λ k. pixel_or (map.get old.tiles k) clear p) (key_same (key_of p) key h) ∙ ap (λ o. pixel_or o clear p) (none ∙ sym e) ∙ there p on h;
          others = λ k h. ap (λ (s : Scene). map.get s.tiles k) f;
        }

-- the frame shows the cache on the first i of the tiles, and has no other tile
pub record Drawn (caches : FinMap nat_cmp Layer) (canvas : Canvas) (i : ℕ) (s : Scene) : Type 0 where
  pub width : s.width ≡ canvas.w
  pub height : s.height ≡ canvas.h
  pub paper : s.paper ≡ canvas.paper
  pub shows : (p : Point) → holds (canvas_area canvas) p ≡ true → list_any (same_key (key_of p)) (take i (keys_of (canvas_area canvas))) ≡ true → put_at s p ≡ at (cache caches 0) p
  pub none : (k : Key) → list_any (same_key k) (take i (keys_of (canvas_area canvas))) ≡ false → map.get s.tiles k ≡ None

-- with the empty frame
pub drawn_none : (caches : FinMap nat_cmp Layer) (canvas : Canvas) (s : Scene) → s ≡ scene canvas.w canvas.h canvas.paper map.empty → Drawn caches canvas 0 s
drawn_none caches canvas s is = record {
  width = ap (λ (t : Scene). t.width) is;
  height = ap (λ (t : Scene). t.height) is;
  paper = ap (λ (t : Scene). t.paper) is;
  shows = λ p on h. cc;
  none = λ k h. ap (λ (t : Scene). map.get t.tiles k) is ∙ map.get-empty key_cmp k;
}

-- one tile more
pub drawn_on : (caches : FinMap nat_cmp Layer) (canvas : Canvas) (i : ℕ) (key : Key) (old new : Scene) → IsOfLimits canvas → slice_get (keys_of (canvas_area canvas)) i ≡ Some key
    → Drawn caches canvas i old → PutsShown caches canvas key old new → Drawn caches canvas (i + 1) new
drawn_on caches canvas i key old new limits at_i drawn put = record {
  width = put.width ∙ drawn.width;
  height = put.height ∙ drawn.height;
  paper = put.paper ∙ drawn.paper;
  shows = λ p on h. shown p on h (same_key (key_of p) key) refl;
  none = λ k h. others k (sym (taken_more k) ∙ h);
}
  where
    keys : List Key
    keys = keys_of (canvas_area canvas)

    taken_more : (k : Key) → list_any (same_key k) (take (i + 1) keys) ≡ (list_any (same_key k) (take i keys) || same_key k key)
    taken_more k = ap (list_any (same_key k)) (take_here keys i key at_i) ∙ list_any-append (same_key k) (take i keys) (key ∷ []) ∙ ap (λ b. list_any (same_key k) (take i keys) || b) (or-false (same_key k key))

    unput : map.get old.tiles key ≡ None
    unput = drawn.none key (not_before keys i key (tiles_met (canvas_area canvas) limits.w.0 limits.h.0).distinct at_i)

    others : (k : Key) → (list_any (same_key k) (take i keys) || same_key k key) ≡ false → map.get new.tiles k ≡ None
    others k h = put.others k (none_right (list_any (same_key k) (take i keys)) (same_key k key) h) ∙ drawn.none k (none_left (list_any (same_key k) (take i keys)) (same_key k key) h)

    shown : (p : Point) → holds (canvas_area canvas) p ≡ true → list_any (same_key (key_of p)) (take (i + 1) keys) ≡ true → (b : Bool) → same_key (key_of p) key ≡ b → put_at new p ≡ at (cache caches 0) p
    shown p on h true e = put.here unput p on e
    shown p on h false e = ap (λ o. pixel_or o clear p) (put.others (key_of p) e) ∙ drawn.shows p on (sym (taken_more (key_of p) ∙ ap (λ b. list_any (same_key (key_of p)) (take i keys) || b) e ∙ or-false (list_any (same_key (key_of p)) (take i keys))) ∙ h)

pub drawn_more : (caches : FinMap nat_cmp Layer) (canvas : Canvas) (i : ℕ) (key : Key) (old new : Scene) → IsOfLimits canvas → slice_get (keys_of (canvas_area canvas)) i ≡ Some key
    → Drawn caches canvas i old → PutsCache caches key old new → Drawn caches canvas (i + 1) new
drawn_more caches canvas i key old new limits at_i drawn put = drawn_on caches canvas i key old new limits at_i drawn (shown_put caches canvas key old new put)

on_axis : (c : ℤ) (n : ℕ) → (int_lt (pos 0) ((pos 64 *ℤ c) +ℤ pos 64) && int_lt (pos 64 *ℤ c) (pos 0 +ℤ pos n)) ≡ true → (pos 0 ≤ℤ c) × ((pos 64 *ℤ c) <ℤ pos n)
on_axis c n h = grind (arith, ints)

-- a tile that has points of the canvas is one of a frame of its sides
pub tile_inside : (canvas : Canvas) (key : Key) (s : Scene) → HasTile canvas key → HasSides canvas.w canvas.h s → IsTileOf s key
tile_inside canvas key s met sides =
    let across : (pos 0 ≤ℤ key.col) × ((pos 64 *ℤ key.col) <ℤ pos canvas.w) = on_axis key.col canvas.w (and_left _ _ met) in
    let down : (pos 0 ≤ℤ key.row) × ((pos 64 *ℤ key.row) <ℤ pos canvas.h) = on_axis key.row canvas.h (and_right _ _ met) in
    record {
      left = across.0;
      right = subst (λ n. (pos 64 *ℤ key.col) <ℤ pos n) (sym sides.width) across.1;
      top = down.0;
      bottom = subst (λ n. (pos 64 *ℤ key.row) <ℤ pos n) (sym sides.height) down.1;
    }

-- the next tile has points of the canvas
pub next_met : (canvas : Canvas) (i : ℕ) (key : Key) → IsOfLimits canvas → slice_get (keys_of (canvas_area canvas)) i ≡ Some key → HasTile canvas key
next_met canvas i key limits at_i = sym ((tiles_met (canvas_area canvas) limits.w.0 limits.h.0).exact key) ∙ key_in (keys_of (canvas_area canvas)) i key at_i

-- and is one of the frame's
pub drawn_inside : (caches : FinMap nat_cmp Layer) (canvas : Canvas) (i : ℕ) (key : Key) (s : Scene) → IsOfLimits canvas → slice_get (keys_of (canvas_area canvas)) i ≡ Some key → Drawn caches canvas i s → IsTileOf s key
drawn_inside caches canvas i key s limits at_i drawn = tile_inside canvas key s (next_met canvas i key limits at_i) (record { width = drawn.width; height = drawn.height })

-- with all tiles it shows the cache
pub drawn_all : (caches : FinMap nat_cmp Layer) (canvas : Canvas) (i : ℕ) (s : Scene) → length (keys_of (canvas_area canvas)) ≤ i → Drawn caches canvas i s → ShowsCache caches canvas s
drawn_all caches canvas i s past drawn = record {
  width = drawn.width;
  height = drawn.height;
  paper = drawn.paper;
  shows = λ p h. drawn.shows p h (ap (list_any (same_key (key_of p))) (take_all i (keys_of (canvas_area canvas)) past) ∙ key_of_held (canvas_area canvas) p h);
}
