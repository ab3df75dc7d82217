-- Tiles of the root's cache, put one after another.
use Rattle.std.proofs.Common.{◌≡◌, ℕ, ◌+◌, ◌≤◌, Bool, true, false, ◌&&◌, ◌||◌, cond, List, [], ◌∷◌, ◌++◌, length, take, Some, None, is_some, ◌⊎◌, inl, inr, replicate, refl, sym, ap, ap₂, ◌∙◌, subst, append_assoc, append-nil, arith}
use Rattle.std.specs.Prelude.{ℤ, pos, negsuc, ◌+ℤ◌, ◌*ℤ◌, int_le, int_lt, slice_get}
use Rattle.std.specs.List.{list_any}
use Rattle.std.proofs.lemmas.Bool.Decides.{nat_tests}
use Rattle.std.proofs.lemmas.List.{take_all}
use Rattle.std.proofs.lemmas.List.Folds.{list_any_more}
use Rattle.std.proofs.lemmas.List.Sums.{fold-append}
use Rattle.std.proofs.lemmas.Option.{slice_get_within, get_or_from_slice_get}
use borrow.Author.Differences.{ints}
use Rattle.pixel_core.specs.Rgba.{clear}
use Rattle.geom_core.specs.Areas.{Point, meets}
use Rattle.geom_core.specs.Grid.{Key, key_of, same_key, keys_of, tile}
use Rattle.geom_core.proofs.Axes.{tiles_met}
use Rattle.geom_core.proofs.Keys.{key_of_held}
use Rattle.geom_core.proofs.Tests.{and_left, and_right, or_cases, or_left, taken, kept}
use Rattle.geom_core.proofs.Tiles.{key_same}
use Rattle.frame_core.specs.Marks.{place_at, on_canvas}
use Rattle.tile_core.specs.Pixels.{Pixels, pixel_at, pixel_or}
use Rattle.doc_model.specs.declared.canvas.Canvas.{Canvas}
use Rattle.doc_model.specs.Canvases.{IsOfLimits}
use Rattle.doc_model.specs.Layers.{at}
use Rattle.doc_model.specs.Picture.{canvas_area}
use Rattle.doc_model.specs.Shots.{in_tile}
use Rattle.machine_model.specs.State.{State}
use Rattle.machine_model.specs.Groups.{cache}
use Rattle.filmed_caches.proofs.KeyLists.{key_in}
use Rattle.desk_events.specs.Shown as desk
use Rattle.live_view.specs.declared.update.Update.{Update}
use Rattle.live_view.specs.Shown.{Rows, updates_of, newer, shown, with_row}
use Rattle.live_view.specs.Views.{Feed, published, pending, all_updates}
use Rattle.live_view.proofs.Laying.{updates_more, same_kept}
use Rattle.live_run.specs.Showing.{ShowsTiles, ShowsRoot, ShowsPicture, PutsRoot}

-- an update more of a writer is one more of all its updates
pub put_more : (old new : Feed) (s : State) (key : Key) (t : Pixels) → published new ≡ published old → ((p : Point) → in_tile key p ≡ true → pixel_at t p ≡ at (cache s.caches 0) p)
    → pending new ≡ pending old ++ (record { key = key; tile = t }) ∷ [] → PutsRoot (all_updates old) (all_updates new) s key
put_more old new s key t same is more = record {
  tile = t;
  is = is;
  more = ap₂ (λ (rows : Rows) (us : List Update). updates_of rows ++ us) same more ∙ sym (append_assoc (updates_of (published old)) (pending old) ((record { key = key; tile = t }) ∷ []));
}

-- a clear tile, where the cache is clear
pub clear_shown : (s : State) (key : Key) (t : Pixels) (n : ℕ) → t ≡ replicate n clear → ((p : Point) → in_tile key p ≡ true → at (cache s.caches 0) p ≡ clear) → (p : Point) → in_tile key p ≡ true → pixel_at t p ≡ at (cache s.caches 0) p
clear_shown s key t n blank is p h = ap (λ (u : Pixels). pixel_at u p) blank ∙ (same_kept clear n _ ∙ sym (is p h))

-- what was pending is published
pub all_published : (rows : Rows) (row : List Update) → updates_of (with_row rows row) ≡ updates_of rows ++ row
all_published rows [] = sym (append-nil (updates_of rows))
all_published rows (u ∷ more) = updates_more rows (u ∷ more)

-- the root's cache is the picture
pub picture_shown : (us : List Update) (s : State) → ShowsRoot us s → desk.ShowsPicture s → ShowsPicture us s
picture_shown us s root clean p inside = root p (key_of_held (canvas_area s.canvas) p inside) ∙ clean p inside

-- one of the tiles
pub one_shown : (us : List Update) (s : State) (keys : List Key) (i : ℕ) (key : Key) → slice_get keys i ≡ Some key → ShowsTiles us s keys → ShowsTiles us s (key ∷ [])
one_shown us s keys i key at_i so p h = so p (subst (λ k. list_any (same_key k) keys ≡ true) (sym (key_same (key_of p) key (only h))) (key_in keys i key at_i))
  where
    only : (same_key (key_of p) key || false) ≡ true → same_key (key_of p) key ≡ true
    only t = elim (or_cases (same_key (key_of p) key) false t) [ inl e ↦ e | inr e ↦ absurd (let u : false ≡ true = e in cc) ]

-- a tile that the updates show
pub seen_tile : (us : List Update) (s : State) (key : Key) (t : Pixels) → ShowsTiles us s (key ∷ []) → Some t ≡ shown us key → (p : Point) → in_tile key p ≡ true → pixel_at t p ≡ at (cache s.caches 0) p
seen_tile us s key t shows is p h = ap (λ o. pixel_or o clear p) (is ∙ ap (shown us) (sym (key_same (key_of p) key h))) ∙ shows p (or_left (same_key (key_of p) key) false h)

-- and none
pub seen_none : (us : List Update) (s : State) (key : Key) → ShowsTiles us s (key ∷ []) → None ≡ shown us key → (p : Point) → in_tile key p ≡ true → at (cache s.caches 0) p ≡ clear
seen_none us s key shows is p h = sym (ap (λ o. pixel_or o clear p) (is ∙ ap (shown us) (sym (key_same (key_of p) key h))) ∙ shows p (or_left (same_key (key_of p) key) false h))

on_axis : (c : ℤ) (n : ℕ) → n ≤ 2048 → (int_lt (pos 0) ((pos 64 *ℤ c) +ℤ pos 64) && int_lt (pos 64 *ℤ c) (pos 0 +ℤ pos n)) ≡ true → (int_le (pos 0) c && int_lt c (pos 32)) ≡ true
on_axis c n few h = grind (arith, ints)

placed : (c r : ℤ) → (int_le (pos 0) c && int_lt c (pos 32)) ≡ true → (int_le (pos 0) r && int_lt r (pos 32)) ≡ true → is_some (place_at c r) ≡ true
placed (pos c) (pos r) h k = grind (arith, nat_tests)
placed (pos c) (negsuc r) h k = absurd (let t : false ≡ true = k in cc)
placed (negsuc c) r h k = absurd (let t : false ≡ true = h in cc)

-- a tile of a canvas is one of the largest canvas's
pub key_on_canvas : (canvas : Canvas) (i : ℕ) (key : Key) → IsOfLimits canvas → slice_get (keys_of (canvas_area canvas)) i ≡ Some key → on_canvas key ≡ true
key_on_canvas canvas i key limits at_i =
    let met : meets (canvas_area canvas) (tile key) ≡ true = sym ((tiles_met (canvas_area canvas) limits.w.0 limits.h.0).exact key) ∙ key_in (keys_of (canvas_area canvas)) i key at_i in
    placed key.col key.row (on_axis key.col canvas.w limits.w.1 (and_left _ _ met)) (on_axis key.row canvas.h limits.h.1 (and_right _ _ met))
