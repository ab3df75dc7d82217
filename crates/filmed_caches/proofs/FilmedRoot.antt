-- What stays of the root's cache, and what the newest frame shows of it.
use Rattle.std.proofs.Common.{◌≡◌, ℕ, ◌-◌, ◌/◌, ◌<◌, Bool, true, false, ◌&&◌, ◌||◌, cond, Some, None, List, [], ◌∷◌, ◌++◌, length, refl, sym, ap, ◌∙◌, arith, eqb, length-append}
use Rattle.std.specs.Prelude.{ℤ, pos, negsuc, ◌+ℤ◌, ◌≤ℤ◌, ◌<ℤ◌, int_le, int_lt}
use borrow.Author.Differences.{ints}
use Rattle.std.specs.Option.{unwrap_or}
use Rattle.std.specs.Ordering.{nat_cmp, eq_by_cmp}
use Rattle.std.specs.FinMap as map
use Rattle.std.specs.FinMap.{FinMap, find}
use Rattle.std.proofs.lemmas.Bool.Decides.{nat_tests}
use Rattle.std.proofs.lemmas.Cmp.{nat_cmp_total}
use Rattle.pixel_core.specs.Rgba.{Rgba, clear}
use Rattle.geom_core.specs.Areas.{Area, Point, point}
use Rattle.geom_core.specs.Rects.{any_holds}
use Rattle.geom_core.specs.Grid.{Key, key_of, same_key}
use Rattle.geom_core.proofs.Tests.{and_left, and_right, taken, kept}
use Rattle.doc_model.specs.declared.canvas.Canvas.{Canvas}
use Rattle.doc_model.specs.Canvases.{IsOfLimits}
use Rattle.doc_model.specs.Layers.{Layer, at, plain, painted}
use Rattle.doc_model.specs.Picture.{Doc}
use Rattle.doc_model.specs.Readers.{order}
use Rattle.doc_model.specs.Shots.{in_tile}
use Rattle.doc_model.proofs.LayerLaws.{at-painted}
use Rattle.machine_model.specs.Effects.{caches_for}
use Rattle.machine_model.specs.Groups.{cache}
use Rattle.machine_model.proofs.WalkPublishCaches.{cache_set}
use Rattle.frame_core.specs.Films.{Renews, newest}
use Rattle.frame_core.specs.Frames.{Scene, put_at}
use Rattle.frame_core.specs.Marks.{Grid, has_mark, on_canvas}
use Rattle.frame_core.proofs.Films.{on_largest, last_is}
use Rattle.group_caches.specs.Kept.{with_picture, kept_entries}
use Rattle.group_caches.proofs.Finds.{by_number}
use Rattle.group_caches.proofs.Keeping.{for_doc}
use Rattle.desk_state.specs.Cached.{ShowsCache}
use Rattle.desk_state.proofs.Looking.{in_canvas}
use Rattle.filmed_caches.specs.Filmed.{IsMarked}
use Rattle.filmed_caches.specs.Made.{IsOfCanvas, ShowsUnmarked}

-- ---- a picture is laid

-- the root's cache stays at a point, if the picture is another group's or lies on another tile
same_root : (caches : FinMap nat_cmp Layer) (g : ℕ) (rect : Area) (key : Key) (f : Point → Rgba) (p : Point) → (eqb g 0 && in_tile key p) ≡ false → at (cache (with_picture caches g rect key f) 0) p ≡ at (cache caches 0) p
same_root caches g rect key f p away = ap (λ l. at l p) (cache_set caches g 0 (painted (rect ∷ []) (in_tile key) f (cache caches g))) ∙ go (eqb 0 g) refl
  where
    equal : eqb 0 g ≡ true → g ≡ 0
    equal e = grind (arith, nat_tests)

    outside : eqb 0 g ≡ true → (any_holds (rect ∷ []) p && in_tile key p) ≡ false
    outside e = let same : eqb g 0 ≡ true = grind (arith, nat_tests) in grind arith

    go : (b : Bool) → eqb 0 g ≡ b → at (cond b (painted (rect ∷ []) (in_tile key) f (cache caches g)) (cache caches 0)) p ≡ at (cache caches 0) p
    go false e = refl
    go true e = at-painted (rect ∷ []) (in_tile key) f (cache caches g) p ∙ kept (any_holds (rect ∷ []) p && in_tile key p) (f p) (at (cache caches g) p) (outside e) ∙ ap (λ c. at (cache caches c) p) (equal e)

unmarked : (o r s n : Bool) → (o || (r && (s && n))) ≡ false → n ≡ true → (o ≡ false) × ((r && s) ≡ false)
unmarked o r s n h k = (grind arith, grind arith)

-- a tile of the root that is laid is marked
pub marked_put : (caches : FinMap nat_cmp Layer) (g : ℕ) (rect : Area) (key : Key) (f : Point → Rgba) (frames : List Scene) (old new : Grid) → ((k : Key) → has_mark new k ≡ (has_mark old k || (eqb g 0 && (same_key k key && on_canvas k))))
    → IsMarked caches frames old → IsMarked (with_picture caches g rect key f) frames new
marked_put caches g rect key f frames old new marks so s e x y h k on none =
    let q : Key = key_of (point (pos x) (pos y)) in
    let both : (has_mark old q ≡ false) × ((eqb g 0 && same_key q key) ≡ false) = unmarked (has_mark old q) (eqb g 0) (same_key q key) (on_canvas q) (sym (marks q) ∙ none) on in
    so s e x y h k on both.0 ∙ sym (same_root caches g rect key f (point (pos x) (pos y)) both.1)

-- ---- the tree changes

root_found : (caches : FinMap nat_cmp Layer) (gs : List ℕ) → find nat_cmp 0 (kept_entries caches (gs ++ 0 ∷ [])) ≡ Some (cache caches 0)
root_found caches [] = taken (eq_by_cmp nat_cmp 0 0) (Some (cache caches 0)) None (by_number 0 0)
root_found caches (g ∷ gs) = go (eq_by_cmp nat_cmp 0 g) refl (root_found caches gs)
  where
    equal : eq_by_cmp nat_cmp 0 g ≡ true → g ≡ 0
    equal e = let same : eqb 0 g ≡ true = sym (by_number 0 g) ∙ e in grind (arith, nat_tests)

    go : (b : Bool) → eq_by_cmp nat_cmp 0 g ≡ b → find nat_cmp 0 (kept_entries caches (gs ++ 0 ∷ [])) ≡ Some (cache caches 0) → find nat_cmp 0 (kept_entries caches ((g ∷ gs) ++ 0 ∷ [])) ≡ Some (cache caches 0)
    go true e rest = taken (eq_by_cmp nat_cmp 0 g) (Some (cache caches g)) _ e ∙ ap (λ c. Some (cache caches c)) (equal e)
    go false e rest = kept (eq_by_cmp nat_cmp 0 g) (Some (cache caches g)) _ e ∙ rest

-- the root's cache stays
pub root_kept : (caches : FinMap nat_cmp Layer) (doc : Doc) → cache (caches_for caches doc) 0 ≡ cache caches 0
root_kept caches doc = ap (λ o. unwrap_or o (plain clear)) (ap (λ m. map.get m 0) (sym (for_doc caches doc (order doc ++ 0 ∷ []) refl)) ∙ map.get-from_entries nat_cmp_total (kept_entries caches (order doc ++ 0 ∷ [])) 0 ∙ root_found caches (order doc))

pub marked_kept : (caches : FinMap nat_cmp Layer) (doc : Doc) (frames : List Scene) (laid : Grid) → IsMarked caches frames laid → IsMarked (caches_for caches doc) frames laid
marked_kept caches doc frames laid so s e x y h k on none = so s e x y h k on none ∙ ap (λ l. at l (point (pos x) (pos y))) (sym (root_kept caches doc))

-- ---- frames

pub none_taken : (caches : FinMap nat_cmp Layer) (laid : Grid) → IsMarked caches [] laid
none_taken caches laid s e = absurd (let none : None ≡ Some s = e in cc)

-- a frame of the root's cache differs from the newest one on marked tiles alone
pub shown_renews : (caches : FinMap nat_cmp Layer) (canvas : Canvas) (frames : List Scene) (laid : Grid) (shown : Scene) → IsOfLimits canvas → IsMarked caches frames laid → ShowsCache caches canvas shown → (before : Scene) → newest frames ≡ Some before → Renews shown before laid
shown_renews caches canvas frames laid shown limits so shows before e x y h k i j none =
    let in_columns : x < canvas.w = omega (arith, shows.width) in
    let in_rows : y < canvas.h = omega (arith, shows.height) in
    let on : on_canvas (key_of (point (pos x) (pos y))) ≡ true = on_largest (x / 64) (y / 64) (omega (arith, limits.w.1)) (omega (arith, limits.h.1)) in
    shows.shows (point (pos x) (pos y)) (in_canvas canvas x y in_columns in_rows) ∙ sym (so before e x y i j on none)

-- and then no tile differs
pub marked_shown : (caches : FinMap nat_cmp Layer) (canvas : Canvas) (frames : List Scene) (laid : Grid) (shown : Scene) → ShowsCache caches canvas shown → IsMarked caches (frames ++ shown ∷ []) laid
marked_shown caches canvas frames laid shown shows s e x y h k on none =
    let is : shown ≡ s = last_is frames shown s (length (frames ++ shown ∷ []) - 1) (omega (arith, length-append frames (shown ∷ []))) e in
    let in_columns : x < canvas.w = omega (arith, shows.width, ap (λ (v : Scene). v.width) is) in
    let in_rows : y < canvas.h = omega (arith, shows.height, ap (λ (v : Scene). v.height) is) in
    ap (λ v. put_at v (point (pos x) (pos y))) (sym is) ∙ shows.shows (point (pos x) (pos y)) (in_canvas canvas x y in_columns in_rows)

-- ---- what the frame before shows

on_axis : (x : ℤ) (n : ℕ) → (int_le (pos 0) x && int_lt x (pos 0 +ℤ pos n)) ≡ true → (pos 0 ≤ℤ x) × (x <ℤ pos n)
on_axis x n h = grind (arith, ints)

-- the newest frame shows the root's cache on the canvas where no tile is marked
pub before_unmarked : (caches : FinMap nat_cmp Layer) (canvas : Canvas) (frames : List Scene) (laid : Grid) → IsOfLimits canvas → IsMarked caches frames laid → IsOfCanvas canvas frames → (s : Scene) → newest frames ≡ Some s → ShowsUnmarked caches canvas laid s
before_unmarked caches canvas frames laid limits so sides s e = record { sides = sides s e; shows = λ p on none. shown p.x p.y (on_axis p.x canvas.w (and_left _ _ on)) (on_axis p.y canvas.h (and_right _ _ on)) none }
  where
    shown : (x y : ℤ) → (pos 0 ≤ℤ x) × (x <ℤ pos canvas.w) → (pos 0 ≤ℤ y) × (y <ℤ pos canvas.h) → has_mark laid (key_of (point x y)) ≡ false → put_at s (point x y) ≡ at (cache caches 0) (point x y)
    shown (pos x) (pos y) across down none =
        let left : x < canvas.w = omega (arith, ints) in
        let top : y < canvas.h = omega (arith, ints) in
        let largest : on_canvas (key_of (point (pos x) (pos y))) ≡ true = on_largest (x / 64) (y / 64) (omega (arith, limits.w.1)) (omega (arith, limits.h.1)) in
        so s e x y (omega (arith, (sides s e).width)) (omega (arith, (sides s e).height)) largest none
    shown (pos x) (negsuc y) across down none = absurd (omega (arith, ints))
    shown (negsuc x) y across down none = absurd (omega (arith, ints))
