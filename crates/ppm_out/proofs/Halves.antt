-- Rows over those of the frame before, in two halves.
use Rattle.std.proofs.Common.{◌≡◌, ℕ, suc, zero, ◌+◌, ◌*◌, ◌%◌, ◌≤◌, ◌<◌, List, length, get_or, take, drop, refl, sym, ap, subst, ◌∙◌, arith}
use Rattle.std.specs.Prelude.{slice_get, Some}
use Rattle.std.proofs.lemmas.List.{take_at, drop_at, get_or_read}
use Rattle.std.proofs.lemmas.Option.{slice_get-get_or, get_or_from_slice_get}
use Rattle.frame_core.specs.Frames.{Scene, SameCanvas, rows_colours}
use Rattle.frame_core.specs.Films.{Follows, IsBandOf}
use Rattle.frame_core.proofs.PictureRows.{rows_more, length-rows_colours}
use Rattle.ppm_out.specs.Rows.{no_frame, scene_of, IsThere, StandsBefore, PictureBefore}
use Rattle.ppm_out.specs.declared.rows.Rows.{Rows}
use Rattle.ppm_out.specs.declared.rows.Rows.TheVariants.{Of, After}

-- a frame has the canvas of the one that it follows
alike : (scenes : List Scene) (i k : ℕ) (b d : Scene) → i < length scenes → Follows scenes i → i ≡ suc k → slice_get scenes k ≡ Some b → SameCanvas (get_or scenes i d) b
alike scenes zero k b d h follows e at = absurd follows
alike scenes (suc i) k b d h follows e at =
    let same : i ≡ k = omega arith in
    follows b (get_or scenes (suc i) d) (ap (slice_get scenes) same ∙ at) (slice_get-get_or scenes (suc i) d h)

-- the upper rows of a band, and the lower ones
upper : (s : Scene) (y m n k at : ℕ) (band : List ℕ) → band ≡ rows_colours s y k → m + n ≡ k → at ≡ 3 * (s.width * m) → take at band ≡ rows_colours s y m
upper s y m n k at band shown all e =
    ap (take at) (shown ∙ sym (rows_more s y m n ∙ ap (rows_colours s y) all)) ∙ take_at (rows_colours s y m) (rows_colours s (y + m) n) at (length-rows_colours s y m ∙ sym e)

lower : (s : Scene) (y m n k at : ℕ) (band : List ℕ) → band ≡ rows_colours s y k → m + n ≡ k → at ≡ 3 * (s.width * m) → drop at band ≡ rows_colours s (y + m) n
lower s y m n k at band shown all e =
    ap (drop at) (shown ∙ sym (rows_more s y m n ∙ ap (rows_colours s y) all)) ∙ drop_at (rows_colours s y m) (rows_colours s (y + m) n) at (length-rows_colours s y m ∙ sym e)

pub above_before : (rows : Rows) (y m n k at : ℕ) (band above : List ℕ) → IsThere rows → StandsBefore rows y k band → m + n ≡ k → at ≡ 3 * ((scene_of rows).width * m) → above ≡ take at band → StandsBefore rows y m above
above_before (Of frame) y m n k at band above there stands all e is = tt
above_before (After film i) y m n k at band above there stands all e is = (
  stands.0,
  (λ j ej b p. is ∙ upper b y m n k at band (stands.1 j ej b p) all (e ∙ ap (λ w. 3 * (w * m)) (sym (alike film.now i j b no_frame there.0 there.1 ej p).width))),
)

pub below_before : (rows : Rows) (y m n k at : ℕ) (band below : List ℕ) → IsThere rows → StandsBefore rows y k band → m + n ≡ k → m % 64 ≡ 0 → at ≡ 3 * ((scene_of rows).width * m) → below ≡ drop at band → StandsBefore rows (y + m) n below
below_before (Of frame) y m n k at band below there stands all whole e is = tt
below_before (After film i) y m n k at band below there stands all whole e is = (
  omega (arith, stands.0),
  (λ j ej b p. is ∙ lower b y m n k at band (stands.1 j ej b p) all (e ∙ ap (λ w. 3 * (w * m)) (sym (alike film.now i j b no_frame there.0 there.1 ej p).width))),
)

-- all rows of a picture
pub picture_before : (rows : Rows) (h at : ℕ) (picture band : List ℕ) → IsThere rows → PictureBefore rows picture → h ≡ (scene_of rows).height → at ≡ 3 * ((scene_of rows).width * h) → band ≡ take at picture → StandsBefore rows 0 h band
picture_before (Of frame) h at picture band there shown eh e is = tt
picture_before (After film i) h at picture band there shown eh e is = (
  refl,
  (λ j ej b p.
      let same : SameCanvas (scene_of (After film i)) b = alike film.now i j b no_frame there.0 there.1 ej p in
      let high : h ≡ b.height = eh ∙ sym same.height in
      let many : at ≡ 3 * (b.width * b.height) = e ∙ (λ t. 3 * (sym same.width t * high t)) in
      is ∙ ap (λ n. take n picture) many ∙ shown j b ej p ∙ ap (rows_colours b 0) (sym high)),
)

-- a band of rows of the frame at a place of a film
pub band_of : (scenes : List Scene) (i y n : ℕ) (d : Scene) (band : List ℕ) → y + n ≤ (get_or scenes i d).height → length band ≡ 3 * ((get_or scenes i d).width * n) → IsBandOf scenes i y n band
band_of scenes i y n d band inside whole s at =
    let e : get_or scenes i d ≡ s = get_or_from_slice_get scenes i s d at in (
      subst (λ (v : Scene). y + n ≤ v.height) e inside,
      whole ∙ ap (λ (v : Scene). 3 * (v.width * n)) e,
    )

-- a frame that is read at a place of a film
pub frame_of : (frames film : List Scene) (i : ℕ) (s d : Scene) → frames ≡ film → i < length film → s ≡ get_or frames i s → s ≡ get_or film i d
frame_of frames film i s d e h is = get_or_read frames i s (subst (λ v. i < length v) (sym e) h) is d ∙ ap (λ v. get_or v i d) e
