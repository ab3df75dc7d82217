-- One more frame of a film.
use Rattle.std.proofs.Common.{◌≡◌, ℕ, suc, zero, ◌+◌, ◌-◌, ◌*◌, ◌/◌, ◌<◌, ◌≤◌, ◌⊎◌, inl, inr, get_or, Bool, true, false, ◌&&◌, ◌||◌, cond, List, [], ◌∷◌, ◌++◌, length, Some, None, refl, ap, sym, ◌∙◌, subst, arith, length-append}
use Rattle.std.specs.Prelude.{slice_get, pos, nat_lt, is_some}
use Rattle.std.specs.FinMap as map
use Rattle.std.proofs.lemmas.Bool.Decides.{nat_tests}
use Rattle.std.proofs.lemmas.Option.{slice_get_within, slice_get_read}
use Rattle.geom_core.specs.Areas.{point}
use Rattle.geom_core.specs.Grid.{Key, key, key_of, same_key}
use Rattle.geom_core.specs.Keys.{key_cmp_total}
use Rattle.pixel_core.specs.Rgba.{clear}
use Rattle.tile_core.specs.Pixels.{Pixels, pixel_or}
use Rattle.frame_core.specs.Marks.{Grid, has_mark, on_canvas}
use Rattle.frame_core.specs.Frames.{Scene, rows_colours, with_put}
use Rattle.frame_core.specs.Films.{Renews, IsFilm, Follows, ShowsBefore, newest}
use Rattle.geom_core.proofs.Tests.{some_same}

before_end : {A : Type 0} (xs : List A) (y : A) (i : ℕ) → i < length xs → slice_get (xs ++ y ∷ []) i ≡ slice_get xs i
before_end [] y i h = absurd (omega arith)
before_end (x ∷ xs) y zero h = refl
before_end (x ∷ xs) y (suc i) h = before_end xs y i (omega arith)

at_end : {A : Type 0} (xs : List A) (y : A) → slice_get (xs ++ y ∷ []) (length xs) ≡ Some y
at_end [] y = refl
at_end (x ∷ xs) y = at_end xs y

-- the item at the end is the new one
pub last_is : {A : Type 0} (xs : List A) (y z : A) (i : ℕ) → i ≡ length xs → slice_get (xs ++ y ∷ []) i ≡ Some z → y ≡ z
last_is xs y z i e h = some_same y z (sym (at_end xs y) ∙ ap (slice_get (xs ++ y ∷ [])) (sym e) ∙ h)

pub one_more : (scenes : List Scene) (fresh : List Grid) (s : Scene) (g : Grid) → IsFilm scenes fresh → ((before : Scene) → newest scenes ≡ Some before → Renews s before g) → IsFilm (scenes ++ s ∷ []) (fresh ++ g ∷ [])
one_more scenes fresh s g film renews = record {
  marks = length-append fresh (g ∷ []) ∙ ap (λ n. n + 1) film.marks ∙ sym (length-append scenes (s ∷ []));
  renewed = λ i before t f p q r. elim (either i) [
    | inl h ↦ film.renewed i before t f (sym (before_end scenes s i (omega arith)) ∙ p) (sym (before_end scenes s (i + 1) h) ∙ q) (sym (before_end fresh g (i + 1) (omega (arith, film.marks))) ∙ r)
    | inr h ↦
        let within : i + 1 < length (scenes ++ s ∷ []) = slice_get_within (scenes ++ s ∷ []) (i + 1) t q in
        let end : i + 1 ≡ length scenes = omega (arith, length-append scenes (s ∷ [])) in
        let newest_is : newest scenes ≡ Some before = ap (slice_get scenes) (let e : length scenes - 1 ≡ i = omega arith in e) ∙ sym (before_end scenes s i (omega arith)) ∙ p in
        subst (λ x. Renews x before f) (last_is scenes s t (i + 1) end q) (subst (λ x. Renews s before x) (last_is fresh g f (i + 1) (end ∙ sym film.marks) r) (renews before newest_is))
  ];
}
  where
    either : (i : ℕ) → (i + 1 < length scenes) ⊎ (length scenes ≤ i + 1)
    either i = grind arith

-- a tile of the largest canvas
pub on_largest : (c r : ℕ) → c < 32 → r < 32 → on_canvas (key (pos c) (pos r)) ≡ true
on_largest c r h k =
    let in_columns : nat_lt c 32 ≡ true = grind (arith, nat_tests) in
    let in_rows : nat_lt r 32 ≡ true = grind (arith, nat_tests) in
    ap (λ b. is_some (cond (b && nat_lt r 32) (Some (32 * r + c)) None)) in_columns ∙ ap (λ b. is_some (cond b (Some (32 * r + c)) None)) in_rows

not_marked : (o s n : Bool) → (o || (s && n)) ≡ false → n ≡ true → s ≡ false
not_marked o s n h k = grind arith

-- a tile that is put is marked
pub renews_put : (s before : Scene) (k : Key) (t : Pixels) (old fresh : Grid) → s ≡ with_put before k t → before.width ≤ 2048 → before.height ≤ 2048 → ((q : Key) → has_mark fresh q ≡ (has_mark old q || (same_key q k && on_canvas q))) → Renews s before fresh
renews_put s before k t old fresh e w h marks x y hx hy _ _ unmarked =
    let q : Key = key_of (point (pos x) (pos y)) in
    let columns : s.width ≡ before.width = ap (λ (v : Scene). v.width) e in
    let rows : s.height ≡ before.height = ap (λ (v : Scene). v.height) e in
    let other : same_key q k ≡ false = not_marked (has_mark old q) (same_key q k) (on_canvas q) (sym (marks q) ∙ unmarked) (on_largest (x / 64) (y / 64) (omega arith) (omega arith)) in
    ap (λ o. pixel_or o clear (point (pos x) (pos y))) (ap (λ (v : Scene). map.get v.tiles q) e ∙ map.get-insert key_cmp_total before.tiles k t q ∙ ap (λ b. cond b (Some t) (map.get before.tiles q)) other)

-- what a band shows of the frame before that at a place
pub shows_before : (scenes : List Scene) (i y n : ℕ) (b : Scene) (band : List ℕ) → Follows scenes i → i < length scenes → b ≡ get_or scenes (i - 1) b → ShowsBefore scenes i y n band → band ≡ rows_colours b y n
shows_before scenes zero y n b band follows h e shown = absurd follows
shows_before scenes (suc k) y n b band follows h e shown =
    let back : suc k - 1 ≡ k = omega arith in
    shown k refl b (slice_get_read scenes (length scenes) k b refl (omega arith) (e ∙ ap (λ j. get_or scenes j b) back))
