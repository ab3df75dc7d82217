-- Shots taken from sheets.
use Rattle.std.proofs.Common.{◌≡◌, ℕ, ◌+◌, ◌<◌, ◌≤◌, Bool, true, false, ◌||◌, cond, List, [], ◌∷◌, ◌++◌, length, take, get_or, Option, Some, None, refl, sym, ap, ◌∙◌, arith, append_assoc, subst}
use Rattle.std.specs.List.{list_any}
use Rattle.std.specs.Prelude.{slice_get}
use Rattle.std.specs.FinMap as map
use Rattle.std.proofs.lemmas.List.Folds.{list_any-append}
use Rattle.std.proofs.lemmas.Option.{get_or_from_slice_get, slice_get_within}
use Rattle.std.proofs.lemmas.List.{take_more}
use Rattle.std.proofs.Math.Seq.{take-length}
use Rattle.pixel_core.specs.Rgba.{Rgba}
use Rattle.geom_core.specs.Areas.{Area, Point}
use Rattle.geom_core.specs.Rects.{any_holds}
use Rattle.geom_core.specs.Grid.{Key, key_of, key_cmp, same_key, keys_of, all_keys_of}
use Rattle.geom_core.specs.Keys.{key_cmp_total}
use Rattle.geom_core.proofs.Keys.{key_of_any_held}
use Rattle.tile_core.specs.Pixels.{Pixels, pixel_or}
use Rattle.tile_core.specs.Shots.{Sight, sight, sight_at, with_seen}
use Rattle.memento_core.specs.Planes.{tile_under}
use Rattle.paint_device.specs.Sheets.{Sheet, sheet_at}
use Rattle.paint_device.specs.Grabs.{or_else, Grabs, SharesTiles}
use Rattle.geom_core.proofs.Tiles.{key_same}

twice : (a b : Bool) (t o : Option Pixels) → or_else (cond b t None) (or_else (cond a t None) o) ≡ or_else (cond (a || b) t None) o
twice true true None o = refl
twice true true (Some t) o = refl
twice true false t o = refl
twice false b t o = refl

-- one lot after another
pub grabs_more : (s : Sheet) (a b c : Sight) (ks ms : List Key) → Grabs s a b ks → Grabs s b c ms → Grabs s a c (ks ++ ms)
grabs_more s a b c ks ms g h = record {
  default_pixel = h.default_pixel ∙ g.default_pixel;
  rects = h.rects ∙ g.rects;
  tiles = λ k. h.tiles k ∙ ap (or_else (cond (list_any (same_key k) ms) (tile_under s.tiles k) None)) (g.tiles k)
      ∙ twice (list_any (same_key k) ks) (list_any (same_key k) ms) (tile_under s.tiles k) (map.get a.tiles k)
      ∙ ap (λ t. or_else (cond t (tile_under s.tiles k) None) (map.get a.tiles k)) (sym (list_any-append (same_key k) ks ms));
}

-- the tile under one key
pub grabs_put : (s : Sheet) (a : Sight) (k : Key) (t : Pixels) → Some t ≡ tile_under s.tiles k → Grabs s a (with_seen a k t) (k ∷ [])
grabs_put s a k t e = record {
  default_pixel = refl;
  rects = refl;
  tiles = λ q. map.get-insert key_cmp_total a.tiles k t q ∙ go q (same_key q k) refl;
}
  where
    go : (q : Key) (b : Bool) → same_key q k ≡ b → cond b (Some t) (map.get a.tiles q) ≡ or_else (cond (b || false) (tile_under s.tiles q) None) (map.get a.tiles q)
    go q true h = ap (λ o. or_else o (map.get a.tiles q)) (e ∙ ap (λ (m : Key). tile_under s.tiles m) (sym (key_same q k h)))
    go q false h = refl

-- where no tile stands under the key nothing is taken
pub grabs_skip : (s : Sheet) (a : Sight) (k : Key) → None ≡ tile_under s.tiles k → Grabs s a a (k ∷ [])
grabs_skip s a k e = record {
  default_pixel = refl;
  rects = refl;
  tiles = λ q. go q (same_key q k) refl;
}
  where
    go : (q : Key) (b : Bool) → same_key q k ≡ b → map.get a.tiles q ≡ or_else (cond (b || false) (tile_under s.tiles q) None) (map.get a.tiles q)
    go q true h = ap (λ o. or_else o (map.get a.tiles q)) (e ∙ ap (λ (m : Key). tile_under s.tiles m) (sym (key_same q k h)))
    go q false h = refl

pub take_one : (ks : List Key) (i : ℕ) (k : Key) → slice_get ks i ≡ Some k → take (i + 1) ks ≡ take i ks ++ k ∷ []
take_one ks i k e = take_more ks i k (slice_get_within ks i k e) ∙ ap (λ (x : Key). take i ks ++ x ∷ []) (get_or_from_slice_get ks i k k e)

all_keys-append : (a b : List Area) → all_keys_of (a ++ b) ≡ all_keys_of a ++ all_keys_of b
all_keys-append [] b = refl
all_keys-append (x ∷ a) b = ap (λ ks. keys_of x ++ ks) (all_keys-append a b) ∙ sym (append_assoc (keys_of x) (all_keys_of a) (all_keys_of b))

taken_pixel : (o : Option Pixels) (c : Rgba) (p : Point) → pixel_or (or_else o None) c p ≡ pixel_or o c p
taken_pixel None c p = refl
taken_pixel (Some t) c p = refl

-- the shot has the sheet's pixels on its rectangles
pub grabbed_at : (s : Sheet) (rects : List Area) (new : Sight) → Grabs s (sight s.default_pixel rects map.empty) new (all_keys_of rects) → (p : Point) → any_holds rects p ≡ true → sight_at new p ≡ sheet_at s p
grabbed_at s rects new g p h =
    let got : map.get new.tiles (key_of p) ≡ or_else (tile_under s.tiles (key_of p)) None =
    g.tiles (key_of p) ∙ ap (or_else (cond (list_any (same_key (key_of p)) (all_keys_of rects)) (tile_under s.tiles (key_of p)) None)) (map.get-empty key_cmp (key_of p))
    ∙ ap (λ b. or_else (cond b (tile_under s.tiles (key_of p)) None) None) (key_of_any_held rects p h) in
    ap (λ o. pixel_or o new.default_pixel p) got ∙ taken_pixel (tile_under s.tiles (key_of p)) new.default_pixel p ∙ ap (λ (c : Rgba). pixel_or (tile_under s.tiles (key_of p)) c p) g.default_pixel

-- one more tile of a rectangle, and one more rectangle
pub grabs_key : (s : Sheet) (a b c : Sight) (ks : List Key) (i : ℕ) (k : Key) → slice_get ks i ≡ Some k → Grabs s a b (take i ks) → Grabs s b c (k ∷ []) → Grabs s a c (take (i + 1) ks)
grabs_key s a b c ks i k e g h = rw (take_one ks i k e) (grabs_more s a b c (take i ks) (k ∷ []) g h)

pub grabs_rect : (s : Sheet) (a b c : Sight) (rects : List Area) (i : ℕ) (r : Area) → i < length rects → r ≡ get_or rects i r → Grabs s a b (all_keys_of (take i rects)) → Grabs s b c (keys_of r) → Grabs s a c (all_keys_of (take (i + 1) rects))
grabs_rect s a b c rects i r l e g h =
    let keys : all_keys_of (take (i + 1) rects) ≡ all_keys_of (take i rects) ++ keys_of r =
    ap all_keys_of (take_more rects i r l ∙ ap (λ (x : Area). take i rects ++ x ∷ []) (sym e)) ∙ all_keys-append (take i rects) (r ∷ []) ∙ ap (λ ks. all_keys_of (take i rects) ++ ks) (append-nil (keys_of r)) in
    rw keys (grabs_more s a b c (all_keys_of (take i rects)) (keys_of r) g h)
  where
    append-nil : (ks : List Key) → ks ++ [] ≡ ks
    append-nil [] = refl
    append-nil (k ∷ ks) = ap (λ m. k ∷ m) (append-nil ks)

pub grabs_put_as : (s : Sheet) (a b : Sight) (k : Key) (t : Pixels) → b ≡ with_seen a k t → Some t ≡ tile_under s.tiles k → Grabs s a b (k ∷ [])
grabs_put_as s a b k t e h = subst (λ v. Grabs s a v (k ∷ [])) (sym e) (grabs_put s a k t h)

-- under each key that its rectangles meet it has the sheet's tile
pub grabbed_under : (s : Sheet) (rects : List Area) (new : Sight) → Grabs s (sight s.default_pixel rects map.empty) new (all_keys_of rects) → SharesTiles s (all_keys_of rects) new
grabbed_under s rects new g k h = g.tiles k ∙ ap (or_else (cond (list_any (same_key k) (all_keys_of rects)) (tile_under s.tiles k) None)) (map.get-empty key_cmp k)
    ∙ ap (λ b. or_else (cond b (tile_under s.tiles k) None) None) h ∙ itself (tile_under s.tiles k)
  where
    itself : (o : Option Pixels) → or_else o None ≡ o
    itself None = refl
    itself (Some t) = refl

-- once all rectangles are taken
module _ (s : Sheet) (rects : List Area) (c : Rgba) (a new : Sight) (i : ℕ) (ec : c ≡ s.default_pixel) (ea : a ≡ sight c rects map.empty) (low : length rects ≤ i) (high : i ≤ length rects) (g : Grabs s a new (all_keys_of (take i rects))) where
  grabbed : Grabs s (sight s.default_pixel rects map.empty) new (all_keys_of rects)
  grabbed =
      let n : i ≡ length rects = omega (arith, low, high) in
      let all : take i rects ≡ rects = ap (λ m. take m rects) n ∙ take-length rects in
      subst (λ v. Grabs s v new (all_keys_of rects)) (ea ∙ ap (λ (d : Rgba). sight d rects map.empty) ec) (subst (λ rs. Grabs s a new (all_keys_of rs)) all g)

  pub grabbed_all : (p : Point) → any_holds rects p ≡ true → sight_at new p ≡ sheet_at s p
  grabbed_all = grabbed_at s rects new grabbed

  pub grabbed_tiles : SharesTiles s (all_keys_of rects) new
  grabbed_tiles = grabbed_under s rects new grabbed
