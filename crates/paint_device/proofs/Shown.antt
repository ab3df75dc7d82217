-- The layer of a sheet has its pixels.
use Rattle.std.proofs.Common.{◌≡◌, Bool, true, false, ◌&&◌, List, [], ◌∷◌, None, refl, sym, ap, ◌∙◌, inl, inr}
use Rattle.std.specs.Prelude.{map}
use Rattle.std.specs.List.{list_any}
use Rattle.std.specs.FinMap as fin
use Rattle.geom_core.specs.Areas.{holds, Point}
use Rattle.geom_core.specs.Rects.{any_holds}
use Rattle.geom_core.specs.Grid.{Key, key_of, same_key, tile}
use Rattle.geom_core.proofs.Tests.{true_or_false, is_some-None, or_left, or_right, or_cases, taken, kept, and-true}
use Rattle.geom_core.proofs.Tiles.{own_tile, key_same}
use Rattle.doc_model.specs.Layers.{at}
use Rattle.doc_model.proofs.LayerLaws.{at-painted, at-plain, default-painted, default-plain}
use Rattle.std.specs.Option.{unwrap_or}
use Rattle.tile_core.specs.Pixels.{pixel_or}
use Rattle.paint_device.specs.Sheets.{Sheet, sheet_at}
use Rattle.paint_device.specs.Seen.{layer_of}

any_tile : (p : Point) (ks : List Key) → list_any (same_key (key_of p)) ks ≡ true → any_holds (map tile ks) p ≡ true
any_tile p [] h = h
any_tile p (k ∷ ks) h = elim (or_cases (same_key (key_of p) k) (list_any (same_key (key_of p)) ks) h) [
  | inl e ↦ let same : key_of p ≡ k = key_same (key_of p) k e in or_left (holds (tile k) p) (any_holds (map tile ks) p) (ap (λ (m : Key). holds (tile m) p) (sym same) ∙ own_tile p)
  | inr e ↦ or_right (holds (tile k) p) (any_holds (map tile ks) p) (any_tile p ks e)
]

none_by : (a b : Bool) → (a ≡ true → b ≡ true) → b ≡ false → a ≡ false
none_by true b f e = sym (f refl) ∙ e
none_by false b f e = refl

-- no tile stands where none of the keys' tiles holds the point
nothing_there : (s : Sheet) (p : Point) → any_holds (map tile (fin.keys s.tiles)) p ≡ false → sheet_at s p ≡ s.default_pixel
nothing_there s p h =
    let none : fin.get s.tiles (key_of p) ≡ None = is_some-None _ (fin.contains_key-keys s.tiles (key_of p) ∙ none_by _ _ (any_tile p (fin.keys s.tiles)) h) in
    ap (λ o. pixel_or (unwrap_or o None) s.default_pixel p) none

pub at-layer_of : (s : Sheet) (p : Point) → at (layer_of s) p ≡ sheet_at s p
unfolding layer_of
at-layer_of s p = at-painted _ _ _ _ p ∙ elim (true_or_false (any_holds (map tile (fin.keys s.tiles)) p)) [
  | inl t ↦ taken (any_holds (map tile (fin.keys s.tiles)) p && true) (sheet_at s p) _ (and-true _ ∙ t)
  | inr f ↦ kept (any_holds (map tile (fin.keys s.tiles)) p && true) (sheet_at s p) _ (and-true _ ∙ f) ∙ at-plain s.default_pixel p ∙ sym (nothing_there s p f)
]

pub default-layer_of : (s : Sheet) → (layer_of s).default_pixel ≡ s.default_pixel
unfolding layer_of
default-layer_of s = default-painted _ _ _ _ ∙ default-plain s.default_pixel
