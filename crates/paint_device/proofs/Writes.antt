-- What a block does to a sheet.
use Rattle.std.proofs.Common.{◌≡◌, ℕ, ◌+◌, ◌*◌, ◌%◌, ◌<◌, Bool, true, false, cond, subst, Option, Some, None, is_some, refl, sym, ap, ◌∙◌, arith, inl, inr}
use Rattle.std.specs.FinMap as map
use Rattle.std.proofs.lemmas.List.{get_or-replicate}
use Rattle.pixel_core.specs.Rgba.{Rgba, clear}
use Rattle.geom_core.specs.Areas.{holds, Point}
use Rattle.geom_core.specs.Grid.{Key, key_of, same_key, tile}
use Rattle.geom_core.specs.Keys.{key_cmp_total}
use Rattle.geom_core.specs.Place.{across, down}
use Rattle.geom_core.proofs.Tests.{true_or_false, taken, kept}
use Rattle.geom_core.proofs.Tiles.{own_tile, key_of_holder, key_same, key_is}
use Rattle.tile_core.specs.Pixels.{Pixels, pixel_at, pixel_or}
use Rattle.tile_core.specs.Blocks.{Piece, IsPiece, piece_at, LaysBlock}
use Rattle.tile_core.proofs.Taken.{within_holds}
use Rattle.std.specs.Option.{unwrap_or}
use Rattle.memento_core.specs.Planes.{tile_under}
use Rattle.paint_device.specs.Laws.{SeenAfterExchange, ReadyKeepsPixels}
use Rattle.paint_device.specs.Sheets.{Sheet, sheet_at, tile_or, with_under, WritesBlock}

-- a tile that may be there, read as the one that is there or as a plain one
small_place : (c r : ℕ) → 64 * (r % 64) + c % 64 < 4096
small_place c r = omega arith

pub pixel_or-tile_or : (o : Option Pixels) (c : Rgba) (p : Point) → pixel_or o c p ≡ pixel_at (tile_or o c) p
pixel_or-tile_or None c p = sym (get_or-replicate 4096 (64 * (down p % 64) + across p % 64) c clear (small_place (across p) (down p)))
pixel_or-tile_or (Some t) c p = refl

-- the pixels where a tile goes under a key
under_there : (s : Sheet) (k : Key) (t : Pixels) (p : Point) → key_of p ≡ k → sheet_at (with_under s k (Some t)) p ≡ pixel_at t p
under_there s k t p e = ap (λ o. pixel_or (unwrap_or o None) s.default_pixel p) (map.get-insert key_cmp_total s.tiles k (Some t) (key_of p) ∙ taken _ (Some (Some t)) _ (key_is _ _ e))

under_elsewhere : (s : Sheet) (k : Key) (t : Pixels) (p : Point) → same_key (key_of p) k ≡ false → sheet_at (with_under s k (Some t)) p ≡ sheet_at s p
under_elsewhere s k t p e = ap (λ o. pixel_or (unwrap_or o None) s.default_pixel p) (map.get-insert key_cmp_total s.tiles k (Some t) (key_of p) ∙ kept _ (Some (Some t)) _ e)

old_there : (s : Sheet) (k : Key) (p : Point) → key_of p ≡ k → sheet_at s p ≡ pixel_at (tile_or (tile_under s.tiles k) s.default_pixel) p
old_there s k p e = pixel_or-tile_or (tile_under s.tiles (key_of p)) s.default_pixel p ∙ ap (λ m. pixel_at (tile_or (tile_under s.tiles m) s.default_pixel) p) e

not_held : (b : Piece) (p : Point) → IsPiece b → same_key (key_of p) b.key ≡ false → holds b.rect p ≡ false
not_held b p is e = elim (true_or_false (holds b.rect p)) [
  | inl h ↦ let t : same_key (key_of p) b.key ≡ true = key_is _ _ (key_of_holder b.key p (within_holds b.rect (tile b.key) p is.inside h)) in let f : true ≡ false = sym t ∙ e in cc
  | inr h ↦ h
]

pub at-with_under : (s : Sheet) (b : Piece) (t : Pixels) → IsPiece b → LaysBlock (tile_or (tile_under s.tiles b.key) s.default_pixel) t b → (p : Point) → sheet_at (with_under s b.key (Some t)) p ≡ cond (holds b.rect p) (piece_at b p) (sheet_at s p)
at-with_under s b t is lays p = elim (true_or_false (same_key (key_of p) b.key)) [
  | inl e ↦ let k : key_of p ≡ b.key = key_same _ _ e in
      under_there s b.key t p k ∙ lays p (ap (λ m. holds (tile m) p) (sym k) ∙ own_tile p) ∙ ap (λ z. cond (holds b.rect p) (piece_at b p) z) (sym (old_there s b.key p k))
  | inr e ↦ under_elsewhere s b.key t p e ∙ sym (kept (holds b.rect p) (piece_at b p) (sheet_at s p) (not_held b p is e))
]

pub writes_block : (s : Sheet) (b : Piece) (t : Pixels) → IsPiece b → LaysBlock (tile_or (tile_under s.tiles b.key) s.default_pixel) t b → WritesBlock s (with_under s b.key (Some t)) b
writes_block s b t is lays = record {
  default_pixel = refl;
  at = at-with_under s b t is lays;
  stands = ap (λ o. is_some (unwrap_or o None)) (map.get-insert key_cmp_total s.tiles b.key (Some t) b.key ∙ taken (same_key b.key b.key) (Some (Some t)) (map.get s.tiles b.key) (key_is b.key b.key refl));
  others = λ k e. map.get-insert key_cmp_total s.tiles b.key (Some t) k ∙ kept (same_key k b.key) (Some (Some t)) (map.get s.tiles k) e;
}

pub writes_block_as : (s s' : Sheet) (b : Piece) (k : Key) (t : Pixels) → k ≡ b.key → s' ≡ with_under s k (Some t) → IsPiece b → LaysBlock (tile_or (tile_under s.tiles b.key) s.default_pixel) t b → WritesBlock s s' b
writes_block_as s s' b k t ek es is lays = subst (λ v. WritesBlock s v b) (sym (es ∙ ap (λ (m : Key). with_under s m (Some t)) ek)) (writes_block s b t is lays)

-- the pixels with anything under a key, and with a key that comes in
pub seen_after_exchange : SeenAfterExchange
seen_after_exchange s k t p = ap (λ o. pixel_or (unwrap_or o None) s.default_pixel p) (map.get-insert key_cmp_total s.tiles k t (key_of p)) ∙ go (same_key (key_of p) k)
  where
    go : (b : Bool) → pixel_or (unwrap_or (cond b (Some t) (map.get s.tiles (key_of p))) None) s.default_pixel p ≡ cond b (pixel_or t s.default_pixel p) (sheet_at s p)
    go true = refl
    go false = refl

pub ready_keeps_pixels : ReadyKeepsPixels
ready_keeps_pixels s k p = go (map.contains_key s.tiles k) refl
  where
    without : (o : Option (Option Pixels)) → is_some o ≡ false → pixel_or (unwrap_or o None) s.default_pixel p ≡ s.default_pixel
    without None e = refl
    without (Some t) e = cc

    here : (b : Bool) → same_key (key_of p) k ≡ b → map.contains_key s.tiles k ≡ false → cond b s.default_pixel (sheet_at s p) ≡ sheet_at s p
    here true h e = sym (ap (λ m. pixel_or (tile_under s.tiles m) s.default_pixel p) (key_same (key_of p) k h) ∙ without (map.get s.tiles k) e)
    here false h e = refl

    go : (b : Bool) → map.contains_key s.tiles k ≡ b → sheet_at (cond b s (with_under s k None)) p ≡ sheet_at s p
    go true e = refl
    go false e = seen_after_exchange s k None p ∙ here (same_key (key_of p) k) refl e
