-- The layer with what was noted of it.
use Rattle.std.proofs.Common.{◌≡◌, Bool, true, false, ◌&&◌, ◌||◌, cond, Option, Some, None, is_some, List, [], ◌∷◌, refl, sym, ap, ◌∙◌, subst}
use Rattle.std.specs.Prelude.{map}
use Rattle.std.specs.Option.{unwrap_or}
use Rattle.std.specs.List.{list_any}
use Rattle.std.specs.FinMap as fin
use Rattle.std.specs.FinSet as set
use Rattle.pixel_core.specs.Rgba.{Rgba}
use Rattle.geom_core.specs.Areas.{holds, Point}
use Rattle.geom_core.specs.Rects.{any_holds}
use Rattle.geom_core.specs.Grid.{Key, key_cmp, key_of, same_key, tile}
use Rattle.geom_core.specs.Keys.{key_cmp_total, key_cmp-IsAntisymmetric}
use Rattle.geom_core.proofs.Tests.{taken, kept, or_right, same_bools}
use Rattle.geom_core.proofs.Tiles.{own_tile, key_of_holder, key_same, key_is}
use Rattle.memento_core.specs.Planes.{Keyed, tile_under}
use Rattle.tile_core.specs.Pixels.{Pixels, pixel_or}
use Rattle.doc_model.specs.Layers.{Layer, at}
use Rattle.doc_model.proofs.LayerLaws.{layer_ext, at-painted, default-painted}
use Rattle.paint_device.specs.Sheets.{Sheet, sheet_at, with_under, readied}
use Rattle.paint_device.specs.InPlace.{LaysUnder}
use Rattle.paint_device.specs.Seen.{layer_of}
use Rattle.paint_device.proofs.Shown.{at-layer_of, default-layer_of}
use Rattle.paint_device.proofs.Writes.{ready_keeps_pixels, seen_after_exchange}
use Rattle.memento_core.specs.Revisions.{keys_in, noted_under}
use Rattle.memento_core.proofs.Exchanging.{contains-keys_in, has-insert}
use Rattle.memento_core.proofs.Booked.{exchange_keys}
use Rattle.desk_steps.specs.Founds.{ExchangesTiles, GivesBack, StandIn, patched}
use Rattle.desk_steps.proofs.Lain.{ready_default, ready_layer}

holds_tile : (k : Key) (p : Point) → holds (tile k) p ≡ same_key (key_of p) k
holds_tile k p = same_bools _ _ (λ h. key_is (key_of p) k (key_of_holder k p h)) (λ h. subst (λ m. holds (tile m) p ≡ true) (key_same (key_of p) k h) (own_tile p))

any_tile : (ks : List Key) (p : Point) → any_holds (map tile ks) p ≡ list_any (same_key (key_of p)) ks
any_tile [] p = refl
any_tile (k ∷ ks) p = λ i. holds_tile k p i || any_tile ks p i

-- what stands at a point, with what was noted
abbrev seen : Keyed Pixels → Rgba → Point → Rgba → Rgba
seen found c p x = cond (fin.contains_key found (key_of p)) (pixel_or (tile_under found (key_of p)) c p) x

pub at-patched : (found : Keyed Pixels) (l : Layer) (p : Point) → at (patched found l) p ≡ seen found l.default_pixel p (at l p)
unfolding patched
at-patched found l p = at-painted (map tile (fin.keys found)) (λ _. true) _ l p
    ∙ ap (λ b. cond b (pixel_or (tile_under found (key_of p)) l.default_pixel p) (at l p)) (and_true _ ∙ any_tile (fin.keys found) p ∙ sym (fin.contains_key-keys found (key_of p)))
  where
    and_true : (b : Bool) → (b && true) ≡ b
    and_true true = refl
    and_true false = refl

pub default-patched : (found : Keyed Pixels) (l : Layer) → (patched found l).default_pixel ≡ l.default_pixel
unfolding patched
default-patched found l = default-painted (map tile (fin.keys found)) (λ _. true) _ l

-- where nothing was noted all stays
pub patched-empty : (l : Layer) → patched fin.empty l ≡ l
patched-empty l = layer_ext _ _ (default-patched fin.empty l)
    (λ p. at-patched fin.empty l p ∙ ap (λ o. cond (is_some o) (pixel_or (unwrap_or o None) l.default_pixel p) (at l p)) (fin.get-empty key_cmp (key_of p)))

-- of a device, by its own default pixel
at-patched-layer_of : (found : Keyed Pixels) (s : Sheet) (p : Point) → at (patched found (layer_of s)) p ≡ seen found s.default_pixel p (sheet_at s p)
at-patched-layer_of found s p = at-patched found (layer_of s) p ∙ (λ i. seen found (default-layer_of s i) p (at-layer_of s p i))

default-patched-layer_of : (found : Keyed Pixels) (s : Sheet) → (patched found (layer_of s)).default_pixel ≡ s.default_pixel
default-patched-layer_of found s = default-patched found (layer_of s) ∙ default-layer_of s

-- after an exchange the layer is that with what was noted
pub exchange_laid : (found after : Keyed Pixels) (old new : Sheet) → ExchangesTiles found after old new → layer_of new ≡ patched found (layer_of old)
exchange_laid found after old new e = layer_ext _ _
    (default-layer_of new ∙ e.default_pixel ∙ sym (default-patched-layer_of found old))
    (λ p. at-layer_of new p ∙ go p (fin.contains_key found (key_of p)) refl ∙ sym (at-patched-layer_of found old p))
  where
    go : (p : Point) (b : Bool) → fin.contains_key found (key_of p) ≡ b → sheet_at new p ≡ seen found old.default_pixel p (sheet_at old p)
    go p true h = (λ i. pixel_or (unwrap_or (e.tiles.puts.laid (key_of p) h i) None) (e.default_pixel i) p) ∙ sym (taken (fin.contains_key found (key_of p)) _ _ h)
    go p false h = (λ i. pixel_or (unwrap_or (e.tiles.puts.others (key_of p) h i) None) (e.default_pixel i) p) ∙ sym (kept (fin.contains_key found (key_of p)) _ _ h)

pub exchange_stands : (found after : Keyed Pixels) (old new : Sheet) → ExchangesTiles found after old new → StandIn found (Some old) → StandIn after (Some new)
exchange_stands found after old new e stand k h = exchange_keys found after old.tiles new.tiles stand e.tiles k ∙ stand k (sym (e.tiles.keys k) ∙ h)

-- what was noted of nothing
pub keys_in-empty : keys_in {T = Pixels} fin.empty ≡ set.empty
keys_in-empty = set.same_set key_cmp_total key_cmp-IsAntisymmetric _ _ (λ k. contains-keys_in {T = Pixels} fin.empty k ∙ ap is_some (fin.get-empty key_cmp k) ∙ sym (set.contains-empty key_cmp k))

-- something is noted of a key
module _ (found : Keyed Pixels) (k : Key) (t : Option Pixels) where
  pub has-noted_under : (q : Key) → fin.contains_key (noted_under found k t) q ≡ (same_key q k || fin.contains_key found q)
  has-noted_under q = go (fin.contains_key found k) refl
    where
      own : (b : Bool) → same_key q k ≡ b → fin.contains_key found k ≡ true → fin.contains_key found q ≡ (b || fin.contains_key found q)
      own true e h = ap (fin.contains_key found) (key_same q k e) ∙ h
      own false e h = refl

      go : (b : Bool) → fin.contains_key found k ≡ b → fin.contains_key (cond b found (fin.insert found k t)) q ≡ (same_key q k || fin.contains_key found q)
      go true h = own (same_key q k) refl h
      go false h = has-insert found k t q

  pub keys_in-noted_under : keys_in (noted_under found k t) ≡ set.insert (keys_in found) k
  keys_in-noted_under = set.same_set key_cmp_total key_cmp-IsAntisymmetric _ _ (λ q. contains-keys_in (noted_under found k t) q ∙ has-noted_under q
      ∙ ap (λ b. same_key q k || b) (sym (contains-keys_in found q)) ∙ sym (set.contains-insert key_cmp_total (keys_in found) k q))

-- what stands under a key is noted where nothing was, and only what stands there changes: that gives back the same layer
module _ (found : Keyed Pixels) (s new : Sheet) (k : Key) (default_is : new.default_pixel ≡ s.default_pixel) (others : (p : Point) → same_key (key_of p) k ≡ false → sheet_at new p ≡ sheet_at s p) where
  seen_same : (p : Point) → seen (noted_under found k (tile_under s.tiles k)) s.default_pixel p (sheet_at new p) ≡ seen found s.default_pixel p (sheet_at s p)
  seen_same p = go (fin.contains_key found k) refl (same_key (key_of p) k) refl
    where
      go : (b : Bool) → fin.contains_key found k ≡ b → (c : Bool) → same_key (key_of p) k ≡ c
          → seen (cond b found (fin.insert found k (tile_under s.tiles k))) s.default_pixel p (sheet_at new p) ≡ seen found s.default_pixel p (sheet_at s p)
      go true h true e =
          let there : fin.contains_key found (key_of p) ≡ true = ap (fin.contains_key found) (key_same (key_of p) k e) ∙ h in
          taken (fin.contains_key found (key_of p)) _ _ there ∙ sym (taken (fin.contains_key found (key_of p)) _ _ there)
      go true h false e = ap (seen found s.default_pixel p) (others p e)
      go false h true e =
          let now : fin.get (fin.insert found k (tile_under s.tiles k)) (key_of p) ≡ Some (tile_under s.tiles k) = fin.get-insert key_cmp_total found k (tile_under s.tiles k) (key_of p) ∙ taken (same_key (key_of p) k) _ _ e in
          let none : fin.contains_key found (key_of p) ≡ false = ap (fin.contains_key found) (key_same (key_of p) k e) ∙ h in
          ap (λ o. cond (is_some o) (pixel_or (unwrap_or o None) s.default_pixel p) (sheet_at new p)) now
          ∙ ap (λ q. pixel_or (tile_under s.tiles q) s.default_pixel p) (sym (key_same (key_of p) k e)) ∙ sym (kept (fin.contains_key found (key_of p)) _ _ none)
      go false h false e =
          let same : fin.get (fin.insert found k (tile_under s.tiles k)) (key_of p) ≡ fin.get found (key_of p) = fin.get-insert key_cmp_total found k (tile_under s.tiles k) (key_of p) ∙ kept (same_key (key_of p) k) _ _ e in
          ap (λ o. cond (is_some o) (pixel_or (unwrap_or o None) s.default_pixel p) (sheet_at new p)) same ∙ ap (seen found s.default_pixel p) (others p e)

  patched_same : patched (noted_under found k (tile_under s.tiles k)) (layer_of new) ≡ patched found (layer_of s)
  patched_same = layer_ext _ _
      (default-patched-layer_of (noted_under found k (tile_under s.tiles k)) new ∙ default_is ∙ sym (default-patched-layer_of found s))
      (λ p. at-patched-layer_of (noted_under found k (tile_under s.tiles k)) new p
      ∙ ap (λ c. seen (noted_under found k (tile_under s.tiles k)) c p (sheet_at new p)) default_is ∙ seen_same p ∙ sym (at-patched-layer_of found s p))

  noted_back : (after : Keyed Pixels) → StandIn found (Some s) → ((q : Key) → fin.contains_key new.tiles q ≡ (same_key q k || fin.contains_key s.tiles q)) → after ≡ noted_under found k (tile_under s.tiles k) → GivesBack found after s new
  noted_back after stand there more = record {
    same = ap (λ f. patched f (layer_of new)) more ∙ patched_same;
    keys = λ q h. there q ∙ or_right (same_key q k) _ h;
    stand = λ q h. there q ∙ either (same_key q k) _ _ (stand q) (sym (has-noted_under found k (tile_under s.tiles k) q) ∙ ap (λ f. fin.contains_key f q) (sym more) ∙ h);
  }
    where
      either : (a b c : Bool) → (b ≡ true → c ≡ true) → (a || b) ≡ true → (a || c) ≡ true
      either true b c f h = refl
      either false b c f h = f h

-- a tile goes under the key
pub put_back : (found : Keyed Pixels) (s : Sheet) (k : Key) (t : Pixels) (after : Keyed Pixels) (new : Sheet) → StandIn found (Some s) → new ≡ with_under s k (Some t) → after ≡ noted_under found k (tile_under s.tiles k) → GivesBack found after s new
put_back found s k t after new stand is more = noted_back found s new k
    (ap (λ (s : Sheet). s.default_pixel) is)
    (λ p e. ap (λ (s : Sheet). sheet_at s p) is ∙ seen_after_exchange s k (Some t) p ∙ kept (same_key (key_of p) k) _ _ e)
    after stand (λ q. ap (λ (s : Sheet). fin.contains_key s.tiles q) is ∙ has-insert s.tiles k (Some t) q) more

-- no pixel changes, and nothing is noted
pub same_back : (found : Keyed Pixels) (old new : Sheet) → StandIn found (Some old) → layer_of new ≡ layer_of old → ((k : Key) → fin.contains_key old.tiles k ≡ true → fin.contains_key new.tiles k ≡ true) → GivesBack found found old new
same_back found old new stand e keys = record { same = ap (patched found) e; keys = keys; stand = λ k h. keys k (stand k h) }

has-readied : (s : Sheet) (k q : Key) → fin.contains_key (readied s k).tiles q ≡ (same_key q k || fin.contains_key s.tiles q)
has-readied s k q = go (fin.contains_key s.tiles k) ∙ has-noted_under s.tiles k None q
  where
    go : (b : Bool) → fin.contains_key (cond b s (with_under s k None)).tiles q ≡ fin.contains_key (cond b s.tiles (fin.insert s.tiles k None)) q
    go true = refl
    go false = refl

-- a key comes in
pub ready_back : (found : Keyed Pixels) (s new : Sheet) (k : Key) → StandIn found (Some s) → new ≡ readied s k → GivesBack found found s new
ready_back found s new k stand is = same_back found s new stand (ap layer_of is ∙ ready_layer s k) (λ q h. ap (λ (s : Sheet). fin.contains_key s.tiles q) is ∙ has-readied s k q ∙ or_right (same_key q k) _ h)

-- a key comes in, and what stands under it is noted
pub note_back : (found : Keyed Pixels) (s : Sheet) (k : Key) (after : Keyed Pixels) (new : Sheet) → StandIn found (Some s) → new ≡ readied s k → after ≡ noted_under found k (tile_under s.tiles k) → GivesBack found after s new
note_back found s k after new stand is more = noted_back found s new k
    (ap (λ (s : Sheet). s.default_pixel) is ∙ ready_default s k)
    (λ p _. ap (λ (s : Sheet). sheet_at s p) is ∙ ready_keeps_pixels s k p)
    after stand (λ q. ap (λ (s : Sheet). fin.contains_key s.tiles q) is ∙ has-readied s k q) more

-- a change in place, where something was noted of the key
pub alone_back : (R : Pixels → Pixels → Type 0) (found : Keyed Pixels) (old new : Sheet) (k : Key) (b : Bool) → StandIn found (Some old) → fin.contains_key found k ≡ true → (b ≡ true → LaysUnder R old new k) → (b ≡ false → new ≡ old) → GivesBack found found old new
alone_back R found old new k true stand among lays kept_is = let l = lays refl in put_back found old k l.after found new stand l.new_is (sym (taken (fin.contains_key found k) _ _ among))
alone_back R found old new k false stand among lays kept_is = same_back found old new stand (ap layer_of (kept_is refl)) (λ q h. ap (λ (s : Sheet). fin.contains_key s.tiles q) (kept_is refl) ∙ h)
