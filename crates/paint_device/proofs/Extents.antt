-- The bounding rectangle of tiles, one after another.
use Rattle.std.proofs.Common.{◌≡◌, ℕ, Bool, true, false, ◌&&◌, cond, List, [], ◌∷◌, Option, Some, None, is_some, refl, sym, ap, ◌∙◌, arith}
use Rattle.std.specs.Prelude.{ℤ, pos, ◌+ℤ◌, ◌*ℤ◌, int_le, IfNone, IfSome}
use borrow.Author.Differences.{ints}
use Rattle.std.specs.Option.{unwrap_or}
use Rattle.std.specs.FinMap as map
use Rattle.std.specs.BTreeMap as tree
use Rattle.std.specs.BTreeMap.{BTreeMap, is_at}
use Rattle.std.specs.Map.{lookup}
use Rattle.geom_core.specs.Areas.{Area, area, lies_in}
use Rattle.geom_core.specs.Grid.{Key, key_cmp, same_key, tile}
use Rattle.geom_core.proofs.Tests.{and_left, and_right, both_true}
use Rattle.geom_core.proofs.Rounds.{lies_itself}
use Rattle.geom_core.proofs.Tiles.{key_same}
use Rattle.memento_core.specs.Planes.{tile_under}
use Rattle.tile_core.specs.Pixels.{Pixels}
use Rattle.tile_core.proofs.MapViews.{get-view}
use Rattle.paint_device.specs.Extents.{IsExtent, tile_lies}
use Rattle.geom_core.specs.Exchanged.{lies_if}

-- whether each tile of these entries lies in the rectangle
pub all_lie : List (Key × Option Pixels) → Area → Bool
all_lie [] d = true
all_lie (e ∷ es) d = tile_lies e.1 e.0 d && all_lie es d

none_lie : (d : Area) → all_lie [] d ≡ true
unfolding all_lie
none_lie d = refl

-- the rectangle so far, and what is left of the entries
pub record SpannedSoFar (m : BTreeMap Key (Option Pixels)) (extent : Option Area) (rest : List (Key × Option Pixels)) : Type 0 where
  pub around : (d : Area) → lies_if extent d ≡ true → all_lie rest d ≡ true → all_lie m.entries d ≡ true
  pub least : (d : Area) → ((k : Key) → is_some (unwrap_or (tree.get key_cmp m k) None) ≡ true → lies_in (tile k) d ≡ true) → lies_if extent d ≡ true

pub none_spanned : (m : BTreeMap Key (Option Pixels)) → SpannedSoFar m None m.entries
none_spanned m = record { around = λ d e h. h; least = λ d h. refl }

pub one_spanned : (m : BTreeMap Key (Option Pixels)) (extent new : Option Area) (k : Key) (v : Option Pixels) (rest : List (Key × Option Pixels)) → tree.get key_cmp m k ≡ Some v
    → ((d : Area) → lies_if new d ≡ (lies_if extent d && tile_lies v k d)) → SpannedSoFar m extent ((k, v) ∷ rest) → SpannedSoFar m new rest
unfolding all_lie
one_spanned m extent new k v rest there grows so = record {
  around = λ d e h. so.around d (and_left _ _ (sym (grows d) ∙ e)) (both_true _ _ (and_right _ _ (sym (grows d) ∙ e)) h);
  least = λ d h. grows d ∙ both_true _ _ (so.least d h) (lies v there d h);
}
  where
    lies : (v : Option Pixels) → tree.get key_cmp m k ≡ Some v → (d : Area) → ((q : Key) → is_some (unwrap_or (tree.get key_cmp m q) None) ≡ true → lies_in (tile q) d ≡ true) → tile_lies v k d ≡ true
    lies None e d h = refl
    lies (Some t) e d h = h k (ap (λ o. is_some (unwrap_or o None)) e)

-- the tile that a list of entries has under a key lies where all do
found_lies : (es : List (Key × Option Pixels)) (k : Key) (d : Area) → all_lie es d ≡ true → is_some (unwrap_or (lookup (is_at (key_cmp k)) es) None) ≡ true → lies_in (tile k) d ≡ true
unfolding all_lie
found_lies [] k d h e = cc
found_lies (x ∷ es) k d h e = go (same_key k x.0) refl (found_lies es k d (and_right _ _ h)) e
  where
    here : (v : Option Pixels) → tile_lies v x.0 d ≡ true → is_some v ≡ true → lies_in (tile x.0) d ≡ true
    here None l s = cc
    here (Some t) l s = l

    go : (b : Bool) → same_key k x.0 ≡ b → (is_some (unwrap_or (lookup (is_at (key_cmp k)) es) None) ≡ true → lies_in (tile k) d ≡ true) → is_some (unwrap_or (cond b (Some x.1) (lookup (is_at (key_cmp k)) es)) None) ≡ true → lies_in (tile k) d ≡ true
    go true t rest s = ap (λ (q : Key). lies_in (tile q) d) (key_same k x.0 t) ∙ here x.1 (and_left _ _ h) s
    go false t rest s = rest s

abbrev nowhere : Area
nowhere = area (pos 0) (pos 0) 0 0

no_tile_there : (k : Key) → lies_in (tile k) nowhere ≡ false
no_tile_there k = no_room (pos 64 *ℤ k.col) (int_le (pos 0) (pos 64 *ℤ k.row) && int_le ((pos 64 *ℤ k.row) +ℤ pos 64) (pos 0))
  where
    no_room : (x : ℤ) (b : Bool) → ((int_le (pos 0) x && int_le (x +ℤ pos 64) (pos 0 +ℤ pos 0)) && b) ≡ false
    no_room x b = grind (arith, ints)

-- at the end: the extent, or no tile at all
pub spanned : (m : BTreeMap Key (Option Pixels)) (extent : Option Area) (rest : List (Key × Option Pixels)) → rest ≡ [] → SpannedSoFar m extent rest → IfSome extent (IsExtent (map.from_entries m.entries))
spanned m None rest e so = tt
spanned m (Some a) rest e so = record {
  around = λ k h. found_lies m.entries k a (so.around a (lies_itself a) (ap (λ es. all_lie es a) e ∙ none_lie a)) (ap (λ o. is_some (unwrap_or o None)) (sym (get-view m k)) ∙ h);
  least = λ d h. so.least d (λ k t. h k (ap (λ o. is_some (unwrap_or o None)) (get-view m k) ∙ t));
}

pub spans_none : (m : BTreeMap Key (Option Pixels)) (extent : Option Area) (rest : List (Key × Option Pixels)) → rest ≡ [] → SpannedSoFar m extent rest → IfNone extent ((k : Key) → tile_under (map.from_entries m.entries) k ≡ None)
spans_none m None rest e so = λ k. not_there k (tile_under (map.from_entries m.entries) k) (λ h. found_lies m.entries k nowhere (so.around nowhere refl (ap (λ es. all_lie es nowhere) e ∙ none_lie nowhere)) (ap (λ o. is_some (unwrap_or o None)) (sym (get-view m k)) ∙ h))
  where
    not_there : (k : Key) (o : Option Pixels) → (is_some o ≡ true → lies_in (tile k) nowhere ≡ true) → o ≡ None
    not_there k None f = refl
    not_there k (Some t) f = let inside : true ≡ false = sym (f refl) ∙ no_tile_there k in cc
spans_none m (Some a) rest e so = tt
