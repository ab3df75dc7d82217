-- What a device's map and its value tell of each other.
use Rattle.std.proofs.Common.{◌≡◌, Bool, true, false, cond, Option, Some, None, is_some, IsSome, refl, sym, ap, ◌∙◌, subst, arith, [], Result, Ok, Err}
use Rattle.std.specs.Prelude.{OnOk, OnErr}
use Rattle.geom_core.specs.declared.NoMemory.{NoMemory}
use Rattle.std.specs.Option.{unwrap_or}
use Rattle.std.specs.FinMap as map
use Rattle.std.specs.BTreeMap as tree
use Rattle.std.specs.BTreeMap.{BTreeMap}
use Rattle.pixel_core.specs.Rgba.{Rgba}
use Rattle.geom_core.specs.Grid.{Key, key_cmp, same_key}
use Rattle.geom_core.specs.Keys.{IsWorldKey}
use Rattle.geom_core.proofs.Tiles.{key_same}
use Rattle.memento_core.specs.Planes.{tile_under}
use Rattle.tile_core.specs.Pixels.{Pixels}
use Rattle.tile_core.specs.Maps.{PutsUnder}
use Rattle.tile_core.proofs.MapViews.{get-view, view-put}
use Rattle.paint_device.proofs.SameMaps.{same_view}
use Rattle.paint_device.specs.Sheets.{Sheet, IsSheet, sheet, with_under}

pub tile-view : (m : BTreeMap Key (Option Pixels)) (k : Key) → unwrap_or (tree.get key_cmp m k) None ≡ tile_under (map.from_entries {R = key_cmp} m.entries) k
tile-view m k = ap (λ o. unwrap_or o None) (sym (get-view m k))

pub has-view : (m : BTreeMap Key (Option Pixels)) (s : Sheet) (k : Key) → map.from_entries {R = key_cmp} m.entries ≡ s.tiles → map.contains_key s.tiles k ≡ true → IsSome (tree.get key_cmp m k)
has-view m s k e h = let g : is_some (tree.get key_cmp m k) ≡ true = ap is_some (sym (get-view m k)) ∙ ap (λ t. map.contains_key t k) e ∙ h in is_some-true (tree.get key_cmp m k) g
  where
    is_some-true : {X : Type 0} (o : Option X) → is_some o ≡ true → IsSome o
    is_some-true o e = grind arith

pub put-view : (c : Rgba) (m n : BTreeMap Key (Option Pixels)) (k : Key) (v : Option Pixels) → PutsUnder m n k v → sheet c (map.from_entries n.entries) ≡ with_under (sheet c (map.from_entries m.entries)) k v
put-view c m n k v puts = ap (sheet c) (view-put m n k v puts)

-- keys of the world stay such
pub put_kept : (c : Rgba) (m n : BTreeMap Key (Option Pixels)) (k : Key) (v : Option Pixels) → PutsUnder m n k v → IsWorldKey k → IsSheet (sheet c (map.from_entries m.entries)) → IsSheet (sheet c (map.from_entries n.entries))
put_kept c m n k v puts w is q h = go (same_key q k) refl (ap is_some (sym (puts q)) ∙ ap is_some (sym (get-view n q)) ∙ h)
  where
    go : (b : Bool) → same_key q k ≡ b → is_some (cond b (Some v) (tree.get key_cmp m q)) ≡ true → IsWorldKey q
    go true e t = subst IsWorldKey (sym (key_same q k e)) w
    go false e t = is q (ap is_some (get-view m q) ∙ t)

pub world-view : (c : Rgba) (m : BTreeMap Key (Option Pixels)) → IsSheet (sheet c (map.from_entries m.entries)) → (k : Key) → is_some (tree.get key_cmp m k) ≡ true → IsWorldKey k
world-view c m is k h = is k (ap is_some (get-view m k) ∙ h)

-- a device with no key has none outside the world
pub empty_kept : (c : Rgba) (m : BTreeMap Key (Option Pixels)) → m.entries ≡ [] → IsSheet (sheet c (map.from_entries m.entries))
empty_kept c m e k h = let no_key : true ≡ false = sym h ∙ ap (λ es. map.contains_key (map.from_entries {R = key_cmp} es) k) e ∙ ap is_some (map.get-empty key_cmp k) in cc

-- after a put, whether it went well or not
pub put_or_kept : (c : Rgba) (m n : BTreeMap Key (Option Pixels)) (k : Key) (v : Option Pixels) (r : Result (Unit {0}) NoMemory) → OnOk r (PutsUnder m n k v) → OnErr r (n.entries ≡ m.entries) → IsWorldKey k → IsSheet (sheet c (map.from_entries m.entries)) → IsSheet (sheet c (map.from_entries n.entries))
put_or_kept c m n k v (Ok x) ok err w is = put_kept c m n k v ok w is
put_or_kept c m n k v (Err x) ok err w is = subst (λ es. IsSheet (sheet c (map.from_entries es))) (sym err) is

-- a copy has the same keys
pub same_kept : (c : Rgba) (m n : BTreeMap Key (Option Pixels)) → ((q : Key) → tree.get key_cmp n q ≡ tree.get key_cmp m q) → IsSheet (sheet c (map.from_entries m.entries)) → IsSheet (sheet c (map.from_entries n.entries))
same_kept c m n same is = subst (λ t. IsSheet (sheet c t)) (sym (same_view m n same)) is
