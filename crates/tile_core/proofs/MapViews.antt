-- A map of the program seen as a finite map.
use Rattle.std.proofs.Common.{◌≡◌, cond, List, [], ◌∷◌, Some, refl, sym, ap, ◌∙◌}
use Rattle.std.specs.FinMap as map
use Rattle.std.specs.FinMap.{find}
use Rattle.std.specs.BTreeMap as tree
use Rattle.std.specs.BTreeMap.{BTreeMap, is_at}
use Rattle.std.specs.Map.{lookup}
use Rattle.geom_core.specs.Grid.{Key, key_cmp, same_key}
use Rattle.geom_core.specs.Keys.{key_cmp_total, key_cmp-IsAntisymmetric}
use Rattle.pixel_core.specs.Rgba.{Rgba}
use Rattle.geom_core.specs.Areas.{Point}
use Rattle.tile_core.specs.Pixels.{Pixels, pixel_or}
use Rattle.tile_core.specs.Maps.{PutsUnder}

find-lookup : {X : Type 0} (q : Key) (es : List (Key × X)) → find key_cmp q es ≡ lookup (is_at (key_cmp q)) es
find-lookup q [] = refl
find-lookup q (e ∷ es) = ap (cond (same_key q e.0) (Some e.1)) (find-lookup q es)

pub get-view : {X : Type 0} (m : BTreeMap Key X) (q : Key) → map.get (map.from_entries {R = key_cmp} m.entries) q ≡ tree.get key_cmp m q
get-view m q = map.get-from_entries key_cmp_total m.entries q ∙ find-lookup q m.entries

pub view-put : {X : Type 0} (m n : BTreeMap Key X) (k : Key) (v : X) → PutsUnder m n k v → map.from_entries {R = key_cmp} n.entries ≡ map.insert (map.from_entries {R = key_cmp} m.entries) k v
view-put m n k v puts = map.same_map key_cmp_total key_cmp-IsAntisymmetric _ _ (λ q. get-view n q ∙ puts q ∙ ap (cond (same_key q k) (Some v)) (sym (get-view m q)) ∙ sym (map.get-insert key_cmp_total (map.from_entries {R = key_cmp} m.entries) k v q))

-- what stands at a point, by either
pub seen_under : (m : BTreeMap Key Pixels) (k : Key) (d : Rgba) (p : Point) → pixel_or (tree.get key_cmp m k) d p ≡ pixel_or (map.get (map.from_entries {R = key_cmp} m.entries) k) d p
seen_under m k d p = ap (λ o. pixel_or o d p) (sym (get-view m k))
