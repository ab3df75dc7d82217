-- A map whose entries are put into another one by one.
use Rattle.std.proofs.Common.{◌≡◌, Bool, true, false, cond, Option, Some, None, List, [], ◌∷◌, refl, sym, ap, ◌∙◌}
use Rattle.std.specs.FinMap as map
use Rattle.std.specs.BTreeMap as tree
use Rattle.std.specs.BTreeMap.{BTreeMap, is_at}
use Rattle.std.specs.Map.{lookup}
use Rattle.geom_core.specs.Grid.{Key, key_cmp, same_key}
use Rattle.geom_core.specs.Keys.{key_cmp_total, key_cmp-IsAntisymmetric}
use Rattle.geom_core.proofs.Tiles.{key_same}
use Rattle.tile_core.specs.Maps.{PutsUnder}
use Rattle.tile_core.proofs.MapViews.{get-view}

-- the first value that is there
abbrev pub first_there : {X : Type 0} → Option X → Option X → Option X
first_there None o = o
first_there (Some x) o = Some x

-- what was put so far and what is left make the map
pub record CopiedSoFar {X : Type 0} (m so_far : BTreeMap Key X) (rest : List (Key × X)) : Type 0 where
  pub each : (q : Key) → first_there (tree.get key_cmp so_far q) (lookup (is_at (key_cmp q)) rest) ≡ tree.get key_cmp m q

pub none_copied : {X : Type 0} (m so_far : BTreeMap Key X) (rest : List (Key × X)) → so_far.entries ≡ [] → rest ≡ m.entries → CopiedSoFar m so_far rest
none_copied m so_far rest e all = record {
  each = λ q. (λ i. first_there (lookup (is_at (key_cmp q)) (e i)) (lookup (is_at (key_cmp q)) (all i)));
}

pub one_copied : {X : Type 0} (m old new : BTreeMap Key X) (k : Key) (v : X) (rest : List (Key × X)) → tree.get key_cmp m k ≡ Some v → PutsUnder old new k v → CopiedSoFar m old ((k, v) ∷ rest) → CopiedSoFar m new rest
one_copied {X} m old new k v rest there puts so = record { each = λ q. ap (λ o. first_there o (lookup (is_at (key_cmp q)) rest)) (puts q) ∙ go q (same_key q k) refl (so.each q) }
  where
    go : (q : Key) (b : Bool) → same_key q k ≡ b → first_there (tree.get key_cmp old q) (cond b (Some v) (lookup (is_at (key_cmp q)) rest)) ≡ tree.get key_cmp m q
        → first_there (cond b (Some v) (tree.get key_cmp old q)) (lookup (is_at (key_cmp q)) rest) ≡ tree.get key_cmp m q
    go q true e h = sym there ∙ ap (tree.get key_cmp m) (sym (key_same q k e))
    go q false e h = h

pub all_copied : {X : Type 0} (m so_far : BTreeMap Key X) (rest : List (Key × X)) → rest ≡ [] → CopiedSoFar m so_far rest → (q : Key) → tree.get key_cmp so_far q ≡ tree.get key_cmp m q
all_copied {X} m so_far rest e so q = go (tree.get key_cmp so_far q) ∙ ap (λ es. first_there (tree.get key_cmp so_far q) (lookup (is_at (key_cmp q)) es)) (sym e) ∙ so.each q
  where
    go : (o : Option X) → o ≡ first_there o None
    go None = refl
    go (Some x) = refl

-- the same as finite maps
pub same_views : {X : Type 0} (m n : BTreeMap Key X) → ((q : Key) → tree.get key_cmp n q ≡ tree.get key_cmp m q) → map.from_entries {R = key_cmp} n.entries ≡ map.from_entries {R = key_cmp} m.entries
same_views m n same = map.same_map key_cmp_total key_cmp-IsAntisymmetric _ _ (λ q. get-view n q ∙ same q ∙ sym (get-view m q))
