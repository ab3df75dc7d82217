-- Maps that answer alike.
use Rattle.std.proofs.Common.{◌≡◌, Option, sym, ◌∙◌}
use Rattle.std.specs.FinMap as map
use Rattle.std.specs.BTreeMap as tree
use Rattle.std.specs.BTreeMap.{BTreeMap}
use Rattle.geom_core.specs.Grid.{Key, key_cmp}
use Rattle.geom_core.specs.Keys.{key_cmp_total, key_cmp-IsAntisymmetric}
use Rattle.tile_core.specs.Pixels.{Pixels}
use Rattle.tile_core.proofs.MapViews.{get-view}

-- maps that answer alike are one value
pub same_view : (m n : BTreeMap Key (Option Pixels)) → ((q : Key) → tree.get key_cmp n q ≡ tree.get key_cmp m q) → map.from_entries {R = key_cmp} n.entries ≡ map.from_entries {R = key_cmp} m.entries
same_view m n same = map.same_map key_cmp_total key_cmp-IsAntisymmetric _ _ (λ q. get-view n q ∙ same q ∙ sym (get-view m q))
