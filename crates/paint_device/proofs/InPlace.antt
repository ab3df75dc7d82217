-- Changes that are made in tiles where these stand.
use Rattle.std.proofs.Common.{◌≡◌, Bool, true, false, cond, Option, Some, None, is_some, refl, sym, ap, ◌∙◌, subst}
use Rattle.std.specs.Option.{unwrap_or}
use Rattle.std.specs.FinMap as map
use Rattle.std.specs.BTreeMap as tree
use Rattle.std.specs.BTreeMap.{BTreeMap}
use Rattle.pixel_core.specs.Rgba.{Rgba}
use Rattle.geom_core.specs.Grid.{Key, key_cmp, same_key}
use Rattle.geom_core.proofs.Tiles.{key_same}
use Rattle.tile_core.specs.Pixels.{Pixels}
use Rattle.tile_core.specs.Maps.{PutsUnder}
use Rattle.paint_device.proofs.Kept.{tile-view, put-view, put_kept, same_kept, world-view}
use Rattle.paint_device.specs.InPlace.{LaidUnder, LaysUnder}
use Rattle.paint_device.specs.Sheets.{IsSheet, sheet}

-- what is put is what stood there
pub same_written : (m n : BTreeMap Key (Option Pixels)) (k : Key) (was w : Option Pixels) → Some was ≡ tree.get key_cmp m k → w ≡ was → PutsUnder m n k w → (q : Key) → tree.get key_cmp n q ≡ tree.get key_cmp m q
same_written m n k was w there e puts q = puts q ∙ go (same_key q k) refl
  where
    go : (b : Bool) → same_key q k ≡ b → cond b (Some w) (tree.get key_cmp m q) ≡ tree.get key_cmp m q
    go true t = ap Some e ∙ there ∙ ap (tree.get key_cmp m) (sym (key_same q k t))
    go false t = refl

module _ (R : Pixels → Pixels → Type 0) (c : Rgba) (m n : BTreeMap Key (Option Pixels)) (k : Key) where
  -- the device with the changed tile
  pub laid_lays : LaidUnder R m n k → LaysUnder R (sheet c (map.from_entries m.entries)) (sheet c (map.from_entries n.entries)) k
  laid_lays laid = record {
    before = laid.lays.before;
    after = laid.lays.after;
    was = sym (tile-view m k) ∙ ap (λ o. unwrap_or o None) laid.was ∙ laid.lays.was;
    lays = laid.lays.lays;
    new_is = put-view c m n k (Some laid.lays.after) (subst (PutsUnder m n k) laid.lays.becomes laid.puts);
  }

  -- whether it was changed or not, all keys are tiles of the world
  pub laid_kept : (r : Bool) → (r ≡ true → LaidUnder R m n k) → (r ≡ false → (q : Key) → tree.get key_cmp n q ≡ tree.get key_cmp m q) → IsSheet (sheet c (map.from_entries m.entries)) → IsSheet (sheet c (map.from_entries n.entries))
  laid_kept true laid kept is = let l = laid refl in put_kept c m n k l.after l.puts (world-view c m is k (ap is_some l.was)) is
  laid_kept false laid kept is = same_kept c m n (kept refl) is
