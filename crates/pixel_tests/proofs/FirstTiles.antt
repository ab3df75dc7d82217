-- The first tile of a list of rectangles is one of theirs.
use Rattle.std.proofs.Common.{◌≡◌, true, List, [], ◌∷◌, get_or, ap, ◌∙◌, sym, arith, Some, ◌<◌, length}
use Rattle.std.specs.Prelude.{slice_get}
use Rattle.std.specs.List.{list_any}
use Rattle.std.proofs.lemmas.List.Folds.{list_any-append}
use Rattle.geom_core.specs.Areas.{Area}
use Rattle.geom_core.specs.Grid.{Key, same_key, keys_of, all_keys_of}
use Rattle.geom_core.proofs.Tests.{or_left}
use Rattle.geom_core.proofs.Tiles.{key_is}

first_of : (k : Key) (ks : List Key) → slice_get ks 0 ≡ Some k → list_any (same_key k) ks ≡ true
first_of k [] e = cc
first_of k (l ∷ ks) e = let s : l ≡ k = cc in or_left _ _ (key_is k l (sym s))

pub first_tile_met : (rects : List Area) (a : Area) (k : Key) → a ≡ get_or rects 0 a → 0 < length rects → slice_get (keys_of a) 0 ≡ Some k → list_any (same_key k) (all_keys_of rects) ≡ true
first_tile_met [] a k e n h = absurd (omega arith)
first_tile_met (b ∷ rest) a k e n h = list_any-append (same_key k) (keys_of b) (all_keys_of rest) ∙ or_left _ _ (first_of k (keys_of b) (ap (λ (c : Area). slice_get (keys_of c) 0) (sym e) ∙ h))
