-- The tiles of a track are those that its dabs meet.
use Rattle.std.proofs.Common.{◌≡◌, ◌≤◌, ◌+◌, ◌*◌, ℕ, Bool, true, false, ◌&&◌, ◌||◌, List, [], ◌∷◌, ◌++◌, map, refl, sym, ap, ◌∙◌, arith}
use Rattle.std.specs.List.{list_any}
use Rattle.std.proofs.lemmas.List.Folds.{list_any-append}
use Rattle.std.proofs.lemmas.Map.Keys.{IsDistinct-from_sorted}
use Rattle.geom_core.specs.Areas.{Point, Area, meets}
use Rattle.geom_core.specs.Rects.{any_holds}
use Rattle.geom_core.specs.Grid.{Key, key_of, key_cmp, same_key, tile, keys_of, all_keys_of}
use Rattle.geom_core.specs.Laws.{HasEachOnce}
use Rattle.geom_core.proofs.Axes.{tiles_met}
use Rattle.geom_core.proofs.Keys.{key_of_any_held}
use Rattle.doc_model.specs.Trails.{Trail, centres}
use Rattle.doc_model.specs.Jobs.{square, squares}
use Rattle.brush_path.specs.Cells.{is_met, cells}
use Rattle.brush_path.specs.Gathered.{in_order}
use Rattle.brush_path.specs.Laws.{TilesAreMet}
use Rattle.brush_path.proofs.Ordered.{any_in_order, sorted_in_order, none_sorted, same_keys}
use Rattle.brush_path.proofs.Round.{cells_sorted, cells_met}
use Rattle.geom_core.proofs.Tests.{or-false}

any_square : (k : Key) (r : ℕ) (cs : List Point) → list_any (same_key k) (all_keys_of (map (λ (c : Point). square c.x c.y r) cs)) ≡ list_any (λ a. meets a (tile k)) (map (λ (c : Point). square c.x c.y r) cs)
any_square k r [] = refl
any_square k r (c ∷ cs) =
    list_any-append (same_key k) (keys_of (square c.x c.y r)) (all_keys_of (map (λ (c : Point). square c.x c.y r) cs))
    ∙ (λ i. (tiles_met (square c.x c.y r) (omega arith) (omega arith)).exact k i || any_square k r cs i)

any_gathered : (t : Trail) (k : Key) → list_any (same_key k) (in_order [] (all_keys_of (squares t))) ≡ is_met t k
any_gathered t k = any_in_order k [] (all_keys_of (squares t)) ∙ or-false _ ∙ any_square k t.stamp.r (centres t)

-- they are the tiles of one dab after another, put in order
pub cells_gathered : (t : Trail) → in_order [] (all_keys_of (squares t)) ≡ cells t
cells_gathered t = same_keys (in_order [] (all_keys_of (squares t))) (cells t) (sorted_in_order [] (all_keys_of (squares t)) none_sorted) (cells_sorted t) (λ k. any_gathered t k ∙ sym (cells_met t k))

pub tiles_are_met : TilesAreMet
tiles_are_met t = record {
  ascending = cells_sorted t;
  distinct = IsDistinct-from_sorted key_cmp (cells t) (cells_sorted t);
  exact = cells_met t;
}

-- a point within a dab's square lies in one of the tiles
pub held_in_cells : (t : Trail) (p : Point) → any_holds (squares t) p ≡ true → list_any (same_key (key_of p)) (cells t) ≡ true
held_in_cells t p h = cells_met t (key_of p) ∙ sym (any_square (key_of p) t.stamp.r (centres t)) ∙ key_of_any_held (squares t) p h
