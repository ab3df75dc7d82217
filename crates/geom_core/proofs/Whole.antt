-- A rectangle is parted by its cells.
use Rattle.std.proofs.Common.{◌≡◌, ℕ, ◌*◌, ◌≤◌, Bool, true, false, ◌&&◌, ◌||◌, List, [], ◌∷◌, refl, sym, ap, ◌∙◌, arith}
use Rattle.std.specs.Prelude.{ℤ, pos, ◌+ℤ◌, ◌-ℤ◌, ◌*ℤ◌, int_le, int_lt, ◌≤ℤ◌, ◌<ℤ◌}
use Rattle.std.specs.Int.{int_max}
use Rattle.std.specs.List.{list_any}
use borrow.Author.Differences.{ints}
use Rattle.geom_core.specs.Areas.{Area, holds, meets, right, bottom, Point}
use Rattle.geom_core.specs.Overlaps.{common, length_between}
use Rattle.geom_core.specs.Rects.{any_holds}
use Rattle.geom_core.specs.Grid.{cell, floor_by, how_many, pieces}
use Rattle.geom_core.specs.Cells.{cell_keys_of, cells_of}
use Rattle.geom_core.specs.Laws.{CellsAreMet}
use Rattle.geom_core.proofs.Tests.{and_left, and_right, both_true, and-false, and_or}
use Rattle.geom_core.proofs.Common.{shared_common, crossed}
use Rattle.geom_core.proofs.Cells.{any_in_rows, any_pieces, list_any-map}
use Rattle.geom_core.proofs.Axes.{InPiece, in_cell, cell_met, cells_rise}
use Rattle.geom_core.proofs.Order.{each_once, same_both}

common_along : (a b x : ℤ) (n m : ℕ) → (int_le (int_max a b) x && int_lt x (int_max a b +ℤ pos (length_between a n b m))) ≡ ((int_le a x && int_lt x (a +ℤ pos n)) && (int_le b x && int_lt x (b +ℤ pos m)))
common_along a b x n m = grind (arith, ints)

-- the common part holds the points of both, be there any or none
common_points : (a b : Area) (p : Point) → holds (common a b) p ≡ (holds a p && holds b p)
common_points a b p = same_both (common_along a.x b.x p.x a.w b.w) (common_along a.y b.y p.y a.h b.h)
    ∙ crossed (int_le a.x p.x && int_lt p.x (right a)) (int_le b.x p.x && int_lt p.x (right b)) (int_le a.y p.y && int_lt p.y (bottom a)) (int_le b.y p.y && int_lt p.y (bottom b))

any_both : {X : Type 0} (b : Bool) (t : X → Bool) (xs : List X) → list_any (λ x. b && t x) xs ≡ (b && list_any t xs)
any_both b t [] = sym (and-false b)
any_both b t (x ∷ xs) = ap (λ c. (b && t x) || c) (any_both b t xs) ∙ and_or b (t x) (list_any t xs)

implied : (a b : Bool) → (a ≡ true → b ≡ true) → (a && b) ≡ a
implied true b h = h refl
implied false b h = refl

some_held : (a x : ℤ) (n : ℕ) → (int_le a x && int_lt x (a +ℤ pos n)) ≡ true → 1 ≤ n
some_held a x n e = grind (arith, ints)

pieces_end : (f l : ℤ) → f ≤ℤ l → ((pos 256 *ℤ f) +ℤ pos (256 * how_many f l)) ≡ ((pos 256 *ℤ l) +ℤ pos 256)
pieces_end f l h = omega (arith, ints)

inside : (a e x f l : ℤ) → f ≤ℤ a → (e -ℤ pos 1) <ℤ l → (int_le a x && int_lt x e) ≡ true → (int_le f x && int_lt x l) ≡ true
inside a e x f l h k t = grind (arith, ints)

-- the pieces of a row of numbers hold each of them
any_along : (a x : ℤ) (n : ℕ) → (int_le a x && int_lt x (a +ℤ pos n)) ≡ true
    → list_any (λ c. int_le (pos 256 *ℤ c) x && int_lt x ((pos 256 *ℤ c) +ℤ pos 256)) (pieces 256 a ((a +ℤ pos n) -ℤ pos 1)) ≡ true
any_along a x n e =
    let first : ℤ = floor_by 256 a in
    let last : ℤ = floor_by 256 ((a +ℤ pos n) -ℤ pos 1) in
    let f : InPiece 256 first a = in_cell a in
    let l : InPiece 256 last ((a +ℤ pos n) -ℤ pos 1) = in_cell ((a +ℤ pos n) -ℤ pos 1) in
    any_pieces first x (how_many first last)
    ∙ ap (λ m. int_le (pos 256 *ℤ first) x && int_lt x m) (pieces_end first last (cells_rise a first last n (some_held a x n e) f l))
    ∙ inside a (a +ℤ pos n) x (pos 256 *ℤ first) ((pos 256 *ℤ last) +ℤ pos 256) f.from l.below e

any_cell : (a : Area) (p : Point) → holds a p ≡ true → list_any (λ k. holds (cell k) p) (cell_keys_of a) ≡ true
any_cell a p h = any_in_rows (pieces 256 a.x (right a -ℤ pos 1)) (pieces 256 a.y (bottom a -ℤ pos 1)) p ∙ both_true _ _ (any_along a.x p.x a.w (and_left _ _ h)) (any_along a.y p.y a.h (and_right _ _ h))

any_part : (a : Area) (p : Point) → any_holds (cells_of a) p ≡ holds a p
any_part a p = list_any-map (λ k. common a (cell k)) (λ b. holds b p) (cell_keys_of a)
    ∙ (λ i. list_any (λ k. common_points a (cell k) p i) (cell_keys_of a))
    ∙ any_both (holds a p) (λ k. holds (cell k) p) (cell_keys_of a)
    ∙ implied (holds a p) (list_any (λ k. holds (cell k) p) (cell_keys_of a)) (any_cell a p)

pub parted_by_cells : CellsAreMet
parted_by_cells a w h = record {
  cells = each_once _ _ _ _ (λ k. meets a (cell k)) (λ k. same_both (cell_met a.x k.col a.w w) (cell_met a.y k.row a.h h));
  shared = λ k m. shared_common a (cell k) m (record { w = w; h = h }) (record { w = omega arith; h = omega arith });
  whole = any_part a;
}
