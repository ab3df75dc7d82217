-- Along one axis: which pieces of 64 and of 256 the n numbers from a on meet.
use Rattle.std.proofs.Common.{◌≡◌, ℕ, ◌≤◌, ◌&&◌, ap, ◌∙◌, arith}
use Rattle.std.specs.Prelude.{ℤ, pos, negsuc, ◌+ℤ◌, ◌-ℤ◌, ◌*ℤ◌, int_le, int_lt, ◌≤ℤ◌, ◌<ℤ◌}
use borrow.Author.Differences.{ints}
use Rattle.geom_core.specs.Areas.{meets}
use Rattle.geom_core.specs.Grid.{floor_by, how_many, tile}
use Rattle.geom_core.specs.Laws.{TilesAreMet}
use Rattle.geom_core.proofs.Order.{each_once, same_both}

-- k is the piece of s numbers that x lies in
pub record InPiece (s : ℕ) (k x : ℤ) : Type 0 where
  pub from : (pos s *ℤ k) ≤ℤ x
  pub below : x <ℤ ((pos s *ℤ k) +ℤ pos s)

in_tile : (x : ℤ) → InPiece 64 (floor_by 64 x) x
in_tile (pos n) = record { from = omega (arith, ints); below = omega (arith, ints) }
in_tile (negsuc n) = record { from = omega (arith, ints); below = omega (arith, ints) }

pub in_cell : (x : ℤ) → InPiece 256 (floor_by 256 x) x
in_cell (pos n) = record { from = omega (arith, ints); below = omega (arith, ints) }
in_cell (negsuc n) = record { from = omega (arith, ints); below = omega (arith, ints) }

-- where the pieces from f to l end
pub span_end : (f l : ℤ) → f ≤ℤ l → (f +ℤ pos (how_many f l)) ≡ (l +ℤ pos 1)
span_end f l h = omega (arith, ints)

from_tile : (a c f : ℤ) → (pos 64 *ℤ f) ≤ℤ a → a <ℤ ((pos 64 *ℤ f) +ℤ pos 64) → int_le f c ≡ int_lt a ((pos 64 *ℤ c) +ℤ pos 64)
from_tile a c f h k = grind (arith, ints)

to_tile : (e c l : ℤ) → (pos 64 *ℤ l) ≤ℤ (e -ℤ pos 1) → (e -ℤ pos 1) <ℤ ((pos 64 *ℤ l) +ℤ pos 64) → int_lt c (l +ℤ pos 1) ≡ int_lt (pos 64 *ℤ c) e
to_tile e c l p q = grind (arith, ints)

tiles_rise : (a f l : ℤ) (n : ℕ) → 1 ≤ n → InPiece 64 f a → InPiece 64 l ((a +ℤ pos n) -ℤ pos 1) → f ≤ℤ l
tiles_rise a f l n h i j = rise a f l n h i.from j.below
  where
    rise : (a f l : ℤ) (n : ℕ) → 1 ≤ n → (pos 64 *ℤ f) ≤ℤ a → ((a +ℤ pos n) -ℤ pos 1) <ℤ ((pos 64 *ℤ l) +ℤ pos 64) → f ≤ℤ l
    rise a f l n h p q = omega (arith, ints)

tile_met : (a c : ℤ) (n : ℕ) → 1 ≤ n
    → (int_le (floor_by 64 a) c && int_lt c (floor_by 64 a +ℤ pos (how_many (floor_by 64 a) (floor_by 64 ((a +ℤ pos n) -ℤ pos 1))))) ≡ (int_lt a ((pos 64 *ℤ c) +ℤ pos 64) && int_lt (pos 64 *ℤ c) (a +ℤ pos n))
tile_met a c n h =
    let first : ℤ = floor_by 64 a in
    let last : ℤ = floor_by 64 ((a +ℤ pos n) -ℤ pos 1) in
    let f : InPiece 64 first a = in_tile a in
    let l : InPiece 64 last ((a +ℤ pos n) -ℤ pos 1) = in_tile ((a +ℤ pos n) -ℤ pos 1) in
    same_both (from_tile a c first f.from f.below) (ap (int_lt c) (span_end first last (tiles_rise a first last n h f l)) ∙ to_tile (a +ℤ pos n) c last l.from l.below)

from_cell : (a c f : ℤ) → (pos 256 *ℤ f) ≤ℤ a → a <ℤ ((pos 256 *ℤ f) +ℤ pos 256) → int_le f c ≡ int_lt a ((pos 256 *ℤ c) +ℤ pos 256)
from_cell a c f h k = grind (arith, ints)

to_cell : (e c l : ℤ) → (pos 256 *ℤ l) ≤ℤ (e -ℤ pos 1) → (e -ℤ pos 1) <ℤ ((pos 256 *ℤ l) +ℤ pos 256) → int_lt c (l +ℤ pos 1) ≡ int_lt (pos 256 *ℤ c) e
to_cell e c l p q = grind (arith, ints)

pub cells_rise : (a f l : ℤ) (n : ℕ) → 1 ≤ n → InPiece 256 f a → InPiece 256 l ((a +ℤ pos n) -ℤ pos 1) → f ≤ℤ l
cells_rise a f l n h i j = rise a f l n h i.from j.below
  where
    rise : (a f l : ℤ) (n : ℕ) → 1 ≤ n → (pos 256 *ℤ f) ≤ℤ a → ((a +ℤ pos n) -ℤ pos 1) <ℤ ((pos 256 *ℤ l) +ℤ pos 256) → f ≤ℤ l
    rise a f l n h p q = omega (arith, ints)

pub cell_met : (a c : ℤ) (n : ℕ) → 1 ≤ n
    → (int_le (floor_by 256 a) c && int_lt c (floor_by 256 a +ℤ pos (how_many (floor_by 256 a) (floor_by 256 ((a +ℤ pos n) -ℤ pos 1))))) ≡ (int_lt a ((pos 256 *ℤ c) +ℤ pos 256) && int_lt (pos 256 *ℤ c) (a +ℤ pos n))
cell_met a c n h =
    let first : ℤ = floor_by 256 a in
    let last : ℤ = floor_by 256 ((a +ℤ pos n) -ℤ pos 1) in
    let f : InPiece 256 first a = in_cell a in
    let l : InPiece 256 last ((a +ℤ pos n) -ℤ pos 1) = in_cell ((a +ℤ pos n) -ℤ pos 1) in
    same_both (from_cell a c first f.from f.below) (ap (int_lt c) (span_end first last (cells_rise a first last n h f l)) ∙ to_cell (a +ℤ pos n) c last l.from l.below)

pub tiles_met : TilesAreMet
tiles_met a w h = each_once _ _ _ _ (λ k. meets a (tile k)) (λ k. same_both (tile_met a.x k.col a.w w) (tile_met a.y k.row a.h h))
