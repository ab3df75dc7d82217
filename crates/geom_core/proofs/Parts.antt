-- The cells of a rectangle by their places in row order.
use Rattle.std.proofs.Common.{◌≡◌, ℕ, ◌+◌, ◌-◌, ◌*◌, ◌/◌, ◌%◌, ◌≤◌, ◌<◌, true, ◌&&◌, length, Some, refl, ap, sym, ◌∙◌, arith}
use Rattle.std.specs.Prelude.{ℤ, pos, ◌+ℤ◌, ◌-ℤ◌, ◌*ℤ◌, int_lt, ◌<ℤ◌, slice_get, option_map}
use Rattle.std.proofs.lemmas.Option.{slice_get-map}
use Rattle.std.proofs.lemmas.List.{length-map}
use borrow.Author.Differences.{ints}
use Rattle.geom_core.specs.Areas.{Area, meets}
use Rattle.geom_core.specs.Overlaps.{common}
use Rattle.geom_core.specs.Grid.{key, cell, floor_by, count_from, how_many, pieces, keys_in_rows}
use Rattle.geom_core.specs.Cells.{cell_keys_of, cells_of}
use Rattle.geom_core.specs.Place.{seen}
use Rattle.geom_core.specs.declared.rect.Rect.TheInside.{Inside}
use Rattle.geom_core.proofs.Tests.{both_true}
use Rattle.geom_core.proofs.Counts.{at_rows, length-count_from, length-keys_in_rows, parted}

-- which piece of 256 a number lies in that counts from the world's edge
floor_shifted : (n : ℕ) → floor_by 256 (pos n -ℤ pos 16384) ≡ (pos (n / 256) -ℤ pos 64)
floor_shifted n = grind (arith, ints)

last_shifted : (a n : ℕ) → 1 ≤ n → (((pos a -ℤ pos 16384) +ℤ pos n) -ℤ pos 1) ≡ (pos (a + n - 1) -ℤ pos 16384)
last_shifted a n h = omega (arith, ints)

many_shifted : (a b : ℕ) → a ≤ b + 1 → how_many (pos a -ℤ pos 64) (pos b -ℤ pos 64) ≡ b + 1 - a
many_shifted a b h = omega (arith, ints)

-- how many pieces of 256 the n numbers from a on meet
abbrev pub cell_count_of : ℕ → ℕ → ℕ
cell_count_of a n = (a + n - 1) / 256 + 1 - a / 256

pieces_shifted : (a n : ℕ) → 1 ≤ n → pieces 256 (pos a -ℤ pos 16384) (((pos a -ℤ pos 16384) +ℤ pos n) -ℤ pos 1) ≡ count_from (pos (a / 256) -ℤ pos 64) (cell_count_of a n)
pieces_shifted a n h = rw (last_shifted a n h, floor_shifted a, floor_shifted (a + n - 1)) (ap (count_from (pos (a / 256) -ℤ pos 64)) (many_shifted (a / 256) ((a + n - 1) / 256) (omega arith)))

cells_seen : (r : Inside) → 1 ≤ r.w → 1 ≤ r.h → cell_keys_of (seen r) ≡ keys_in_rows (count_from (pos (r.left / 256) -ℤ pos 64) (cell_count_of r.left r.w)) (count_from (pos (r.top / 256) -ℤ pos 64) (cell_count_of r.top r.h))
cells_seen r w h = rw (pieces_shifted r.left r.w w, pieces_shifted r.top r.h h) refl

pub count-cells_seen : (r : Inside) → 1 ≤ r.w → 1 ≤ r.h → length (cells_of (seen r)) ≡ cell_count_of r.left r.w * cell_count_of r.top r.h
count-cells_seen r w h = length-map (cell_keys_of (seen r)) (λ k. common (seen r) (cell k)) ∙ ap length (cells_seen r w h)
    ∙ length-keys_in_rows (count_from (pos (r.left / 256) -ℤ pos 64) (cell_count_of r.left r.w)) (count_from (pos (r.top / 256) -ℤ pos 64) (cell_count_of r.top r.h))
    ∙ ap (λ n. n * length (count_from (pos (r.top / 256) -ℤ pos 64) (cell_count_of r.top r.h))) (length-count_from _ (cell_count_of r.left r.w))
    ∙ ap (λ n. cell_count_of r.left r.w * n) (length-count_from _ (cell_count_of r.top r.h))

-- the cell of a column and a row that count from the world's corner
abbrev pub cell_from : ℕ → ℕ → Area
cell_from col row = cell (key (pos col -ℤ pos 64) (pos row -ℤ pos 64))

pub at-cells_seen : (r : Inside) (c i : ℕ) → 1 ≤ r.w → 1 ≤ r.h → c ≡ cell_count_of r.left r.w → i < c * cell_count_of r.top r.h
    → slice_get (cells_of (seen r)) i ≡ Some (common (seen r) (cell_from (r.left / 256 + i % c) (r.top / 256 + i / c)))
at-cells_seen r c i w h ec l =
    slice_get-map (λ k. common (seen r) (cell k)) (cell_keys_of (seen r)) i
    ∙ ap (λ ks. option_map (λ k. common (seen r) (cell k)) (slice_get ks i)) (cells_seen r w h ∙ ap (λ n. keys_in_rows (count_from (pos (r.left / 256) -ℤ pos 64) n) (count_from (pos (r.top / 256) -ℤ pos 64) (cell_count_of r.top r.h))) (sym ec))
    ∙ ap (option_map (λ k. common (seen r) (cell k))) (at_rows (pos (r.left / 256) -ℤ pos 64) (pos (r.top / 256) -ℤ pos 64) c (cell_count_of r.top r.h) i l)
    ∙ ap Some (same (shifted_sum (r.left / 256) (i % c)) (shifted_sum (r.top / 256) (i / c)))
  where
    same : {p p' q q' : ℤ} → p ≡ p' → q ≡ q' → common (seen r) (cell (key p q)) ≡ common (seen r) (cell (key p' q'))
    same e f j = common (seen r) (cell (key (e j) (f j)))

    shifted_sum : (a b : ℕ) → ((pos a -ℤ pos 64) +ℤ pos b) ≡ (pos (a + b) -ℤ pos 64)
    shifted_sum a b = omega (arith, ints)

pub cell_room : (a n q : ℕ) → 1 ≤ n → a + n ≤ 32768 → q < cell_count_of a n → a / 256 + q < 128
cell_room a n q h k l = omega arith

pub below_cells : (r : Inside) (a : Area) (c i : ℕ) → seen r ≡ a → 1 ≤ r.w → 1 ≤ r.h → c ≡ cell_count_of r.left r.w → i < length (cells_of a) → i < c * cell_count_of r.top r.h
below_cells r a c i e w h ec l =
    let n : length (cells_of a) ≡ c * cell_count_of r.top r.h = ap (λ (b : Area). length (cells_of b)) (sym e) ∙ count-cells_seen r w h ∙ ap (λ m. m * cell_count_of r.top r.h) (sym ec) in
    rw (← n) l

low_met : (a n q : ℕ) → 1 ≤ n → q < cell_count_of a n → (pos a -ℤ pos 16384) <ℤ ((pos 256 *ℤ (pos (a / 256 + q) -ℤ pos 64)) +ℤ pos 256)
low_met a n q h l = omega (arith, ints)

high_met : (a n q : ℕ) → 1 ≤ n → q < cell_count_of a n → (pos 256 *ℤ (pos (a / 256 + q) -ℤ pos 64)) <ℤ ((pos a -ℤ pos 16384) +ℤ pos n)
high_met a n q h l = omega (arith, ints)

both_below : (a b c d : ℤ) → a <ℤ b → c <ℤ d → (int_lt a b && int_lt c d) ≡ true
both_below a b c d h k = grind (arith, ints)

met_along : (a n q : ℕ) → 1 ≤ n → q < cell_count_of a n
    → (int_lt (pos a -ℤ pos 16384) ((pos 256 *ℤ (pos (a / 256 + q) -ℤ pos 64)) +ℤ pos 256) && int_lt (pos 256 *ℤ (pos (a / 256 + q) -ℤ pos 64)) ((pos a -ℤ pos 16384) +ℤ pos n)) ≡ true
met_along a n q h l = both_below _ _ _ _ (low_met a n q h l) (high_met a n q h l)

-- a rectangle meets each of its cells
pub cell_met : (r : Inside) (c i : ℕ) → 1 ≤ r.w → 1 ≤ r.h → c ≡ cell_count_of r.left r.w → i < c * cell_count_of r.top r.h → meets (seen r) (cell_from (r.left / 256 + i % c) (r.top / 256 + i / c)) ≡ true
cell_met r c i w h ec l =
    let p : (c * (i / c) + i % c ≡ i) × ((i / c < cell_count_of r.top r.h) × (i % c < c)) = parted c (cell_count_of r.top r.h) i l in
    both_true _ _ (met_along r.left r.w (i % c) w (rw (← ec) p.1.1)) (met_along r.top r.h (i / c) h p.1.0)
