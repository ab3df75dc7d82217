-- Tiles by their places and by their keys.
use Rattle.std.proofs.Common.{◌≡◌, ℕ, suc, zero, ◌+◌, ◌*◌, ◌/◌, ◌%◌, ◌<◌, Bool, true, false, cond, List, [], ◌∷◌, length, get_or, replicate, Option, Some, None, refl, sym, ap, ◌∙◌, arith}
use Rattle.std.proofs.Math.ListN.{set}
use Rattle.std.specs.Prelude.{ℤ, pos, nat_abs, ◌≤ℤ◌, ◌<ℤ◌}
use borrow.Author.Differences.{ints}
use Rattle.std.specs.FinMap as map
use Rattle.geom_core.specs.Areas.{point}
use Rattle.geom_core.specs.Grid.{Key, key, key_of, key_cmp, same_key}
use Rattle.geom_core.specs.Keys.{key_cmp_total, key_cmp-IsAntisymmetric}
use Rattle.geom_core.proofs.Tiles.{key_same, key_is}
use Rattle.frame_core.specs.Plies.{Content, pixels_in}
use Rattle.frame_core.specs.Placed.{key_at, tiles_from}

-- a place has a key of its own
one_place : (i j : ℕ) → key_at i ≡ key_at j → i ≡ j
one_place i j e =
    let col : i % 32 ≡ j % 32 = ap (λ (k : Key). nat_abs k.col) e in
    let row : i / 32 ≡ j / 32 = ap (λ (k : Key). nat_abs k.row) e in
    omega arith

other_key : (i j : ℕ) (b : Bool) → (i ≡ j → ⊥) → same_key (key_at j) (key_at i) ≡ b → b ≡ false
other_key i j false h e = refl
other_key i j true h e = absurd (h (sym (one_place j i (key_same (key_at j) (key_at i) e))))

-- under the key of a place before the list's nothing stands
none_before : (i j : ℕ) (ts : List (Option Content)) → j < i → map.get (tiles_from i ts) (key_at j) ≡ None
none_before i j [] h = map.get-empty key_cmp (key_at j)
none_before i j (None ∷ rest) h = none_before (suc i) j rest (omega arith)
none_before i j (Some t ∷ rest) h =
    map.get-insert key_cmp_total (tiles_from (suc i) rest) (key_at i) t.pixels (key_at j)
    ∙ ap (λ b. cond b (Some t.pixels) (map.get (tiles_from (suc i) rest) (key_at j))) (other_key i j (same_key (key_at j) (key_at i)) (λ e. omega arith) refl)
    ∙ none_before (suc i) j rest (omega arith)

-- what stands at a place stands under its key
pub at_place : (i j : ℕ) (ts : List (Option Content)) → map.get (tiles_from i ts) (key_at (i + j)) ≡ pixels_in (get_or ts j None)
at_place i j [] = map.get-empty key_cmp (key_at (i + j))
at_place i zero (None ∷ rest) = none_before (suc i) (i + 0) rest (omega arith)
at_place i (suc j) (None ∷ rest) = let e : i + suc j ≡ suc i + j = omega arith in ap (λ n. map.get (tiles_from (suc i) rest) (key_at n)) e ∙ at_place (suc i) j rest
at_place i zero (Some t ∷ rest) =
    let e : i + 0 ≡ i = omega arith in
    map.get-insert key_cmp_total (tiles_from (suc i) rest) (key_at i) t.pixels (key_at (i + 0))
    ∙ ap (λ b. cond b (Some t.pixels) (map.get (tiles_from (suc i) rest) (key_at (i + 0)))) (key_is (key_at (i + 0)) (key_at i) (ap key_at e))
at_place i (suc j) (Some t ∷ rest) =
    let e : i + suc j ≡ suc i + j = omega arith in
    map.get-insert key_cmp_total (tiles_from (suc i) rest) (key_at i) t.pixels (key_at (i + suc j))
    ∙ ap (λ b. cond b (Some t.pixels) (map.get (tiles_from (suc i) rest) (key_at (i + suc j)))) (other_key i (i + suc j) (same_key (key_at (i + suc j)) (key_at i)) (λ e. omega arith) refl)
    ∙ ap (λ n. map.get (tiles_from (suc i) rest) (key_at n)) e ∙ at_place (suc i) j rest

-- of two tests that do not both hold the order does not matter
either_first : {X : Type 0} (a b : Bool) (x y z : X) → (a ≡ true → b ≡ true → x ≡ y) → cond a x (cond b y z) ≡ cond b y (cond a x z)
either_first true true x y z h = h refl refl
either_first true false x y z h = refl
either_first false true x y z h = refl
either_first false false x y z h = refl

covered : {X : Type 0} (b : Bool) (x y z : X) → cond b x z ≡ cond b x (cond b y z)
covered true x y z = refl
covered false x y z = refl

-- the list with a tile at one of its places, key by key
set_place : (i j : ℕ) (ts : List (Option Content)) (t : Content) (q : Key) → j < length ts
    → map.get (tiles_from i (set ts j (Some t))) q ≡ cond (same_key q (key_at (i + j))) (Some t.pixels) (map.get (tiles_from i ts) q)
set_place i j [] t q h = absurd (omega arith)
set_place i zero (None ∷ rest) t q h =
    let e : i ≡ i + 0 = omega arith in
    map.get-insert key_cmp_total (tiles_from (suc i) rest) (key_at i) t.pixels q ∙ ap (λ n. cond (same_key q (key_at n)) (Some t.pixels) (map.get (tiles_from (suc i) rest) q)) e
set_place i zero (Some u ∷ rest) t q h =
    let e : i ≡ i + 0 = omega arith in
    map.get-insert key_cmp_total (tiles_from (suc i) rest) (key_at i) t.pixels q
    ∙ covered (same_key q (key_at i)) (Some t.pixels) (Some u.pixels) (map.get (tiles_from (suc i) rest) q)
    ∙ ap (λ v. cond (same_key q (key_at i)) (Some t.pixels) v) (sym (map.get-insert key_cmp_total (tiles_from (suc i) rest) (key_at i) u.pixels q))
    ∙ ap (λ n. cond (same_key q (key_at n)) (Some t.pixels) (map.get (tiles_from i (Some u ∷ rest)) q)) e
set_place i (suc j) (None ∷ rest) t q h =
    let e : suc i + j ≡ i + suc j = omega arith in
    set_place (suc i) j rest t q (omega arith) ∙ ap (λ n. cond (same_key q (key_at n)) (Some t.pixels) (map.get (tiles_from (suc i) rest) q)) e
set_place i (suc j) (Some u ∷ rest) t q h =
    let e : suc i + j ≡ i + suc j = omega arith in
    map.get-insert key_cmp_total (tiles_from (suc i) (set rest j (Some t))) (key_at i) u.pixels q
    ∙ ap (λ v. cond (same_key q (key_at i)) (Some u.pixels) v) (set_place (suc i) j rest t q (omega arith) ∙ ap (λ n. cond (same_key q (key_at n)) (Some t.pixels) (map.get (tiles_from (suc i) rest) q)) e)
    ∙ either_first (same_key q (key_at i)) (same_key q (key_at (i + suc j))) (Some u.pixels) (Some t.pixels) (map.get (tiles_from (suc i) rest) q)
    (λ a b. absurd (let same : i ≡ i + suc j = one_place i (i + suc j) (sym (key_same q (key_at i) a) ∙ key_same q (key_at (i + suc j)) b) in omega arith))
    ∙ ap (λ v. cond (same_key q (key_at (i + suc j))) (Some t.pixels) v) (sym (map.get-insert key_cmp_total (tiles_from (suc i) rest) (key_at i) u.pixels q))

-- a tile at a place goes under its key
pub put_place : (j : ℕ) (ts : List (Option Content)) (t : Content) → j < length ts → tiles_from 0 (set ts j (Some t)) ≡ map.insert (tiles_from 0 ts) (key_at j) t.pixels
put_place j ts t h =
    let e : 0 + j ≡ j = omega arith in
    map.same_map key_cmp_total key_cmp-IsAntisymmetric _ _ (λ q. set_place 0 j ts t q h ∙ ap (λ n. cond (same_key q (key_at n)) (Some t.pixels) (map.get (tiles_from 0 ts) q)) e ∙ sym (map.get-insert key_cmp_total (tiles_from 0 ts) (key_at j) t.pixels q))

-- with no tile there is nothing under any key
pub no_place : (i n : ℕ) → tiles_from i (replicate n None) ≡ map.empty
no_place i zero = refl
no_place i (suc n) = no_place (suc i) n

-- the place of the tile of a column and a row
pub key_of_place : (c r : ℕ) → c < 32 → key_at (32 * r + c) ≡ key (pos c) (pos r)
key_of_place c r h =
    let col : (32 * r + c) % 32 ≡ c = omega arith in
    let row : (32 * r + c) / 32 ≡ r = omega arith in
    λ k. key (pos (col k)) (pos (row k))

-- what stands at the place of the tile that a point lies in
pub tile_at : (ts : List (Option Content)) (x y n : ℕ) → x < 2048 → n ≡ 32 * (y / 64) + x / 64 → pixels_in (get_or ts n None) ≡ map.get (tiles_from 0 ts) (key_of (point (pos x) (pos y)))
tile_at ts x y n h e =
    let small : x / 64 < 32 = omega arith in
    let n_is : n ≡ 0 + n = omega arith in
    sym (at_place 0 n ts) ∙ ap (λ i. map.get (tiles_from 0 ts) (key_at i)) (sym n_is ∙ e) ∙ ap (λ k. map.get (tiles_from 0 ts) k) (key_of_place (x / 64) (y / 64) small)

from_zero : (x : ℤ) → pos 0 ≤ℤ x → pos (nat_abs x) ≡ x
from_zero x h = grind (arith, ints)

few_columns : (x : ℤ) → pos 0 ≤ℤ x → x <ℤ pos 32 → nat_abs x < 32
few_columns x h k = grind (arith, ints)

-- a tile at the place of a key goes under it
pub put_tile : (ts : List (Option Content)) (k : Key) (n : ℕ) (t : Content) → pos 0 ≤ℤ k.col → k.col <ℤ pos 32 → pos 0 ≤ℤ k.row → n ≡ 32 * nat_abs k.row + nat_abs k.col → n < length ts
    → tiles_from 0 (set ts n (Some t)) ≡ map.insert (tiles_from 0 ts) k t.pixels
put_tile ts k n t left right top e small =
    let col : pos (nat_abs k.col) ≡ k.col = from_zero k.col left in
    let row : pos (nat_abs k.row) ≡ k.row = from_zero k.row top in
    let key_is_k : key_at n ≡ k = ap key_at e ∙ key_of_place (nat_abs k.col) (nat_abs k.row) (few_columns k.col left right) ∙ (λ i. key (col i) (row i)) in
    put_place n ts t small ∙ ap (λ m. map.insert (tiles_from 0 ts) m t.pixels) key_is_k

-- what stands at the place of a key stands under it
pub under_key : (ts : List (Option Content)) (k : Key) (n : ℕ) → pos 0 ≤ℤ k.col → k.col <ℤ pos 32 → pos 0 ≤ℤ k.row → n ≡ 32 * nat_abs k.row + nat_abs k.col → pixels_in (get_or ts n None) ≡ map.get (tiles_from 0 ts) k
under_key ts k n left right top e =
    let col : pos (nat_abs k.col) ≡ k.col = from_zero k.col left in
    let row : pos (nat_abs k.row) ≡ k.row = from_zero k.row top in
    let key_is_k : key_at n ≡ k = ap key_at e ∙ key_of_place (nat_abs k.col) (nat_abs k.row) (few_columns k.col left right) ∙ (λ i. key (col i) (row i)) in
    let from_first : 0 + n ≡ n = omega arith in
    sym (at_place 0 n ts) ∙ ap (λ i. map.get (tiles_from 0 ts) (key_at i)) from_first ∙ ap (λ q. map.get (tiles_from 0 ts) q) key_is_k
