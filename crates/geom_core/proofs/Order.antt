-- The keys of a block of columns and rows, each once and in row order.
use Rattle.std.proofs.Common.{◌≡◌, ℕ, suc, zero, Bool, ◌&&◌, List, [], ◌∷◌, ◌++◌, ◌∙◌, arith, Less}
use Rattle.std.specs.Prelude.{ℤ, pos, ◌+ℤ◌, int_le, int_lt, ◌<ℤ◌}
use Rattle.std.specs.List.{AllByRecursion}
use Rattle.std.specs.List.Sorted.{IsStrictlySortedBy}
use Rattle.std.proofs.lemmas.Map.Keys.{IsDistinct-from_sorted}
use borrow.Author.Differences.{ints}
use Rattle.geom_core.specs.Grid.{Key, key, key_cmp, keys_in_row, keys_in_rows, count_from}
use Rattle.geom_core.specs.Laws.{HasEachOnce}
use Rattle.geom_core.proofs.Keys.{any_count, any_key_in_rows}

row_first : (a b : Key) → a.row <ℤ b.row → key_cmp a b ≡ Less
row_first a b h = grind (arith, ints)

then_column : (r m x : ℤ) → m <ℤ x → key_cmp (key m r) (key x r) ≡ Less
then_column r m x h = grind (arith, ints)

each-append : {X : Type 0} (P : X → Type 0) (xs ys : List X) → AllByRecursion P xs → AllByRecursion P ys → AllByRecursion P (xs ++ ys)
each-append P [] ys h k = k
each-append P (x ∷ xs) ys h k = (h.0, each-append P xs ys h.1 k)

each_so : {X : Type 0} (P Q : X → Type 0) → ((x : X) → P x → Q x) → (xs : List X) → AllByRecursion P xs → AllByRecursion Q xs
each_so P Q f [] h = tt
each_so P Q f (x ∷ xs) h = (f x h.0, each_so P Q f xs h.1)

one_more : (m x : ℤ) → m <ℤ x → m <ℤ (x +ℤ pos 1)
one_more m x h = omega (arith, ints)

next : (m : ℤ) → m <ℤ (m +ℤ pos 1)
next m = omega (arith, ints)

row_after : (m x r : ℤ) (c : ℕ) → m <ℤ x → AllByRecursion (λ k. key_cmp (key m r) k ≡ Less) (keys_in_row (count_from x c) r)
row_after m x r zero h = tt
row_after m x r (suc c) h = (then_column r m x h, row_after m (x +ℤ pos 1) r c (one_more m x h))

row_below : (m x y : ℤ) (c : ℕ) → m <ℤ y → AllByRecursion (λ (k : Key). m <ℤ k.row) (keys_in_row (count_from x c) y)
row_below m x y zero h = tt
row_below m x y (suc c) h = (h, row_below m (x +ℤ pos 1) y c h)

rows_below : (m x y : ℤ) (c n : ℕ) → m <ℤ y → AllByRecursion (λ (k : Key). m <ℤ k.row) (keys_in_rows (count_from x c) (count_from y n))
rows_below m x y c zero h = tt
rows_below m x y c (suc n) h = each-append (λ (k : Key). m <ℤ k.row) (keys_in_row (count_from x c) y) (keys_in_rows (count_from x c) (count_from (y +ℤ pos 1) n)) (row_below m x y c h) (rows_below m x (y +ℤ pos 1) c n (one_more m y h))

sorted_row : (x r : ℤ) (c : ℕ) (rest : List Key) → AllByRecursion (λ (k : Key). r <ℤ k.row) rest → IsStrictlySortedBy key_cmp rest → IsStrictlySortedBy key_cmp (keys_in_row (count_from x c) r ++ rest)
unfolding IsStrictlySortedBy
sorted_row x r zero rest b s = s
sorted_row x r (suc c) rest b s = (
  each-append (λ k. key_cmp (key x r) k ≡ Less) (keys_in_row (count_from (x +ℤ pos 1) c) r) rest (row_after x (x +ℤ pos 1) r c (next x)) (each_so (λ (k : Key). r <ℤ k.row) (λ k. key_cmp (key x r) k ≡ Less) (λ k h. row_first (key x r) k h) rest b),
  sorted_row (x +ℤ pos 1) r c rest b s,
)

sorted_rows : (x y : ℤ) (c n : ℕ) → IsStrictlySortedBy key_cmp (keys_in_rows (count_from x c) (count_from y n))
unfolding IsStrictlySortedBy
sorted_rows x y c zero = tt
sorted_rows x y c (suc n) = sorted_row x y c (keys_in_rows (count_from x c) (count_from (y +ℤ pos 1) n)) (rows_below y x (y +ℤ pos 1) c n (next y)) (sorted_rows x (y +ℤ pos 1) c n)

pub same_both : {a b c d : Bool} → a ≡ c → b ≡ d → (a && b) ≡ (c && d)
same_both e f i = e i && f i

-- a block of keys has just those that pass, where a column and a row pass just inside it
pub each_once : (x y : ℤ) (c n : ℕ) (passes : Key → Bool) → ((k : Key) → ((int_le x k.col && int_lt k.col (x +ℤ pos c)) && (int_le y k.row && int_lt k.row (y +ℤ pos n))) ≡ passes k)
    → HasEachOnce passes (keys_in_rows (count_from x c) (count_from y n))
each_once x y c n passes e = record {
  ascending = sorted_rows x y c n;
  distinct = IsDistinct-from_sorted key_cmp (keys_in_rows (count_from x c) (count_from y n)) (sorted_rows x y c n);
  exact = λ k. any_key_in_rows k (count_from x c) (count_from y n) ∙ same_both (any_count x k.col c) (any_count y k.row n) ∙ e k;
}
