-- Rows added to the sums of columns, and taken from them.
use Rattle.std.proofs.Common.{◌≡◌, ℕ, ◌+◌, ◌-◌, ◌*◌, ◌≤◌, ◌<◌, List, ◌∷◌, [], ◌++◌, length, get_or, take, drop, replicate, subst, refl, sym, ap, ◌∙◌, arith, length-append, ◌⊎◌, inl, inr}
use Rattle.std.proofs.lemmas.List.{get_or-take, get_or-drop, get_or_append_left, get_or-append_right, get_or_past, length-take-le, append_assoc, get_or-replicate, length-replicate}
use Rattle.std.proofs.lemmas.Grind.{common_steps}
use Rattle.std.proofs.lemmas.List.FromFn.{length-map-range_with_len, get_or-map-range_with_len, map-range_with_len_more}
use Rattle.pixel_core.specs.Rgba.{Rgba, clear}
use Rattle.tile_core.proofs.LaidRows.{next_fits}
use Rattle.blur_core.specs.declared.sums.Sums.{Sums}
use Rattle.blur_core.specs.Sums.{nothing, weigh, plus, less, IsPartOf, IsUpTo, sum_from, mean_of}
use Rattle.blur_core.specs.Rows.{pixel_of, AreBytes, column_sums, square_sums, HasColumns, ChangesEach, mean_from, row_means, HasMeans}
use Rattle.blur_core.proofs.Summing.{sum_from-zero, sum_from_more, sum_from_rest, first_part, sum_from-same, sum_up_to, up_to_more, nothing_up_to}

which : (a b : ℕ) → (a < b) ⊎ (b ≤ a)
which a b = grind arith

-- a row of the pixels
row_pixel : (pixels : List Rgba) (width row at n k : ℕ) → at ≡ row * width → n ≡ width → k < width → get_or (take n (drop at pixels)) k clear ≡ pixel_of pixels width k row
row_pixel pixels width row at n k e f h =
    get_or-take n (drop at pixels) k clear (omega arith)
    ∙ get_or-drop at pixels k clear
    ∙ ap (λ i. get_or pixels (i + k) clear) e

pub row_added : (pixels : List Rgba) (width row n at m : ℕ) (old new : List Sums) → length old ≡ width → at ≡ (row + n) * width → m ≡ width
    → HasColumns pixels width row n old → ChangesEach plus (take m (drop at pixels)) old new → HasColumns pixels width row (n + 1) new
row_added pixels width row n at m old new long e f has change col h =
    change col (omega arith)
    ∙ ap (λ s. plus s (weigh (get_or (take m (drop at pixels)) col clear))) (has col h)
    ∙ ap (λ p. plus (column_sums pixels width row n col) (weigh p)) (row_pixel pixels width (row + n) at m col e f h)
    ∙ sym (sum_from_more (λ i. weigh (pixel_of pixels width col i)) row n (row + n) refl)

pub row_taken : (pixels : List Rgba) (width row n at m : ℕ) (old new : List Sums) → length old ≡ width → at ≡ row * width → m ≡ width
    → HasColumns pixels width row (n + 1) old → ChangesEach less (take m (drop at pixels)) old new → HasColumns pixels width (row + 1) n new
row_taken pixels width row n at m old new long e f has change col h =
    change col (omega arith)
    ∙ ap (λ s. less s (weigh (get_or (take m (drop at pixels)) col clear))) (has col h)
    ∙ ap (λ p. less (column_sums pixels width row (n + 1) col) (weigh p)) (row_pixel pixels width row at m col e f h)
    ∙ sum_from_rest (λ i. weigh (pixel_of pixels width col i)) row n

-- the row that is taken is part of the sums
pub row_is_part : (pixels : List Rgba) (width row n at m : ℕ) (old : List Sums) → length old ≡ width → at ≡ row * width → m ≡ width
    → HasColumns pixels width row (n + 1) old → (k : ℕ) → k < length old → IsPartOf (weigh (get_or (take m (drop at pixels)) k clear)) (get_or old k nothing)
row_is_part pixels width row n at m old long e f has k h =
    let g : k < width = omega arith in
    rw (row_pixel pixels width row at m k e f g, has k g) (first_part (λ i. weigh (pixel_of pixels width k i)) row n)

-- ---- bounds

pub columns_up_to : (pixels : List Rgba) (width row n : ℕ) (columns : List Sums) → AreBytes pixels width (row + n) → HasColumns pixels width row n columns → (k : ℕ) → k < width → IsUpTo n (get_or columns k nothing)
columns_up_to pixels width row n columns bytes has k h =
    let is : IsUpTo (n * 1) (column_sums pixels width row n k) = sum_up_to (λ i. weigh (pixel_of pixels width k i)) 1 row n (λ j l. bytes k (row + j) h (omega arith)) in
    rw (has k h) (up_to_more (n * 1) n _ (omega arith) is)

pub same_bytes : (pixels : List Rgba) (width n m : ℕ) → n ≡ m → AreBytes pixels width n → AreBytes pixels width m
same_bytes pixels width n m e bytes = subst (λ (i : ℕ). AreBytes pixels width i) e bytes

-- one more row of bytes
pub bytes_more : (pixels : List Rgba) (width n at m : ℕ) (columns : List Sums) → AreBytes pixels width n → at ≡ n * width → m ≡ width → length columns ≡ width → ((k : ℕ) → k < length columns → IsUpTo 1 (weigh (get_or (take m (drop at pixels)) k clear)))
    → AreBytes pixels width (n + 1)
bytes_more pixels width n at m columns bytes e f long more col r hc hr = elim (which r n) [
  | inl h ↦ bytes col r hc h
  | inr h ↦ let s : n ≡ r = omega arith in
      let is : IsUpTo 1 (weigh (pixel_of pixels width col n)) = subst (λ (p : Rgba). IsUpTo 1 (weigh p)) (row_pixel pixels width n at m col e f hc) (more col (omega arith)) in
      subst (λ (i : ℕ). IsUpTo 1 (weigh (pixel_of pixels width col i))) s is
]

-- there is room for more than these rows
pub columns_small : (pixels : List Rgba) (width row n : ℕ) (columns : List Sums) → AreBytes pixels width (row + n) → HasColumns pixels width row n columns → length columns ≡ width → n ≤ 1089
    → (k : ℕ) → k < length columns → IsUpTo 1089 (get_or columns k nothing)
columns_small pixels width row n columns bytes has long few k h = up_to_more n 1089 _ few (columns_up_to pixels width row n columns bytes has k (omega arith))

pub no_rows : (pixels : List Rgba) (width row n : ℕ) (columns : List Sums) → columns ≡ replicate n nothing → HasColumns pixels width row 0 columns
no_rows pixels width row n columns e col h = ap (λ cs. get_or cs col nothing) e ∙ get_or-replicate-same n col ∙ sym (sum_from-zero (λ i. weigh (pixel_of pixels width col i)) row)
  where
    get_or-replicate-same : (n col : ℕ) → get_or (replicate n nothing) col nothing ≡ nothing
    get_or-replicate-same n col = elim (which col n) [ inl l ↦ get_or-replicate n col nothing nothing l | inr l ↦ get_or_past (replicate n nothing) col nothing (omega (arith, length-replicate n nothing)) ]

-- beyond the columns there is nothing
pub all_up_to : (columns : List Sums) (n : ℕ) → ((k : ℕ) → k < length columns → IsUpTo n (get_or columns k nothing)) → (k : ℕ) → IsUpTo n (get_or columns k nothing)
all_up_to columns n each k = elim (which k (length columns)) [
  | inl h ↦ each k h
  | inr h ↦ rw (get_or_past columns k nothing h) (nothing_up_to n)
]

-- ---- a row of means

mean_is : (pixels : List Rgba) (width row side col : ℕ) (columns : List Sums) → HasColumns pixels width row side columns → col + side ≤ width → mean_from columns side col ≡ mean_of (side * side) (square_sums pixels width side col row)
mean_is pixels width row side col columns has h =
    ap (mean_of (side * side)) (sum_from-same (λ k. get_or columns k nothing) (column_sums pixels width row side) col col side (λ j l. has (col + j) (omega arith)))

pub means_more : (pixels : List Rgba) (width row side w n : ℕ) (columns : List Sums) (old new : List Rgba) → HasColumns pixels width row side columns → w + side ≤ width + 1 → n ≡ w → length old ≡ row * w
    → HasMeans pixels width side w row old → new ≡ old ++ row_means columns side n → HasMeans pixels width side w (row + 1) new
means_more pixels width row side w n columns old new has fits en long means e col r hc hr = ap (λ xs. get_or xs (r * w + col) clear) e ∙ elim (which r row) as (λ _. get_or (old ++ row_means columns side n) (r * w + col) clear ≡ mean_of (side * side) (square_sums pixels width side col r)) [
  | inl h ↦ let l : r * w + w ≤ row * w = next_fits r row w h in
      get_or_append_left old (row_means columns side n) clear (r * w + col) (omega arith) ∙ means col r hc h
  | inr h ↦ let s : r ≡ row = omega arith in
      let l : r * w ≡ row * w = ap (λ i. i * w) s in
      let m : (r * w + col) - row * w ≡ col = omega arith in
      get_or-append_right old (row_means columns side n) (row * w) (r * w + col) clear long (omega arith)
      ∙ ap (λ i. get_or (row_means columns side n) i clear) m
      ∙ get_or-map-range_with_len (mean_from columns side) 0 n col col clear (omega arith) (omega arith)
      ∙ mean_is pixels width row side col columns has (omega arith)
      ∙ ap (λ i. mean_of (side * side) (square_sums pixels width side col i)) (sym s)
]

pub length_means : (columns : List Sums) (side w n row : ℕ) (old new : List Rgba) → n ≡ w → length old ≡ row * w → new ≡ old ++ row_means columns side n → length new ≡ (row + 1) * w
length_means columns side w n row old new en long e =
    let l : length (row_means columns side n) ≡ n = length-map-range_with_len (mean_from columns side) 0 n in
    ap length e ∙ length-append old (row_means columns side n) ∙ grind arith

-- ---- the sums of some columns

-- the sum of columns with the sums of n pixels each
pub columns_sum : (columns : List Sums) (n from m most : ℕ) (s : Sums) → ((k : ℕ) → IsUpTo n (get_or columns k nothing)) → s ≡ sum_from (λ k. get_or columns k nothing) from m → m * n ≤ most → IsUpTo most s
columns_sum columns n from m most s each e h = rw e (up_to_more (m * n) most _ h (sum_up_to (λ k. get_or columns k nothing) n from m (λ j l. each (from + j))))

few_times : (m n : ℕ) → m ≤ 33 → n ≤ 33 → m * n ≤ 1089
few_times m n p q = grind arith

-- no more than 33 columns with no more than 33 pixels each
pub few_columns : (columns : List Sums) (n from m : ℕ) (s : Sums) → ((k : ℕ) → IsUpTo n (get_or columns k nothing)) → s ≡ sum_from (λ k. get_or columns k nothing) from m → m ≤ 33 → n ≤ 33 → IsUpTo 1089 s
few_columns columns n from m s each e p q = columns_sum columns n from m 1089 s each e (few_times m n p q)

-- the first columns alone
pub first_columns : (columns : List Sums) (n : ℕ) → n ≤ length columns → sum_from (λ k. get_or (take n columns) k nothing) 0 (length (take n columns)) ≡ sum_from (λ k. get_or columns k nothing) 0 n
first_columns columns n h =
    ap (sum_from (λ k. get_or (take n columns) k nothing) 0) (length-take-le n columns h)
    ∙ sum_from-same (λ k. get_or (take n columns) k nothing) (λ k. get_or columns k nothing) 0 0 n (λ j l. get_or-take n columns (0 + j) nothing (omega arith))

-- one more column on the right
pub square_added : (columns : List Sums) (col more : ℕ) (old new : Sums) → old ≡ sum_from (λ k. get_or columns k nothing) col more → new ≡ plus old (get_or columns (col + more) nothing)
    → new ≡ sum_from (λ k. get_or columns k nothing) col (more + 1)
square_added columns col more old new e f = f ∙ ap (λ s. plus s (get_or columns (col + more) nothing)) e ∙ sym (sum_from_more (λ k. get_or columns k nothing) col more (col + more) refl)

-- the leftmost column is part of it
pub square_part : (columns : List Sums) (col more : ℕ) (square : Sums) → square ≡ sum_from (λ k. get_or columns k nothing) col (more + 1) → IsPartOf (get_or columns col nothing) square
square_part columns col more square e = rw e (first_part (λ k. get_or columns k nothing) col more)

-- and is left behind
pub square_moved : (columns : List Sums) (col more : ℕ) (old new : Sums) → old ≡ sum_from (λ k. get_or columns k nothing) col (more + 1) → new ≡ less old (get_or columns col nothing)
    → new ≡ sum_from (λ k. get_or columns k nothing) (col + 1) more
square_moved columns col more old new e f = f ∙ ap (λ s. less s (get_or columns col nothing)) e ∙ sum_from_rest (λ k. get_or columns k nothing) col more

pub no_means : (columns : List Sums) (side : ℕ) (means : List Rgba) → means ≡ means ++ row_means columns side 0
no_means columns side means = grind (arith, common_steps)

pub mean_pushed : (columns : List Sums) (col more : ℕ) (square : Sums) (old before after : List Rgba) (p : Rgba) → square ≡ sum_from (λ k. get_or columns k nothing) col (more + 1)
    → before ≡ old ++ row_means columns (more + 1) col → p ≡ mean_of ((more + 1) * (more + 1)) square → after ≡ before ++ p ∷ [] → after ≡ old ++ row_means columns (more + 1) (col + 1)
mean_pushed columns col more square old before after p e f g h =
    let q : p ≡ mean_from columns (more + 1) col = g ∙ ap (mean_of ((more + 1) * (more + 1))) e in
    h
    ∙ ap (λ ps. ps ++ p ∷ []) f
    ∙ append_assoc old (row_means columns (more + 1) col) (p ∷ [])
    ∙ ap (λ x. old ++ (row_means columns (more + 1) col ++ x ∷ [])) q
    ∙ sym (ap (λ ps. old ++ ps) (map-range_with_len_more (mean_from columns (more + 1)) 0 col col (omega arith)))
