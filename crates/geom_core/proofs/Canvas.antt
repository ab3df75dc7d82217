-- In the largest canvas the cells of a rectangle are its parts.
use Rattle.std.proofs.Common.{◌≡◌, ℕ, suc, zero, ◌+◌, ◌-◌, ◌≤◌, Bool, true, false, ◌&&◌, List, [], ◌∷◌, ◌++◌, map, Some, None, cond, refl, sym, ap, ◌∙◌, arith}
use Rattle.std.specs.Prelude.{ℤ, pos, ◌+ℤ◌, ◌-ℤ◌, ◌*ℤ◌, int_le, int_lt, nat_abs, ◌≤ℤ◌, ◌<ℤ◌}
use Rattle.std.specs.List.{filter, filter_map}
use Rattle.std.proofs.lemmas.List.{append-nil}
use Rattle.std.proofs.lemmas.List.Elements.{filter-append}
use borrow.Author.Differences.{ints}
use Rattle.geom_core.specs.Areas.{meets}
use Rattle.geom_core.specs.Overlaps.{common}
use Rattle.geom_core.specs.Grid.{Key, cell, cells, floor_by, how_many, pieces, count_from, keys_in_row, keys_in_rows}
use Rattle.geom_core.specs.Laws.{PartsAreCells}
use Rattle.geom_core.proofs.Tests.{and_left, and_right}
use Rattle.geom_core.proofs.Axes.{InPiece, in_cell, cell_met, cells_rise}

-- the items that pass, each changed by g
kept_map : {X Y Z : Type 0} (f : X → Y) (t : Y → Bool) (g : Y → Z) (xs : List X) → filter_map (λ y. cond (t y) (Some (g y)) None) (map f xs) ≡ map (λ x. g (f x)) (filter (λ x. t (f x)) xs)
kept_map f t g [] = refl
kept_map f t g (x ∷ xs) = go f t g x xs (t (f x)) refl (kept_map f t g xs)
  where
    go : {X Y Z : Type 0} (f : X → Y) (t : Y → Bool) (g : Y → Z) (x : X) (xs : List X) (b : Bool) → t (f x) ≡ b
        → filter_map (λ y. cond (t y) (Some (g y)) None) (map f xs) ≡ map (λ x. g (f x)) (filter (λ x. t (f x)) xs)
        → filter_map (λ y. cond (t y) (Some (g y)) None) (map f (x ∷ xs)) ≡ map (λ x. g (f x)) (filter (λ x. t (f x)) (x ∷ xs))
    go f t g x xs true e h = rw (e, h) refl
    go f t g x xs false e h = rw (e, h) refl

-- the keys of which the column passes s and the row passes t
abbrev kept : (ℤ → Bool) → (ℤ → Bool) → List Key → List Key
kept s t ks = filter (λ (k : Key). s k.col && t k.row) ks

row_kept : (s t : ℤ → Bool) (cs : List ℤ) (r : ℤ) → t r ≡ true → kept s t (keys_in_row cs r) ≡ keys_in_row (filter s cs) r
row_kept s t [] r e = refl
row_kept s t (c ∷ cs) r e = go s t c cs r (s c) refl e (row_kept s t cs r e)
  where
    go : (s t : ℤ → Bool) (c : ℤ) (cs : List ℤ) (r : ℤ) (b : Bool) → s c ≡ b → t r ≡ true → kept s t (keys_in_row cs r) ≡ keys_in_row (filter s cs) r
        → kept s t (keys_in_row (c ∷ cs) r) ≡ keys_in_row (filter s (c ∷ cs)) r
    go s t c cs r true d e h = rw (d, e, h) refl
    go s t c cs r false d e h = rw (d, h) refl

row_dropped : (s t : ℤ → Bool) (cs : List ℤ) (r : ℤ) → t r ≡ false → kept s t (keys_in_row cs r) ≡ []
row_dropped s t [] r e = refl
row_dropped s t (c ∷ cs) r e = go s t c cs r (s c) refl e (row_dropped s t cs r e)
  where
    go : (s t : ℤ → Bool) (c : ℤ) (cs : List ℤ) (r : ℤ) (b : Bool) → s c ≡ b → t r ≡ false → kept s t (keys_in_row cs r) ≡ [] → kept s t (keys_in_row (c ∷ cs) r) ≡ []
    go s t c cs r true d e h = rw (d, e, h) refl
    go s t c cs r false d e h = rw (d, h) refl

rows_kept : (s t : ℤ → Bool) (cs rs : List ℤ) → kept s t (keys_in_rows cs rs) ≡ keys_in_rows (filter s cs) (filter t rs)
rows_kept s t cs [] = refl
rows_kept s t cs (r ∷ rs) = filter-append (λ (k : Key). s k.col && t k.row) (keys_in_row cs r) (keys_in_rows cs rs)
    ∙ ap (λ ks. kept s t (keys_in_row cs r) ++ ks) (rows_kept s t cs rs) ∙ go s t cs r rs (t r) refl
  where
    go : (s t : ℤ → Bool) (cs : List ℤ) (r : ℤ) (rs : List ℤ) (b : Bool) → t r ≡ b → (kept s t (keys_in_row cs r) ++ keys_in_rows (filter s cs) (filter t rs)) ≡ keys_in_rows (filter s cs) (filter t (r ∷ rs))
    go s t cs r rs true e = rw (e, row_kept s t cs r e) refl
    go s t cs r rs false e = rw (e, row_dropped s t cs r e) refl

same_count : {x y : ℤ} {n m : ℕ} → x ≡ y → n ≡ m → count_from x n ≡ count_from y m
same_count e f i = count_from (e i) (f i)

count-append : (x : ℤ) (i n : ℕ) → count_from x (i + n) ≡ (count_from x i ++ count_from (x +ℤ pos i) n)
count-append x zero n = same_count (none x) (omega arith)
  where
    none : (x : ℤ) → x ≡ (x +ℤ pos 0)
    none x = omega (arith, ints)
count-append x (suc i) n = same_count {x = x} refl (more i n) ∙ ap (λ ys. x ∷ ys) (count-append (x +ℤ pos 1) i n ∙ ap (λ y. count_from (x +ℤ pos 1) i ++ count_from y n) (next x i))
  where
    more : (i n : ℕ) → suc i + n ≡ suc (i + n)
    more i n = omega arith

    next : (x : ℤ) (i : ℕ) → ((x +ℤ pos 1) +ℤ pos i) ≡ (x +ℤ pos (suc i))
    next x i = omega (arith, ints)

-- the numbers from f on and below f + m
abbrev in_span : ℤ → ℕ → ℤ → Bool
in_span f m c = int_le f c && int_lt c (f +ℤ pos m)

before : (f x : ℤ) (m n : ℕ) → (x +ℤ pos n) ≤ℤ f → filter (in_span f m) (count_from x n) ≡ []
before f x m zero h = refl
before f x m (suc n) h = rw (below f x m n h, before f (x +ℤ pos 1) m n (omega (arith, ints))) refl
  where
    below : (f x : ℤ) (m n : ℕ) → (x +ℤ pos (suc n)) ≤ℤ f → in_span f m x ≡ false
    below f x m n h = grind (arith, ints)

behind : (f x : ℤ) (m n : ℕ) → (f +ℤ pos m) ≤ℤ x → filter (in_span f m) (count_from x n) ≡ []
behind f x m zero h = refl
behind f x m (suc n) h = rw (above f x m h, behind f (x +ℤ pos 1) m n (omega (arith, ints))) refl
  where
    above : (f x : ℤ) (m : ℕ) → (f +ℤ pos m) ≤ℤ x → in_span f m x ≡ false
    above f x m h = grind (arith, ints)

within : (f x : ℤ) (m n : ℕ) → f ≤ℤ x → (x +ℤ pos n) ≤ℤ (f +ℤ pos m) → filter (in_span f m) (count_from x n) ≡ count_from x n
within f x m zero h k = refl
within f x m (suc n) h k = rw (at f x m n h k, within f (x +ℤ pos 1) m n (omega (arith, ints)) (omega (arith, ints))) refl
  where
    at : (f x : ℤ) (m n : ℕ) → f ≤ℤ x → (x +ℤ pos (suc n)) ≤ℤ (f +ℤ pos m) → in_span f m x ≡ true
    at f x m n h k = grind (arith, ints)

-- of the numbers from 0 on, those of a span that lies among them
span_kept : (f : ℤ) (i m n : ℕ) → (pos 0 +ℤ pos i) ≡ f → filter (in_span f m) (count_from (pos 0) (i + (m + n))) ≡ count_from f m
span_kept f i m n e =
    ap (filter (in_span f m)) (count-append (pos 0) i (m + n) ∙ ap (λ y. count_from (pos 0) i ++ count_from y (m + n)) e ∙ ap (λ ys. count_from (pos 0) i ++ ys) (count-append f m n))
    ∙ filter-append (in_span f m) (count_from (pos 0) i) (count_from f m ++ count_from (f +ℤ pos m) n)
    ∙ ap (λ ys. ys ++ filter (in_span f m) (count_from f m ++ count_from (f +ℤ pos m) n)) (before f (pos 0) m i (omega (arith, ints)))
    ∙ filter-append (in_span f m) (count_from f m) (count_from (f +ℤ pos m) n)
    ∙ ap (λ ys. ys ++ filter (in_span f m) (count_from (f +ℤ pos m) n)) (within f f m m (omega (arith, ints)) (omega (arith, ints)))
    ∙ ap (λ ys. count_from f m ++ ys) (behind f (f +ℤ pos m) m n (omega (arith, ints)))
    ∙ append-nil (count_from f m)

-- whether the n numbers from a on meet a piece of 256
abbrev met : ℤ → ℕ → ℤ → Bool
met a n c = int_lt a ((pos 256 *ℤ c) +ℤ pos 256) && int_lt (pos 256 *ℤ c) (a +ℤ pos n)

record Spans (f : ℤ) (m : ℕ) : Type 0 where
  from : (pos 0 +ℤ pos (nat_abs f)) ≡ f
  room : 8 ≡ nat_abs f + (m + (8 - (nat_abs f + m)))

spans : (a f l : ℤ) (n : ℕ) → 1 ≤ n → pos 0 ≤ℤ a → (a +ℤ pos n) ≤ℤ pos 2048 → InPiece 256 f a → InPiece 256 l ((a +ℤ pos n) -ℤ pos 1) → Spans f (how_many f l)
spans a f l n h p q i j =
    let low : pos 0 ≤ℤ f = from_0 a f p i.below in
    record { from = same f low; room = fits f l low (cells_rise a f l n h i j) (to_7 (a +ℤ pos n) l q j.from) }
  where
    from_0 : (a f : ℤ) → pos 0 ≤ℤ a → a <ℤ ((pos 256 *ℤ f) +ℤ pos 256) → pos 0 ≤ℤ f
    from_0 a f p h = omega (arith, ints)

    to_7 : (e l : ℤ) → e ≤ℤ pos 2048 → (pos 256 *ℤ l) ≤ℤ (e -ℤ pos 1) → l ≤ℤ pos 7
    to_7 e l h k = omega (arith, ints)

    same : (f : ℤ) → pos 0 ≤ℤ f → (pos 0 +ℤ pos (nat_abs f)) ≡ f
    same f h = omega (arith, ints)

    fits : (f l : ℤ) → pos 0 ≤ℤ f → f ≤ℤ l → l ≤ℤ pos 7 → 8 ≡ nat_abs f + (how_many f l + (8 - (nat_abs f + how_many f l)))
    fits f l h k q = omega (arith, ints)

-- of the 8 pieces of the canvas, those that are met
pieces_kept : (a : ℤ) (n : ℕ) → 1 ≤ n → pos 0 ≤ℤ a → (a +ℤ pos n) ≤ℤ pos 2048 → filter (met a n) (count_from (pos 0) 8) ≡ pieces 256 a ((a +ℤ pos n) -ℤ pos 1)
pieces_kept a n h p q =
    let f : ℤ = floor_by 256 a in
    let m : ℕ = how_many (floor_by 256 a) (floor_by 256 ((a +ℤ pos n) -ℤ pos 1)) in
    let s : Spans f m = spans a f (floor_by 256 ((a +ℤ pos n) -ℤ pos 1)) n h p q (in_cell a) (in_cell ((a +ℤ pos n) -ℤ pos 1)) in
    (λ i. filter (λ c. sym (cell_met a c n h) i) (count_from (pos 0) 8))
    ∙ ap (λ k. filter (in_span f m) (count_from (pos 0) k)) s.room
    ∙ span_kept f (nat_abs f) m (8 - (nat_abs f + m)) s.from

ends : (a : ℤ) (n : ℕ) → (int_le (pos 0) a && int_le (a +ℤ pos n) (pos 0 +ℤ pos 2048)) ≡ true → (pos 0 ≤ℤ a) × ((a +ℤ pos n) ≤ℤ pos 2048)
ends a n h = grind (arith, ints)

same_rows : {cs cs' rs rs' : List ℤ} → cs ≡ cs' → rs ≡ rs' → keys_in_rows cs rs ≡ keys_in_rows cs' rs'
same_rows e f i = keys_in_rows (e i) (f i)

pub parts_same : PartsAreCells
unfolding cells
parts_same a w h l =
    let x : (pos 0 ≤ℤ a.x) × ((a.x +ℤ pos a.w) ≤ℤ pos 2048) = ends a.x a.w (and_left _ _ l) in
    let y : (pos 0 ≤ℤ a.y) × ((a.y +ℤ pos a.h) ≤ℤ pos 2048) = ends a.y a.h (and_right _ _ l) in
    kept_map cell (meets a) (common a) (keys_in_rows (count_from (pos 0) 8) (count_from (pos 0) 8))
    ∙ ap (map (λ k. common a (cell k))) (rows_kept (met a.x a.w) (met a.y a.h) (count_from (pos 0) 8) (count_from (pos 0) 8)
    ∙ same_rows (pieces_kept a.x a.w w x.0 x.1) (pieces_kept a.y a.h h y.0 y.1))
