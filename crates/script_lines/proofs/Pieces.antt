-- The pieces of a list between the items that pass a test, and the fields of a line.
use Rattle.std.proofs.Common.{◌≡◌, ◌∙◌, ℕ, ◌+◌, ◌-◌, ◌<◌, ◌≤◌, Bool, true, false, cond, List, [], ◌∷◌, ◌++◌, length, map, get_or, take, drop, ap, sym, refl, ◌||◌, append_assoc, eq-or-lt_of_le, inl, inr, arith}
use Rattle.std.specs.Prelude.{◌==◌}
use Rattle.std.specs.List.{All, slice_split, onto_first, count_by, position_or_len, filter}
use Rattle.script_lines.specs.Fronts.{is_some_field}
use Rattle.script_lines.specs.Lines.{is_blank, fields, lines}
use Rattle.std.proofs.lemmas.List.{get_or-drop, length-drop, length-take-le, get_or-take, take_more, map-append}
use Rattle.std.proofs.Math.Seq.{take-add}
use Rattle.std.proofs.lemmas.List.Sums.{position_or_len_is}
use Rattle.std.proofs.lemmas.List.Splits.{slice_split_at, slice_split_none, slice_split_first, length-slice_split}
use Rattle.std.proofs.lemmas.List.Elements.{All-from_get_or, filter-append}

module _ (p : ℕ → Bool) where
  -- none from place i up to j passes
  abbrev pub NonePasses : List ℕ → ℕ → ℕ → Type 0
  NonePasses xs i j = (k : ℕ) → i ≤ k → k < j → p (get_or xs k 0) ≡ false

  pub none_more : (xs : List ℕ) (i j : ℕ) → NonePasses xs i j → p (get_or xs j 0) ≡ false → NonePasses xs i (j + 1)
  none_more xs i j none next k low high = elim (eq-or-lt_of_le {n = k} {m = j} (omega (arith, high))) [
    | inl e ↦ ap (λ n. p (get_or xs n 0)) e ∙ next
    | inr below ↦ none k low below
  ]

  -- the first piece ends where an item passes
  pub first_piece : (xs : List ℕ) (j : ℕ) → j < length xs → NonePasses xs 0 j → p (get_or xs j 0) ≡ true → slice_split p xs ≡ take j xs ∷ slice_split p (drop (j + 1) xs)
  first_piece xs j h none passes =
      let place : position_or_len p xs ≡ j = position_or_len_is p xs j 0 (omega (arith, h)) (λ k below. none k (omega arith) below) (λ _. passes) in
      slice_split_first p xs 0 (omega (arith, place, h)) ∙ (λ t. take (place t) xs ∷ slice_split p (drop (place t + 1) xs))

  onto_first-append : (x : ℕ) (xs : List ℕ) (parts : List (List ℕ)) → onto_first x (slice_split p xs ++ parts) ≡ onto_first x (slice_split p xs) ++ parts
  onto_first-append x xs parts = go (slice_split p xs) (length-slice_split p xs)
    where
      go : (first : List (List ℕ)) → length first ≡ count_by p xs + 1 → onto_first x (first ++ parts) ≡ onto_first x first ++ parts
      go [] e = absurd (omega arith)
      go (part ∷ others) e = refl

  -- the pieces of two lists with an item that passes between them
  slice_split-append : (xs : List ℕ) (y : ℕ) (ys : List ℕ) → p y ≡ true → slice_split p (xs ++ y ∷ ys) ≡ slice_split p xs ++ slice_split p ys
  slice_split-append [] y ys h = rw h refl
  slice_split-append (x ∷ xs) y ys h = at (p x) (slice_split-append xs y ys h)
    where
      at : (b : Bool) → slice_split p (xs ++ y ∷ ys) ≡ slice_split p xs ++ slice_split p ys
          → cond b ([] ∷ slice_split p (xs ++ y ∷ ys)) (onto_first x (slice_split p (xs ++ y ∷ ys))) ≡ cond b ([] ∷ slice_split p xs) (onto_first x (slice_split p xs)) ++ slice_split p ys
      at true e = ap (λ l. [] ∷ l) e
      at false e = ap (onto_first x) e ∙ onto_first-append x xs (slice_split p ys)

  -- the only piece is the whole
  pub only_piece : (xs : List ℕ) → NonePasses xs 0 (length xs) → slice_split p xs ≡ xs ∷ []
  only_piece xs none = slice_split_none p xs (All-from_get_or (λ x. p x ≡ false) xs 0 (λ k h. none k (omega arith) h))

-- the lines of two texts with a line feed between them
pub lines-append : (xs ys : List ℕ) → lines (xs ++ 10 ∷ ys) ≡ lines xs ++ lines ys
lines-append xs ys = ap (map fields) (slice_split-append (λ b. b == 10) xs 10 ys refl) ∙ map-append fields (slice_split (λ b. b == 10) xs) (slice_split (λ b. b == 10) ys)

-- the items from place i up to j
abbrev pub piece : List ℕ → ℕ → ℕ → List ℕ
piece xs i j = take (j - i) (drop i xs)

-- the items before the first i are done, and their fields found
abbrev pub IsDone : List ℕ → ℕ → List (List ℕ) → Type 0
IsDone xs i done = (tail : List ℕ) → fields (take i xs ++ tail) ≡ done ++ fields tail

module _ (xs : List ℕ) (i j : ℕ) (low : i ≤ j) (high : j ≤ length xs) (none : NonePasses is_blank xs i j) where
  no_blank : All (λ b. is_blank b ≡ false) (piece xs i j)
  no_blank =
      let size : length (piece xs i j) ≡ j - i = length-take-le (j - i) (drop i xs) (omega (arith, length-drop i xs, high)) in
      All-from_get_or (λ b. is_blank b ≡ false) (piece xs i j) 0 (λ k h. ap is_blank (get_or-take (j - i) (drop i xs) k 0 (omega (arith, h, size)) ∙ get_or-drop i xs k 0) ∙ none (i + k) (omega arith) (omega (arith, h, size, low)))

  up_to : take j xs ≡ take i xs ++ piece xs i j
  up_to =
      let there : j ≡ i + (j - i) = omega (arith, low) in
      ap (λ n. take n xs) there ∙ take-add i (j - i) xs

  -- at the end of a line
  pub line_done : (done : List (List ℕ)) → IsDone xs i done → fields (take j xs) ≡ done ++ filter is_some_field (piece xs i j ∷ [])
  line_done done so_far = ap fields up_to ∙ (so_far (piece xs i j) ∙ ap (λ l. done ++ filter is_some_field l) (slice_split_none is_blank (piece xs i j) no_blank))

  -- at a blank
  pub piece_done : (done : List (List ℕ)) → j < length xs → is_blank (get_or xs j 0) ≡ true → IsDone xs i done → IsDone xs (j + 1) (done ++ filter is_some_field (piece xs i j ∷ []))
  piece_done done h blank so_far tail =
      let p = piece xs i j in
      let b = get_or xs j 0 in
      let cut : take (j + 1) xs ++ tail ≡ take i xs ++ (p ++ b ∷ tail) =
      ap (λ l. l ++ tail) (take_more xs j 0 h) ∙ (append_assoc (take j xs) (b ∷ []) tail ∙ (ap (λ l. l ++ b ∷ tail) up_to ∙ append_assoc (take i xs) p (b ∷ tail))) in
      let found : fields (p ++ b ∷ tail) ≡ filter is_some_field (p ∷ []) ++ fields tail =
      ap (filter is_some_field) (slice_split_at is_blank p b tail no_blank blank) ∙ filter-append is_some_field (p ∷ []) (slice_split is_blank tail) in
      ap fields cut ∙ (so_far (p ++ b ∷ tail) ∙ (ap (λ l. done ++ l) found ∙ sym (append_assoc done (filter is_some_field (p ∷ [])) (fields tail))))

-- one of two facts holds, and the other doesn't; or neither does
pub left_holds : (a b : Bool) → (a || b) ≡ true → b ≡ false → a ≡ true
left_holds true b h k = refl
left_holds false b h k = absurd (cc (h, k))

pub or_false_left : (a b : Bool) → (a || b) ≡ false → a ≡ false
or_false_left true b h = absurd (cc h)
or_false_left false b h = refl

pub or_false_right : (a b : Bool) → (a || b) ≡ false → b ≡ false
or_false_right true b h = absurd (cc h)
or_false_right false b h = h
