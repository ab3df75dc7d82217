-- Lists in which others take the place of some items.
use Rattle.std.proofs.Common.{◌≡◌, ℕ, suc, ◌+◌, ◌-◌, ◌<◌, ◌≤◌, List, [], ◌∷◌, ◌++◌, get_or, length, take, drop, map, sym, ap, ◌∙◌, subst, arith}
use Rattle.std.specs.Prelude.{slice_range}
use Rattle.std.proofs.lemmas.Grind.{common_steps}
use Rattle.std.proofs.lemmas.List.{map-append, take-map, drop-map, drop_more, length-take-le, take-append-drop}
use Rattle.tree_core.specs.Exchanges.{replaced}

past : {A : Type 0} (xs : List A) (n : ℕ) (ys : List A) → drop (length xs + n) (xs ++ ys) ≡ drop n ys
past [] n ys = ap (λ m. drop m ys) (let z : 0 + n ≡ n = omega arith in z)
past (x ∷ xs) n ys = ap (λ m. drop m (x ∷ (xs ++ ys))) (let z : suc (length xs) + n ≡ suc (length xs + n) = omega arith in z) ∙ past xs n ys

past_all : {A : Type 0} (xs ys : List A) → drop (length xs) (xs ++ ys) ≡ ys
past_all xs ys = ap (λ n. drop n (xs ++ ys)) (let z : length xs ≡ length xs + 0 = omega arith in z) ∙ past xs 0 ys

-- what is made of each item is made of those in place too
pub map_replaced : {A B : Type 0} (f : A → B) (at count : ℕ) (others xs : List A) → map f (replaced at count others xs) ≡ replaced at count (map f others) (map f xs)
map_replaced f at count others xs =
    map-append f (take at xs) (others ++ drop (at + count) xs)
    ∙ ap (λ ys. map f (take at xs) ++ ys) (map-append f others (drop (at + count) xs))
    ∙ (λ i. sym (take-map f at xs) i ++ (map f others ++ sym (drop-map f (at + count) xs) i))

module _ {A : Type 0} (at count : ℕ) (others xs : List A) (low : at + count ≤ length xs) where
  front_length : length (take at xs) ≡ at
  front_length = length-take-le at xs (omega (arith, low))

  front_kept : take at (replaced at count others xs) ≡ take at xs
  front_kept = grind (arith, common_steps)

  back_kept : drop (at + length others) (replaced at count others xs) ≡ drop (at + count) xs
  back_kept =
      ap (λ n. drop (n + length others) (replaced at count others xs)) (sym front_length)
      ∙ past (take at xs) (length others) (others ++ drop (at + count) xs) ∙ past_all others (drop (at + count) xs)

  whole_again : take at xs ++ (slice_range xs at (at + count) ++ drop (at + count) xs) ≡ xs
  whole_again =
      ap (λ n. take at xs ++ (take n (drop at xs) ++ drop (at + count) xs)) taken
      ∙ ap (λ ys. take at xs ++ (take count (drop at xs) ++ ys)) rest
      ∙ ap (λ ys. take at xs ++ ys) (take-append-drop count (drop at xs)) ∙ take-append-drop at xs
    where
      taken : at + count - at ≡ count
      taken = omega arith

      rest : drop (at + count) xs ≡ drop count (drop at xs)
      rest = grind (arith, common_steps)

  -- those that made way come back
  pub replaced_back : replaced at (length others) (slice_range xs at (at + count)) (replaced at count others xs) ≡ xs
  replaced_back = (λ i. front_kept i ++ (slice_range xs at (at + count) ++ back_kept i)) ∙ whole_again

-- another list is made of its own part between a front and a back that both have
pub replaced_there : {A : Type 0} (here there : List A) (at back : ℕ) → at + back ≤ length here → at + back ≤ length there → take at here ≡ take at there
    → drop (length here - back) here ≡ drop (length there - back) there
    → replaced at (length here - at - back) (slice_range there at (length there - back)) here ≡ there
replaced_there here there at back h i front end =
    let place : at + (length here - at - back) ≡ length here - back = omega (arith, h) in
    let next : at + (length there - back - at) ≡ length there - back = omega (arith, i) in
    (λ j. front j ++ (slice_range there at (length there - back) ++ (ap (λ n. drop n here) place ∙ end) j))
    ∙ (λ j. take at there ++ (slice_range there at (sym next j) ++ drop (sym next j) there))
    ∙ whole_again at (length there - back - at) [] there (omega (arith, i))

-- a back that both have is longer by an item
pub one_back : {A : Type 0} (xs ys : List A) (b : ℕ) (d : A) → b < length xs → b < length ys → get_or xs (length xs - 1 - b) d ≡ get_or ys (length ys - 1 - b) d → drop (length xs - b) xs ≡ drop (length ys - b) ys
    → drop (length xs - (b + 1)) xs ≡ drop (length ys - (b + 1)) ys
one_back xs ys b d h i same end = longer xs b d h ∙ (λ i. same i ∷ end i) ∙ sym (longer ys b d i)
  where
    longer : {A : Type 0} (xs : List A) (b : ℕ) (d : A) → b < length xs → drop (length xs - (b + 1)) xs ≡ get_or xs (length xs - 1 - b) d ∷ drop (length xs - b) xs
    longer xs b d h =
        let at : length xs - (b + 1) ≡ length xs - 1 - b = omega arith in
        let next : length xs - 1 - b + 1 ≡ length xs - b = omega (arith, h) in
        ap (λ n. drop n xs) at ∙ drop_more xs (length xs - 1 - b) d (omega (arith, h)) ∙ ap (λ n. get_or xs (length xs - 1 - b) d ∷ drop n xs) next

-- the back of a list's part from a place on is that of the list
pub back_from : {A : Type 0} (xs : List A) (at b : ℕ) → at ≤ length xs → b ≤ length (take (length xs - at) (drop at xs))
    → drop (length (take (length xs - at) (drop at xs)) - b) (take (length xs - at) (drop at xs)) ≡ drop (length xs - b) xs
back_from xs at b h few =
    let rest : take (length xs - at) (drop at xs) ≡ drop at xs = grind (arith, common_steps) in
    let long : length (drop at xs) ≡ length xs - at = grind (arith, common_steps) in
    let low : b ≤ length xs - at = subst (λ n. b ≤ n) (ap length rest ∙ long) few in
    let place : length xs - at - b + at ≡ length xs - b = omega (arith, low, h) in
    (λ i. drop (ap length rest i - b) (rest i)) ∙ ap (λ n. drop (n - b) (drop at xs)) long ∙ moved (length xs - at - b) ∙ ap (λ n. drop n xs) place
  where
    moved : (n : ℕ) → drop n (drop at xs) ≡ drop (n + at) xs
    moved n = grind (arith, common_steps)

pub fits_back : {A : Type 0} (xs : List A) (at b : ℕ) → at ≤ length xs → b ≤ length (take (length xs - at) (drop at xs)) → at + b ≤ length xs
fits_back xs at b h few = grind (arith, common_steps)
