-- A part that is moved among other nodes.
use Rattle.std.proofs.Common.{◌≡◌, ℕ, suc, ◌+◌, ◌-◌, ◌<◌, ◌≤◌, List, [], ◌∷◌, ◌++◌, map, length, get_or, set, take, drop, sym, ap, ◌∙◌, arith, append_assoc}
use Rattle.std.specs.Prelude.{slice_range}
use Rattle.std.specs.List.{remove_range}
use Rattle.std.proofs.lemmas.List.{length-map, map_more}
use Rattle.std.proofs.lemmas.Grind.{common_steps}
use Rattle.std.proofs.lemmas.Slice.{between_is}
use borrow.Rule.Slice.PartMut.{mid_of, put_mid}
use Rattle.tree_core.specs.declared.node.Node.{Node}
use Rattle.tree_core.proofs.Passes.{next_node}
use Rattle.tree_core.proofs.Looks.{set_at, get_at}

-- the part is set in after so many of the others
abbrev pub set_after : ℕ → ℕ → ℕ → List Node → List Node
set_after s e at xs = take at (remove_range xs s e) ++ (slice_range xs s e ++ drop at (remove_range xs s e))

-- the nodes of a list with the first of those after it
take_past : (xs ys : List Node) (n : ℕ) → take (length xs + n) (xs ++ ys) ≡ xs ++ take n ys
take_past [] ys n = ap (λ m. take m ys) (let z : 0 + n ≡ n = omega arith in z)
take_past (x ∷ xs) ys n = ap (λ m. take m (x ∷ (xs ++ ys))) (let z : suc (length xs) + n ≡ suc (length xs + n) = omega arith in z) ∙ ap (λ zs. x ∷ zs) (take_past xs ys n)

-- those after a list and after the first that follow it
drop_past : (xs ys : List Node) (n : ℕ) → drop (length xs + n) (xs ++ ys) ≡ drop n ys
drop_past [] ys n = ap (λ m. drop m ys) (let z : 0 + n ≡ n = omega arith in z)
drop_past (x ∷ xs) ys n = ap (λ m. drop m (x ∷ (xs ++ ys))) (let z : suc (length xs) + n ≡ suc (length xs + n) = omega arith in z) ∙ drop_past xs ys n

module _ (xs ys : List Node) (s e at : ℕ) (order : s ≤ e) (low : e ≤ length xs) where
  -- the nodes from its new place on are turned, so that the part comes before them
  pub moved_back : at ≤ s → ys ≡ drop (s - at) (mid_of at (e - at) xs) ++ take (s - at) (mid_of at (e - at) xs) → put_mid at (e - at) xs ys ≡ set_after s e at xs
  moved_back h so =
      ap (λ zs. take at xs ++ (zs ++ drop (e - at) (drop at xs))) (so ∙ ap (λ zs. zs ++ take (s - at) (mid_of at (e - at) xs)) part ∙ ap (λ zs. slice_range xs s e ++ zs) between)
      ∙ ap (λ zs. take at xs ++ ((slice_range xs s e ++ take (s - at) (drop at xs)) ++ zs)) after
      ∙ ap (λ zs. take at xs ++ zs) (append_assoc (slice_range xs s e) (take (s - at) (drop at xs)) (drop e xs))
      ∙ ap (λ zs. zs ++ (slice_range xs s e ++ (take (s - at) (drop at xs) ++ drop e xs))) (sym front) ∙ ap (λ zs. take at (remove_range xs s e) ++ (slice_range xs s e ++ zs)) (sym back)
    where
      part : drop (s - at) (mid_of at (e - at) xs) ≡ slice_range xs s e
      part = grind (arith, common_steps, between_is)

      between : take (s - at) (mid_of at (e - at) xs) ≡ take (s - at) (drop at xs)
      between = grind (arith, common_steps)

      after : drop (e - at) (drop at xs) ≡ drop e xs
      after = grind (arith, common_steps)

      front : take at (remove_range xs s e) ≡ take at xs
      front = grind (arith, common_steps)

      back : drop at (remove_range xs s e) ≡ take (s - at) (drop at xs) ++ drop e xs
      back = grind (arith, common_steps, between_is)

  -- the nodes up to its new place are turned, so that the part comes after them
  pub moved_on : s < at → at + (e - s) ≤ length xs → ys ≡ drop (e - s) (mid_of s (at + (e - s) - s) xs) ++ take (e - s) (mid_of s (at + (e - s) - s) xs) → put_mid s (at + (e - s) - s) xs ys ≡ set_after s e at xs
  moved_on h in_it so =
      ap (λ zs. take s xs ++ (zs ++ drop (at + (e - s) - s) (drop s xs))) (so ∙ ap (λ zs. zs ++ take (e - s) (mid_of s (at + (e - s) - s) xs)) between ∙ ap (λ zs. take (at - s) (drop e xs) ++ zs) part)
      ∙ ap (λ zs. take s xs ++ zs) (append_assoc (take (at - s) (drop e xs)) (slice_range xs s e) (drop (at + (e - s) - s) (drop s xs))) ∙ sym (append_assoc (take s xs) (take (at - s) (drop e xs)) (slice_range xs s e ++ drop (at + (e - s) - s) (drop s xs)))
      ∙ ap (λ zs. zs ++ (slice_range xs s e ++ drop (at + (e - s) - s) (drop s xs))) (sym front) ∙ ap (λ zs. take at (remove_range xs s e) ++ (slice_range xs s e ++ zs)) (after ∙ sym back)
    where
      part : take (e - s) (mid_of s (at + (e - s) - s) xs) ≡ slice_range xs s e
      part = grind (arith, common_steps)

      between : drop (e - s) (mid_of s (at + (e - s) - s) xs) ≡ take (at - s) (drop e xs)
      between = sym (between_is (drop s xs) (e - s) (at + (e - s) - s)) ∙ ap (λ n. take n (drop (e - s) (drop s xs))) (let n : at + (e - s) - s - (e - s) ≡ at - s = omega arith in n) ∙ ap (take (at - s)) (let r : drop (e - s) (drop s xs) ≡ drop e xs = grind (arith, common_steps) in r)

      after : drop (at + (e - s) - s) (drop s xs) ≡ drop (at + (e - s)) xs
      after = grind (arith, common_steps)

      many : at ≡ length (take s xs) + (at - s)
      many = grind (arith, common_steps)

      front : take at (remove_range xs s e) ≡ take s xs ++ take (at - s) (drop e xs)
      front = ap (λ n. take n (remove_range xs s e)) many ∙ take_past (take s xs) (drop e xs) (at - s)

      back : drop at (remove_range xs s e) ≡ drop (at + (e - s)) xs
      back = ap (λ n. drop n (remove_range xs s e)) many ∙ drop_past (take s xs) (drop e xs) (at - s) ∙ grind (arith, common_steps)

-- one node more is changed
pub one_changed : (change : Node → Node) (old now : List Node) (i : ℕ) (d : Node) → now ≡ map change (take i old) ++ drop i old → i < length old → set now i (change (get_or now i d)) ≡ map change (take (i + 1) old) ++ drop (i + 1) old
one_changed change old now i d so h =
    ap (λ xs. set xs i (change (get_or xs i d))) split ∙ ap (λ n. set (front ++ (x ∷ rest)) n (change (get_or (front ++ (x ∷ rest)) n d))) (sym many)
    ∙ ap (λ y. set (front ++ (x ∷ rest)) (length front) (change y)) (get_at front x d rest) ∙ set_at front x (change x) rest
    ∙ sym (append_assoc front (change x ∷ []) rest) ∙ ap (λ xs. xs ++ rest) (sym (map_more change old i d h))
  where
    x : Node
    x = get_or old i d

    rest : List Node
    rest = drop (i + 1) old

    front : List Node
    front = map change (take i old)

    many : length front ≡ i
    many = length-map (take i old) change ∙ grind (arith, common_steps)

    split : now ≡ front ++ (x ∷ rest)
    split = so ∙ ap (λ xs. front ++ xs) (next_node old i d h)
