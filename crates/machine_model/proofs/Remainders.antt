-- What is left as a tile or a pair is published, and as a slot changes.
use Rattle.std.proofs.Common.{◌≡◌, ℕ, suc, zero, ◌+◌, ◌*◌, ◌<◌, ◌≤◌, Bool, true, false, ◌||◌, not, cond, List, [], ◌∷◌, Some, length, refl, sym, ap, ◌∙◌, arith, subst, eqb, ◌⊎◌, inl, inr}
use Rattle.std.specs.Prelude.{slice_get, slice_set}
use Rattle.std.specs.List.{filter, list_any}
use Rattle.std.proofs.lemmas.Bool.Decides.{nat_tests}
use Rattle.geom_core.proofs.Tests.{true_or_false, or_left, or_cases, both_true, equal_test}
use Rattle.geom_core.proofs.Tiles.{key_same, key_is}
use Rattle.geom_core.specs.Grid.{Key, same_key}
use Rattle.machine_model.specs.State.{Slot}
use Rattle.machine_model.specs.Groups.{on}
use Rattle.machine_model.specs.Guards.{same_pair}
use Rattle.machine_model.specs.Remaining.{tiles_left, group_left, pairs_left, slot_left, slots_left}
use Rattle.std.proofs.lemmas.Bool.{eqb-true}

-- no more pass a test than there are
pub filtered_few : {A : Type 0} (f : A → Bool) (xs : List A) → length (filter f xs) ≤ length xs
filtered_few f [] = omega arith
filtered_few f (x ∷ xs) = go (f x) (filtered_few f xs)
  where
    go : (b : Bool) → length (filter f xs) ≤ length xs → length (cond b (x ∷ filter f xs) (filter f xs)) ≤ suc (length xs)
    go true h = omega arith
    go false h = omega arith

-- what passes a stricter test is no more
fewer : {A : Type 0} (f g : A → Bool) → ((x : A) → g x ≡ true → f x ≡ true) → (xs : List A) → length (filter g xs) ≤ length (filter f xs)
fewer f g so [] = omega arith
fewer f g so (x ∷ xs) = go (f x) (g x) (so x) (fewer f g so xs)
  where
    go : (a b : Bool) → (b ≡ true → a ≡ true) → length (filter g xs) ≤ length (filter f xs) → length (cond b (x ∷ filter g xs) (filter g xs)) ≤ length (cond a (x ∷ filter f xs) (filter f xs))
    go true true h m = omega arith
    go true false h m = omega arith
    go false false h m = omega arith
    go false true h m = let t : false ≡ true = h refl in cc

-- and less where an item no longer passes it
one_fewer : {A : Type 0} (f g t : A → Bool) → ((x : A) → g x ≡ true → f x ≡ true) → ((x : A) → t x ≡ true → (f x ≡ true) × (g x ≡ false)) → (xs : List A) → list_any t xs ≡ true → length (filter g xs) < length (filter f xs)
one_fewer f g t so at [] there = cc
one_fewer f g t so at (x ∷ xs) there = go (true_or_false (t x)) (one_fewer f g t so at xs)
  where
    here : (a b : Bool) → a ≡ true → b ≡ false → length (filter g xs) ≤ length (filter f xs) → length (cond b (x ∷ filter g xs) (filter g xs)) < length (cond a (x ∷ filter f xs) (filter f xs))
    here true false p q m = omega arith
    here false b p q m = cc
    here true true p q m = cc

    later : (a b : Bool) → (b ≡ true → a ≡ true) → length (filter g xs) < length (filter f xs) → length (cond b (x ∷ filter g xs) (filter g xs)) < length (cond a (x ∷ filter f xs) (filter f xs))
    later true true h m = omega arith
    later true false h m = omega arith
    later false false h m = omega arith
    later false true h m = let e : false ≡ true = h refl in cc

    rest : t x ≡ false → list_any t xs ≡ true
    rest no_x = elim (or_cases (t x) (list_any t xs) there) [ inl e ↦ absurd (let f : true ≡ false = sym e ∙ no_x in cc) | inr e ↦ e ]

    go : (t x ≡ true) ⊎ (t x ≡ false) → (list_any t xs ≡ true → length (filter g xs) < length (filter f xs)) → length (filter g (x ∷ xs)) < length (filter f (x ∷ xs))
    go (inl yes_x) more = here (f x) (g x) (at x yes_x).0 (at x yes_x).1 (fewer f g so xs)
    go (inr no_x) more = later (f x) (g x) (so x) (more (rest no_x))

not_either : (a b : Bool) → not (a || b) ≡ true → not b ≡ true
not_either true b h = cc
not_either false b h = h

-- a tile that was published is no longer left
pub tile_spent : (key : Key) (published keys : List Key) → list_any (same_key key) keys ≡ true → list_any (same_key key) published ≡ false → length (tiles_left (key ∷ published) keys) < length (tiles_left published keys)
tile_spent key published keys there fresh = one_fewer
    (λ k. not (list_any (same_key k) published)) (λ k. not (list_any (same_key k) (key ∷ published))) (same_key key)
    (λ k h. not_either (same_key k key) (list_any (same_key k) published) h) at keys there
  where
    at : (k : Key) → same_key key k ≡ true → (not (list_any (same_key k) published) ≡ true) × (not (list_any (same_key k) (key ∷ published)) ≡ false)
    at k e = (
      subst (λ l. not (list_any (same_key l) published) ≡ true) (key_same key k e) (ap not fresh),
      ap not (or_left (same_key k key) (list_any (same_key k) published) (key_is k key (sym (key_same key k e)))),
    )

-- what is left of any group is no more
group_kept : (g : ℕ) (key : Key) (published : List (ℕ × Key)) (keys : List Key) (h : ℕ) → length (group_left ((g, key) ∷ published) keys h) ≤ length (group_left published keys h)
group_kept g key published keys h = fewer (λ k. not (list_any (same_pair h k) published)) (λ k. not (list_any (same_pair h k) ((g, key) ∷ published))) (λ k e. not_either (same_pair h k (g, key)) (list_any (same_pair h k) published) e) keys

pairs_kept : (g : ℕ) (key : Key) (published : List (ℕ × Key)) (keys : List Key) (gs : List ℕ) → pairs_left ((g, key) ∷ published) keys gs ≤ pairs_left published keys gs
pairs_kept g key published keys [] = omega arith
pairs_kept g key published keys (h ∷ gs) =
    let a : length (group_left ((g, key) ∷ published) keys h) ≤ length (group_left published keys h) = group_kept g key published keys h in
    let b : pairs_left ((g, key) ∷ published) keys gs ≤ pairs_left published keys gs = pairs_kept g key published keys gs in
    omega arith

group_spent : (g : ℕ) (key : Key) (published : List (ℕ × Key)) (keys : List Key) → list_any (same_key key) keys ≡ true → list_any (same_pair g key) published ≡ false → length (group_left ((g, key) ∷ published) keys g) < length (group_left published keys g)
group_spent g key published keys there fresh = one_fewer
    (λ k. not (list_any (same_pair g k) published)) (λ k. not (list_any (same_pair g k) ((g, key) ∷ published))) (same_key key)
    (λ k e. not_either (same_pair g k (g, key)) (list_any (same_pair g k) published) e) at keys there
  where
    at : (k : Key) → same_key key k ≡ true → (not (list_any (same_pair g k) published) ≡ true) × (not (list_any (same_pair g k) ((g, key) ∷ published)) ≡ false)
    at k e = (
      subst (λ l. not (list_any (same_pair g l) published) ≡ true) (key_same key k e) (ap not fresh),
      ap not (or_left (same_pair g k (g, key)) (list_any (same_pair g k) published) (both_true _ _ (equal_test g) (key_is k key (sym (key_same key k e))))),
    )

-- a pair that was published is no longer left
pub pair_spent : (g : ℕ) (key : Key) (published : List (ℕ × Key)) (keys : List Key) (gs : List ℕ) → on g gs ≡ true → list_any (same_key key) keys ≡ true → list_any (same_pair g key) published ≡ false → pairs_left ((g, key) ∷ published) keys gs < pairs_left published keys gs
pair_spent g key published keys [] on_path there fresh = cc
pair_spent g key published keys (h ∷ gs) on_path there fresh = elim (or_cases (eqb h g) (on g gs) on_path) [
  | inl e ↦
      let s : length (group_left ((g, key) ∷ published) keys h) < length (group_left published keys h) = subst (λ q. length (group_left ((g, key) ∷ published) keys q) < length (group_left published keys q)) (sym (eqb-true h g e)) (group_spent g key published keys there fresh) in
      let m : pairs_left ((g, key) ∷ published) keys gs ≤ pairs_left published keys gs = pairs_kept g key published keys gs in
      omega arith
  | inr e ↦
      let s : length (group_left ((g, key) ∷ published) keys h) ≤ length (group_left published keys h) = group_kept g key published keys h in
      let m : pairs_left ((g, key) ∷ published) keys gs < pairs_left published keys gs = pair_spent g key published keys gs e there fresh in
      omega arith
]

-- no more pairs are left than there are
pub pairs_few : (published : List (ℕ × Key)) (keys : List Key) (gs : List ℕ) → pairs_left published keys gs ≤ length gs * length keys
pairs_few published keys [] = omega arith
pairs_few published keys (g ∷ gs) =
    let a : length (group_left published keys g) ≤ length keys = filtered_few _ keys in
    let b : pairs_left published keys gs ≤ length gs * length keys = pairs_few published keys gs in
    omega arith

-- what a slot gives up, and what it takes
pub slot_spent : (slots : List Slot) (i : ℕ) (x y : Slot) → slice_get slots i ≡ Some x → slots_left (slice_set slots i y) + slot_left x ≡ slots_left slots + slot_left y
slot_spent [] i x y e = cc
slot_spent (z ∷ slots) zero x y e = let same : z ≡ x = cc in let w : slot_left z ≡ slot_left x = ap slot_left same in omega arith
slot_spent (z ∷ slots) (suc i) x y e = let h : slots_left (slice_set slots i y) + slot_left x ≡ slots_left slots + slot_left y = slot_spent slots i x y e in omega arith
