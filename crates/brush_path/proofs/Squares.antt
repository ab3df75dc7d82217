-- The squares of a track by their places.
use Rattle.std.proofs.Common.{rules, inl, inr, ◌≡◌, ℕ, suc, zero, ◌+◌, Bool, true, false, ◌&&◌, List, [], ◌∷◌, ◌++◌, map, drop, Option, Some, None, sym, ap, ◌∙◌, subst, arith}
use borrow.Author.Differences.{ints}
use Rattle.std.specs.Prelude.{ℤ, pos, ◌⊎◌, ◌≤ℤ◌, int_le, int_lt, slice_get, Result, Ok, Err, OnErr, IsOk}
use Rattle.std.specs.List.{list_all}
use Rattle.std.specs.Option.{option_map}
use Rattle.std.proofs.lemmas.Option.{slice_get-map}
use Rattle.geom_core.specs.Areas.{Point, point, Area, holds, right, world}
use Rattle.geom_core.specs.contracts.key.TileKeyPartialEq.TheImpl as keys
use Rattle.brush_path.specs.contracts.cells.EndsPartialEq.TheImpl as derived
use Rattle.geom_core.specs.Grid.{Key, key_cmp, keys_of, all_keys_of}
use Rattle.geom_core.proofs.Tests.{and_left, and_right, both_true}
use Rattle.std.specs.BTreeSet.{insert_key}
use Rattle.std.specs.List.Sorted.{IsStrictlySortedBy}
use Rattle.brush_path.specs.declared.cells.Ends.{Ends}
use Rattle.doc_model.specs.Trails.{Trail, centres}
use Rattle.doc_model.specs.Jobs.{square, squares}
use Rattle.brush_path.specs.Cells.{cells}
use Rattle.brush_path.specs.Gathered.{in_order, keys_between}
use Rattle.brush_path.proofs.Ordered.{in_order-append, in_order_again, none_sorted, sorted_in_order}
use Rattle.brush_path.proofs.Tiled.{cells_gathered}

pub get_square : (t : Trail) (i : ℕ) (x y : ℤ) → Some (point x y) ≡ slice_get (centres t) i → slice_get (squares t) i ≡ Some (square x y t.stamp.r)
get_square t i x y e = slice_get-map (λ (c : Point). square c.x c.y t.stamp.r) (centres t) i ∙ ap (option_map (λ (c : Point). square c.x c.y t.stamp.r)) (sym e)

pub passes_at : {A : Type 0} (f : A → Bool) (xs : List A) (i : ℕ) (a : A) → list_all f xs ≡ true → slice_get xs i ≡ Some a → f a ≡ true
passes_at f [] i a h e = cc
passes_at f (x ∷ xs) zero a h e = let same : x ≡ a = cc in ap f (sym same) ∙ and_left (f x) (list_all f xs) h
passes_at f (x ∷ xs) (suc i) a h e = passes_at f xs i a (and_right (f x) (list_all f xs) h) e

pub ok_where : {E : Type 0} (r : Result Area E) (b : Bool) → b ≡ true → OnErr r (b ≡ false) → IsOk r
ok_where (Ok a) b t f = search
ok_where (Err e) b t f = absurd (never (sym t ∙ f))
  where
    never : true ≡ false → ⊥
    never h = cc

-- the element at a place, and those behind it
pub drop_at : {A : Type 0} (xs : List A) (i : ℕ) (a : A) → slice_get xs i ≡ Some a → drop i xs ≡ (a ∷ drop (i + 1) xs)
drop_at [] i a e = cc
drop_at (x ∷ xs) zero a e = let same : x ≡ a = cc in ap (λ y. y ∷ xs) same
drop_at (x ∷ xs) (suc i) a e = let next : suc (i + 1) ≡ suc i + 1 = omega arith in drop_at xs i a e ∙ ap (λ k. a ∷ drop k (x ∷ xs)) next

pub one_inserted : (ks keys new : List Key) (i : ℕ) (k : Key) → slice_get keys i ≡ Some k → new ≡ insert_key key_cmp ks k → in_order new (drop (i + 1) keys) ≡ in_order ks (drop i keys)
one_inserted ks keys new i k e n = ap (λ m. in_order m (drop (i + 1) keys)) n ∙ sym (ap (in_order ks) (drop_at keys i k e))

one_added : (ks : List Key) (areas : List Area) (i : ℕ) (a : Area) → slice_get areas i ≡ Some a → in_order (in_order ks (keys_of a)) (all_keys_of (drop (i + 1) areas)) ≡ in_order ks (all_keys_of (drop i areas))
one_added ks areas i a e =
    sym (in_order-append ks (keys_of a) (all_keys_of (drop (i + 1) areas)))
    ∙ sym (ap (λ xs. in_order ks (all_keys_of xs)) (drop_at areas i a e))

-- the tiles of the first i dabs are there, in row order, and those of the dab before, by its ends, among them
pub record AreAdded (t : Trail) (i : ℕ) (ks : List Key) (before : Option Ends) : Type 0 where
  pub all : in_order ks (all_keys_of (drop i (squares t))) ≡ cells t
  pub sorted : IsStrictlySortedBy key_cmp ks
  pub again : (e : Ends) → before ≡ Some e → in_order ks (keys_between e.first e.last) ≡ ks

pub none_added : (t : Trail) (ks : List Key) → ks ≡ [] → AreAdded t 0 ks None
none_added t ks e = record {
  all = ap (λ l. in_order l (all_keys_of (squares t))) e ∙ cells_gathered t;
  sorted = subst (IsStrictlySortedBy key_cmp) (sym e) none_sorted;
  again = λ ends is. absurd (cc (is));
}

-- the tiles of one dab more
one_more : (t : Trail) (i : ℕ) (ks new : List Key) (before : Option Ends) (a : Area) (ends : Ends) → slice_get (squares t) i ≡ Some a → keys_between ends.first ends.last ≡ keys_of a → new ≡ in_order ks (keys_of a)
    → AreAdded t i ks before → AreAdded t (i + 1) new (Some ends)
one_more t i ks new before a ends at is e so = record {
  all = ap (λ l. in_order l (all_keys_of (drop (i + 1) (squares t)))) e ∙ one_added ks (squares t) i a at ∙ so.all;
  sorted = subst (IsStrictlySortedBy key_cmp) (sym e) (sorted_in_order ks (keys_of a) so.sorted);
  again = λ other same. there other (cc (same));
}
  where
    there : (other : Ends) → ends ≡ other → in_order new (keys_between other.first other.last) ≡ new
    there other same =
        ap (λ (o : Ends). in_order new (keys_between o.first o.last)) (sym same) ∙ (λ j. in_order (e j) (is j))
        ∙ in_order_again ks (keys_of a) so.sorted ∙ sym e

-- a dab that meets the tiles of the one before
one_again : (t : Trail) (i : ℕ) (ks : List Key) (before : Option Ends) (a : Area) (ends : Ends) → slice_get (squares t) i ≡ Some a → keys_between ends.first ends.last ≡ keys_of a → before ≡ Some ends
    → AreAdded t i ks before → AreAdded t (i + 1) ks before
one_again t i ks before a ends at is same so = record {
  all = ap (λ l. in_order l (all_keys_of (drop (i + 1) (squares t)))) (sym (so.again ends same) ∙ ap (in_order ks) is) ∙ one_added ks (squares t) i a at ∙ so.all;
  sorted = so.sorted;
  again = so.again;
}

-- either way
pub one_step : (t : Trail) (i : ℕ) (ks new : List Key) (before : Option Ends) (a : Area) (ends : Ends) → slice_get (squares t) i ≡ Some a → keys_between ends.first ends.last ≡ keys_of a
    → ((before ≡ Some ends) × (new ≡ ks)) ⊎ (new ≡ in_order ks (keys_of a)) → AreAdded t i ks before → AreAdded t (i + 1) new (Some ends)
one_step t i ks new before a ends at is (inl same) so = subst (λ o. AreAdded t (i + 1) new o) same.0 (subst (λ l. AreAdded t (i + 1) l before) (sym same.1) (one_again t i ks before a ends at is same.0 so))
one_step t i ks new before a ends at is (inr e) so = one_more t i ks new before a ends at is e so

-- equal ends
same_tile : (a b : Key) → (keys.ghosts).eq a b ≡ true → a ≡ b
same_tile a b e = search rules

pub same_ends : (a b : Ends) → (derived.ghosts).eq a b ≡ true → a ≡ b
same_ends a b e =
    let first = same_tile a.first b.first (and_left _ _ e) in
    let last = same_tile a.last b.last (and_right ((keys.ghosts).eq a.first b.first) _ e) in
    λ i. record { first = first i; last = last i }

-- a point of the world
pub world_holds : (x y : ℤ) → world.x ≤ℤ x → x ≤ℤ pos 16383 → world.y ≤ℤ y → y ≤ℤ pos 16383 → holds world (point x y) ≡ true
world_holds x y a b c d = both_true _ _ (within x a b) (within y c d)
  where
    within : (x : ℤ) → world.x ≤ℤ x → x ≤ℤ pos 16383 → (int_le world.x x && int_lt x (right world)) ≡ true
    within x a b = grind (arith, ints)

-- the same where the place and the radius are told otherwise
pub get_square_as : (t : Trail) (i : ℕ) (x y u v : ℤ) (r : ℕ) → Some (point x y) ≡ slice_get (centres t) i → u ≡ x → v ≡ y → r ≡ t.stamp.r → slice_get (squares t) i ≡ Some (square u v r)
get_square_as t i x y u v r e a b s = get_square t i x y e ∙ (λ z. Some (square (sym a z) (sym b z) (sym s z)))
