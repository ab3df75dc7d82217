-- Rectangles round tiles.
use Rattle.std.proofs.Common.{◌≡◌, ℕ, ◌+◌, Bool, true, false, ◌&&◌, ◌||◌, Option, Some, None, is_some, List, [], ◌∷◌, refl, sym, ap, subst, ◌∙◌, inl, inr, arith}
use Rattle.std.specs.Prelude.{ℤ, pos, ◌+ℤ◌, ◌-ℤ◌, int_le, nat_abs, IfSome}
use Rattle.std.specs.Int.{int_min, int_max}
use Rattle.std.specs.List.{list_any, list_all}
use Rattle.std.specs.FinSet as set
use Rattle.std.specs.FinSet.{FinSet}
use borrow.Author.Differences.{ints}
use Rattle.geom_core.proofs.Tests.{and_left, and_right, both_true, or_cases, or_left, or_right, same_bools}
use Rattle.geom_core.proofs.Tiles.{key_same, key_is}
use Rattle.geom_core.proofs.Lying.{lies_trans}
use Rattle.geom_core.proofs.Lying as lying
use Rattle.geom_core.specs.declared.Touched.{Touched}
use Rattle.geom_core.specs.Areas.{Area, area, lies_in}
use Rattle.geom_core.specs.Overlaps.{bound}
use Rattle.geom_core.specs.Grid.{Key, key_cmp, same_key, tile}
use Rattle.geom_core.specs.Keys.{key_cmp_total, key_cmp-IsAntisymmetric}
use Rattle.geom_core.specs.Touches.{bound_of}
use Rattle.geom_core.specs.Exchanged.{IsLeastRound, lies_if, widened, HasTouched}

first_in : (a b : ℤ) (n m : ℕ) → (int_le (int_min a b) a && int_le (a +ℤ pos n) (int_min a b +ℤ pos (nat_abs (int_max (a +ℤ pos n) (b +ℤ pos m) -ℤ int_min a b)))) ≡ true
first_in a b n m = grind (arith, ints)

second_in : (a b : ℤ) (n m : ℕ) → (int_le (int_min a b) b && int_le (b +ℤ pos m) (int_min a b +ℤ pos (nat_abs (int_max (a +ℤ pos n) (b +ℤ pos m) -ℤ int_min a b)))) ≡ true
second_in a b n m = grind (arith, ints)

same_when : (b c d : Bool) → (b ≡ true → c ≡ true) → (b ≡ true → d ≡ true) → (c ≡ true → d ≡ true → b ≡ true) → b ≡ (c && d)
same_when true c d f g h = sym (both_true c d (f refl) (g refl))
same_when false true true f g h = h refl refl
same_when false true false f g h = refl
same_when false false d f g h = refl

-- a rectangle has the bounding rectangle of two where it has both
pub bound_in : (a b d : Area) → lies_in (bound a b) d ≡ (lies_in a d && lies_in b d)
bound_in a b d = same_when (lies_in (bound a b) d) (lies_in a d) (lies_in b d)
    (λ h. lies_trans a (bound a b) d (both_true _ _ (first_in a.x b.x a.w b.w) (first_in a.y b.y a.h b.h)) h)
    (λ h. lies_trans b (bound a b) d (both_true _ _ (second_in a.x b.x a.w b.w) (second_in a.y b.y a.h b.h)) h)
    (λ f g. lying.bound_lies a b d f g)

-- one axis
same_axis : (a b : ℤ) (n m : ℕ) → (int_le b a && int_le (a +ℤ pos n) (b +ℤ pos m)) ≡ true → (int_le a b && int_le (b +ℤ pos m) (a +ℤ pos n)) ≡ true → (a ≡ b) × (n ≡ m)
same_axis a b n m h i = (grind (arith, ints), grind (arith, ints))

-- rectangles that lie in one another are one
same_area : (a b : Area) → lies_in a b ≡ true → lies_in b a ≡ true → a ≡ b
same_area a b h i =
    let x = same_axis a.x b.x a.w b.w (and_left _ _ h) (and_left _ _ i) in
    let y = same_axis a.y b.y a.h b.h (and_right _ _ h) (and_right _ _ i) in
    λ t. area (x.0 t) (y.0 t) (x.1 t) (y.1 t)

itself_axis : (a : ℤ) (n : ℕ) → (int_le a a && int_le (a +ℤ pos n) (a +ℤ pos n)) ≡ true
itself_axis a n = grind (arith, ints)

pub lies_itself : (a : Area) → lies_in a a ≡ true
lies_itself a = both_true _ _ (itself_axis a.x a.w) (itself_axis a.y a.h)

-- whether the tiles of the keys lie in a rectangle
abbrev pub tiles_lie : List Key → Area → Bool
tiles_lie ks d = list_all (λ k. lies_in (tile k) d) ks

-- the least rectangle round the tiles of these keys, or none where there are none
pub record IsRound (o : Option Area) (ks : List Key) : Type 0 where
  pub there : is_some o ≡ list_any (λ k. true) ks
  pub lies : (d : Area) → lies_if o d ≡ tiles_lie ks d

pub fold_lies : (ks : List Key) (d : Area) → lies_if (bound_of ks) d ≡ tiles_lie ks d
fold_lies [] d = refl
fold_lies (k ∷ ks) d = go (bound_of ks) refl (fold_lies ks d)
  where
    and_end : (a : Bool) → a ≡ (a && true)
    and_end true = refl
    and_end false = refl

    go : (o : Option Area) → bound_of ks ≡ o → lies_if (bound_of ks) d ≡ tiles_lie ks d → lies_if (bound_of (k ∷ ks)) d ≡ (lies_in (tile k) d && tiles_lie ks d)
    go None e so = rw e (and_end (lies_in (tile k) d) ∙ ap (λ b. lies_in (tile k) d && b) (ap (λ o. lies_if o d) (sym e) ∙ so))
    go (Some a) e so = rw e (bound_in (tile k) a d ∙ ap (λ b. lies_in (tile k) d && b) (ap (λ o. lies_if o d) (sym e) ∙ so))

pub bound_round : (ks : List Key) → IsRound (bound_of ks) ks
bound_round ks = record { there = some ks; lies = fold_lies ks }
  where
    some : (ks : List Key) → is_some (bound_of ks) ≡ list_any (λ k. true) ks
    some [] = refl
    some (k ∷ ks) = refl

all_member : (P : Key → Bool) (ks : List Key) (q : Key) → list_all P ks ≡ true → list_any (same_key q) ks ≡ true → P q ≡ true
all_member P [] q all h = absurd (no h)
  where
    no : false ≡ true → ⊥
    no e = cc
all_member P (k ∷ ks) q all h = elim (or_cases (same_key q k) (list_any (same_key q) ks) h) [
  | inl e ↦ ap P (key_same q k e) ∙ and_left _ _ all
  | inr e ↦ all_member P ks q (and_right _ _ all) e
]

each_member : (P : Key → Bool) (ks : List Key) → ((q : Key) → list_any (same_key q) ks ≡ true → P q ≡ true) → list_all P ks ≡ true
each_member P [] each = refl
each_member P (k ∷ ks) each = both_true _ _ (each k (or_left _ _ (key_is k k refl))) (each_member P ks (λ q h. each q (or_right (same_key q k) _ h)))

same_tests : (P : Key → Bool) (xs ys : List Key) → ((q : Key) → list_any (same_key q) xs ≡ list_any (same_key q) ys) → list_all P xs ≡ list_all P ys
same_tests P xs ys same = same_bools _ _
    (λ all. each_member P ys (λ q h. all_member P xs q all (same q ∙ h)))
    (λ all. each_member P xs (λ q h. all_member P ys q all (sym (same q) ∙ h)))

same_there : (xs ys : List Key) → ((q : Key) → list_any (same_key q) xs ≡ list_any (same_key q) ys) → list_any (λ k. true) xs ≡ list_any (λ k. true) ys
same_there [] [] same = refl
same_there (x ∷ xs) (y ∷ ys) same = refl
same_there [] (y ∷ ys) same = same y ∙ or_left _ _ (key_is y y refl)
same_there (x ∷ xs) [] same = sym (or_left _ _ (key_is x x refl)) ∙ same x

-- the rectangle round the keys is that round any list of the same keys
pub round_is : (o : Option Area) (ks xs : List Key) → IsRound o ks → ((q : Key) → list_any (same_key q) ks ≡ list_any (same_key q) xs) → o ≡ bound_of xs
round_is o ks xs r same = go o (bound_of xs) (r.there ∙ same_there ks xs same ∙ sym (bound_round xs).there) (λ d. r.lies d ∙ same_tests (λ k. lies_in (tile k) d) ks xs same ∙ sym (fold_lies xs d))
  where
    no : {A : Type 0} → false ≡ true → A
    no e = absurd (never e)
      where
        never : false ≡ true → ⊥
        never e = cc

    go : (o p : Option Area) → is_some o ≡ is_some p → ((d : Area) → lies_if o d ≡ lies_if p d) → o ≡ p
    go None None e l = refl
    go None (Some b) e l = no e
    go (Some a) None e l = no (sym e)
    go (Some a) (Some b) e l = ap Some (same_area a b (l b ∙ lies_itself b) (sym (l a) ∙ lies_itself a))

pub set_round : (o : Option Area) (ks : List Key) → IsRound o ks → o ≡ bound_of (set.items (set.from_list {R = key_cmp} ks))
set_round o ks r = round_is o ks _ r (λ q. sym (set.contains-from_list key_cmp_total ks q) ∙ set.contains-items (set.from_list ks) q)

-- the rectangle so far, and the keys that are left
pub record RoundSoFar (all : List Key) (o : Option Area) (rest : List Key) : Type 0 where
  pub there : (is_some o || list_any (λ k. true) rest) ≡ list_any (λ k. true) all
  pub lies : (d : Area) → (lies_if o d && tiles_lie rest d) ≡ tiles_lie all d

pub none_round : (all rest : List Key) → rest ≡ all → RoundSoFar all None rest
none_round all rest e = record { there = ap (list_any (λ k. true)) e; lies = λ d. ap (λ ks. tiles_lie ks d) e }

pub one_round : (all rest : List Key) (o : Option Area) (k : Key) (r : Area) → r ≡ tile k → RoundSoFar all o (k ∷ rest) → RoundSoFar all (Some (widened o r)) rest
one_round all rest o k r e so = record { there = or_true (is_some o) ∙ so.there; lies = λ d. ap (λ b. b && tiles_lie rest d) (more o d) ∙ again (lies_if o d) (lies_in (tile k) d) (tiles_lie rest d) ∙ so.lies d }
  where
    or_true : (a : Bool) → true ≡ (a || true)
    or_true true = refl
    or_true false = refl

    again : (a b c : Bool) → ((a && b) && c) ≡ (a && (b && c))
    again true b c = refl
    again false b c = refl

    more : (o : Option Area) (d : Area) → lies_in (widened o r) d ≡ (lies_if o d && lies_in (tile k) d)
    more None d = ap (λ a. lies_in a d) e
    more (Some a) d = bound_in a r d ∙ ap (λ b. lies_in a d && lies_in b d) e

pub all_round : (all rest : List Key) (o : Option Area) → rest ≡ [] → RoundSoFar all o rest → IsRound o all
all_round all rest o e so = record { there = or_end (is_some o) ∙ ap (λ ks. is_some o || list_any (λ k. true) ks) (sym e) ∙ so.there; lies = λ d. and_end (lies_if o d) ∙ ap (λ ks. lies_if o d && tiles_lie ks d) (sym e) ∙ so.lies d }
  where
    or_end : (a : Bool) → a ≡ (a || false)
    or_end true = refl
    or_end false = refl

    and_end : (a : Bool) → a ≡ (a && true)
    and_end true = refl
    and_end false = refl

-- the rectangle round the tiles of a list is the least round those that the list has
pub least_round : (these : Key → Bool) (ks : List Key) (o : Option Area) → ((q : Key) → these q ≡ list_any (same_key q) ks) → IsRound o ks → IfSome o (IsLeastRound these)
least_round these ks None same r = tt
least_round these ks (Some a) same r = record {
  around = λ k h. all_member (λ k. lies_in (tile k) a) ks k (sym (r.lies a) ∙ lies_itself a) (sym (same k) ∙ h);
  least = λ d h. r.lies d ∙ each_member (λ k. lies_in (tile k) d) ks (λ q e. h q (same q ∙ e));
}

no_items : (s : FinSet key_cmp) → set.len s ≡ 0 → set.items s ≡ []
no_items s e = go (set.items s) (λ q. sym (set.contains-items s q) ∙ ap (λ s. set.contains s q) (set.empty_of_len s e) ∙ set.contains-empty key_cmp q)
  where
    go : (ks : List Key) → ((q : Key) → list_any (same_key q) ks ≡ false) → ks ≡ []
    go [] h = refl
    go (k ∷ ks) h = let there : true ≡ false = sym (or_left _ _ (key_is k k refl)) ∙ h k in cc

no_len : (s : FinSet key_cmp) → set.items s ≡ [] → set.len s ≡ 0
no_len s e = ap set.len (set.same_set key_cmp_total key_cmp-IsAntisymmetric s set.empty (λ q. set.contains-items s q ∙ ap (λ ks. list_any (same_key q) ks) e ∙ sym (set.contains-empty key_cmp q))) ∙ set.len-empty key_cmp

no_keys : (ks : List Key) → is_some (bound_of ks) ≡ false → ks ≡ []
no_keys [] e = refl
no_keys (k ∷ ks) e = cc

-- what was found tile by tile is what was touched
pub touched_by : (keys : FinSet key_cmp) (t : Touched) → t.count ≡ set.len keys → t.bound ≡ bound_of (set.items keys) → HasTouched keys t
touched_by keys t n b = record {
  count = n;
  none = (λ e. n ∙ no_len keys (no_keys (set.items keys) (sym (ap is_some b) ∙ e)), λ e. ap is_some (b ∙ ap bound_of (no_items keys (sym n ∙ e))));
  bound = subst (λ o. IfSome o (IsLeastRound (set.contains keys))) (sym b) (least_round (set.contains keys) (set.items keys) (bound_of (set.items keys)) (set.contains-items keys) (bound_round (set.items keys)));
}

-- there is one least rectangle at most
same_least : (these : Key → Bool) (o p : Option Area) → is_some o ≡ is_some p → IfSome o (IsLeastRound these) → IfSome p (IsLeastRound these) → o ≡ p
same_least these None None e x y = refl
same_least these None (Some b) e x y = cc
same_least these (Some a) None e x y = cc
same_least these (Some a) (Some b) e x y = ap Some (same_area a b (x.least b y.around) (y.least a x.around))

-- what was touched is what is found tile by tile
pub touched_bound : (keys : FinSet key_cmp) (t : Touched) → HasTouched keys t → t.bound ≡ bound_of (set.items keys)
touched_bound keys t h = same_least (set.contains keys) t.bound (bound_of (set.items keys))
    (same_nones (is_some t.bound) (is_some (bound_of (set.items keys)))
    (λ e. ap (λ ks. is_some (bound_of ks)) (no_items keys (sym h.count ∙ h.none.0 e)))
    (λ e. h.none.1 (h.count ∙ no_len keys (no_keys (set.items keys) e))))
    h.bound
    (least_round (set.contains keys) (set.items keys) (bound_of (set.items keys)) (set.contains-items keys) (bound_round (set.items keys)))
  where
    same_nones : (a b : Bool) → (a ≡ false → b ≡ false) → (b ≡ false → a ≡ false) → a ≡ b
    same_nones true true f g = refl
    same_nones true false f g = g refl
    same_nones false b f g = sym (f refl)
