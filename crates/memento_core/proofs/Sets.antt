-- Sets of tiles as lists in order.
use Rattle.std.proofs.Common.{◌≡◌, ℕ, ◌+◌, ◌<◌, ◌≤◌, Bool, true, false, ◌||◌, cond, List, [], ◌∷◌, length, refl, sym, ap, ◌∙◌, arith}
use Rattle.std.specs.Prelude.{if◌then◌else◌, ◌^◌, ◌-◌}
use Rattle.std.specs.Ordering.{eq_by_cmp, is_eq}
use Rattle.std.specs.List.{AllByRecursion, list_any}
use Rattle.std.specs.List.Sorted.{IsStrictlySortedBy}
use Rattle.std.specs.declared.cmp.Ordering.TheVariants.{Less}
use Rattle.std.specs.FinSet as set
use Rattle.std.specs.BTreeSet as bset
use Rattle.std.specs.BTreeSet.{BTreeSet}
use Rattle.std.proofs.lemmas.Cmp.{eq_by_cmp_equiv}
use Rattle.geom_core.proofs.Tiles.{key_same}
use Rattle.geom_core.specs.Grid.{Key, key_cmp, same_key}
use Rattle.geom_core.specs.Keys.{key_cmp_total, key_cmp-IsAntisymmetric}

not_below : (k : Key) (ks : List Key) → AllByRecursion (λ y. key_cmp k y ≡ Less) ks → list_any (same_key k) ks ≡ false
not_below k [] h = refl
not_below k (x ∷ ks) h = (λ i. is_eq (h.0 i) || not_below k ks h.1 i)

-- the set of keys in order has as many
pub len_sorted : (ks : List Key) → IsStrictlySortedBy key_cmp ks → set.len (set.from_list {R = key_cmp} ks) ≡ length ks
unfolding IsStrictlySortedBy
len_sorted [] h = set.len-empty key_cmp
len_sorted (k ∷ ks) h = set.len-insert key_cmp_total (set.from_list ks) k
    ∙ ap (λ b. cond b (set.len (set.from_list {R = key_cmp} ks)) (set.len (set.from_list {R = key_cmp} ks) + 1)) (set.contains-from_list key_cmp_total ks k ∙ not_below k ks h.0)
    ∙ (let e : set.len (set.from_list {R = key_cmp} ks) ≡ length ks = len_sorted ks h.1 in omega (arith, e))

cond_or : (a b : Bool) → cond a true b ≡ (a || b)
cond_or true b = refl
cond_or false b = refl

-- a key more
pub inserted_is : (old new : BTreeSet Key) (k : Key) → bset.Updates key_cmp old new k true → set.from_list {R = key_cmp} new.keys ≡ set.insert (set.from_list old.keys) k
inserted_is old new k puts = set.same_set key_cmp_total key_cmp-IsAntisymmetric _ _ (λ q.
    set.contains-from_list key_cmp_total new.keys q ∙ puts.0 q ∙ cond_or (eq_by_cmp key_cmp k q) _ ∙ ap (λ b. b || list_any (eq_by_cmp key_cmp q) old.keys) ((eq_by_cmp_equiv key_cmp_total).symm k q)
    ∙ ap (λ b. eq_by_cmp key_cmp q k || b) (sym (set.contains-from_list key_cmp_total old.keys q)) ∙ sym (set.contains-insert key_cmp_total (set.from_list old.keys) k q))

-- a key that is there already
pub inserted_again : (s : set.FinSet key_cmp) (k : Key) → set.contains s k ≡ true → set.insert s k ≡ s
inserted_again s k there = set.same_set key_cmp_total key_cmp-IsAntisymmetric _ _ (λ q. set.contains-insert key_cmp_total s k q ∙ go q (same_key q k) refl)
  where
    go : (q : Key) (b : Bool) → same_key q k ≡ b → (b || set.contains s q) ≡ set.contains s q
    go q true e = sym (ap (set.contains s) (key_same q k e) ∙ there)
    go q false e = refl

pub one_fits : (n m : ℕ) (added : Bool) → m ≡ n + (if added then 1 else 0) → n < 2 ^ 32 - 1 → m ≤ 2 ^ 32 - 1
one_fits n m true e h = omega arith
one_fits n m false e h = omega arith
