-- Tests over all keys, and the place of a patch.
use Rattle.std.proofs.Common.{◌≡◌, ℕ, suc, zero, ◌+◌, ℤ, Bool, true, false, ◌&&◌, not, cond, Some, List, [], ◌∷◌, refl, sym, ap, ◌∙◌, arith, eqb, inl, inr}
use Rattle.std.specs.Prelude.{slice_get}
use Rattle.std.specs.List.{list_any, list_all}
use Rattle.std.specs.Ordering.{int_eq}
use Rattle.std.proofs.lemmas.Bool.Decides.{nat_tests}
use Rattle.std.proofs.lemmas.Int.{ints}
use Rattle.geom_core.proofs.Tests.{true_or_false, and_left, and_right, both_true, or_cases, or_left, or_right, not_true, equal_test}
use Rattle.geom_core.proofs.Tiles.{key_same, key_is}
use Rattle.geom_core.specs.Areas.{Area}
use Rattle.geom_core.specs.Grid.{Key, same_key, cell_of}
use Rattle.doc_model.specs.declared.canvas.Patch.{Patch}
use Rattle.doc_model.specs.declared.canvas.Walk.{Walk}
use Rattle.doc_model.specs.declared.canvas.Walk.TheVariants.{Up, All}
use Rattle.doc_model.specs.Updates.{same_walk}
use Rattle.doc_model.specs.Queues.{all_unlike, alike}
use Rattle.machine_model.specs.Groups.{on}
use Rattle.machine_model.proofs.Lists.{each_get}
use Rattle.machine_model.specs.Next.{same_area, same_patch, place_of}
use Rattle.std.proofs.lemmas.Bool.{eqb-true}

-- what each key passes the one that is among them passes
pub keys_pass : (test : Key → Bool) (keys : List Key) (key : Key) → list_all test keys ≡ true → list_any (same_key key) keys ≡ true → test key ≡ true
keys_pass test [] key all h = cc
keys_pass test (k ∷ keys) key all h = elim (or_cases (same_key key k) _ h) [
  | inl e ↦ ap test (key_same key k e) ∙ and_left (test k) _ all
  | inr e ↦ keys_pass test keys key (and_right (test k) _ all) e
]

pub pass_keys : (test : Key → Bool) (keys : List Key) → ((key : Key) → list_any (same_key key) keys ≡ true → test key ≡ true) → list_all test keys ≡ true
pass_keys test [] each = refl
pass_keys test (k ∷ keys) each = both_true _ _ (each k (or_left _ _ (key_is k k refl))) (pass_keys test keys (λ key h. each key (or_right (same_key key k) _ h)))

pub groups_pass : (test : ℕ → Bool) (gs : List ℕ) (g : ℕ) → list_all test gs ≡ true → on g gs ≡ true → test g ≡ true
groups_pass test [] g all h = cc
groups_pass test (k ∷ gs) g all h = elim (or_cases (eqb k g) _ h) [
  | inl e ↦ ap test (sym (eqb-true k g e)) ∙ and_left (test k) _ all
  | inr e ↦ groups_pass test gs g (and_right (test k) _ all) e
]

pub pass_groups : (test : ℕ → Bool) (gs : List ℕ) → ((g : ℕ) → on g gs ≡ true → test g ≡ true) → list_all test gs ≡ true
pass_groups test [] each = refl
pass_groups test (k ∷ gs) each = both_true _ _ (each k (or_left _ _ (equal_test k))) (pass_groups test gs (λ g h. each g (or_right (eqb k g) _ h)))

-- patches

walk_same : (a b : Walk) → same_walk a b ≡ true → a ≡ b
walk_same All All e = refl
walk_same (Up g) (Up h) e = ap Up (eqb-true g h e)
walk_same All (Up h) e = cc
walk_same (Up g) All e = cc

walk_itself : (a : Walk) → same_walk a a ≡ true
walk_itself All = refl
walk_itself (Up g) = equal_test g

int_same : (x y : ℤ) → int_eq x y ≡ true → x ≡ y
int_same x y e = grind (arith, ints)

int_itself : (x : ℤ) → int_eq x x ≡ true
int_itself x = grind (arith, ints)

area_same : (a b : Area) → same_area a b ≡ true → a ≡ b
area_same a b e =
    let l : (int_eq a.x b.x && int_eq a.y b.y) ≡ true = and_left (int_eq a.x b.x && int_eq a.y b.y) (eqb a.w b.w && eqb a.h b.h) e in
    let r : (eqb a.w b.w && eqb a.h b.h) ≡ true = and_right (int_eq a.x b.x && int_eq a.y b.y) (eqb a.w b.w && eqb a.h b.h) e in
    let x : a.x ≡ b.x = int_same _ _ (and_left (int_eq a.x b.x) _ l) in
    let y : a.y ≡ b.y = int_same _ _ (and_right (int_eq a.x b.x) _ l) in
    let w : a.w ≡ b.w = eqb-true _ _ (and_left (eqb a.w b.w) _ r) in
    let h : a.h ≡ b.h = eqb-true _ _ (and_right (eqb a.w b.w) _ r) in
    λ i. record { x = x i; y = y i; w = w i; h = h i }

pub patch_same : (a b : Patch) → same_patch a b ≡ true → a ≡ b
patch_same a b e =
    let w : a.walk ≡ b.walk = walk_same _ _ (and_left (same_walk a.walk b.walk) _ e) in
    let r : a.rect ≡ b.rect = area_same _ _ (and_right (same_walk a.walk b.walk) _ e) in
    λ i. record { walk = w i; rect = r i }

pub patch_itself : (a : Patch) → same_patch a a ≡ true
patch_itself a = both_true _ _ (walk_itself a.walk) (both_true _ _ (both_true _ _ (int_itself a.rect.x) (int_itself a.rect.y)) (both_true _ _ (equal_test a.rect.w) (equal_test a.rect.h)))

alike_itself : (p : Patch) → alike p p ≡ true
alike_itself p = both_true _ _ (walk_itself p.walk) (key_is (cell_of p.rect) (cell_of p.rect) refl)

one_more : (n : ℕ) → 1 + n ≡ suc n
one_more n = omega arith

-- the patch that was found is the one that was looked for
pub found_is : (p : Patch) (ps : List Patch) (q : Patch) → slice_get ps (place_of p ps) ≡ Some q → q ≡ p
found_is p [] q e = cc
found_is p (x ∷ ps) q e = go (same_patch p x) refl (found_is p ps q) e
  where
    go : (b : Bool) → same_patch p x ≡ b → (slice_get ps (place_of p ps) ≡ Some q → q ≡ p) → slice_get (x ∷ ps) (cond (not b) (1 + place_of p ps) 0) ≡ Some q → q ≡ p
    go true t more e = let same : x ≡ q = cc in sym same ∙ sym (patch_same p x t)
    go false t more e = more (rw (one_more (place_of p ps)) at e)

-- a patch that waits once is found
pub found_at : (p : Patch) (ps : List Patch) (i : ℕ) → all_unlike ps ≡ true → slice_get ps i ≡ Some p → place_of p ps ≡ i
found_at p [] i one e = cc
found_at p (x ∷ ps) zero one e =
    let same : x ≡ p = cc in
    let t : same_patch p x ≡ true = ap (same_patch p) same ∙ patch_itself p in
    ap (λ b. cond (not b) (1 + place_of p ps) 0) t
found_at p (x ∷ ps) (suc i) one e =
    ap (λ b. cond (not b) (1 + place_of p ps) 0) apart ∙ (let more : place_of p ps ≡ i = found_at p ps i (and_right (list_all (λ q. not (alike x q)) ps) _ one) e in omega arith)
  where
    unlike : alike x p ≡ false
    unlike = not_true _ (each_get (λ q. not (alike x q)) ps i p e (and_left (list_all (λ q. not (alike x q)) ps) _ one))

    apart : same_patch p x ≡ false
    apart = elim (true_or_false (same_patch p x)) [
      | inl t ↦ (let same : p ≡ x = patch_same p x t in let f : true ≡ false = sym (alike_itself p) ∙ ap (λ q. alike q p) same ∙ unlike in cc)
      | inr t ↦ t
    ]
