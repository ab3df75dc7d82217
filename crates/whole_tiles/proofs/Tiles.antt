-- The tiles that a job writes.
use Rattle.std.proofs.Common.{◌≡◌, ℕ, suc, zero, ◌+◌, ◌≤◌, Bool, true, false, ◌||◌, List, [], ◌∷◌, ◌++◌, length, take, drop, Some, refl, sym, ap, ◌∙◌, append_assoc, append-nil, ◌⊎◌, inl, inr}
use Rattle.std.specs.Prelude.{slice_get}
use Rattle.std.specs.List.{list_any, filter}
use Rattle.std.proofs.lemmas.List.{take_more, drop_all}
use Rattle.std.proofs.lemmas.List.Elements.{filter-append}
use Rattle.std.proofs.lemmas.List.Folds.{list_any-append}
use Rattle.std.proofs.lemmas.Option.{get_or_from_slice_get, slice_get_within}
use Rattle.std.proofs.Math.Seq.{take-length}
use Rattle.geom_core.specs.Areas.{Area}
use Rattle.geom_core.specs.Grid.{Key, same_key, keys_of, all_keys_of}
use Rattle.geom_core.proofs.Tests.{or_left, or_right, or_cases}
use Rattle.geom_core.proofs.Tiles.{key_is}
use Rattle.doc_model.specs.declared.job.Job.{Job}
use Rattle.doc_model.specs.Jobs.{writes}
use Rattle.whole_tiles.specs.Plans.{is_apart, tiles_from, tiles_of}

-- one tile more of a rectangle
pub next_tile : (f : Key → Bool) (old now new : List Key) (a : Area) (i : ℕ) (k : Key) → slice_get (keys_of a) i ≡ Some k → now ≡ old ++ filter f (take i (keys_of a)) → new ≡ now ++ filter f (k ∷ []) → new ≡ old ++ filter f (take (i + 1) (keys_of a))
next_tile f old now new a i k at so more =
    more ∙ ap (λ ks. ks ++ filter f (k ∷ [])) so ∙ append_assoc old (filter f (take i (keys_of a))) (filter f (k ∷ []))
    ∙ ap (λ ks. old ++ ks) (sym (filter-append f (take i (keys_of a)) (k ∷ [])) ∙ ap (filter f) (sym longer))
  where
    longer : take (i + 1) (keys_of a) ≡ take i (keys_of a) ++ k ∷ []
    longer = take_more (keys_of a) i k (slice_get_within (keys_of a) i k at) ∙ ap (λ (x : Key). take i (keys_of a) ++ x ∷ []) (get_or_from_slice_get (keys_of a) i k k at)

pub all_tiles : (f : Key → Bool) (old now : List Key) (a : Area) (i : ℕ) → i ≡ length (keys_of a) → now ≡ old ++ filter f (take i (keys_of a)) → now ≡ old ++ filter f (keys_of a)
all_tiles f old now a i n so = so ∙ ap (λ ks. old ++ filter f ks) (ap (λ m. take m (keys_of a)) n ∙ take-length (keys_of a))

-- one rectangle more
pub next_rect : (now new : List Key) (rects : List Area) (n : ℕ) (a : Area) → drop n rects ≡ a ∷ drop (n + 1) rects → take (n + 1) rects ≡ take n rects ++ a ∷ [] → new ≡ now ++ filter (is_apart (take n rects)) (keys_of a)
    → (now ++ tiles_from (take n rects) (drop n rects)) ≡ tiles_from [] rects → (new ++ tiles_from (take (n + 1) rects) (drop (n + 1) rects)) ≡ tiles_from [] rects
next_rect now new rects n a here longer more so =
    (λ i. more i ++ tiles_from (longer i) (drop (n + 1) rects))
    ∙ append_assoc now (filter (is_apart (take n rects)) (keys_of a)) (tiles_from (take n rects ++ a ∷ []) (drop (n + 1) rects))
    ∙ ap (λ rs. now ++ tiles_from (take n rects) rs) (sym here) ∙ so

pub all_rects : (now : List Key) (rects : List Area) (n : ℕ) → length rects ≤ n → (now ++ tiles_from (take n rects) (drop n rects)) ≡ tiles_from [] rects → now ≡ tiles_from [] rects
all_rects now rects n low so = sym (append-nil now) ∙ ap (λ rs. now ++ tiles_from (take n rects) rs) (sym (drop_all n rects low)) ∙ so

-- each of them is one that the job writes
filtered : (f : Key → Bool) (xs : List Key) (k : Key) → list_any (same_key k) (filter f xs) ≡ true → list_any (same_key k) xs ≡ true
filtered f [] k h = h
filtered f (x ∷ xs) k h = go (f x) refl (filtered f xs k)
  where
    go : (b : Bool) → f x ≡ b → (list_any (same_key k) (filter f xs) ≡ true → list_any (same_key k) xs ≡ true) → (same_key k x || list_any (same_key k) xs) ≡ true
    go true e more = elim (or_cases (same_key k x) (list_any (same_key k) (filter f xs)) (rw e at h)) [
      | inl s ↦ or_left (same_key k x) _ s
      | inr s ↦ or_right (same_key k x) _ (more s)
    ]
    go false e more = or_right (same_key k x) _ (more (rw e at h))

in_writes : (before rects : List Area) (k : Key) → list_any (same_key k) (tiles_from before rects) ≡ true → list_any (same_key k) (all_keys_of rects) ≡ true
in_writes before [] k h = h
in_writes before (a ∷ rects) k h = list_any-append (same_key k) (keys_of a) (all_keys_of rects)
    ∙ go (or_cases _ _ (sym (list_any-append (same_key k) (filter (is_apart before) (keys_of a)) (tiles_from (before ++ a ∷ []) rects)) ∙ h)) (in_writes (before ++ a ∷ []) rects k)
  where
    go : (list_any (same_key k) (filter (is_apart before) (keys_of a)) ≡ true) ⊎ (list_any (same_key k) (tiles_from (before ++ a ∷ []) rects) ≡ true) → (list_any (same_key k) (tiles_from (before ++ a ∷ []) rects) ≡ true → list_any (same_key k) (all_keys_of rects) ≡ true)
        → (list_any (same_key k) (keys_of a) || list_any (same_key k) (all_keys_of rects)) ≡ true
    go (inl e) more = or_left _ _ (filtered (is_apart before) (keys_of a) k e)
    go (inr e) more = or_right (list_any (same_key k) (keys_of a)) _ (more e)

there : (keys : List Key) (i : ℕ) (k : Key) → slice_get keys i ≡ Some k → list_any (same_key k) keys ≡ true
there [] i k e = cc
there (x ∷ keys) zero k e = let same : k ≡ x = cc in or_left (same_key k x) _ (key_is k x same)
there (x ∷ keys) (suc i) k e = or_right (same_key k x) _ (there keys i k e)

pub tile_met : (job : Job) (i : ℕ) (k : Key) → slice_get (tiles_of job) i ≡ Some k → list_any (same_key k) (all_keys_of (writes job)) ≡ true
tile_met job i k e = in_writes [] (writes job) k (there (tiles_of job) i k e)
