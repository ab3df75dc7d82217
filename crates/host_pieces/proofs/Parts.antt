-- The tiles of a part.
use Rattle.std.proofs.Common.{◌≡◌, ℕ, suc, zero, ◌+◌, ◌<◌, ◌≤◌, true, cond, Option, Some, None, List, [], ◌∷◌, ◌++◌, take, drop, length, refl, sym, ap, ◌∙◌, subst, arith}
use Rattle.std.specs.Prelude.{◌-◌, slice_get}
use Rattle.geom_core.specs.Areas.{Area, Point, holds}
use Rattle.geom_core.specs.Exchanged.{widened}
use Rattle.geom_core.specs.Grid.{Key, key_of, tile}
use Rattle.geom_core.specs.Overlaps.{bound, common}
use Rattle.geom_core.proofs.Tiles.{key_same, own_tile}
use Rattle.doc_model.specs.Shots.{in_tile}
use Rattle.doc_model.proofs.Conflicts.{meets_at}
use Rattle.doc_model.proofs.QueueLaws.{bound_left, bound_right, common_holds}
use Rattle.host_pieces.specs.Parts.{rounded, within}
use Rattle.host_pieces.proofs.Fronts.{next_taken}
use Rattle.std.proofs.Math.Seq.{drop-nil, take-add}
use Rattle.std.proofs.lemmas.List.{length-drop, length-take-le}

not_below : (i : ℕ) → i < 0 → ⊥
not_below i h = omega arith

from_zero : (i : ℕ) → 0 + i ≡ i
from_zero i = omega arith

from_suc : (n i : ℕ) → suc n + i ≡ suc (n + i)
from_suc n i = omega arith

module _ {A : Type 0} where
  taken_at : (xs : List A) (n i : ℕ) (x : A) → i < n → slice_get xs i ≡ Some x → slice_get (take n xs) i ≡ Some x
  taken_at xs zero i x h e = absurd (not_below i h)
  taken_at [] (suc n) i x h e = cc
  taken_at (y ∷ xs) (suc n) zero x h e = e
  taken_at (y ∷ xs) (suc n) (suc i) x h e = taken_at xs n i x (let m : suc i < suc n = h in omega arith) e

  dropped_at : (xs : List A) (n i : ℕ) (x : A) → slice_get xs (n + i) ≡ Some x → slice_get (drop n xs) i ≡ Some x
  dropped_at xs zero i x e = subst (λ n. slice_get xs n ≡ Some x) (from_zero i) e
  dropped_at [] (suc n) i x e = cc
  dropped_at (y ∷ xs) (suc n) i x e = dropped_at xs n i x (subst (λ k. slice_get (y ∷ xs) k ≡ Some x) (from_suc n i) e)

  drop_then : (n m : ℕ) (xs : List A) → drop m (drop n xs) ≡ drop (n + m) xs
  drop_then zero m xs = ap (λ n. drop n xs) (sym (from_zero m))
  drop_then (suc n) m [] = drop-nil m ∙ sym (drop-nil (suc n + m))
  drop_then (suc n) m (y ∷ xs) = drop_then n m xs ∙ ap (λ k. drop k (y ∷ xs)) (sym (from_suc n m))

  -- how many there are
  pub count_between : (xs : List A) (from to : ℕ) → from ≤ to → to ≤ length xs → length (take (to - from) (drop from xs)) ≡ to - from
  count_between xs from to h few = length-take-le (to - from) (drop from xs) (let n : length (drop from xs) ≡ length xs - from = length-drop from xs in omega arith)

  -- one of them
  pub at_between : (xs : List A) (from to i : ℕ) (x : A) → i < to - from → slice_get xs (from + i) ≡ Some x → slice_get (take (to - from) (drop from xs)) i ≡ Some x
  at_between xs from to i x h e = taken_at (drop from xs) (to - from) i x h (dropped_at xs from i x e)

  -- those up to one and those behind it
  pub split_between : (xs : List A) (from mid to : ℕ) → from ≤ mid → mid ≤ to → take (to - from) (drop from xs) ≡ take (mid - from) (drop from xs) ++ take (to - mid) (drop mid xs)
  split_between xs from mid to h k =
      let sum : to - from ≡ (mid - from) + (to - mid) = omega arith in
      let rest : from + (mid - from) ≡ mid = omega arith in
      ap (λ n. take n (drop from xs)) sum
      ∙ take-add (mid - from) (to - mid) (drop from xs)
      ∙ ap (λ (ys : List A). take (mid - from) (drop from xs) ++ take (to - mid) ys) (drop_then from (mid - from) xs ∙ ap (λ n. drop n xs) rest)

-- ---- the rectangle round them

round_then : (o : Option Area) (ks : List Key) (k : Key) → rounded o (ks ++ k ∷ []) ≡ Some (widened (rounded o ks) (tile k))
round_then o [] k = refl
round_then o (m ∷ ks) k = round_then (Some (widened o (tile m))) ks k

-- one tile more
pub round_more : (o : Option Area) (ks : List Key) (i : ℕ) (k : Key) → slice_get ks i ≡ Some k → rounded o (take (i + 1) ks) ≡ Some (widened (rounded o (take i ks)) (tile k))
round_more o ks i k at = ap (rounded o) (next_taken ks i k at) ∙ round_then o (take i ks) k

-- the point lies in the rectangle, which is there
abbrev pub IsIn : Option Area → Point → Type 0
IsIn None p = ⊥
IsIn (Some a) p = holds a p ≡ true

stays_in : (o : Option Area) (ks : List Key) (p : Point) → IsIn o p → IsIn (rounded o ks) p
stays_in o [] p h = h
stays_in None (k ∷ ks) p h = absurd h
stays_in (Some a) (k ∷ ks) p h = stays_in (Some (bound a (tile k))) ks p (bound_left a (tile k) p h)

in_widened : (o : Option Area) (a : Area) (p : Point) → holds a p ≡ true → holds (widened o a) p ≡ true
in_widened None a p h = h
in_widened (Some b) a p h = bound_right b a p h

in_within : (rect : Area) (o : Option Area) (p : Point) → holds rect p ≡ true → IsIn o p → IsIn (within rect o) p
in_within rect None p h k = absurd k
in_within rect (Some a) p h k = subst (λ b. IsIn (cond b (Some (common rect a)) None) p) (sym (meets_at rect a p h k)) (common_holds rect a p h k)

in_own_tile : (k : Key) (p : Point) → in_tile k p ≡ true → holds (tile k) p ≡ true
in_own_tile k p t = subst (λ (m : Key). holds (tile m) p ≡ true) (key_same (key_of p) k t) (own_tile p)

-- the point isn't one that the rectangle has in one of the tiles
abbrev pub IsAway : Area → Point → List Key → Type 0
IsAway rect p [] = Unit {0}
IsAway rect p (k ∷ ks) = (in_tile k p ≡ true → holds rect p ≡ true → ⊥) × IsAway rect p ks

-- so are those outside
pub away : (rect : Area) (o : Option Area) (ks : List Key) (p : Point) → (IsIn (within rect (rounded o ks)) p → ⊥) → IsAway rect p ks
away rect o [] p out = tt
away rect o (k ∷ ks) p out = (
  (λ t h. out (in_within rect (rounded (Some (widened o (tile k))) ks) p h (stays_in (Some (widened o (tile k))) ks p (in_widened o (tile k) p (in_own_tile k p t))))),
  away rect (Some (widened o (tile k))) ks p out,
)

module _ (rect : Area) (p : Point) where
  -- one of them, and those from the first on
  pub away_at : (ks : List Key) (i : ℕ) (k : Key) → IsAway rect p ks → slice_get ks i ≡ Some k → in_tile k p ≡ true → holds rect p ≡ true → ⊥
  away_at [] i k out at t h = absurd (let none : None ≡ Some k = at in cc)
  away_at (m ∷ ks) zero k out at t h = let same : m ≡ k = cc in out.0 (subst (λ (q : Key). in_tile q p ≡ true) (sym same) t) h
  away_at (m ∷ ks) (suc i) k out at t h = away_at ks i k out.1 at t h

  pub away_taken : (ks : List Key) (n : ℕ) → IsAway rect p ks → IsAway rect p (take n ks)
  away_taken ks zero out = tt
  away_taken [] (suc n) out = tt
  away_taken (m ∷ ks) (suc n) out = (out.0, away_taken ks n out.1)
