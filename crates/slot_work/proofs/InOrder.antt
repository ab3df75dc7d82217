-- Tiles made whole that are those of a job's one rectangle, in row order.
use Rattle.std.proofs.Common.{◌≡◌, ℕ, ◌+◌, ◌≤◌, Bool, true, false, not, ◌||◌, List, [], ◌∷◌, ◌++◌, length, take, get_or, Some, refl, sym, ap, subst, ◌∙◌, arith, inl, inr}
use Rattle.std.specs.Prelude.{slice_get}
use Rattle.std.specs.Option.{option_map}
use Rattle.std.specs.List.{list_any, All, AllByRecursion, IsDistinct}
use Rattle.std.proofs.lemmas.List.{append-nil, length-map, take_all}
use Rattle.std.proofs.lemmas.List.Elements.{All-head, All-tail}
use Rattle.std.proofs.lemmas.Map.Keys.{IsDistinct-head, IsDistinct-tail}
use Rattle.std.proofs.lemmas.Option.{slice_get-map}
use Rattle.geom_core.specs.Areas.{Area}
use Rattle.geom_core.specs.Grid.{Key, same_key, keys_of, all_keys_of}
use Rattle.geom_core.proofs.Axes.{tiles_met}
use Rattle.geom_core.proofs.Tests.{or_cases, or_left, or_right, neither, not_true, or-false}
use Rattle.geom_core.proofs.Tiles.{key_same, key_is}
use Rattle.doc_model.specs.declared.job.Job.{Job}
use Rattle.doc_model.specs.Layers.{Layer}
use Rattle.doc_model.specs.Lawful.{within_limits}
use Rattle.doc_model.specs.Jobs.{writes}
use Rattle.job_core.proofs.Values.{HasPoints}
use Rattle.whole_tiles.specs.Wholes.{Entire}
use Rattle.update_queue.proofs.Elements.{take_here}
use Rattle.desk_state.specs.Newest.{newest_first}
use Rattle.desk_state.proofs.Meeting.{written_some}
use Rattle.slot_work.specs.Lacking.{IsOfJob, AreLacking, keys_of_tiles}
use Rattle.filmed_caches.proofs.KeyLists.{apart}

-- ---- one rectangle, and nothing published

pub only_one : (rects : List Area) (a : Area) → length rects ≡ 1 → a ≡ get_or rects 0 a → rects ≡ a ∷ []
only_one [] a n e = absurd (omega arith)
only_one (r ∷ []) a n e = ap (λ x. x ∷ []) (sym e)
only_one (r ∷ s ∷ rects) a n e = absurd (omega arith)

pub none_noted : (items published : List Key) → length items ≡ 0 → newest_first items ≡ published → published ≡ []
none_noted [] published n e = sym e
none_noted (k ∷ items) published n e = absurd (omega arith)

-- ---- in the rectangle's order

pub other_key : (a b : Key) → not (same_key a b) ≡ true → a ≡ b → ⊥
other_key a b h e = let f : true ≡ false = sym (key_is a b e) ∙ not_true (same_key a b) h in cc

pub this_key : (a b : Key) → not (same_key a b) ≡ false → a ≡ b
this_key a b h = key_same a b (go (same_key a b) h)
  where
    go : (t : Bool) → not t ≡ false → t ≡ true
    go true e = refl
    go false e = sym e

-- the next tile of both
module _ (tiles : List Entire) (keys : List Key) (i : ℕ) (x : Entire) (k : Key) (at_tile : slice_get tiles i ≡ Some x) (at_key : slice_get keys i ≡ Some k) where
  key_here : slice_get (keys_of_tiles tiles) i ≡ Some x.key
  key_here = slice_get-map (λ (y : Entire). y.key) tiles i ∙ ap (option_map (λ (y : Entire). y.key)) at_tile

  pub same_so_far : x.key ≡ k → take i (keys_of_tiles tiles) ≡ take i keys → take (i + 1) (keys_of_tiles tiles) ≡ take (i + 1) keys
  same_so_far here so_far = take_here (keys_of_tiles tiles) i x.key key_here ∙ ap (λ ks. ks ++ x.key ∷ []) so_far ∙ ap (λ j. take i keys ++ j ∷ []) here ∙ sym (take_here keys i k at_key)

  pub not_same : (x.key ≡ k → ⊥) → keys_of_tiles tiles ≡ keys → ⊥
  not_same other all = other (let e : Some x.key ≡ Some k = sym key_here ∙ ap (λ ks. slice_get ks i) all ∙ at_key in cc)

module _ (tiles : List Entire) (keys : List Key) where
  pub same_length : keys_of_tiles tiles ≡ keys → length tiles ≡ length keys
  same_length all = sym (length-map tiles (λ (y : Entire). y.key)) ∙ ap length all

  pub all_same : (i : ℕ) → length tiles ≤ i → length keys ≤ i → take i (keys_of_tiles tiles) ≡ take i keys → keys_of_tiles tiles ≡ keys
  all_same i tiles_end keys_end so_far = sym (take_all i (keys_of_tiles tiles) (subst (λ n. n ≤ i) (sym (length-map tiles (λ (y : Entire). y.key))) tiles_end)) ∙ so_far ∙ take_all i keys keys_end

-- ---- just those that the job lacks

-- one of the keys isn't one from which they are apart
apart_from : (x k : Key) (keys : List Key) → AllByRecursion (λ y. same_key x y ≡ false) keys → list_any (same_key k) keys ≡ true → same_key k x ≡ false
apart_from x k [] all h = cc
apart_from x k (y ∷ keys) all h = elim (or_cases (same_key k y) (list_any (same_key k) keys) h) [
  | inl e ↦ ap (λ z. same_key z x) (key_same k y e) ∙ apart x y all.0
  | inr e ↦ apart_from x k keys all.1 e
]

turned : (a b c : Bool) → ((a || b) || c) ≡ (b || (a || c))
turned true true c = refl
turned true false c = refl
turned false true c = refl
turned false false c = refl

module _ (job : Job) (shot : Layer) where
  in_turn : (published : List Key) (tiles : List Entire) → All (IsOfJob job shot) tiles → IsDistinct same_key (keys_of_tiles tiles)
      → ((k : Key) → list_any (same_key k) (keys_of_tiles tiles) ≡ true → list_any (same_key k) published ≡ false)
      → ((k : Key) → list_any (same_key k) (keys_of_tiles tiles) ≡ true → list_any (same_key k) (all_keys_of (writes job)) ≡ true)
      → ((k : Key) → list_any (same_key k) (all_keys_of (writes job)) ≡ true → (list_any (same_key k) published || list_any (same_key k) (keys_of_tiles tiles)) ≡ true)
      → AreLacking job shot published tiles
  in_turn published [] of once fresh inside cover = λ k h. sym (or-false (list_any (same_key k) published)) ∙ cover k h
  in_turn published (x ∷ xs) of once fresh inside cover = (
    All-head (IsOfJob job shot) x xs of,
    inside x.key own,
    fresh x.key own,
    in_turn (x.key ∷ published) xs (All-tail (IsOfJob job shot) x xs of) (IsDistinct-tail same_key x.key (keys_of_tiles xs) once)
        (λ k h. neither (same_key k x.key) (list_any (same_key k) published) (apart_from x.key k (keys_of_tiles xs) (IsDistinct-head same_key x.key (keys_of_tiles xs) once) h) (fresh k (or_right (same_key k x.key) _ h)))
        (λ k h. inside k (or_right (same_key k x.key) _ h))
        (λ k h. turned (same_key k x.key) (list_any (same_key k) published) (list_any (same_key k) (keys_of_tiles xs)) ∙ cover k h),
  )
    where
      own : list_any (same_key x.key) (keys_of_tiles (x ∷ xs)) ≡ true
      own = or_left (same_key x.key x.key) _ (key_is x.key x.key refl)

  pub lacking_in_order : (published : List Key) (tiles : List Entire) (a : Area) → within_limits job ≡ true → All (IsOfJob job shot) tiles → published ≡ [] → writes job ≡ a ∷ [] → keys_of_tiles tiles ≡ keys_of a
      → AreLacking job shot published tiles
  lacking_in_order published tiles a limits of none one same = subst (λ ks. AreLacking job shot ks tiles) (sym none) (in_turn [] tiles of (subst (IsDistinct same_key) (sym same) once) (λ k h. refl) (λ k h. ap (list_any (same_key k)) (sym all) ∙ h) (λ k h. ap (list_any (same_key k)) all ∙ h))
    where
      sides : (1 ≤ a.w) × (1 ≤ a.h)
      sides = (subst (AllByRecursion HasPoints) one (written_some job limits)).0

      once : IsDistinct same_key (keys_of a)
      once = (tiles_met a sides.0 sides.1).distinct

      all : keys_of_tiles tiles ≡ all_keys_of (writes job)
      all = same ∙ sym (append-nil (keys_of a)) ∙ ap all_keys_of (sym one)
