-- Tiles made whole that are just those that a job lacks.
use Rattle.std.proofs.Common.{◌≡◌, ℕ, suc, zero, ◌+◌, ◌≤◌, Bool, true, false, ◌||◌, List, [], ◌∷◌, length, take, drop, Some, refl, sym, ap, subst, ◌∙◌}
use Rattle.std.specs.Prelude.{slice_get}
use Rattle.std.specs.List.{list_any, list_all, All, AllWithin}
use Rattle.std.specs.FinSet as set
use Rattle.std.specs.FinSet.{FinSet}
use Rattle.std.proofs.lemmas.List.{drop_all}
use Rattle.std.proofs.lemmas.List.Elements.{All-nil, All-cons, AllWithin-more}
use Rattle.std.proofs.lemmas.Option.{get_or_from_slice_get, slice_get_within}
use Rattle.geom_core.specs.Areas.{Area, holds, Point}
use Rattle.geom_core.specs.Rects.{any_holds}
use Rattle.geom_core.specs.Grid.{Key, key_cmp, same_key, all_keys_of}
use Rattle.geom_core.specs.Keys.{key_cmp_total}
use Rattle.geom_core.proofs.Tests.{or_left, add_one}
use Rattle.tile_core.specs.Shots.{Sight, sight_at, SameShots}
use Rattle.doc_model.specs.declared.job.Job.{Job}
use Rattle.doc_model.specs.Layers.{Layer, at}
use Rattle.doc_model.specs.Jobs.{reads, writes}
use Rattle.job_core.specs.Paints.{layer_of}
use Rattle.whole_tiles.specs.Wholes.{Entire, IsEntire}
use Rattle.whole_tiles.proofs.Seen.{default-layer_of}
use Rattle.update_queue.proofs.Elements.{drop_here}
use Rattle.desk_state.proofs.KeyTests.{all_pass, pass_all}
use Rattle.slot_work.specs.Lacking.{IsOfJob, AreLacking, IsNext, is_seen}
use Rattle.slot_work.proofs.ShotsRead.{own_pixels}

-- ---- of the job

one_held : (a : Area) (p : Point) → any_holds (a ∷ []) p ≡ true → holds a p ≡ true
one_held a p h = go (holds a p) h
  where
    go : (b : Bool) → (b || false) ≡ true → b ≡ true
    go true e = e
    go false e = e

-- the tile's needs are among what the job reads
module _ (job : Job) (kept : Sight) (x : Entire) (rects : kept.rects ≡ reads job) (known : IsEntire x) (same : x.job ≡ job) where
  kept_at : (p : Point) → holds x.needs p ≡ true → at (layer_of kept) p ≡ sight_at kept p
  kept_at p h = own_pixels kept p (ap (λ rs. any_holds rs p) rects ∙ ap (λ j. any_holds (reads j) p) (sym same) ∙ known.read p h)

  pub is_of : SameShots (x.needs ∷ []) kept x.base → IsOfJob job (layer_of kept) x
  is_of shots = record {
    of_job = same;
    shows = record {
      default_pixel = default-layer_of kept ∙ shots.default_pixel;
      pixels = λ p h. kept_at p h ∙ shots.pixels p (or_left (holds x.needs p) false h);
    };
  }

  pub same_shots : IsOfJob job (layer_of kept) x → SameShots (x.needs ∷ []) kept x.base
  same_shots of = record {
    default_pixel = sym (default-layer_of kept) ∙ of.shows.default_pixel;
    pixels = λ p h. let held : holds x.needs p ≡ true = one_held x.needs p h in sym (kept_at p held) ∙ of.shows.pixels p held;
  }

-- ---- each of a list

module _ {X : Type 0} (P : X → Type 0) (xs : List X) (i : ℕ) (x : X) (at : slice_get xs i ≡ Some x) where
  -- what holds of each holds of one
  pub all_at : All P xs → P x
  all_at all = subst P (get_or_from_slice_get xs i x x at) (all i x (slice_get_within xs i x at))

  -- what holds of those so far, and of one more
  pub all_more : AllWithin P xs 0 i → P x → AllWithin P xs 0 (i + 1)
  all_more so_far here = AllWithin-more P xs 0 i so_far (λ d. subst P (sym (get_or_from_slice_get xs i x d at)) here)

-- those that a job lacks were made of it
pub lacking_of_job : (job : Job) (shot : Layer) (published : List Key) (tiles : List Entire) → AreLacking job shot published tiles → All (IsOfJob job shot) tiles
lacking_of_job job shot published [] h = All-nil (IsOfJob job shot)
lacking_of_job job shot published (x ∷ xs) h = All-cons (IsOfJob job shot) x xs h.0 (lacking_of_job job shot (x.key ∷ published) xs h.3)

-- ---- one after another

-- the keys that are published once some tiles are, the newest first
abbrev pub with_keys : List Key → List Entire → List Key
with_keys published [] = published
with_keys published (x ∷ xs) = with_keys (x.key ∷ published) xs

next_keys : (published : List Key) (tiles : List Entire) (i : ℕ) (x : Entire) → slice_get tiles i ≡ Some x → with_keys published (take (suc i) tiles) ≡ x.key ∷ with_keys published (take i tiles)
next_keys published [] i x e = cc
next_keys published (y ∷ tiles) zero x e = let same : y ≡ x = cc in ap (λ (z : Entire). z.key ∷ published) same
next_keys published (y ∷ tiles) (suc i) x e = next_keys (y.key ∷ published) tiles i x e

-- the first tiles are such, and whether all are hangs on the others
pub record LackingSoFar (job : Job) (shot : Layer) (published : List Key) (tiles : List Entire) (i : ℕ) (keys : FinSet key_cmp) : Type 0 where
  pub seen : (k : Key) → list_any (same_key k) (with_keys published (take i tiles)) ≡ is_seen published keys k
  pub all : AreLacking job shot (with_keys published (take i tiles)) (drop i tiles) → AreLacking job shot published tiles
  pub back : AreLacking job shot published tiles → AreLacking job shot (with_keys published (take i tiles)) (drop i tiles)

or_none : (b c : Bool) → c ≡ false → b ≡ (b || c)
or_none true c e = refl
or_none false c e = sym e

module _ (job : Job) (shot : Layer) (published : List Key) (tiles : List Entire) where
  pub none_so_far : (keys : FinSet key_cmp) → keys ≡ set.empty → LackingSoFar job shot published tiles 0 keys
  none_so_far keys e = record {
    seen = λ k. or_none (list_any (same_key k) published) (set.contains keys k) (ap (λ s. set.contains s k) e ∙ set.contains-empty key_cmp k);
    all = λ h. h;
    back = λ h. h;
  }

  module _ (i : ℕ) (keys : FinSet key_cmp) (x : Entire) (at : slice_get tiles i ≡ Some x) (of : IsOfJob job shot x) (so : LackingSoFar job shot published tiles i keys) where
    front : with_keys published (take (i + 1) tiles) ≡ x.key ∷ with_keys published (take i tiles)
    front = ap (λ n. with_keys published (take n tiles)) (add_one i) ∙ next_keys published tiles i x at

    here : AreLacking job shot (with_keys published (take i tiles)) (drop i tiles) → AreLacking job shot (with_keys published (take i tiles)) (x ∷ drop (i + 1) tiles)
    here = subst (AreLacking job shot (with_keys published (take i tiles))) (drop_here tiles i x at)

    pub one_more : (new : FinSet key_cmp) → new ≡ set.insert keys x.key → IsNext job published keys x.key → LackingSoFar job shot published tiles (i + 1) new
    one_more new e next = record {
      seen = λ k. ap (list_any (same_key k)) front ∙ ap (λ b. same_key k x.key || b) (so.seen k) ∙ turned (same_key k x.key) (list_any (same_key k) published) (set.contains keys k)
          ∙ ap (λ b. list_any (same_key k) published || b) (sym (ap (λ s. set.contains s k) e ∙ set.contains-insert key_cmp_total keys x.key k));
      all = λ h. so.all (subst (AreLacking job shot (with_keys published (take i tiles))) (sym (drop_here tiles i x at))
          (of, next.in_job, so.seen x.key ∙ next.fresh, subst (λ ks. AreLacking job shot ks (drop (i + 1) tiles)) front h));
      back = λ h. subst (λ ks. AreLacking job shot ks (drop (i + 1) tiles)) (sym front) (here (so.back h)).3;
    }
      where
        turned : (a b c : Bool) → (a || (b || c)) ≡ (b || (a || c))
        turned true true c = refl
        turned true false c = refl
        turned false true c = refl
        turned false false c = refl

    -- where one isn't, not all are
    pub not_next : (IsNext job published keys x.key → ⊥) → AreLacking job shot published tiles → ⊥
    not_next never h = let l = here (so.back h) in never (record { in_job = l.1; fresh = sym (so.seen x.key) ∙ l.2 })

  -- once all were seen
  module _ (i : ℕ) (keys : FinSet key_cmp) (low : length tiles ≤ i) (so : LackingSoFar job shot published tiles i keys) where
    pub all_lacking : list_all (is_seen published keys) (all_keys_of (writes job)) ≡ true → AreLacking job shot published tiles
    all_lacking h = so.all (subst (AreLacking job shot (with_keys published (take i tiles))) (sym (drop_all i tiles low)) (λ key in_job. so.seen key ∙ all_pass (is_seen published keys) (all_keys_of (writes job)) h key in_job))

    pub some_lacking : list_all (is_seen published keys) (all_keys_of (writes job)) ≡ false → AreLacking job shot published tiles → ⊥
    some_lacking h all =
        let each : AreLacking job shot (with_keys published (take i tiles)) [] = subst (AreLacking job shot (with_keys published (take i tiles))) (drop_all i tiles low) (so.back all) in
        let t : list_all (is_seen published keys) (all_keys_of (writes job)) ≡ true = pass_all (is_seen published keys) (all_keys_of (writes job)) (λ key in_job. sym (so.seen key) ∙ each key in_job) in
        absurd (let f : true ≡ false = sym t ∙ h in cc)
