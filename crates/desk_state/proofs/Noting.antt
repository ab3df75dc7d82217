-- How the tiles that the stroke under way has painted change with each event.
use Rattle.std.proofs.Common.{◌≡◌, ℕ, suc, zero, ◌<◌, Bool, true, false, ◌&&◌, ◌||◌, cond, List, [], ◌∷◌, ◌++◌, Some, None, refl, sym, ap, ◌∙◌, arith, eqb, take}
use Rattle.std.specs.Prelude.{slice_get, slice_set}
use Rattle.std.specs.List.{list_any}
use Rattle.std.specs.FinSet as set
use Rattle.std.specs.FinSet.{FinSet}
use Rattle.std.proofs.lemmas.Bool.Decides.{nat_tests}
use Rattle.std.proofs.lemmas.List.Folds.{list_any-append}
use Rattle.geom_core.specs.Areas.{Area}
use Rattle.geom_core.specs.Grid.{Key, key_cmp, same_key, keys_of, all_keys_of, key_set}
use Rattle.geom_core.specs.Keys.{key_cmp_total, key_cmp-IsAntisymmetric}
use Rattle.geom_core.proofs.Tests.{taken, kept, both_true, or_left, or_right, and-false}
use Rattle.geom_core.proofs.Tiles.{key_same, key_is}
use Rattle.doc_model.specs.declared.job.Kind.{Kind}
use Rattle.doc_model.specs.declared.job.Job.{Job}
use Rattle.doc_model.specs.Jobs.{writes}
use Rattle.doc_model.specs.Strokes.{Jobs}
use Rattle.machine_model.specs.State.{Painter, Slot, Free, Paints, Walks}
use Rattle.machine_model.specs.Slots.{is_painter}
use Rattle.machine_model.specs.Painters.{painter_in, is_done, done}
use Rattle.machine_model.specs.UnderWay.{Once}
use Rattle.machine_model.specs.Effects.{writes_of}
use Rattle.machine_model.proofs.Choices.{same_and}
use Rattle.machine_model.proofs.Lists.{get_set}
use Rattle.machine_model.proofs.SlotPainters.{painter_found, painter-set, once-set, painter-filled, painter-freed, painter-beside}
use Rattle.desk_state.specs.Noted.{writes_in, noted}

-- it depends on which of the jobs that write in the tile have published it or ended
pub noted_same : (jobs : Jobs) (slots new : List Slot) (n : ℕ) (k : Key) → ((j : ℕ) → j < n → (writes_in jobs j k && done new j k) ≡ (writes_in jobs j k && done slots j k)) → noted jobs new n k ≡ noted jobs slots n k
noted_same jobs slots new zero k same = refl
noted_same jobs slots new (suc n) k same = λ i. same n (omega arith) i || noted_same jobs slots new n k (λ j h. same j (omega arith)) i

-- one of them is enough
pub noted_there : (jobs : Jobs) (slots : List Slot) (n i : ℕ) (k : Key) → i < n → writes_in jobs i k ≡ true → done slots i k ≡ true → noted jobs slots n k ≡ true
noted_there jobs slots zero i k h w d = absurd (omega arith)
noted_there jobs slots (suc n) i k h w d = go (λ l. noted_there jobs slots n i k l w d) (eqb i n) refl
  where
    here : (m : ℕ) → i ≡ m → (writes_in jobs m k && done slots m k) ≡ true
    here m e = rw (← e) (both_true _ _ w d)

    go : (i < n → noted jobs slots n k ≡ true) → (b : Bool) → eqb i n ≡ b → noted jobs slots (suc n) k ≡ true
    go rest true e = or_left _ _ (here n (grind (arith, nat_tests)))
    go rest false e = let below : i < n = grind (arith, nat_tests) in or_right _ _ (rest below)

-- what a job writes, by its index
pub written_at : (jobs : Jobs) (i : ℕ) (kind : Kind) (job : Job) (k : Key) → slice_get jobs i ≡ Some (kind, job) → writes_in jobs i k ≡ list_any (same_key k) (all_keys_of (writes job))
written_at jobs i kind job k e = rw e refl

-- a job that publishes a tile of its own
pub noted_published : (jobs : Jobs) (slots : List Slot) (s : ℕ) (w : Painter) (key : Key) (n : ℕ) (kind : Kind) (k : Key) → slice_get slots s ≡ Some (Paints w) → Once slots → w.index < n → slice_get jobs w.index ≡ Some (kind, w.job)
    → list_any (same_key key) (all_keys_of (writes w.job)) ≡ true → noted jobs (slice_set slots s (Paints (record w { published = key ∷ w.published }))) n k ≡ (same_key k key || noted jobs slots n k)
noted_published jobs slots s w key n kind k h once below is_job own = go (same_key k key) refl
  where
    more : Painter
    more = record w { published = key ∷ w.published }

    new : List Slot
    new = slice_set slots s (Paints more)

    found : painter_in w.index new ≡ Some more
    found = painter_found new s more (get_set slots s (Paints w) (Paints more) h) (once-set slots s w more h refl once)

    here : (q : Key) → q ≡ key → noted jobs new n q ≡ true
    here q e = noted_there jobs new n w.index q below (written_at jobs w.index kind w.job q is_job ∙ ap (λ t. list_any (same_key t) (all_keys_of (writes w.job))) e ∙ own)
        (ap (λ o. is_done o q) found ∙ or_left _ _ (key_is q key e))

    other : same_key k key ≡ false → (j : ℕ) → done new j k ≡ done slots j k
    other apart j = ap (λ o. is_done o k) (painter-set slots s w more j h refl once) ∙ by (eqb w.index j) refl
      where
        by : (b : Bool) → eqb w.index j ≡ b → is_done (cond b (Some more) (painter_in j slots)) k ≡ done slots j k
        by true e =
            let same : w.index ≡ j = grind (arith, nat_tests) in
            ap (λ b. b || list_any (same_key k) w.published) apart ∙ sym (ap (λ o. is_done o k) (ap (λ m. painter_in m slots) (sym same) ∙ painter_found slots s w h once))
        by false e = refl

    go : (b : Bool) → same_key k key ≡ b → noted jobs new n k ≡ (b || noted jobs slots n k)
    go true e = here k (key_same k key e)
    go false e = noted_same jobs slots new n k (λ j l. ap (λ b. writes_in jobs j k && b) (other e j))

-- a job that ends
pub noted_ended : (jobs : Jobs) (slots : List Slot) (s : ℕ) (w : Painter) (n : ℕ) (kind : Kind) (k : Key) → slice_get slots s ≡ Some (Paints w) → Once slots → slice_get jobs w.index ≡ Some (kind, w.job)
    → (list_any (same_key k) (all_keys_of (writes w.job)) ≡ true → list_any (same_key k) w.published ≡ true) → noted jobs (slice_set slots s Free) n k ≡ noted jobs slots n k
noted_ended jobs slots s w n kind k h once is_job all = noted_same jobs slots (slice_set slots s Free) n k (λ j l. same j (eqb w.index j) refl)
  where
    same : (j : ℕ) (b : Bool) → eqb w.index j ≡ b → (writes_in jobs j k && done (slice_set slots s Free) j k) ≡ (writes_in jobs j k && done slots j k)
    same j true e =
        let i : w.index ≡ j = grind (arith, nat_tests) in
        let old : painter_in j slots ≡ Some w = ap (λ m. painter_in m slots) (sym i) ∙ painter_found slots s w h once in
        let job_is : slice_get jobs j ≡ Some (kind, w.job) = ap (slice_get jobs) (sym i) ∙ is_job in
        same_and _ _ _ (λ wr. ap (λ o. is_done o k) (painter-freed slots s w j h once ∙ taken (eqb w.index j) _ _ e)
        ∙ sym (all (sym (written_at jobs j kind w.job k job_is) ∙ wr)) ∙ sym (ap (λ o. is_done o k) old))
    same j false e = ap (λ o. writes_in jobs j k && is_done o k) (painter-freed slots s w j h once ∙ kept (eqb w.index j) _ _ e)

-- a job that starts
pub noted_started : (jobs : Jobs) (slots : List Slot) (s : ℕ) (w : Painter) (n : ℕ) (k : Key) → slice_get slots s ≡ Some Free → painter_in n slots ≡ None → w.index ≡ n → w.published ≡ []
    → noted jobs (slice_set slots s (Paints w)) (suc n) k ≡ noted jobs slots n k
noted_started jobs slots s w n k h none at fresh = ap (λ b. (writes_in jobs n k && b) || noted jobs new n k) now ∙ ap (λ b. b || noted jobs new n k) (and-false (writes_in jobs n k)) ∙ noted_same jobs slots new n k before
  where
    new : List Slot
    new = slice_set slots s (Paints w)

    none_at : painter_in w.index slots ≡ None
    none_at = ap (λ m. painter_in m slots) at ∙ none

    now : done new n k ≡ false
    now = ap (λ o. is_done o k) (painter-filled slots s w n h none_at ∙ taken (eqb w.index n) _ _ (grind (arith, nat_tests))) ∙ ap (list_any (same_key k)) fresh

    before : (j : ℕ) → j < n → (writes_in jobs j k && done new j k) ≡ (writes_in jobs j k && done slots j k)
    before j l = ap (λ o. writes_in jobs j k && is_done o k) (painter-filled slots s w j h none_at ∙ kept (eqb w.index j) _ _ (grind (arith, nat_tests)))

-- what isn't a job comes and goes
pub noted_beside : (jobs : Jobs) (slots : List Slot) (s : ℕ) (x y : Slot) (n : ℕ) (k : Key) → slice_get slots s ≡ Some x → is_painter x ≡ false → is_painter y ≡ false → noted jobs (slice_set slots s y) n k ≡ noted jobs slots n k
noted_beside jobs slots s x y n k h nx ny = noted_same jobs slots (slice_set slots s y) n k (λ j l. ap (λ o. writes_in jobs j k && is_done o k) (painter-beside slots s x y j h nx ny))

-- more jobs behind the started ones
pub noted_grown : (jobs more : Jobs) (slots : List Slot) (n : ℕ) (k : Key) → ((j : ℕ) → j < n → slice_get more j ≡ slice_get jobs j) → noted more slots n k ≡ noted jobs slots n k
noted_grown jobs more slots zero k same = refl
noted_grown jobs more slots (suc n) k same = λ i. (here i && done slots n k) || noted_grown jobs more slots n k (λ j h. same j (omega arith)) i
  where
    here : writes_in more n k ≡ writes_in jobs n k
    here = rw (same n (omega arith)) refl

-- where no job is at work each has ended
all_done : (slots : List Slot) (j : ℕ) (k : Key) → list_any is_painter slots ≡ false → done slots j k ≡ true
all_done slots j k none = ap (λ o. is_done o k) (nobody slots none)
  where
    nobody : (slots : List Slot) → list_any is_painter slots ≡ false → painter_in j slots ≡ None
    nobody [] none = refl
    nobody (Free ∷ slots) none = nobody slots none
    nobody (Walks w ∷ slots) none = nobody slots none
    nobody (Paints w ∷ slots) none = cc

pub any_keys_append : (k : Key) (xs ys : List Area) → list_any (same_key k) (all_keys_of (xs ++ ys)) ≡ (list_any (same_key k) (all_keys_of xs) || list_any (same_key k) (all_keys_of ys))
any_keys_append k [] ys = refl
any_keys_append k (x ∷ xs) ys =
    list_any-append (same_key k) (keys_of x) (all_keys_of (xs ++ ys))
    ∙ ap (λ b. list_any (same_key k) (keys_of x) || b) (any_keys_append k xs ys)
    ∙ again (list_any (same_key k) (keys_of x)) (list_any (same_key k) (all_keys_of xs)) (list_any (same_key k) (all_keys_of ys))
    ∙ ap (λ b. b || list_any (same_key k) (all_keys_of ys)) (sym (list_any-append (same_key k) (keys_of x) (all_keys_of xs)))
  where
    again : (a b c : Bool) → (a || (b || c)) ≡ ((a || b) || c)
    again true b c = refl
    again false b c = refl

-- the jobs up to the one of an index, that one told apart
any_one_more : (jobs : Jobs) (n : ℕ) (k : Key) → list_any (same_key k) (all_keys_of (writes_of (take (suc n) jobs))) ≡ (writes_in jobs n k || list_any (same_key k) (all_keys_of (writes_of (take n jobs))))
any_one_more [] zero k = refl
any_one_more [] (suc n) k = refl
any_one_more (x ∷ jobs) zero k = any_keys_append k (writes x.1) []
any_one_more (x ∷ jobs) (suc n) k =
    any_keys_append k (writes x.1) (writes_of (take (suc n) jobs))
    ∙ ap (λ b. list_any (same_key k) (all_keys_of (writes x.1)) || b) (any_one_more jobs n k)
    ∙ swap (list_any (same_key k) (all_keys_of (writes x.1))) (writes_in jobs n k) (list_any (same_key k) (all_keys_of (writes_of (take n jobs))))
    ∙ ap (λ b. writes_in jobs n k || b) (sym (any_keys_append k (writes x.1) (writes_of (take n jobs))))
  where
    swap : (a b c : Bool) → (a || (b || c)) ≡ (b || (a || c))
    swap true true c = refl
    swap true false c = refl
    swap false b c = refl

-- where no job is at work, the tiles of all started jobs are painted
pub noted_all : (jobs : Jobs) (slots : List Slot) (n : ℕ) (k : Key) → list_any is_painter slots ≡ false → noted jobs slots n k ≡ list_any (same_key k) (all_keys_of (writes_of (take n jobs)))
noted_all jobs slots zero k none = refl
noted_all jobs slots (suc n) k none =
    ap (λ b. (writes_in jobs n k && b) || noted jobs slots n k) (all_done slots n k none)
    ∙ ap (λ b. b || noted jobs slots n k) (and_true (writes_in jobs n k))
    ∙ ap (λ b. writes_in jobs n k || b) (noted_all jobs slots n k none)
    ∙ sym (any_one_more jobs n k)
  where
    and_true : (b : Bool) → (b && true) ≡ b
    and_true true = refl
    and_true false = refl

-- so they are the set of these tiles
pub keys_are : (jobs : Jobs) (slots : List Slot) (n : ℕ) (keys : FinSet key_cmp) → ((k : Key) → set.contains keys k ≡ noted jobs slots n k) → list_any is_painter slots ≡ false → keys ≡ key_set (writes_of (take n jobs))
keys_are jobs slots n keys notes none = set.same_set key_cmp_total key_cmp-IsAntisymmetric _ _ (λ k. notes k ∙ noted_all jobs slots n k none ∙ sym (set.contains-from_list key_cmp_total (all_keys_of (writes_of (take n jobs))) k))
