-- Who may be at work beside whom.
use Rattle.std.proofs.Common.{◌≡◌, ◌≢◌, ℕ, suc, zero, ◌-◌, ◌<◌, Bool, true, false, ◌&&◌, ◌||◌, List, [], ◌∷◌, Option, Some, None, refl, sym, ap, ◌∙◌, arith, ◌⊎◌, inl, inr}
use Rattle.std.specs.Prelude.{slice_get, nat_lt}
use Rattle.std.specs.List.{list_all, list_any}
use Rattle.std.proofs.lemmas.Bool.Decides.{nat_tests}
use Rattle.geom_core.specs.Areas.{meets}
use Rattle.geom_core.proofs.Tests.{true_or_false, and_left, and_right, not_true}
use Rattle.doc_model.specs.declared.job.Job.{Job}
use Rattle.doc_model.specs.declared.job.Kind.{Kind}
use Rattle.doc_model.specs.declared.job.Kind.TheVariants.{Con, Seq, Bar, Uni}
use Rattle.doc_model.specs.Strokes.{Jobs, Stroke, runs, runs_at, passes, one_run, is_uni}
use Rattle.doc_model.specs.Kept.{kept}
use Rattle.doc_model.proofs.Conflicts.{all_from_at}
use Rattle.machine_model.specs.State.{Painter, Walker, Slot, Free, Paints, Walks, State, head_stroke}
use Rattle.machine_model.specs.Painters.{painter_in}
use Rattle.machine_model.specs.Guards.{kept_jobs, blocks, excludes, is_bar}
use Rattle.machine_model.specs.UnderWay.{Once, SlotIsStarted, UnderWay, both_uni}
use Rattle.machine_model.specs.Walking.{walks_apart, all_apart}
use Rattle.machine_model.specs.Sound.{IsOrderly}
use Rattle.machine_model.specs.CommutingLaws.{AreOfOneRun}
use Rattle.machine_model.specs.GuardLaws.{RunsAs, MayShare, OnlyRunsShare, SharersMayStart, WalksNeverMeet}
use Rattle.machine_model.proofs.Lists.{all_get, each_get}
use Rattle.machine_model.proofs.SlotPainters.{painter_found, runs_found}
use Rattle.machine_model.proofs.JobKeeps.{painting}
use Rattle.machine_model.proofs.SlotChanges.{meets_swapped}

once_rest : (slot : Slot) (slots : List Slot) → Once (slot ∷ slots) → Once slots
once_rest Free slots once = once
once_rest (Walks w) slots once = once
once_rest (Paints w) slots once = once.1

-- the job of a slot is in no later one
not_later : (slot : Slot) (slots : List Slot) (q : ℕ) (w v : Painter) → slot ≡ Paints w → Once (slot ∷ slots) → slice_get slots q ≡ Some (Paints v) → w.index ≡ v.index → ⊥
not_later Free slots q w v e once h same = cc
not_later (Walks u) slots q w v e once h same = cc
not_later (Paints u) slots q w v e once h same =
    let one : u ≡ w = cc in
    let none : painter_in v.index slots ≡ None = ap (λ n. painter_in n slots) (sym same ∙ ap (λ (x : Painter). x.index) (sym one)) ∙ once.0 in
    let found : painter_in v.index slots ≡ Some v = painter_found slots q v h once.1 in
    cc

-- one job is in one slot
once_places : (slots : List Slot) (p q : ℕ) (w v : Painter) → Once slots → slice_get slots p ≡ Some (Paints w) → slice_get slots q ≡ Some (Paints v) → w.index ≡ v.index → p ≡ q
once_places [] p q w v once h k same = cc
once_places (x ∷ xs) zero zero w v once h k same = refl
once_places (x ∷ xs) zero (suc q) w v once h k same = absurd (not_later x xs q w v (let e : x ≡ Paints w = cc in e) once k same)
once_places (x ∷ xs) (suc p) zero w v once h k same = absurd (not_later x xs p v w (let e : x ≡ Paints v = cc in e) once h (sym same))
once_places (x ∷ xs) (suc p) (suc q) w v once h k same = ap suc (once_places xs p q w v (once_rest x xs once) h k same)

swapped : {a b : Kind} → MayShare a b → MayShare b a
swapped {a = a} {b = b} may = record { first = may.second; second = may.first; not_both = turned (is_uni a) (is_uni b) may.not_both }
  where
    turned : (x y : Bool) → (x && y) ≡ false → (y && x) ≡ false
    turned x y h = grind arith

-- jobs of one run may share
share_of_run : (jobs : Jobs) (a b : Kind × Job) → AreOfOneRun jobs a b → MayShare a.0 b.0
share_of_run jobs a b one = record {
  first = sym (ap kind_runs one.first) ∙ all_from_at one.i (suc one.j - one.i) (runs_at (kept jobs)) one.i one.run (omega arith) (let h : one.i < one.j = one.before in omega arith);
  second = sym (ap kind_runs one.second) ∙ all_from_at one.i (suc one.j - one.i) (runs_at (kept jobs)) one.j one.run (let h : one.i < one.j = one.before in omega arith) (let h : one.i < one.j = one.before in omega arith);
  not_both = one.not_both;
}
  where
    kind_runs : Option (Kind × Job) → Bool
    kind_runs o = passes o (λ (k : Kind × Job). runs k.0)

-- a job at work and one that started after it are of one run
earlier_of_run : (s : State) (n : ℕ) (way : UnderWay s n) (p q : ℕ) (a b : Kind) (x : RunsAs s p a) (y : RunsAs s q b) → x.painter.index < y.painter.index → AreOfOneRun way.stroke.jobs (a, x.painter.job) (b, y.painter.job)
earlier_of_run s n way p q a b x y less = record { i = i; j = j; before = less; first = first; second = second; run = may.0; not_both = rw (first, second) at may.1 }
  where
    jobs : Jobs
    jobs = kept_jobs way.stroke

    i : ℕ
    i = x.painter.index

    j : ℕ
    j = y.painter.index

    same_stroke : (t : Stroke) → head_stroke s ≡ Some t → t ≡ way.stroke
    same_stroke t h = let e : Some t ≡ Some way.stroke = sym h ∙ way.at_head in cc

    first : slice_get jobs i ≡ Some (a, x.painter.job)
    first = ap (λ (t : Stroke). slice_get (kept_jobs t) i) (sym (same_stroke x.stroke x.at_head)) ∙ x.listed

    second : slice_get jobs j ≡ Some (b, y.painter.job)
    second = ap (λ (t : Stroke). slice_get (kept_jobs t) j) (sym (same_stroke y.stroke y.at_head)) ∙ y.listed

    below : j < n
    below = (all_get (SlotIsStarted jobs n) s.slots q (Paints y.painter) way.started y.at_work).0

    may : (one_run jobs i j ≡ true) × (both_uni jobs i j ≡ false)
    may = way.overlap i j less below (runs_found s.slots p x.painter x.at_work way.once)

-- each job at work is in the list
pub listed_job : (s : State) (place : ℕ) (w : Painter) → IsOrderly s → slice_get s.slots place ≡ Some (Paints w) → (kind : Kind) × (job : RunsAs s place kind) × (job.painter ≡ w)
listed_job s place w sound at_work = go (painting s place w at_work s.way sound.on_way)
  where
    go : (n : ℕ) × (s.way ≡ Some n) × UnderWay s n → (kind : Kind) × (job : RunsAs s place kind) × (job.painter ≡ w)
    go found =
        let way : UnderWay s found.0 = found.2 in
        let here : SlotIsStarted (kept_jobs way.stroke) found.0 (Paints w) = all_get (SlotIsStarted (kept_jobs way.stroke) found.0) s.slots place (Paints w) way.started at_work in
        (here.1, record { painter = w; at_work = at_work; stroke = way.stroke; at_head = way.at_head; listed = here.2 }, refl)

-- jobs at work in two slots are of one run
pub at_work_of_run : (s : State) (n : ℕ) (way : UnderWay s n) (p q : ℕ) (a b : Kind) (x : RunsAs s p a) (y : RunsAs s q b) → p ≢ q
    → AreOfOneRun way.stroke.jobs (a, x.painter.job) (b, y.painter.job) ⊎ AreOfOneRun way.stroke.jobs (b, y.painter.job) (a, x.painter.job)
at_work_of_run s n way p q a b x y apart = elim (true_or_false (nat_lt x.painter.index y.painter.index)) [
  | inl less ↦ inl (earlier_of_run s n way p q a b x y (grind (arith, nat_tests)))
  | inr not_less ↦ elim (true_or_false (nat_lt y.painter.index x.painter.index)) [
    | inl more ↦ inr (earlier_of_run s n way q p b a y x (grind (arith, nat_tests)))
    | inr not_more ↦ absurd (apart (once_places s.slots p q x.painter y.painter way.once x.at_work y.at_work (same x.painter.index y.painter.index not_less not_more)))
  ]
]
  where
    same : (i j : ℕ) → nat_lt i j ≡ false → nat_lt j i ≡ false → i ≡ j
    same i j h k = grind (arith, nat_tests)

pub only_runs_share : OnlyRunsShare
only_runs_share s p q a b sound x y apart = go (painting s p x.painter x.at_work s.way sound.on_way)
  where
    go : (n : ℕ) × (s.way ≡ Some n) × UnderWay s n → MayShare a b
    go found = elim (at_work_of_run s found.0 found.2 p q a b x y apart) [
      | inl one ↦ share_of_run found.2.stroke.jobs (a, x.painter.job) (b, y.painter.job) one
      | inr one ↦ swapped (share_of_run found.2.stroke.jobs (b, y.painter.job) (a, x.painter.job) one)
    ]

-- what a job may share with doesn't keep it out
lets_in : (a b : Kind) → MayShare a b → excludes a (Some b) ≡ false
lets_in Con Con may = refl
lets_in Con Uni may = refl
lets_in Uni Con may = refl
lets_in Uni Uni may = let t : true ≡ false = may.not_both in cc
lets_in Seq b may = let t : false ≡ true = may.first in cc
lets_in Bar b may = let t : false ≡ true = may.first in cc
lets_in Con Seq may = let t : false ≡ true = may.second in cc
lets_in Con Bar may = let t : false ≡ true = may.second in cc
lets_in Uni Seq may = let t : false ≡ true = may.second in cc
lets_in Uni Bar may = let t : false ≡ true = may.second in cc

-- a job of a run is no barrier
no_barrier : (kind : Kind) → runs kind ≡ true → is_bar kind ≡ false
no_barrier Con h = refl
no_barrier Uni h = refl
no_barrier Seq h = cc
no_barrier Bar h = cc

-- where each slot lets the job in, none blocks it
none_blocks : (test : Slot → Bool) (slots : List Slot) → ((p : ℕ) (slot : Slot) → slice_get slots p ≡ Some slot → test slot ≡ false) → list_any test slots ≡ false
none_blocks test [] each = refl
none_blocks test (x ∷ xs) each = ap (λ b. b || list_any test xs) (each zero x refl) ∙ none_blocks test xs (λ p. each (suc p))

pub sharers_may_start : SharersMayStart
sharers_may_start s place kind job sound next run share free = (
  _,
  record {
    stroke = next.stroke;
    at_head = next.at_head;
    next = next.next;
    begun = next.begun;
    not_cancelled = next.not_cancelled;
    no_overlap = next.no_overlap;
    free = free;
    job = (kind, job);
    is_next = next.listed;
    unblocked = none_blocks (blocks (kept_jobs next.stroke) kind) s.slots let_in;
    barrier = (λ bar. absurd (let t : true ≡ false = sym bar ∙ no_barrier kind run in cc));
    new_is = refl;
  },
)
  where
    same_stroke : (t : Stroke) → head_stroke s ≡ Some t → t ≡ next.stroke
    same_stroke t h = let e : Some t ≡ Some next.stroke = sym h ∙ next.at_head in cc

    let_in : (p : ℕ) (slot : Slot) → slice_get s.slots p ≡ Some slot → blocks (kept_jobs next.stroke) kind slot ≡ false
    let_in p Free at = refl
    let_in p (Walks w) at = refl
    let_in p (Paints w) at =
        let found : (k : Kind) × (x : RunsAs s p k) × (x.painter ≡ w) = listed_job s p w sound at in
        let listed : slice_get (kept_jobs next.stroke) w.index ≡ Some (found.0, found.1.painter.job) =
        ap (λ (v : Painter). slice_get (kept_jobs next.stroke) v.index) (sym found.2)
        ∙ ap (λ (t : Stroke). slice_get (kept_jobs t) found.1.painter.index) (sym (same_stroke found.1.stroke found.1.at_head))
        ∙ found.1.listed in
        rw listed (lets_in kind found.0 (share p found.0 found.1))

-- a walk and a later one
apart_later : (slots : List Slot) (q : ℕ) (slot : Slot) (a b : Walker) → slot ≡ Walks a → list_all (walks_apart slot) slots ≡ true → slice_get slots q ≡ Some (Walks b) → meets a.patch.rect b.patch.rect ≡ false
apart_later slots q slot a b e all h = not_true _ (ap (λ x. walks_apart x (Walks b)) (sym e) ∙ each_get (walks_apart slot) slots q (Walks b) h all)

apart_places : (slots : List Slot) (p q : ℕ) (a b : Walker) → all_apart slots ≡ true → slice_get slots p ≡ Some (Walks a) → slice_get slots q ≡ Some (Walks b) → p ≢ q → meets a.patch.rect b.patch.rect ≡ false
apart_places [] p q a b all h k apart = cc
apart_places (x ∷ xs) zero zero a b all h k apart = absurd (apart refl)
apart_places (x ∷ xs) zero (suc q) a b all h k apart = apart_later xs q x a b (let e : x ≡ Walks a = cc in e) (and_left (list_all (walks_apart x) xs) _ all) k
apart_places (x ∷ xs) (suc p) zero a b all h k apart = meets_swapped a.patch.rect b.patch.rect ∙ apart_later xs p x b a (let e : x ≡ Walks b = cc in e) (and_left (list_all (walks_apart x) xs) _ all) h
apart_places (x ∷ xs) (suc p) (suc q) a b all h k apart = apart_places xs p q a b (and_right (list_all (walks_apart x) xs) _ all) h k (λ e. apart (ap suc e))

pub walks_never_meet : WalksNeverMeet
walks_never_meet s p q a b sound h k apart = apart_places s.slots p q a b sound.walking.apart h k apart
