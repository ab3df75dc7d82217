-- What a start and an end of a job leave is the event of the machine.
use Rattle.std.proofs.Common.{◌≡◌, ℕ, suc, zero, ◌+◌, ◌*◌, ◌<◌, ◌≤◌, Bool, true, false, ◌&&◌, Option, Some, None, List, [], ◌∷◌, length, drop, sym, ap, ◌∙◌, subst, arith, inl, inr, add-one}
use Rattle.std.specs.Prelude.{slice_get, slice_set, ◌^◌, ◌-◌}
use Rattle.std.specs.List.{list_any, list_all}
use Rattle.std.specs.FinSet.{FinSet}
use Rattle.std.proofs.lemmas.List.Folds.{list_any-append}
use Rattle.geom_core.specs.Areas.{Area}
use Rattle.geom_core.specs.Grid.{Key, key_cmp, same_key, keys_of, all_keys_of}
use Rattle.geom_core.proofs.Tests.{and_left, and_right, or_cases}
use Rattle.geom_core.proofs.Tiles.{key_same}
use Rattle.doc_model.specs.declared.job.Job.{Job}
use Rattle.doc_model.specs.declared.job.Kind.{Kind}
use Rattle.doc_model.specs.Jobs.{reads, writes, checks}
use Rattle.doc_model.specs.Shots.{shot_of}
use Rattle.doc_model.specs.Strokes.{Stroke, Open}
use Rattle.tile_core.specs.Shots.{Sight}
use Rattle.job_core.specs.Paints.{layer_of}
use Rattle.stroke_core.specs.Fed.{Fed, Closed}
use Rattle.entry_queue.specs.declared.entry.Entry.TheVariants.{Waiting, Whole}
use Rattle.entry_queue.specs.Pushed.{kept_of}
use Rattle.desk_steps.specs.Archives.{layer_under_way}
use Rattle.machine_model.specs.State as state
use Rattle.machine_model.specs.State.{head_stroke}
use Rattle.machine_model.specs.Event.{Start, End}
use Rattle.machine_model.specs.Groups.{parent_of}
use Rattle.machine_model.specs.Guards.{kept_jobs}
use Rattle.machine_model.specs.Effects.{updates_with_all}
use Rattle.machine_model.proofs.Lists.{length_above}
use Rattle.machine_model.proofs.Serials.{serials_are_few}
use Rattle.slot_core.specs.declared.Busy.{Busy}
use Rattle.slot_core.specs.Busy.{work_at}
use Rattle.desk_state.specs.declared.work.Painter.{Painter}
use Rattle.desk_state.specs.declared.work.Work.{Work}
use Rattle.desk_state.specs.declared.work.Work.TheVariants as work
use Rattle.desk_state.specs.Enabled.{Enabled}
use Rattle.update_queue.specs.Waiting as lists
use Rattle.update_queue.specs.Waiting.{waiting}
use Rattle.desk_state.specs.Parts.{Parts, state_of, painter_of}
use Rattle.desk_state.specs.Tied.{IsDesk}
use Rattle.desk_state.specs.After.{after_end, busy_painter, starting}
use Rattle.desk_state.proofs.Keeping.{IsGoing, going_at_work, held}
use Rattle.desk_state.proofs.Heads.{IsStrokeHead, whole_head, waiting_head, fate_of}
use Rattle.desk_state.proofs.Places.{painting_at, IsPaintingAs, painting_as, free_as}
use Rattle.desk_state.proofs.Beginning.{MayStart, start_step, start_keeps}
use Rattle.desk_state.proofs.Ending.{MayEnd, end_step, end_keeps}
use Rattle.desk_state.proofs.Enabling.{may_start}
use Rattle.desk_state.proofs.Doing.{Does}

-- the next serial fits
pub serial_fits : (d : Parts) → IsDesk d → d.next + 1 < 2 ^ 64
serial_fits d desk =
    let a : d.next + length d.updates.patches ≤ 65 * length d.fed + 17 = serials_are_few (state_of d) desk.sound.orderly in
    let b : length d.fed ≤ 2 ^ 32 - 1 = desk.few in
    omega arith

number_same : (a b : ℕ) → Some a ≡ Some b → a ≡ b
number_same a b e = cc

stroke_same : (a b : Stroke) → Some a ≡ Some b → a ≡ b
stroke_same a b e = cc

below : (jobs : List (Kind × Job)) (kept : List (Kind × Job)) (i n : ℕ) (job : Kind × Job) → kept ≡ jobs → n ≡ i → slice_get kept n ≡ Some job → i + 1 ≤ length jobs
below jobs kept i n job same at is = let h : suc n ≤ length kept = length_above kept n job is in let e : length kept ≡ length jobs = ap length same in omega (arith, h, e, at)

-- the job that starts next is one of the kept ones
pub below_whole : (d : Parts) (c : Closed) (place i : ℕ) → IsDesk d → slice_get d.queue.left 0 ≡ Some (Whole c) → Enabled (state_of d) (Start place) → d.way ≡ Some i → i + 1 ≤ length c.stroke.jobs
below_whole d c place i desk first can way =
    let x : IsStrokeHead d (fate_of c.cancelled) c.stroke = whole_head d c desk first in
    below c.stroke.jobs (kept_jobs can.1.stroke) i can.1.next can.1.job
    (ap kept_jobs (stroke_same _ _ (sym can.1.at_head ∙ x.at_head)) ∙ ap (λ (f : Fed). f.jobs) x.kept_is) (number_same _ _ (sym can.1.begun ∙ way)) can.1.is_next

pub below_waiting : (d : Parts) (f : Fed) (place i : ℕ) → IsDesk d → slice_get d.queue.left 0 ≡ Some (Waiting f) → Enabled (state_of d) (Start place) → d.way ≡ Some i → i + 1 ≤ length f.jobs
below_waiting d f place i desk first can way =
    let x : IsStrokeHead d Open f = waiting_head d f desk first in
    below f.jobs (kept_jobs can.1.stroke) i can.1.next can.1.job
    (ap kept_jobs (stroke_same _ _ (sym can.1.at_head ∙ x.at_head)) ∙ ap (λ (g : Fed). g.jobs) x.kept_is) (number_same _ _ (sym can.1.begun ∙ way)) can.1.is_next

-- a free slot of the machine is free
pub free_at : (d : Parts) (place : ℕ) → Enabled (state_of d) (Start place) → slice_get d.slots place ≡ Some None
free_at d place can = free_as d.slots place can.1.free

pub start_does : (d : Parts) (place n : ℕ) (job : Job) (shot : Sight) (w : Painter) (slots : List (Option (Busy Work))) → IsDesk d → (can : Enabled (state_of d) (Start place)) → n ≡ can.1.next → job ≡ can.1.job.1 → checks job ≡ true → shot.rects ≡ reads job
    → layer_of shot ≡ shot_of (reads job) (layer_under_way d.store.way d.store.present) → w ≡ starting d n job shot → slots ≡ slice_set d.slots place (Some (busy_painter w)) → Does d (Start place) (record d { slots = slots; way = Some (n + 1); next = d.next + 1 })
start_does d place n job shot w slots desk can at named checked rects shows is filled =
    subst (Does d (Start place))
    (λ i. record d {
      slots = sym (filled ∙ ap (λ v. slice_set d.slots place (Some (busy_painter v))) (is ∙ (λ k. starting d (at k) (named k) shot))) i;
      way = Some ((ap suc (sym at) ∙ sym (add-one n)) i);
      next = sym (add-one d.next) i;
    })
    (record { desk = start_keeps d can.1.stroke.fate (kept_of can.1.stroke) place can.1.next can.1.job shot desk may; step = start_step d can.1.stroke.fate (kept_of can.1.stroke) place can.1.next can.1.job shot desk may })
  where
    may : MayStart d can.1.stroke.fate (kept_of can.1.stroke) place can.1.next can.1.job shot
    may = may_start d can.0 place shot desk can.1 (ap checks (sym named) ∙ checked) (rects ∙ ap reads named) (shows ∙ ap (λ j. shot_of (reads j) (layer_under_way d.store.way d.store.present)) named)

pub end_does : (d : Parts) (place : ℕ) (w : Painter) (g : ℕ) (updates : lists.Waiting) (slots : List (Option (Busy Work))) → IsDesk d → Enabled (state_of d) (End place) → work_at place d.slots ≡ Some (work.Paint w) → ((s : Stroke) → head_stroke (state_of d) ≡ Some s → g ≡ parent_of s.layer d.store.present)
    → updates ≡ waiting d.updates.canvas (updates_with_all d.updates.canvas g (writes w.job) d.updates.patches) → slots ≡ slice_set d.slots place None → Does d (End place) (record d { slots = slots; updates = updates })
end_does d place w g updates slots desk can h group widened freed =
    subst (Does d (End place)) (λ i. record d { slots = sym freed i; updates = sym widened i })
    (record { desk = end_keeps d place w g desk may; step = end_step d place w g desk may })
  where
    x : IsPaintingAs d.slots place can.1.painter
    x = painting_as d.slots place can.1.painter can.1.runs

    work_same : (a b : Painter) → Some (work.Paint a) ≡ Some (work.Paint b) → a ≡ b
    work_same a b e = cc

    is : can.1.painter ≡ painter_of w
    is = sym x.is ∙ ap painter_of (work_same x.painter w (sym x.at_work ∙ h))

    going : IsGoing d
    going = going_at_work d place can.1.painter desk can.1.runs

    layer_of_way : Option (ℕ × FinSet key_cmp) → ℕ
    layer_of_way None = 0
    layer_of_way (Some t) = t.0

    may : MayEnd d place w g
    may = record {
      runs = (painting_at d.slots place w desk.slots h).there;
      all = subst (λ (p : state.Painter). (key : Key) → list_any (same_key key) (all_keys_of (writes p.job)) ≡ true → list_any (same_key key) p.published ≡ true) is can.1.all;
      group = λ layer keys e. group going.begun.stroke going.begun.at_head ∙ ap (λ l. parent_of l d.store.present) (ap layer_of_way (sym going.begun.way ∙ e));
    }

-- the places of a list from one on
pub all_drop : {A : Type 0} (P : A → Bool) (ks : List A) (i : ℕ) (k : A) → slice_get ks i ≡ Some k → list_all P (drop i ks) ≡ (P k && list_all P (drop (suc i) ks))
all_drop P [] i k h = cc
all_drop P (x ∷ ks) zero k h = let e : x ≡ k = cc in ap (λ y. P y && list_all P ks) e
all_drop P (x ∷ ks) (suc i) k h = all_drop P ks i k h

pub all_next : {A : Type 0} (P : A → Bool) (ks : List A) (i : ℕ) (k : A) → slice_get ks i ≡ Some k → P k ≡ true → list_all P (drop i ks) ≡ list_all P ks → list_all P (drop (i + 1) ks) ≡ list_all P ks
all_next P ks i k h t e = ap (λ m. list_all P (drop m ks)) (add-one i) ∙ sym (ap (λ b. b && list_all P (drop (suc i) ks)) t) ∙ sym (all_drop P ks i k h) ∙ e

pub all_stops : {A : Type 0} (P : A → Bool) (ks : List A) (i : ℕ) (k : A) → slice_get ks i ≡ Some k → P k ≡ false → list_all P (drop i ks) ≡ list_all P ks → false ≡ list_all P ks
all_stops P ks i k h t e = sym (ap (λ b. b && list_all P (drop (suc i) ks)) t) ∙ sym (all_drop P ks i k h) ∙ e

all_at : (P : Key → Bool) (ks : List Key) (key : Key) → list_all P ks ≡ true → list_any (same_key key) ks ≡ true → P key ≡ true
all_at P [] key all h = cc
all_at P (k ∷ ks) key all h = elim (or_cases (same_key key k) (list_any (same_key key) ks) h) [
  | inl e ↦ ap P (key_same key k e) ∙ and_left _ _ all
  | inr e ↦ all_at P ks key (and_right _ _ all) e
]

-- a test that all tiles of rectangles pass
pub all_keys_pass : (P : Key → Bool) (rects : List Area) (key : Key) → list_all (λ a. list_all P (keys_of a)) rects ≡ true → list_any (same_key key) (all_keys_of rects) ≡ true → P key ≡ true
all_keys_pass P [] key all h = cc
all_keys_pass P (a ∷ rects) key all h = elim (or_cases (list_any (same_key key) (keys_of a)) (list_any (same_key key) (all_keys_of rects)) (sym (list_any-append (same_key key) (keys_of a) (all_keys_of rects)) ∙ h)) [
  | inl e ↦ all_at P (keys_of a) key (and_left _ _ all) e
  | inr e ↦ all_keys_pass P rects key (and_right _ _ all) e
]

-- a job whose tiles are all published may end
pub may_end : (d : Parts) (place : ℕ) (w : Painter) → IsDesk d → work_at place d.slots ≡ Some (work.Paint w) → ((key : Key) → list_any (same_key key) (all_keys_of (writes w.job)) ≡ true → list_any (same_key key) w.published ≡ true) → Enabled (state_of d) (End place)
may_end d place w desk h all = (
  state_of (after_end d place w (parent_of going.begun.stroke.layer d.store.present)),
  end_step d place w (parent_of going.begun.stroke.layer d.store.present) desk (record {
    runs = (painting_at d.slots place w desk.slots h).there;
    all = all;
    group = λ layer keys e. ap (λ l. parent_of l d.store.present) (ap layer_of_way (sym going.begun.way ∙ e));
  }),
)
  where
    layer_of_way : Option (ℕ × FinSet key_cmp) → ℕ
    layer_of_way None = 0
    layer_of_way (Some t) = t.0

    going : IsGoing d
    going = going_at_work d place (painter_of w) desk (held d place _ (painting_at d.slots place w desk.slots h).there)
