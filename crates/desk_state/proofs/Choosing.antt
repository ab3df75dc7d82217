-- Which event of the head may happen, by what is known of the stroke there.
use Rattle.std.proofs.Common.{◌≡◌, ℕ, suc, zero, ◌<◌, ◌≤◌, Bool, true, false, ◌||◌, ◌&&◌, Option, Some, None, is_some, List, [], ◌∷◌, length, refl, sym, ap, ◌∙◌, subst, arith}
use Rattle.std.proofs.lemmas.Bool.Decides.{nat_tests}
use Rattle.std.specs.Prelude.{slice_get, not, ◌==◌}
use Rattle.doc_model.specs.declared.job.Kind.{Kind}
use Rattle.doc_model.specs.declared.job.Kind.TheVariants.{Con, Seq, Bar, Uni}
use Rattle.doc_model.specs.declared.job.Job.{Job}
use Rattle.doc_model.specs.Forest.{content}
use Rattle.doc_model.specs.Kept.{up_to}
use Rattle.doc_model.specs.Strokes.{Stroke, Fate, Open, Ended, Cancelled}
use Rattle.machine_model.specs.State.{State, Free, head_stroke}
use Rattle.machine_model.specs.Event.{Init, Start, Publish, End, Finish, Cancel, Act, Feed, WalkStart, WalkPublish, WalkEnd}
use Rattle.machine_model.specs.Slots.{no_painter, no_walker}
use Rattle.machine_model.specs.Guards.{kept_jobs, is_closed, is_ended, is_cancelled, overlaps, is_paint, is_bar}
use Rattle.machine_model.specs.UnderWay.{AtRest, UnderWay, IsOnWay}
use Rattle.entry_queue.specs.declared.head.HeadStroke.{HeadStroke}
use Rattle.desk_state.specs.Enabled.{Enabled}
use Rattle.desk_state.specs.Choices.{HeadWaits, IsHeadOf, is_clean, clear_for, runs_beside, runs_at}
use Rattle.desk_state.proofs.Enabling.{clear_of_overlap}
use Rattle.geom_core.proofs.Tests.{none_left, none_right, both_true, not_true, and_left, and_right, never, some_same}

pub clash : (b : Bool) → b ≡ true → b ≡ false → ⊥
clash b t f = never (sym f ∙ t)

pub no_none : {A : Type 0} (x : A) (o : Option A) → o ≡ None → o ≡ Some x → ⊥
no_none x o n s = let e : None ≡ Some x = sym n ∙ s in cc

-- the head waits where none of its events may happen
pub head_waits : (s : State) → (Enabled s Init → ⊥) → ((place : ℕ) → Enabled s (Start place) → ⊥) → (Enabled s Finish → ⊥) → (Enabled s Cancel → ⊥) → (Enabled s Act → ⊥) → HeadWaits s
head_waits s i st f c a Init h e = i e
head_waits s i st f c a (Start place) h e = st place e
head_waits s i st f c a Finish h e = f e
head_waits s i st f c a Cancel h e = c e
head_waits s i st f c a Act h e = a e
head_waits s i st f c a (Feed k) h e = never h
head_waits s i st f c a (Publish p k) h e = never h
head_waits s i st f c a (End p) h e = never h
head_waits s i st f c a (WalkStart p q) h e = never h
head_waits s i st f c a (WalkPublish p g k) h e = never h
head_waits s i st f c a (WalkEnd p) h e = never h

-- what is known, of the stroke that an event found
pub record Knows (h : HeadStroke) (t : Stroke) : Type 0 where
  pub layer : h.layer ≡ t.layer
  pub exclusive : h.exclusive ≡ t.exclusive
  pub closed : h.closed ≡ is_closed t
  pub refused : h.cancelled ≡ is_cancelled t
  pub overlaps : h.overlaps ≡ overlaps t
  pub jobs : h.jobs ≡ length (kept_jobs t)

pub knows : (s : State) (h : HeadStroke) (t : Stroke) → IsHeadOf s h → head_stroke s ≡ Some t → Knows h t
knows s h t x at = subst (Knows h) (some_same _ _ (sym x.at_head ∙ at)) (record { layer = x.layer; exclusive = x.exclusive; closed = x.closed; refused = x.refused; overlaps = x.overlaps; jobs = x.jobs })

ended_closed : (t : Stroke) → is_ended t ≡ true → is_closed t ≡ true
ended_closed t e = ap (λ b. b || is_cancelled t) e

not_both : (t : Stroke) → is_ended t ≡ true → is_cancelled t ≡ true → ⊥
not_both t e c = go t.fate e c
  where
    go : (f : Fate) → is_ended (record t { fate = f }) ≡ true → is_cancelled (record t { fate = f }) ≡ true → ⊥
    go Open e c = never e
    go Ended e c = never c
    go Cancelled e c = never e

or_cases : (a b c : Bool) → a ≡ true → (b || a) ≡ true
or_cases a true c e = refl
or_cases a false c e = e

closed_ended : (t : Stroke) → is_closed t ≡ true → is_cancelled t ≡ false → is_ended t ≡ true
closed_ended t c n = go (is_ended t) c
  where
    go : (b : Bool) → (b || is_cancelled t) ≡ true → b ≡ true
    go true e = refl
    go false e = absurd (clash (is_cancelled t) e n)

-- a stroke at the head leaves no place to an act
no_act : (s : State) (h : HeadStroke) → IsHeadOf s h → Enabled s Act → ⊥
no_act s h x can = no_none x.stroke (head_stroke s) can.1.no_stroke x.at_head

-- one that stays isn't cancelled
no_cancel : (s : State) (h : HeadStroke) → IsHeadOf s h → (h.cancelled || h.overlaps) ≡ false → Enabled s Cancel → ⊥
no_cancel s h x stays can =
    let k : Knows h can.1.stroke = knows s h can.1.stroke x can.1.at_head in
    never (sym stays ∙ (λ i. k.refused i || k.overlaps i) ∙ can.1.refused)

-- what a stroke that is to leave nothing waits for
pub cancel_now : (s : State) (h : HeadStroke) → IsHeadOf s h → (h.cancelled || h.overlaps) ≡ true → h.closed ≡ true → no_painter s ≡ true → Enabled s Cancel
cancel_now s h x leaves closed idle = (
  _,
  record {
    stroke = x.stroke;
    at_head = x.at_head;
    closed = sym x.closed ∙ closed;
    refused = (λ i. sym x.refused i || sym x.overlaps i) ∙ leaves;
    idle = idle;
    new_is = refl;
  },
)

pub leaving_waits : (s : State) (h : HeadStroke) → IsHeadOf s h → (h.cancelled || h.overlaps) ≡ true → (h.closed && no_painter s) ≡ false → HeadWaits s
leaving_waits s h x leaves waits = head_waits s no_init no_start no_finish no_cancels (no_act s h x)
  where
    stays : (t : Stroke) → head_stroke s ≡ Some t → is_cancelled t ≡ false → overlaps t ≡ false → ⊥
    stays t at c o = let k : Knows h t = knows s h t x at in never (sym (λ i. c i || o i) ∙ sym (λ i. k.refused i || k.overlaps i) ∙ leaves)

    no_init : Enabled s Init → ⊥
    no_init can = stays can.1.stroke can.1.at_head can.1.not_cancelled can.1.no_overlap

    no_start : (place : ℕ) → Enabled s (Start place) → ⊥
    no_start place can = stays can.1.stroke can.1.at_head can.1.not_cancelled can.1.no_overlap

    no_finish : Enabled s Finish → ⊥
    no_finish can = go (is_cancelled can.1.stroke) refl
      where
        go : (b : Bool) → is_cancelled can.1.stroke ≡ b → ⊥
        go true e = not_both can.1.stroke can.1.ended e
        go false e = stays can.1.stroke can.1.at_head e can.1.no_overlap

    no_cancels : Enabled s Cancel → ⊥
    no_cancels can = let k : Knows h can.1.stroke = knows s h can.1.stroke x can.1.at_head in
        never (sym waits ∙ both_true h.closed (no_painter s) (k.closed ∙ can.1.closed) can.1.idle)

-- whether the base has the stroke's layer, by the document that is shown, where none is under way
pub base_paint : (s : State) (layer : ℕ) (b : Bool) → IsOnWay s s.way → s.way ≡ None → is_some (content layer s.present) ≡ b → is_paint layer s.base ≡ b
base_paint s layer b way none e = let rest : AtRest s = subst (IsOnWay s) none way in ap (is_paint layer) (sym rest.same) ∙ e

-- a stroke that isn't begun and has no layer
pub refuse_now : (s : State) (h : HeadStroke) → IsHeadOf s h → (h.cancelled || h.overlaps) ≡ false → is_paint h.layer s.base ≡ false → h.closed ≡ true → Enabled s Finish
refuse_now s h x stays none closed = (
  _,
  record {
    stroke = x.stroke;
    at_head = x.at_head;
    ended = closed_ended x.stroke (sym x.closed ∙ closed) (sym x.refused ∙ none_left h.cancelled h.overlaps stays);
    no_overlap = sym x.overlaps ∙ none_right h.cancelled h.overlaps stays;
    all_ended = λ p. absurd (clash _ p (ap (λ l. is_paint l s.base) (sym x.layer) ∙ none));
    new_is = refl;
  },
)

never_begun : (s : State) (n : ℕ) → s.way ≡ None → s.way ≡ Some n → ⊥
never_begun s n none some = no_none n s.way none some

pub refuse_waits : (s : State) (h : HeadStroke) → IsHeadOf s h → (h.cancelled || h.overlaps) ≡ false → s.way ≡ None → is_paint h.layer s.base ≡ false → h.closed ≡ false → HeadWaits s
refuse_waits s h x stays way none going_on = head_waits s no_init (λ place can. never_begun s can.1.next way can.1.begun) no_finish (no_cancel s h x stays) (no_act s h x)
  where
    no_init : Enabled s Init → ⊥
    no_init can = let k : Knows h can.1.stroke = knows s h can.1.stroke x can.1.at_head in clash _ can.1.on_paint (ap (λ l. is_paint l s.base) (sym k.layer) ∙ none)

    no_finish : Enabled s Finish → ⊥
    no_finish can = let k : Knows h can.1.stroke = knows s h can.1.stroke x can.1.at_head in clash _ (k.closed ∙ ended_closed can.1.stroke can.1.ended) going_on

-- one that isn't begun and has a layer
pub init_now : (s : State) (h : HeadStroke) → IsHeadOf s h → (h.cancelled || h.overlaps) ≡ false → s.way ≡ None → is_paint h.layer s.base ≡ true → (h.exclusive && not (no_walker s)) ≡ false → Enabled s Init
init_now s h x stays way paint alone = (
  _,
  record {
    stroke = x.stroke;
    at_head = x.at_head;
    not_begun = way;
    not_cancelled = sym x.refused ∙ none_left h.cancelled h.overlaps stays;
    no_overlap = sym x.overlaps ∙ none_right h.cancelled h.overlaps stays;
    on_paint = ap (λ l. is_paint l s.base) (sym x.layer) ∙ paint;
    alone = λ e. go (no_walker s) (ap (λ b. b && not (no_walker s)) (sym (x.exclusive ∙ e)) ∙ alone);
    new_is = refl;
  },
)
  where
    go : (b : Bool) → not b ≡ false → b ≡ true
    go true e = refl
    go false e = absurd (never (sym e))

pub init_waits : (s : State) (h : HeadStroke) → IsHeadOf s h → (h.cancelled || h.overlaps) ≡ false → s.way ≡ None → is_paint h.layer s.base ≡ true → h.exclusive ≡ true → no_walker s ≡ false → HeadWaits s
init_waits s h x stays way paint exclusive walks = head_waits s no_init (λ place can. never_begun s can.1.next way can.1.begun) no_finish (no_cancel s h x stays) (no_act s h x)
  where
    no_init : Enabled s Init → ⊥
    no_init can = let k : Knows h can.1.stroke = knows s h can.1.stroke x can.1.at_head in clash _ (can.1.alone (sym k.exclusive ∙ exclusive)) walks

    no_finish : Enabled s Finish → ⊥
    no_finish can = let k : Knows h can.1.stroke = knows s h can.1.stroke x can.1.at_head in
        never_begun s _ way (can.1.all_ended (ap (λ l. is_paint l s.base) (sym k.layer) ∙ paint)).0

-- no more jobs are kept than there are, and all are where none conflict
pub all_kept : (t : Stroke) → overlaps t ≡ false → length (kept_jobs t) ≡ length t.jobs
all_kept t e = ap (λ o. length (up_to t.jobs o)) (clear_of_overlap _ e)

-- the layer of the stroke under way is there
pub under_paint : (s : State) (n : ℕ) (t : Stroke) → UnderWay s n → head_stroke s ≡ Some t → is_paint t.layer s.base ≡ true
under_paint s n t u at = ap (λ (x : Stroke). is_paint x.layer s.base) (some_same _ _ (sym at ∙ u.at_head)) ∙ ap is_some u.was

pub same_way : (s : State) (m n : ℕ) → s.way ≡ Some m → s.way ≡ Some n → m ≡ n
same_way s m n a b = some_same m n (sym a ∙ b)

pub started_few : (s : State) (h : HeadStroke) (n : ℕ) → IsHeadOf s h → UnderWay s n → n ≤ h.jobs
started_few s h n x u = let k : Knows h u.stroke = knows s h u.stroke x u.at_head in let few : n ≤ length (kept_jobs u.stroke) = u.few in let same : h.jobs ≡ length (kept_jobs u.stroke) = k.jobs in omega arith

-- one all of whose jobs were started
pub finish_now : (s : State) (h : HeadStroke) (n : ℕ) → IsHeadOf s h → IsOnWay s s.way → (h.cancelled || h.overlaps) ≡ false → s.way ≡ Some n → h.jobs ≤ n → h.closed ≡ true → no_painter s ≡ true → Enabled s Finish
finish_now s h n x way stays some all closed idle = (
  _,
  record {
    stroke = x.stroke;
    at_head = x.at_head;
    ended = closed_ended x.stroke (sym x.closed ∙ closed) (sym x.refused ∙ none_left h.cancelled h.overlaps stays);
    no_overlap = clear;
    all_ended = λ _. (some ∙ ap Some same, idle);
    new_is = refl;
  },
)
  where
    u : UnderWay s n
    u = subst (IsOnWay s) some way

    clear : overlaps x.stroke ≡ false
    clear = sym x.overlaps ∙ none_right h.cancelled h.overlaps stays

    same : n ≡ length x.stroke.jobs
    same = let few : n ≤ h.jobs = started_few s h n x u in let e : n ≡ h.jobs = omega arith in e ∙ x.jobs ∙ all_kept x.stroke clear

pub get_below : {A : Type 0} (xs : List A) (i : ℕ) (x : A) → slice_get xs i ≡ Some x → i < length xs
get_below [] i x e = cc
get_below (y ∷ xs) zero x e = omega arith
get_below (y ∷ xs) (suc i) x e = let h : i < length xs = get_below xs i x e in omega arith

no_init_begun : (s : State) (n : ℕ) → s.way ≡ Some n → Enabled s Init → ⊥
no_init_begun s n some can = never_begun s n can.1.not_begun some

pub finish_waits : (s : State) (h : HeadStroke) (n : ℕ) → IsHeadOf s h → IsOnWay s s.way → (h.cancelled || h.overlaps) ≡ false → s.way ≡ Some n → h.jobs ≤ n → (h.closed && no_painter s) ≡ false → HeadWaits s
finish_waits s h n x way stays some all waits = head_waits s (no_init_begun s n some) no_start no_finish (no_cancel s h x stays) (no_act s h x)
  where
    u : UnderWay s n
    u = subst (IsOnWay s) some way

    no_start : (place : ℕ) → Enabled s (Start place) → ⊥
    no_start place can =
        let k : Knows h can.1.stroke = knows s h can.1.stroke x can.1.at_head in
        let below : can.1.next < length (kept_jobs can.1.stroke) = get_below (kept_jobs can.1.stroke) can.1.next can.1.job can.1.is_next in
        let same : n ≡ can.1.next = same_way s n can.1.next some can.1.begun in
        let jobs : h.jobs ≡ length (kept_jobs can.1.stroke) = k.jobs in
        absurd (omega arith)

    no_finish : Enabled s Finish → ⊥
    no_finish can = let k : Knows h can.1.stroke = knows s h can.1.stroke x can.1.at_head in
        never (sym waits ∙ both_true h.closed (no_painter s) (k.closed ∙ ended_closed can.1.stroke can.1.ended) (can.1.all_ended (under_paint s n can.1.stroke u can.1.at_head)).1)

-- one of which a job is left
no_finish_before : (s : State) (h : HeadStroke) (n : ℕ) → IsHeadOf s h → IsOnWay s s.way → s.way ≡ Some n → n < h.jobs → Enabled s Finish → ⊥
no_finish_before s h n x way some more can =
    let k : Knows h can.1.stroke = knows s h can.1.stroke x can.1.at_head in
    let u : UnderWay s n = subst (IsOnWay s) some way in
    let same : n ≡ length can.1.stroke.jobs = same_way s n _ some (can.1.all_ended (under_paint s n can.1.stroke u can.1.at_head)).0 in
    let kept : length (kept_jobs can.1.stroke) ≡ length can.1.stroke.jobs = all_kept can.1.stroke can.1.no_overlap in
    let jobs : h.jobs ≡ length (kept_jobs can.1.stroke) = k.jobs in
    absurd (omega arith)

-- an empty list has no item
pub empty_is : {A : Type 0} (xs : List A) → (length xs == 0) ≡ true → xs ≡ []
empty_is [] e = refl
empty_is (x ∷ xs) e = let none : length (x ∷ xs) ≡ 0 = grind (arith, nat_tests) in absurd (omega arith)

clear_barrier : (s : State) (kind : Kind) (exclusive : Bool) → clear_for s kind exclusive ≡ true → is_bar kind ≡ true → exclusive ≡ false → (no_walker s ≡ true) × (s.updates ≡ [])
clear_barrier s Con x e b f = absurd (never b)
clear_barrier s Seq x e b f = absurd (never b)
clear_barrier s Uni x e b f = absurd (never b)
clear_barrier s Bar true e b f = absurd (never (sym f))
clear_barrier s Bar false e b f = (and_right (is_clean s) (no_walker s) e, empty_is s.updates (and_left (is_clean s) (no_walker s) e))

barrier_clear : (s : State) (kind : Kind) (exclusive : Bool) → (is_bar kind ≡ true → exclusive ≡ false → (no_walker s ≡ true) × (s.updates ≡ [])) → clear_for s kind exclusive ≡ true
barrier_clear s Con x h = refl
barrier_clear s Seq x h = refl
barrier_clear s Uni x h = refl
barrier_clear s Bar true h = refl
barrier_clear s Bar false h = both_true (is_clean s) (no_walker s) (ap (λ (xs : List _). length xs == 0) (h refl refl).1) (h refl refl).0

pub start_now : (s : State) (h : HeadStroke) (n place : ℕ) → IsHeadOf s h → (h.cancelled || h.overlaps) ≡ false → s.way ≡ Some n → ((t : Stroke) → head_stroke s ≡ Some t → runs_at s (kept_jobs t) h.exclusive n ≡ true) → slice_get s.slots place ≡ Some Free → Enabled s (Start place)
start_now s h n place x stays some runs free = go (slice_get (kept_jobs x.stroke) n) refl (runs x.stroke x.at_head)
  where
    go : (o : Option (Kind × Job)) → slice_get (kept_jobs x.stroke) n ≡ o → runs_beside s (kept_jobs x.stroke) h.exclusive o ≡ true → Enabled s (Start place)
    go None e r = absurd (never r)
    go (Some job) e r = (
      _,
      record {
        stroke = x.stroke;
        at_head = x.at_head;
        next = n;
        begun = some;
        not_cancelled = sym x.refused ∙ none_left h.cancelled h.overlaps stays;
        no_overlap = sym x.overlaps ∙ none_right h.cancelled h.overlaps stays;
        free = free;
        job = job;
        is_next = e;
        unblocked = not_true _ (and_left _ _ r);
        barrier = λ bar shared. clear_barrier s job.0 h.exclusive (and_right _ _ r) bar (x.exclusive ∙ shared);
        new_is = refl;
      },
    )

pub blocked_waits : (s : State) (h : HeadStroke) (n : ℕ) → IsHeadOf s h → IsOnWay s s.way → (h.cancelled || h.overlaps) ≡ false → s.way ≡ Some n → n < h.jobs → ((t : Stroke) → head_stroke s ≡ Some t → runs_at s (kept_jobs t) h.exclusive n ≡ false) → HeadWaits s
blocked_waits s h n x way stays some more blocked = head_waits s (no_init_begun s n some) no_start (no_finish_before s h n x way some more) (no_cancel s h x stays) (no_act s h x)
  where
    no_start : (place : ℕ) → Enabled s (Start place) → ⊥
    no_start place can =
        let k : Knows h can.1.stroke = knows s h can.1.stroke x can.1.at_head in
        let next : slice_get (kept_jobs can.1.stroke) n ≡ Some can.1.job = ap (slice_get (kept_jobs can.1.stroke)) (same_way s n can.1.next some can.1.begun) ∙ can.1.is_next in
        never (sym (blocked can.1.stroke can.1.at_head) ∙ ap (runs_beside s (kept_jobs can.1.stroke) h.exclusive) next
        ∙ both_true _ _ (ap not can.1.unblocked) (barrier_clear s can.1.job.0 h.exclusive (λ bar shared. can.1.barrier bar (sym k.exclusive ∙ shared))))

pub full_waits : (s : State) (h : HeadStroke) (n : ℕ) → IsHeadOf s h → IsOnWay s s.way → (h.cancelled || h.overlaps) ≡ false → s.way ≡ Some n → n < h.jobs → ((place : ℕ) → slice_get s.slots place ≡ Some Free → ⊥) → HeadWaits s
full_waits s h n x way stays some more full = head_waits s (no_init_begun s n some) (λ place can. full place can.1.free) (no_finish_before s h n x way some more) (no_cancel s h x stays) (no_act s h x)
