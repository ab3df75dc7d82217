-- What the desk's own calls leave is an event of the machine.
use Rattle.std.proofs.Common.{◌≡◌, ℕ, Bool, true, false, cond, Option, Some, None, is_some, [], ◌∷◌, ◌++◌, drop, refl, sym, ap, ◌∙◌, subst}
use Rattle.std.specs.FinSet as set
use Rattle.std.specs.FinSet.{FinSet}
use Rattle.geom_core.specs.Areas.{Area}
use Rattle.geom_core.specs.Grid.{key_cmp}
use Rattle.doc_model.specs.declared.command.Outcome.{Outcome}
use Rattle.doc_model.specs.declared.command.Outcome.TheVariants as outcome
use Rattle.geom_core.proofs.Tests.{none_right}
use Rattle.doc_model.specs.Changes.{there}
use Rattle.doc_model.specs.Forest.{content}
use Rattle.desk_steps.specs.Archives.{shape, Archive, finished, reverted}
use Rattle.desk_steps.proofs.Exchanged.{stands}
use Rattle.doc_model.proofs.Natural.{has_each}
use Rattle.doc_model.specs.Picture.{Doc}
use Rattle.doc_model.specs.Strokes.{Stroke, conflict}
use Rattle.entry_queue.specs.Pushed.{Pending}
use Rattle.machine_model.specs.State.{head_stroke}
use Rattle.machine_model.specs.Event.{Event, Init, Finish, Cancel}
use Rattle.machine_model.specs.Step.{Step}
use Rattle.machine_model.specs.UnderWay.{AtRest, IsOnWay}
use Rattle.machine_model.specs.Groups.{parent_of}
use Rattle.machine_model.specs.Guards.{is_closed}
use Rattle.machine_model.specs.Effects.{cancel_outcome, no_paint_outcome}
use Rattle.geom_core.specs.Touches.{bound_of}
use Rattle.desk_state.specs.Enabled.{Enabled}
use Rattle.desk_state.specs.Parts.{Parts, state_of}
use Rattle.desk_state.specs.Tied.{IsDesk, IsWay, IsBegun}
use Rattle.update_queue.specs.Waiting.{Waiting, widened_by}
use Rattle.desk_state.specs.After.{popped}
use Rattle.desk_state.proofs.Beginning.{init_step, init_keeps}
use Rattle.desk_state.proofs.Leaving.{finish_step, finish_keeps, refuse_step, refuse_keeps, cancel_step, cancel_keeps}
use Rattle.desk_state.proofs.Enabling.{may_begin, may_finish, may_refuse, may_cancel}

-- the event leads from the desk to the new one
pub record Does (d : Parts) (e : Event) (new : Parts) : Type 0 where
  pub desk : IsDesk new
  pub step : Step (state_of d) e (state_of new)

-- the queue without its first entry
pub record IsPopped (q new : Pending) (o : Outcome) : Type 0 where
  pub left : new.left ≡ drop 1 q.left
  pub outcomes : new.outcomes ≡ q.outcomes ++ o ∷ []

pub popped_is : (q new : Pending) (o : Outcome) → IsPopped q new o → new ≡ popped q o
popped_is q new o p = λ i. record { left = p.left i; outcomes = p.outcomes i }

number_of : (o : Option ℕ) → is_some o ≡ true → (n : ℕ) × (o ≡ Some n)
number_of None e = absurd (never e)
  where
    never : false ≡ true → ⊥
    never e = cc
number_of (Some n) e = (n, refl)

pub finish_does : (d : Parts) (q : Pending) (store : Archive) → IsDesk d → Enabled (state_of d) Finish → is_some d.way ≡ true → IsPopped d.queue q outcome.Done → store ≡ finished d.store.way d.store → Does d Finish (record d { queue = q; store = store; way = None })
finish_does d q store desk can way pop done =
    let n : (n : ℕ) × (d.way ≡ Some n) = number_of d.way way in
    subst (Does d Finish) (λ i. record d { queue = sym (popped_is d.queue q outcome.Done pop) i; store = sym done i; way = None })
    (record { desk = finish_keeps d _ desk (may_finish d can.0 n.0 desk can.1 n.1); step = finish_step d _ desk (may_finish d can.0 n.0 desk can.1 n.1) })

pub refuse_does : (d : Parts) (q : Pending) (o : Outcome) → IsDesk d → Enabled (state_of d) Finish → d.way ≡ None → ((s : Stroke) → head_stroke (state_of d) ≡ Some s → o ≡ no_paint_outcome s.layer d.store.base) → IsPopped d.queue q o → Does d Finish (record d { queue = q })
refuse_does d q o desk can way told pop =
    subst (Does d Finish) (λ i. record d { queue = sym (popped_is d.queue q o pop ∙ ap (popped d.queue) (told can.1.stroke can.1.at_head)) i })
    (record { desk = refuse_keeps d _ desk (may_refuse d can.0 desk can.1 way); step = refuse_step d _ desk (may_refuse d can.0 desk can.1 way) })

pub cancel_does : (d : Parts) (q : Pending) (store : Archive) (updates : Waiting) (o : Outcome) (g : ℕ) (round : Option Area) → IsDesk d → Enabled (state_of d) Cancel
    → ((s : Stroke) → head_stroke (state_of d) ≡ Some s → is_closed s ≡ true → o ≡ cancel_outcome (conflict s.jobs)) → ((s : Stroke) → head_stroke (state_of d) ≡ Some s → g ≡ parent_of s.layer d.store.present)
    → ((layer : ℕ) (keys : FinSet key_cmp) → d.store.way ≡ Some (layer, keys) → round ≡ bound_of (set.items keys)) → (d.store.way ≡ None → round ≡ None)
    → IsPopped d.queue q o → store ≡ reverted d.store → updates ≡ widened_by d.updates g round → Does d Cancel (record d { queue = q; store = store; updates = updates; way = None })
cancel_does d q store updates o g round desk can told group begun not_begun pop back widened =
    subst (Does d Cancel) (λ i. record d { queue = sym (popped_is d.queue q o pop) i; store = sym back i; updates = sym widened i; way = None })
    (record {
      desk = cancel_keeps d _ o g round desk (may_cancel d can.0 o g round desk can.1 (told can.1.stroke can.1.at_head can.1.closed) (group can.1.stroke can.1.at_head) begun not_begun);
      step = cancel_step d _ o g round desk (may_cancel d can.0 o g round desk can.1 (told can.1.stroke can.1.at_head can.1.closed) (group can.1.stroke can.1.at_head) begun not_begun);
    })

-- a store that has begun nothing is what it reverts to
pub reverted_at_rest : (d : Parts) → IsDesk d → d.way ≡ None → d.store ≡ reverted d.store
reverted_at_rest d desk e =
    let rest : AtRest (state_of d) = subst (IsOnWay (state_of d)) e desk.sound.orderly.on_way in
    let none : d.store.way ≡ None = subst (IsWay (state_of d) d.store) e desk.way in
    λ i. record d.store { present = rest.same i; way = none i }

-- and has no way
pub store_at_rest : (d : Parts) → IsDesk d → d.way ≡ None → d.store.way ≡ None
store_at_rest d desk e = subst (IsWay (state_of d) d.store) e desk.way

pub begin_does : (d : Parts) (store : Archive) (layer : ℕ) → IsDesk d → Enabled (state_of d) Init → ((s : Stroke) → head_stroke (state_of d) ≡ Some s → layer ≡ s.layer) → store ≡ record d.store { way = Some (layer, set.empty); room = true } → Does d Init (record d { store = store; way = Some 0 })
begin_does d store layer desk can named begun =
    subst (Does d Init) (λ i. record d { store = sym (begun ∙ ap (λ l. record d.store { way = Some (l, set.empty); room = true }) (named can.1.stroke can.1.at_head)) i; way = Some 0 })
    (record { desk = init_keeps d _ _ desk (may_begin d can.0 can.1); step = init_step d _ _ (may_begin d can.0 can.1) })

-- present is base where no stroke is under way
pub present_at_rest : (d : Parts) → IsDesk d → d.way ≡ None → d.store.present ≡ d.store.base
present_at_rest d desk e =
    let rest : AtRest (state_of d) = subst (IsOnWay (state_of d)) e desk.sound.orderly.on_way in
    rest.same

-- the store has begun a stroke where one is under way
pub store_under_way : (d : Parts) → IsDesk d → is_some d.way ≡ true → is_some d.store.way ≡ true
store_under_way d desk way =
    let n : (n : ℕ) × (d.way ≡ Some n) = number_of d.way way in
    let b : IsBegun (state_of d) d.store n.0 = subst (IsWay (state_of d) d.store) n.1 desk.way in
    ap is_some b.way

-- what a stroke lacks to paint on
pub missing_is : (b : Bool) (layer : ℕ) (s : Stroke) (doc : Doc) → layer ≡ s.layer → there layer doc ≡ b → cond b (outcome.NotPaint layer) (outcome.NoLayer layer) ≡ no_paint_outcome s.layer doc
missing_is b layer s doc e h = ap (λ t. cond t (outcome.NotPaint layer) (outcome.NoLayer layer)) (sym h) ∙ ap (λ l. no_paint_outcome l doc) e

-- a stroke that was never begun is taken back
pub cancel_waiting_does : (d : Parts) (q : Pending) (o : Outcome) → IsDesk d → Enabled (state_of d) Cancel → d.way ≡ None → ((s : Stroke) → head_stroke (state_of d) ≡ Some s → is_closed s ≡ true → o ≡ cancel_outcome (conflict s.jobs)) → IsPopped d.queue q o → Does d Cancel (record d { queue = q })
cancel_waiting_does d q o desk can way told pop =
    subst (Does d Cancel) (λ i. record d { queue = q; way = sym way i })
    (cancel_does d q d.store d.updates o (parent_of can.1.stroke.layer d.store.present) None desk can told
    (λ s h. ap (λ (t : Stroke). parent_of t.layer d.store.present) (same _ _ (sym can.1.at_head ∙ h)))
    (λ layer keys e. absurd (never _ (sym (store_at_rest d desk way) ∙ e))) (λ e. refl) pop (reverted_at_rest d desk way) refl)
  where
    same : (a b : Stroke) → Some a ≡ Some b → a ≡ b
    same a b e = cc

    never : (t : ℕ × FinSet key_cmp) → None ≡ Some t → ⊥
    never t e = cc

-- the layer of a stroke that may begin is a paint layer of the document
paints_now : (d : Parts) (layer : ℕ) → IsDesk d → (can : Enabled (state_of d) Init) → ((s : Stroke) → head_stroke (state_of d) ≡ Some s → layer ≡ s.layer) → is_some (content layer d.store.present) ≡ true
paints_now d layer desk can named =
    ap (λ doc. is_some (content layer doc)) (present_at_rest d desk can.1.not_begun) ∙ ap (λ l. is_some (content l d.store.base)) (named can.1.stroke can.1.at_head) ∙ can.1.on_paint

-- so the store begins it
pub begin_there : (d : Parts) (layer : ℕ) → IsDesk d → Enabled (state_of d) Init → ((s : Stroke) → head_stroke (state_of d) ≡ Some s → layer ≡ s.layer) → there layer d.store.present ≡ false → ⊥
begin_there d layer desk can named absent =
    stands layer d.store.present (shape d.store.present) refl (paints_now d layer desk can named) (has_each (λ id l. tt) layer d.store.present ∙ none_right _ _ absent)

pub begin_paints : (d : Parts) (layer : ℕ) → IsDesk d → Enabled (state_of d) Init → ((s : Stroke) → head_stroke (state_of d) ≡ Some s → layer ≡ s.layer) → content layer d.store.present ≡ None → ⊥
begin_paints d layer desk can named none = never (sym (paints_now d layer desk can named) ∙ ap is_some none)
  where
    never : true ≡ false → ⊥
    never e = cc
