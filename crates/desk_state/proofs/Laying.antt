-- What is left when a job's tile was laid, or wasn't for want of memory.
use Rattle.std.proofs.Common.{◌≡◌, ℕ, true, Option, Some, None, is_some, Result, Ok, Err, OnOk, OnErr, List, ◌∷◌, sym, ap, ◌∙◌, subst}
use Rattle.std.specs.Prelude.{slice_get, slice_set}
use Rattle.std.specs.List.{list_any}
use Rattle.geom_core.specs.Grid.{Key, same_key, all_keys_of}
use Rattle.doc_model.specs.Jobs.{reads, writes}
use Rattle.doc_model.specs.Laws.{SameOn}
use Rattle.job_core.specs.Paints.{Paint, layer_of}
use Rattle.desk_steps.specs.Archives.{Archive, with_put}
use Rattle.machine_model.specs.State as state
use Rattle.machine_model.specs.State.{Paints}
use Rattle.machine_model.specs.Step.{PublishStep}
use Rattle.slot_core.specs.declared.Busy.{Busy}
use Rattle.slot_core.specs.Busy.{work_at}
use Rattle.desk_state.specs.declared.work.Painter.{Painter}
use Rattle.desk_state.specs.declared.work.Work.{Work}
use Rattle.desk_state.specs.declared.work.Work.TheVariants as work
use Rattle.desk_state.specs.Parts.{Parts, state_of, painter_of}
use Rattle.desk_state.specs.Tied.{IsDesk}
use Rattle.desk_state.specs.After.{after_publish, busy_painter}
use Rattle.desk_state.specs.Enabled.{Takes}
use Rattle.desk_state.proofs.Keeping.{going_at_work}
use Rattle.desk_state.proofs.Publishing.{MayPublish, publish_step, publish_keeps}
use Rattle.desk_state.proofs.Places.{painting_at, IsPaintingAs, painting_as, set_twice, set_same}

-- where a job is at work the store has begun its stroke
pub begun_at_work : (d : Parts) (place : ℕ) (p : state.Painter) → IsDesk d → slice_get (state_of d).slots place ≡ Some (Paints p) → is_some d.store.way ≡ true
begun_at_work d place p desk runs = ap is_some (going_at_work d place p desk runs).begun.way

painter_is : (d : Parts) (place serial : ℕ) (w : Painter) (p : Paint) → work_at place d.slots ≡ Some (work.Paint w) → (t : Takes (state_of d) place serial p) → painter_of w ≡ t.painter
painter_is d place serial w p h t =
    let x : IsPaintingAs d.slots place t.painter = painting_as d.slots place t.painter t.runs in
    ap painter_of (same w x.painter (sym h ∙ x.at_work)) ∙ x.is
  where
    same : (a b : Painter) → Some (work.Paint a) ≡ Some (work.Paint b) → a ≡ b
    same a b e = cc

pub may_publish : (d : Parts) (place serial : ℕ) (w : Painter) (p : Paint) → IsDesk d → work_at place d.slots ≡ Some (work.Paint w) → Takes (state_of d) place serial p → MayPublish d place w p
may_publish d place serial w p desk h t =
    let e : painter_of w ≡ t.painter = painter_is d place serial w p h t in
    record {
      runs = (painting_at d.slots place w desk.slots h).there;
      job = t.job ∙ ap (λ (q : state.Painter). q.job) (sym e);
      same = subst (λ (q : state.Painter). SameOn (reads q.job) (layer_of p.shot) q.shot) (sym e) t.same;
      in_job = ap (λ (q : state.Painter). list_any (same_key p.key) (all_keys_of (writes q.job))) e ∙ t.in_job;
      fresh = ap (λ (q : state.Painter). list_any (same_key p.key) q.published) e ∙ t.fresh;
    }

-- the desk with this store and these slots, after a job's tile was laid or wasn't
pub record IsLaidAt {A E : Type 0} (d new : Parts) (place : ℕ) (p : Paint) (r : Result A E) : Type 0 where
  pub desk : IsDesk new
  pub ok : OnOk r (PublishStep (state_of d) place p.key (state_of new))
  pub err : OnErr r (state_of new ≡ state_of d)

pub laid_at : {A E : Type 0} (d : Parts) (place serial : ℕ) (w : Painter) (p : Paint) (r : Result A E) (store : Archive) (keys : List Key) (slots : List (Option (Busy Work))) → IsDesk d → work_at place d.slots ≡ Some (work.Paint w) → Takes (state_of d) place serial p
    → OnOk r (store ≡ with_put d.store.way p d.store) → OnOk r (keys ≡ p.key ∷ w.published) → OnErr r (store ≡ d.store) → OnErr r (keys ≡ w.published)
    → slots ≡ slice_set (slice_set d.slots place None) place (Some (busy_painter (record w { published = keys }))) → IsLaidAt d (record d { store = store; slots = slots }) place p r
laid_at d place serial w p (Ok x) store keys slots desk h t put noted same kept filled = record { desk = subst IsDesk (sym is) (publish_keeps d place w p desk may); ok = subst (λ n. PublishStep (state_of d) place p.key (state_of n)) (sym is) (publish_step d place w p desk may); err = tt }
  where
    may : MayPublish d place w p
    may = may_publish d place serial w p desk h t

    is : (record d { store = store; slots = slots }) ≡ after_publish d place w p
    is = λ i. record d { store = put i; slots = (filled ∙ set_twice d.slots place None _ ∙ ap (λ ks. slice_set d.slots place (Some (busy_painter (record w { published = ks })))) noted) i }
laid_at d place serial w p (Err x) store keys slots desk h t put noted same kept filled = record { desk = subst IsDesk (sym is) desk; ok = tt; err = ap state_of is }
  where
    is : (record d { store = store; slots = slots }) ≡ d
    is = λ i. record d {
      store = same i;
      slots = (filled ∙ set_twice d.slots place None _ ∙ ap (λ ks. slice_set d.slots place (Some (busy_painter (record w { published = ks })))) kept
          ∙ set_same d.slots place (Some (busy_painter w)) (painting_at d.slots place w desk.slots h).there) i;
    }
