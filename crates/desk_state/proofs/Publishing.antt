-- A tile that is painted: what the desk does is the event of the machine.
use Rattle.std.proofs.Common.{◌≡◌, ℕ, Bool, true, false, ◌||◌, ◌&&◌, cond, Some, List, ◌∷◌, refl, sym, ap, ◌∙◌, subst}
use Rattle.std.specs.Prelude.{slice_get, slice_set}
use Rattle.std.specs.List.{list_any}
use Rattle.std.specs.FinSet as set
use Rattle.geom_core.specs.Grid.{Key, same_key, all_keys_of}
use Rattle.geom_core.specs.Keys.{key_cmp_total}
use Rattle.doc_model.specs.declared.job.Job.{Job}
use Rattle.geom_core.specs.Areas.{Point}
use Rattle.geom_core.specs.Rects.{any_holds}
use Rattle.doc_model.specs.Jobs.{reads, writes, apply}
use Rattle.doc_model.specs.Laws.{SameOn}
use Rattle.doc_model.specs.Shots.{published, in_tile}
use Rattle.doc_model.proofs.JobLaws.{laws_of_jobs}
use Rattle.doc_model.proofs.LayerLaws.{layer_ext}
use Rattle.doc_model.proofs.Shots.{at-published, default-published}
use Rattle.doc_model.specs.Adjusting.{adjusted}
use Rattle.doc_model.specs.Layers.{Layer, at}
use Rattle.job_core.specs.Paints.{Paint, layer_of}
use Rattle.desk_steps.specs.Archives.{Archive, with_put}
use Rattle.machine_model.specs.State.{State, Slot, Paints}
use Rattle.machine_model.specs.Event.{Publish}
use Rattle.machine_model.specs.Step.{Step}
use Rattle.machine_model.specs.UnderWay.{SlotIsStarted}
use Rattle.machine_model.specs.Guards.{kept_jobs}
use Rattle.machine_model.proofs.Lists.{all_get, all_set}
use Rattle.machine_model.proofs.RunsSound.{step_keeps_sound}
use Rattle.desk_state.specs.declared.work.Painter.{Painter}
use Rattle.desk_state.specs.Noted.{noted}
use Rattle.desk_state.specs.Parts.{Parts, state_of, slot_of, painter_of}
use Rattle.desk_state.specs.Tied.{IsDesk, IsWay, IsBegun, IsKept}
use Rattle.desk_state.specs.After.{after_publish, busy_painter}
use Rattle.desk_state.proofs.Keeping.{map_set, held, IsGoing, going_at_work}
use Rattle.desk_state.proofs.Noting.{noted_published}

-- a tile may be published: the job in the slot writes in it, hasn't published it, and it was painted from what that job was started with
pub record MayPublish (d : Parts) (place : ℕ) (w : Painter) (p : Paint) : Type 0 where
  pub runs : slice_get d.slots place ≡ Some (Some (busy_painter w))
  pub job : p.job ≡ w.job
  pub same : SameOn (reads w.job) (layer_of p.shot) (layer_of w.shot)
  pub in_job : list_any (same_key p.key) (all_keys_of (writes w.job)) ≡ true
  pub fresh : list_any (same_key p.key) w.published ≡ false

-- a tile of a job is the same from shots that are the same on the job's reads
pub published_same : (job : Job) (a b : Layer) (key : Key) (l : Layer) → SameOn (reads job) a b → published job a key l ≡ published job b key l
published_same job a b key l same = layer_ext _ _ (default-published job a key l ∙ sym (default-published job b key l)) (λ p. at-published job a key l p ∙ go p (any_holds (writes job) p) refl ∙ sym (at-published job b key l p))
  where
    go : (p : Point) (h : Bool) → any_holds (writes job) p ≡ h → cond (any_holds (writes job) p && in_tile key p) (at (apply job a) p) (at l p) ≡ cond (any_holds (writes job) p && in_tile key p) (at (apply job b) p) (at l p)
    go p true e = ap (λ v. cond (any_holds (writes job) p && in_tile key p) v (at l p)) (laws_of_jobs.inside job a b p same e)
    go p false e = ap (λ h. cond (h && in_tile key p) (at (apply job a) p) (at l p)) e ∙ ap (λ h. cond (h && in_tile key p) (at (apply job b) p) (at l p)) (sym e)

with_parts : State → Archive → List Slot → State
with_parts s a slots = record s { past = a.past; future = a.future; base = a.base; present = a.present; slots = slots }

going_here : (d : Parts) (place : ℕ) (w : Painter) (p : Paint) → IsDesk d → MayPublish d place w p → IsGoing d
going_here d place w p desk may = going_at_work d place (painter_of w) desk (held d place _ may.runs)

store_is : (d : Parts) (w : Painter) (p : Paint) (g : IsGoing d) → p.job ≡ w.job → SameOn (reads w.job) (layer_of p.shot) (layer_of w.shot)
    → with_put d.store.way p d.store ≡ record d.store { present = adjusted g.begun.stroke.layer (published w.job (layer_of w.shot) p.key) d.store.present; way = Some (g.begun.stroke.layer, set.insert g.begun.keys p.key) }
store_is d w p g job same =
    ap (λ o. with_put o p d.store) g.begun.way
    ∙ (λ i. record d.store { present = adjusted g.begun.stroke.layer (published (job i) (layer_of p.shot) p.key) d.store.present; way = Some (g.begun.stroke.layer, set.insert g.begun.keys p.key) })
    ∙ (λ i. record d.store { present = adjusted g.begun.stroke.layer (λ l. published_same w.job (layer_of p.shot) (layer_of w.shot) p.key l same i) d.store.present; way = Some (g.begun.stroke.layer, set.insert g.begun.keys p.key) })

pub publish_step : (d : Parts) (place : ℕ) (w : Painter) (p : Paint) → IsDesk d → MayPublish d place w p → Step (state_of d) (Publish place p.key) (state_of (after_publish d place w p))
unfolding with_parts
publish_step d place w p desk may = record {
  painter = painter_of w;
  runs = held d place _ may.runs;
  in_job = may.in_job;
  fresh = may.fresh;
  stroke = g.begun.stroke;
  at_head = g.begun.at_head;
  new_is = λ i. with_parts (state_of d) (store_is d w p g may.job may.same i) (map_set slot_of d.slots place (Some (busy_painter (record w { published = p.key ∷ w.published }))) i);
}
  where
    g : IsGoing d
    g = going_here d place w p desk may

pub publish_keeps : (d : Parts) (place : ℕ) (w : Painter) (p : Paint) → IsDesk d → MayPublish d place w p → IsDesk (after_publish d place w p)
publish_keeps d place w p desk may = record {
  sound = step_keeps_sound (state_of d) (state_of (after_publish d place w p)) (Publish place p.key) desk.sound (publish_step d place w p desk may);
  queue = desk.queue;
  way = subst (IsWay (state_of (after_publish d place w p)) (with_put d.store.way p d.store)) (sym g.way) begun;
  slots = all_set IsKept d.slots place _ desk.slots kept_is;
  area = desk.area;
  few = desk.few;
  sides = desk.sides;
}
  where
    g : IsGoing d
    g = going_here d place w p desk may

    kept_is : IsKept (Some (busy_painter w))
    kept_is = all_get IsKept d.slots place _ desk.slots may.runs

    here : SlotIsStarted (kept_jobs g.under.stroke) g.n (Paints (painter_of w))
    here = all_get (SlotIsStarted (kept_jobs g.under.stroke) g.n) (state_of d).slots place _ g.under.started (held d place _ may.runs)

    notes : (k : Key) → set.contains (set.insert g.begun.keys p.key) k ≡ noted (kept_jobs g.begun.stroke) (state_of (after_publish d place w p)).slots g.n k
    notes k =
        set.contains-insert key_cmp_total g.begun.keys p.key k
        ∙ ap (λ b. same_key k p.key || b) (g.begun.notes k)
        ∙ ap (λ s. same_key k p.key || noted (kept_jobs s) (state_of d).slots g.n k) g.stroke
        ∙ sym (noted_published (kept_jobs g.under.stroke) (state_of d).slots place (painter_of w) p.key g.n here.1 k (held d place _ may.runs) g.under.once here.0 here.2 may.in_job)
        ∙ ap (λ s. noted (kept_jobs s) (slice_set (state_of d).slots place (Paints (painter_of (record w { published = p.key ∷ w.published })))) g.n k) (sym g.stroke)
        ∙ ap (λ slots. noted (kept_jobs g.begun.stroke) slots g.n k) (sym (map_set slot_of d.slots place (Some (busy_painter (record w { published = p.key ∷ w.published })))))

    begun : IsBegun (state_of (after_publish d place w p)) (with_put d.store.way p d.store) g.n
    begun = record {
      stroke = g.begun.stroke;
      at_head = g.begun.at_head;
      keys = set.insert g.begun.keys p.key;
      way = ap (λ (a : Archive). a.way) (store_is d w p g may.job may.same);
      notes = notes;
      room = ap (λ (a : Archive). a.room) (store_is d w p g may.job may.same) ∙ g.begun.room;
    }
