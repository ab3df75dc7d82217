-- A job that ends: what the desk does is the event of the machine.
use Rattle.std.proofs.Common.{◌≡◌, ℕ, true, Some, None, List, sym, ap, ◌∙◌, subst}
use Rattle.std.specs.Prelude.{slice_get, slice_set}
use Rattle.std.specs.List.{list_any}
use Rattle.std.specs.FinSet as set
use Rattle.geom_core.specs.Grid.{Key, key_cmp, same_key, all_keys_of}
use Rattle.doc_model.specs.declared.canvas.Patch.{Patch}
use Rattle.doc_model.specs.Jobs.{writes}
use Rattle.machine_model.specs.State.{State, Slot, Free, Paints}
use Rattle.machine_model.specs.Event.{End}
use Rattle.machine_model.specs.Step.{Step}
use Rattle.machine_model.specs.UnderWay.{SlotIsStarted}
use Rattle.machine_model.specs.Groups.{parent_of}
use Rattle.machine_model.specs.Guards.{kept_jobs}
use Rattle.machine_model.specs.Effects.{updates_with_all}
use Rattle.machine_model.proofs.Lists.{all_get, all_set}
use Rattle.machine_model.proofs.RunsSound.{step_keeps_sound}
use Rattle.desk_state.specs.declared.work.Painter.{Painter}
use Rattle.desk_state.specs.Noted.{noted}
use Rattle.desk_state.specs.Parts.{Parts, state_of, slot_of, painter_of}
use Rattle.desk_state.specs.Tied.{IsDesk, IsWay, IsKept}
use Rattle.desk_state.specs.After.{after_end, busy_painter}
use Rattle.desk_state.proofs.Keeping.{map_set, held, IsGoing, going_at_work}
use Rattle.desk_state.proofs.Noting.{noted_ended}

-- the job in a slot may end: it has published all its tiles; g is the group of the layer under way
pub record MayEnd (d : Parts) (place : ℕ) (w : Painter) (g : ℕ) : Type 0 where
  pub runs : slice_get d.slots place ≡ Some (Some (busy_painter w))
  pub all : (key : Key) → list_any (same_key key) (all_keys_of (writes w.job)) ≡ true → list_any (same_key key) w.published ≡ true
  pub group : (layer : ℕ) (keys : set.FinSet key_cmp) → d.store.way ≡ Some (layer, keys) → g ≡ parent_of layer d.store.present

with_end : State → List Slot → List Patch → State
with_end s slots updates = record s { slots = slots; updates = updates }

pub end_step : (d : Parts) (place : ℕ) (w : Painter) (g : ℕ) → IsDesk d → MayEnd d place w g → Step (state_of d) (End place) (state_of (after_end d place w g))
unfolding with_end
end_step d place w g desk may = record {
  painter = painter_of w;
  runs = held d place _ may.runs;
  all = may.all;
  stroke = x.begun.stroke;
  at_head = x.begun.at_head;
  new_is = λ i. with_end (state_of d) (map_set slot_of d.slots place None i) (updates_with_all (desk.area i) (may.group x.begun.stroke.layer x.begun.keys x.begun.way i) (writes w.job) d.updates.patches);
}
  where
    x : IsGoing d
    x = going_at_work d place (painter_of w) desk (held d place _ may.runs)

pub end_keeps : (d : Parts) (place : ℕ) (w : Painter) (g : ℕ) → IsDesk d → MayEnd d place w g → IsDesk (after_end d place w g)
end_keeps d place w g desk may = record {
  sound = step_keeps_sound (state_of d) (state_of new) (End place) desk.sound (end_step d place w g desk may);
  queue = desk.queue;
  way = subst (IsWay (state_of new) d.store) (sym x.way) (record {
    stroke = x.begun.stroke;
    at_head = x.begun.at_head;
    keys = x.begun.keys;
    way = x.begun.way;
    notes = notes;
    room = x.begun.room;
  });
  slots = all_set IsKept d.slots place None desk.slots tt;
  area = desk.area;
  few = desk.few;
  sides = desk.sides;
}
  where
    new : Parts
    new = after_end d place w g

    x : IsGoing d
    x = going_at_work d place (painter_of w) desk (held d place _ may.runs)

    here : SlotIsStarted (kept_jobs x.under.stroke) x.n (Paints (painter_of w))
    here = all_get (SlotIsStarted (kept_jobs x.under.stroke) x.n) (state_of d).slots place _ x.under.started (held d place _ may.runs)

    notes : (k : Key) → set.contains x.begun.keys k ≡ noted (kept_jobs x.begun.stroke) (state_of new).slots x.n k
    notes k =
        x.begun.notes k
        ∙ ap (λ s. noted (kept_jobs s) (state_of d).slots x.n k) x.stroke
        ∙ sym (noted_ended (kept_jobs x.under.stroke) (state_of d).slots place (painter_of w) x.n here.1 k (held d place _ may.runs) x.under.once here.2 (may.all k))
        ∙ ap (λ s. noted (kept_jobs s) (slice_set (state_of d).slots place Free) x.n k) (sym x.stroke)
        ∙ ap (λ slots. noted (kept_jobs x.begun.stroke) slots x.n k) (sym (map_set slot_of d.slots place None))
