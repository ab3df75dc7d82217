-- A ticket is of the work that was just put into its slot.
use Rattle.std.proofs.Common.{◌≡◌, ◌≤◌, ℕ, suc, Some, [], true, sym, ap, ◌∙◌, subst}
use Rattle.std.specs.Prelude.{slice_get}
use Rattle.geom_core.specs.Grid.{key_of}
use Rattle.doc_model.specs.Forest.{content}
use Rattle.doc_model.specs.Layers.{at}
use Rattle.doc_model.specs.Jobs.{reads, checks}
use Rattle.doc_model.specs.Shots.{shot_of}
use Rattle.doc_model.specs.Strokes.{Stroke}
use Rattle.doc_model.specs.Lawful.{within_limits}
use Rattle.job_core.specs.Paints.{layer_of}
use Rattle.desk_steps.specs.Archives.{layer_under_way}
use Rattle.desk_steps.specs.Tiles.{ShowsTiles}
use Rattle.machine_model.specs.State.{State, Free, Paints, Walks, head_stroke}
use Rattle.machine_model.specs.Step.{StartStep, WalkStartStep}
use Rattle.machine_model.specs.Effects.{layer_in}
use Rattle.machine_model.specs.Guards.{kept_jobs}
use Rattle.machine_model.specs.UnderWay.{UnderWay, IsOnWay, after_jobs}
use Rattle.machine_model.specs.Walks.{walk_shot}
use Rattle.machine_model.proofs.Lists.{get_set}
use Rattle.desk_state.specs.Parts.{Parts, state_of}
use Rattle.desk_state.specs.Tied.{IsDesk}
use Rattle.desk_state.proofs.Keeping.{IsGoing, going}
use Rattle.desk_state.proofs.Enabling.{job_fits}
use Rattle.desk_events.specs.declared.tickets.PaintTicket.{PaintTicket}
use Rattle.desk_events.specs.declared.tickets.WalkTicket.{WalkTicket}
use Rattle.desk_events.specs.Sparing.{AreFrom, Spared}
use Rattle.desk_events.specs.Tickets.{IsPaintTicket, IsWalkTicket}
use Rattle.desk_events.proofs.Untouched.{before_is, layer_is, writes_read}

stroke_same : (a b : Stroke) → Some a ≡ Some b → a ≡ b
stroke_same a b e = cc

-- the layer of the stroke under way
under_way_layer : (d : Parts) (n : ℕ) (s : Stroke) → IsDesk d → d.way ≡ Some n → head_stroke (state_of d) ≡ Some s → layer_under_way d.store.way d.store.present ≡ layer_in s.layer d.store.present
under_way_layer d n s desk way at =
    let g : IsGoing d = going d n desk way in
    ap (λ w. layer_under_way w d.store.present) g.begun.way ∙ ap (λ (t : Stroke). layer_in t.layer d.store.present) (stroke_same _ _ (sym g.begun.at_head ∙ at))

-- the ticket of a job that started
pub paint_ticket : (d : Parts) (new : State) (t : PaintTicket) → IsDesk d → (step : StartStep (state_of d) t.slot.place new) → t.slot.serial ≡ d.next → t.stroke ≡ step.stroke.no → t.job ≡ suc step.next → t.work ≡ step.job.1
    → checks t.work ≡ true → t.shot.rects ≡ reads t.work → layer_of t.shot ≡ shot_of (reads t.work) (layer_under_way d.store.way d.store.present)
    → t.since ≤ step.next → AreFrom t.since (state_of d).slots → ShowsTiles (reads t.work) (layer_under_way d.store.way d.store.present) t.shot → IsPaintTicket t new
paint_ticket d new t desk step serial stroke number work checked rects shows low from tiles = record {
  stroke = step.stroke;
  at_head = ap head_stroke step.new_is ∙ step.at_head;
  no = stroke;
  index = step.next;
  number = number;
  runs = ap (λ (s : State). slice_get s.slots t.slot.place) step.new_is
      ∙ get_set (state_of d).slots t.slot.place Free _ step.free
      ∙ (λ i. Some (Paints (record { serial = sym serial i; index = step.next; job = sym work i; shot = sym shot i; published = [] })));
  checked = checked;
  limits = limits;
  reads = rects;
  base = u.base_layer;
  was = (λ i. content (same_stroke i).layer ((ap (λ (s : State). s.base) step.new_is) i)) ∙ u.was;
  early = low;
  before = λ p h spared.
      tiles p (writes_read t.work (key_of p) limits h)
      ∙ ap (λ l. at l p) (under_way_layer d step.next step.stroke desk step.begun step.at_head ∙ ap (λ (a : Stroke). layer_in a.layer d.store.present) same_stroke ∙ layer_is (state_of d) step.next u)
      ∙ u.painted.pixels p
      ∙ before_is (kept_jobs u.stroke) u.base_layer t.since step.next (state_of d).slots p from (subst (λ (a : Stroke). Spared (kept_jobs a) t.since step.next step.next p) same_stroke spared)
      ∙ ap (λ (a : Stroke). at (after_jobs (kept_jobs a) u.base_layer step.next) p) (sym same_stroke);
}
  where
    limits : within_limits t.work ≡ true
    limits = ap within_limits work ∙ job_fits d step.stroke step.next step.job desk step.at_head step.is_next

    u : UnderWay (state_of d) step.next
    u = subst (IsOnWay (state_of d)) step.begun desk.sound.orderly.on_way

    same_stroke : step.stroke ≡ u.stroke
    same_stroke = stroke_same _ _ (sym step.at_head ∙ u.at_head)

    shot : layer_of t.shot ≡ shot_of (reads step.job.1) (layer_in step.stroke.layer d.store.present)
    shot = shows ∙ (λ i. shot_of (reads (work i)) (under_way_layer d step.next step.stroke desk step.begun step.at_head i))

-- the ticket of a walk that started
pub walk_ticket : (s new : State) (t : WalkTicket) → (step : WalkStartStep s t.slot.place t.inputs.patch new) → t.slot.serial ≡ s.next → t.inputs.groups ≡ walk_shot s t.inputs.patch → IsWalkTicket t new
walk_ticket s new t step serial read = record {
  runs = ap (λ (n : State). slice_get n.slots t.slot.place) step.new_is
      ∙ get_set s.slots t.slot.place Free _ step.free
      ∙ (λ i. Some (Walks (record { serial = sym serial i; patch = t.inputs.patch; shot = sym read i; published = [] })));
}
