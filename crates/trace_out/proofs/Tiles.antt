-- Tiles that were published and written.
use Rattle.std.proofs.Common.{◌≡◌, ℕ, ◌<◌, ◌^◌, Bool, true, ◌&&◌, nat_le, List, ◌∷◌, ◌++◌, Option, Some, None, refl, sym, ap, ◌∙◌, subst, arith}
use Rattle.std.specs.Prelude.{slice_get, slice_set}
use Rattle.std.proofs.lemmas.Bool.Decides.{nat_tests}
use Rattle.script_lines.proofs.FieldLemmas.{both}
use Rattle.geom_core.specs.Grid.{Key}
use Rattle.geom_core.specs.Keys.{IsWorldKey}
use Rattle.machine_model.specs.State.{State}
use Rattle.machine_model.specs.Event as event
use Rattle.machine_model.specs.Step.{Step}
use Rattle.walker_core.specs.Composing.{Composition}
use Rattle.slot_core.specs.declared.Busy.{Busy}
use Rattle.desk_state.specs.declared.work.Painter.{Painter}
use Rattle.desk_state.specs.declared.work.Walker.{Walker}
use Rattle.desk_state.specs.declared.work.Work.{Work}
use Rattle.desk_state.specs.After.{busy_painter, busy_walker}
use Rattle.desk_events.specs.declared.tickets.SlotId.{SlotId}
use Rattle.trace_lines.specs.declared.line.Line.TheVariants as told
use Rattle.trace_lines.specs.Texts.{line_text}
use Rattle.trace_lines.specs.Ranges.{is_group_number, is_key, is_place}
use Rattle.trace_out.specs.declared.scribe.Scribe.{Scribe}
use Rattle.trace_out.specs.Writing.{IsTied}
use Rattle.trace_out.specs.Lent.{IsLent, IsLentWalk, walk_of}
use Rattle.trace_out.specs.Goes.{GoesOnWriting, GoesOnPutting}
use Rattle.trace_out.proofs.Fits.{place_fits, key_fits}
use Rattle.trace_out.proofs.Ties.{lent_runs, lent_back, lent_still}
use Rattle.trace_out.proofs.Enabling.{lent_kept, published_slots, put_slots}
use Rattle.trace_out.proofs.Going.{orderly_by, event_put}

-- a job with one more tile published
abbrev pub with_tile : Painter → Key → Painter
with_tile w key = record w { published = key ∷ w.published }

pub tile_written : (held : List (Option (Busy Work))) (s : State) (place : ℕ) (w : Painter) (key : Key) (before : List ℕ) (b : Scribe) → IsLent held place (busy_painter w) s → IsWorldKey key → Step s (event.Publish place key) b.desk → b.held ≡ slice_set held place (Some (busy_painter (with_tile w key))) → b.out.items ≡ before ++ line_text (told.Publish place key) → GoesOnWriting s before b
tile_written held s place w key before b lent world step set text =
    let runs = lent_runs held place (busy_painter w) s lent in
    record {
      puts = event_put (slice_set held place (Some (busy_painter w))) s b.desk (event.Publish place key) before b.out.items lent.tied step refl (both _ _ (place_fits s place _ (orderly_by lent.tied) runs) (key_fits key world)) text;
      tied = subst (λ l. IsTied l b.desk) (sym set) (lent_back held place (busy_painter w) (Some (busy_painter (with_tile w key))) s b.desk (event.Publish place key) lent step (published_slots s b.desk place w key runs step) (lent_kept held place (busy_painter w) s lent));
    }

group_fits : (g : ℕ) → g < 2 ^ 16 → is_group_number g ≡ true
group_fits g h = grind (arith, nat_tests)

pub pair_written : (held : List (Option (Busy Work))) (s t : State) (slot : SlotId) (c : Composition) (published : List (ℕ × Key)) (g : ℕ) (key : Key) (before after : List ℕ) → IsLentWalk held slot c published s → g < 2 ^ 16 → IsWorldKey key → Step s (event.WalkPublish slot.place g key) t → after ≡ before ++ line_text (told.Put slot.place g key) → GoesOnPutting s before t after
pair_written held s t slot c published g key before after lent small world step text =
    event_put (slice_set held slot.place (Some (busy_walker (walk_of slot c published)))) s t (event.WalkPublish slot.place g key) before after lent.tied step refl
    (both _ _ (place_fits s slot.place _ (orderly_by lent.tied) (lent_runs held slot.place (busy_walker (walk_of slot c published)) s lent)) (both _ _ (group_fits g small) (key_fits key world))) text

pub pair_lent : (held : List (Option (Busy Work))) (s t : State) (slot : SlotId) (c : Composition) (published now : List (ℕ × Key)) (g : ℕ) (key : Key) → IsLentWalk held slot c published s → Step s (event.WalkPublish slot.place g key) t → now ≡ (g, key) ∷ published → IsLentWalk held slot c now t
pair_lent held s t slot c published now g key lent step is =
    subst (λ ps. IsLentWalk held slot c ps t) (sym is)
    (lent_still held slot.place (busy_walker (walk_of slot c published)) (busy_walker (walk_of slot c ((g, key) ∷ published))) s t (event.WalkPublish slot.place g key) lent step
    (put_slots s t slot.place (walk_of slot c published) g key (lent_runs held slot.place (busy_walker (walk_of slot c published)) s lent) step) refl)
