-- Events that make no work, and ends of work.
use Rattle.std.proofs.Common.{◌≡◌, ℕ, Bool, true, false, List, [], ◌∷◌, ◌++◌, Option, Some, Result, Ok, Err, refl, sym, ap, ◌∙◌, arith}
use Rattle.std.specs.Prelude.{slice_set}
use Rattle.std.proofs.lemmas.Bool.Decides.{nat_tests}
use Rattle.doc_model.specs.declared.command.Outcome.TheVariants as outcome
use Rattle.doc_model.specs.declared.tree.TreeFault.{TreeFault}
use Rattle.doc_model.specs.Layers.{plain}
use Rattle.doc_model.specs.Changes.{changed}
use Rattle.doc_model.specs.Picture.{Doc}
use Rattle.doc_model.specs.Strokes.{Stroke, Entry, Strokes, Changes, Undoes, Redoes, Purges, Exports}
use Rattle.machine_model.specs.State.{State, Reach, Whole, Part, Free}
use Rattle.machine_model.specs.Event as event
use Rattle.machine_model.specs.Event.{Event}
use Rattle.machine_model.specs.Step.{Step}
use Rattle.machine_model.specs.MeaningLaws.{is_feed}
use Rattle.machine_model.specs.Guards.{is_paint}
use Rattle.machine_model.specs.Effects.{with_outcome, moved_to, after_change, after_undo, after_redo, after_entry, after_finish}
use Rattle.slot_core.specs.declared.Busy.{Busy}
use Rattle.desk_state.specs.declared.work.Work.{Work}
use Rattle.desk_state.specs.Choices.{is_done_at_once, DoesAtOnce}
use Rattle.desk_state.specs.Enabled.{ends, IsEnd}
use Rattle.trace_lines.specs.declared.line.Line.{Line}
use Rattle.trace_lines.specs.declared.line.Line.TheVariants as told
use Rattle.trace_lines.specs.Texts.{line_text}
use Rattle.trace_lines.specs.Ranges.{line_in_range, is_place}
use Rattle.trace_out.specs.declared.scribe.Scribe.{Scribe}
use Rattle.trace_out.specs.Writing.{IsTied}
use Rattle.trace_out.specs.Lent.{IsLent}
use Rattle.trace_out.specs.Goes.{GoesOnWriting}
use Rattle.trace_out.proofs.Events.{told_by}
use Rattle.trace_out.proofs.Ties.{tied_still, lent_gone}
use Rattle.trace_out.proofs.Going.{told_at_once, event_put}

moved_slots : (s : State) (doc : Doc) (reach : Reach) → (moved_to s doc reach).slots ≡ s.slots
moved_slots s doc Whole = refl
moved_slots s doc (Part layer keys) = refl

change_slots : (s : State) (r : Result Doc TreeFault) → (after_change s r).slots ≡ s.slots
change_slots s (Ok new) = refl
change_slots s (Err fault) = refl

undo_slots : (s : State) (past : List (Doc × Reach)) → (after_undo s past).slots ≡ s.slots
undo_slots s [] = refl
undo_slots s (e ∷ past) = moved_slots (record (with_outcome s outcome.Done) { past = past; future = (s.base, e.1) ∷ s.future }) e.0 e.1

redo_slots : (s : State) (future : List (Doc × Reach)) → (after_redo s future).slots ≡ s.slots
redo_slots s [] = refl
redo_slots s (e ∷ future) = moved_slots (record (with_outcome s outcome.Done) { past = (s.base, e.1) ∷ s.past; future = future }) e.0 e.1

entry_slots : (s : State) (e : Entry) → (after_entry s e).slots ≡ s.slots
entry_slots s (Strokes stroke) = refl
entry_slots s (Changes change) = change_slots s (changed plain change s.base)
entry_slots s Undoes = undo_slots s s.past
entry_slots s Redoes = redo_slots s s.future
entry_slots s (Purges n) = refl
entry_slots s Exports = refl

finish_slots : (s : State) (stroke : Stroke) (b : Bool) → (after_finish s stroke b).slots ≡ s.slots
finish_slots s stroke true = refl
finish_slots s stroke false = refl

-- they leave the slots
slots_at_once : (s t : State) (e : Event) → is_done_at_once e ≡ true → Step s e t → t.slots ≡ s.slots
slots_at_once s t event.Init h step = ap (λ (u : State). u.slots) step.new_is
slots_at_once s t event.Finish h step = ap (λ (u : State). u.slots) step.new_is ∙ finish_slots s step.stroke (is_paint step.stroke.layer s.base)
slots_at_once s t event.Cancel h step = ap (λ (u : State). u.slots) step.new_is
slots_at_once s t event.Act h step = ap (λ (u : State). u.slots) step.new_is ∙ entry_slots s step.entry
slots_at_once s t (event.Feed c) h step = cc
slots_at_once s t (event.Start p) h step = cc
slots_at_once s t (event.Publish p k) h step = cc
slots_at_once s t (event.End p) h step = cc
slots_at_once s t (event.WalkStart p q) h step = cc
slots_at_once s t (event.WalkPublish p g k) h step = cc
slots_at_once s t (event.WalkEnd p) h step = cc

other_at_once : (e : Event) → is_done_at_once e ≡ true → is_feed e ≡ false
other_at_once (event.Feed c) h = cc
other_at_once event.Init h = refl
other_at_once (event.Start p) h = refl
other_at_once (event.Publish p k) h = refl
other_at_once (event.End p) h = refl
other_at_once event.Finish h = refl
other_at_once event.Cancel h = refl
other_at_once event.Act h = refl
other_at_once (event.WalkStart p q) h = refl
other_at_once (event.WalkPublish p g k) h = refl
other_at_once (event.WalkEnd p) h = refl

-- such an event was written
pub did_written : (s : State) (before : List ℕ) (b : Scribe) {x y : ℕ} → IsTied b.held s → DoesAtOnce s b.desk x y → b.out.items ≡ before ++ line_text told.Step → GoesOnWriting s before b
did_written s before b tie did text =
    let is = told_at_once did.event did.at_once in
    record {
      puts = event_put b.held s b.desk did.event before b.out.items tie did.step (other_at_once did.event did.at_once) (ap line_in_range is) (text ∙ ap (λ l. before ++ line_text l) (sym is));
      tied = tied_still b.held s b.desk did.event tie did.step (slots_at_once s b.desk did.event did.at_once did.step);
    }

-- what is known of an event that ends the work in a place
record EndsAt (s t : State) (place : ℕ) (e : Event) : Type 0 where
  other : is_feed e ≡ false
  is_told : told_by e ≡ told.End place
  slots : t.slots ≡ slice_set s.slots place Free

ends_at : (s t : State) (place : ℕ) (e : Event) → ends place e ≡ true → Step s e t → EndsAt s t place e
ends_at s t place (event.End p) h step =
    let same : p ≡ place = grind (arith, nat_tests) in
    record { other = refl; is_told = ap told.End same; slots = ap (λ (u : State). u.slots) step.new_is ∙ ap (λ q. slice_set s.slots q Free) same }
ends_at s t place (event.WalkEnd p) h step =
    let same : p ≡ place = grind (arith, nat_tests) in
    record { other = refl; is_told = ap told.End same; slots = ap (λ (u : State). u.slots) step.new_is ∙ ap (λ q. slice_set s.slots q Free) same }
ends_at s t place (event.Feed c) h step = cc
ends_at s t place event.Init h step = cc
ends_at s t place (event.Start p) h step = cc
ends_at s t place (event.Publish p k) h step = cc
ends_at s t place event.Finish h step = cc
ends_at s t place event.Cancel h step = cc
ends_at s t place event.Act h step = cc
ends_at s t place (event.WalkStart p q) h step = cc
ends_at s t place (event.WalkPublish p g k) h step = cc

-- the end of work was written
pub end_written : (s : State) (place : ℕ) (work : Busy Work) (before : List ℕ) (b : Scribe) → IsLent b.held place work s → is_place place ≡ true → IsEnd s place b.desk → b.out.items ≡ before ++ line_text (told.End place) → GoesOnWriting s before b
end_written s place work before b lent fits end text =
    let is = ends_at s b.desk place end.0 end.1 end.2 in
    record {
      puts = event_put (slice_set b.held place (Some work)) s b.desk end.0 before b.out.items lent.tied end.2 is.other (ap line_in_range is.is_told ∙ fits) (text ∙ ap (λ l. before ++ line_text l) (sym is.is_told));
      tied = lent_gone b.held place work s b.desk end.0 lent end.2 is.slots;
    }
