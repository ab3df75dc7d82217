-- A run goes on from what was there.
use Rattle.std.proofs.Common.{◌≡◌, ℕ, suc, ◌≤◌, arith, Bool, true, false, List, [], ◌∷◌, ◌++◌, Result, Ok, Err, length, refl, sym, ap, ◌∙◌, subst, append_assoc, append-nil}
use Rattle.doc_model.specs.declared.command.Outcome.TheVariants.{Done}
use Rattle.doc_model.specs.declared.tree.TreeFault.{TreeFault}
use Rattle.doc_model.specs.Layers.{plain}
use Rattle.doc_model.specs.Picture.{Doc}
use Rattle.doc_model.specs.Changes.{changed}
use Rattle.doc_model.specs.Strokes.{Entry, Strokes, Changes, Undoes, Redoes, Purges, Exports}
use Rattle.machine_model.specs.State.{Reach, Whole, Part, State}
use Rattle.machine_model.specs.Event.{Event, Feed, Init, Start, Publish, End, Finish, Cancel, Act, WalkStart, WalkPublish, WalkEnd}
use Rattle.machine_model.specs.Guards.{is_paint}
use Rattle.machine_model.specs.Effects.{after_entry, after_change, after_undo, after_redo, moved_to, with_outcome, after_finish}
use Rattle.machine_model.specs.Step.{Step, FinishStep}
use Rattle.machine_model.specs.SoundnessLaws.{Continues, RunsContinue, fed_by}
use Rattle.machine_model.proofs.SlotChanges.{length_set}
use Rattle.doc_model.specs.declared.command.Outcome.{Outcome}

same_serial : (n : ℕ) → n ≤ n
same_serial n = omega arith

one_serial : (n : ℕ) → n ≤ suc n
one_serial n = omega arith

-- what tells nothing
still : (old new : State) → new.canvas ≡ old.canvas → length new.slots ≡ length old.slots → new.fed ≡ old.fed → new.outcomes ≡ old.outcomes → new.frames ≡ old.frames → old.next ≤ new.next → Continues [] old new
still old new canvas slots fed outcomes frames serials = record {
  canvas = canvas;
  slots = slots;
  fed = fed ∙ sym (append-nil old.fed);
  outcomes = ([], outcomes ∙ sym (append-nil old.outcomes));
  frames = ([], frames ∙ sym (append-nil old.frames));
  serials = serials;
}

-- one more outcome
one_more : (old new : State) → new.canvas ≡ old.canvas → new.slots ≡ old.slots → new.fed ≡ old.fed → (o : Outcome) → new.outcomes ≡ old.outcomes ++ o ∷ [] → new.frames ≡ old.frames → old.next ≤ new.next → Continues [] old new
one_more old new canvas slots fed o outcomes frames serials = record {
  canvas = canvas;
  slots = ap length slots;
  fed = fed ∙ sym (append-nil old.fed);
  outcomes = (o ∷ [], outcomes);
  frames = ([], frames ∙ sym (append-nil old.frames));
  serials = serials;
}

by_change : (s : State) (r : Result Doc TreeFault) → Continues [] s (after_change s r)
by_change s (Ok new) = one_more s _ refl refl refl Done refl refl (same_serial s.next)
by_change s (Err fault) = one_more s _ refl refl refl _ refl refl (same_serial s.next)

by_reach : (s t : State) (d : Doc) (r : Reach) → Continues [] s t → Continues [] s (moved_to t d r)
by_reach s t d Whole h = record { canvas = h.canvas; slots = h.slots; fed = h.fed; outcomes = h.outcomes; frames = h.frames; serials = h.serials }
by_reach s t d (Part id keys) h = record { canvas = h.canvas; slots = h.slots; fed = h.fed; outcomes = h.outcomes; frames = h.frames; serials = h.serials }

by_undo : (s : State) (past : List (Doc × Reach)) → Continues [] s (after_undo s past)
by_undo s [] = one_more s _ refl refl refl _ refl refl (same_serial s.next)
by_undo s (e ∷ past) = by_reach s _ e.0 e.1 (one_more s (record (with_outcome s Done) { past = past; future = (s.base, e.1) ∷ s.future }) refl refl refl Done refl refl (same_serial s.next))

by_redo : (s : State) (future : List (Doc × Reach)) → Continues [] s (after_redo s future)
by_redo s [] = one_more s _ refl refl refl _ refl refl (same_serial s.next)
by_redo s (e ∷ future) = by_reach s _ e.0 e.1 (one_more s (record (with_outcome s Done) { past = (s.base, e.1) ∷ s.past; future = future }) refl refl refl Done refl refl (same_serial s.next))

by_entry : (s : State) (e : Entry) → Continues [] s (after_entry s e)
by_entry s (Strokes stroke) = still s _ refl refl refl refl refl (same_serial s.next)
by_entry s (Changes change) = by_change s (changed plain change s.base)
by_entry s Undoes = by_undo s s.past
by_entry s Redoes = by_redo s s.future
by_entry s (Purges n) = one_more s _ refl refl refl Done refl refl (same_serial s.next)
by_entry s Exports = record { canvas = refl; slots = refl; fed = sym (append-nil s.fed); outcomes = (_, refl); frames = (_, refl); serials = same_serial s.next }

by_finish : (old new : State) (step : FinishStep old new) (b : Bool) → new ≡ after_finish old step.stroke b → Continues [] old new
by_finish old new step false e = subst (Continues [] old) (sym e) (one_more old _ refl refl refl _ refl refl (same_serial old.next))
by_finish old new step true e = subst (Continues [] old) (sym e) (one_more old _ refl refl refl _ refl refl (same_serial old.next))

-- every event goes on from what was there
step_continues : (old new : State) (e : Event) → Step old e new → Continues (fed_by (e ∷ [])) old new
step_continues old new (Feed c) step = subst (Continues (c ∷ []) old) (sym step.1) (record { canvas = refl; slots = refl; fed = refl; outcomes = ([], sym (append-nil old.outcomes)); frames = ([], sym (append-nil old.frames)); serials = same_serial old.next })
step_continues old new Init step = subst (Continues [] old) (sym step.new_is) (still old _ refl refl refl refl refl (same_serial old.next))
step_continues old new (Start place) step = subst (Continues [] old) (sym step.new_is) (still old _ refl (length_set old.slots place _) refl refl refl (one_serial old.next))
step_continues old new (Publish place key) step = subst (Continues [] old) (sym step.new_is) (still old _ refl (length_set old.slots place _) refl refl refl (same_serial old.next))
step_continues old new (End place) step = subst (Continues [] old) (sym step.new_is) (still old _ refl (length_set old.slots place _) refl refl refl (same_serial old.next))
step_continues old new Finish step = by_finish old new step (is_paint step.stroke.layer old.base) step.new_is
step_continues old new Cancel step = subst (Continues [] old) (sym step.new_is) (one_more old _ refl refl refl _ refl refl (same_serial old.next))
step_continues old new Act step = subst (Continues [] old) (sym step.new_is) (by_entry old step.entry)
step_continues old new (WalkStart place patch) step = subst (Continues [] old) (sym step.new_is) (still old _ refl (length_set old.slots place _) refl refl refl (one_serial old.next))
step_continues old new (WalkPublish place g key) step = subst (Continues [] old) (sym step.new_is) (still old _ refl (length_set old.slots place _) refl refl refl (same_serial old.next))
step_continues old new (WalkEnd place) step = subst (Continues [] old) (sym step.new_is) (still old _ refl (length_set old.slots place _) refl refl refl (same_serial old.next))

fed_by_one : (e : Event) (events : List Event) → fed_by (e ∷ []) ++ fed_by events ≡ fed_by (e ∷ events)
fed_by_one (Feed c) events = refl
fed_by_one Init events = refl
fed_by_one (Start place) events = refl
fed_by_one (Publish place key) events = refl
fed_by_one (End place) events = refl
fed_by_one Finish events = refl
fed_by_one Cancel events = refl
fed_by_one Act events = refl
fed_by_one (WalkStart place patch) events = refl
fed_by_one (WalkPublish place g key) events = refl
fed_by_one (WalkEnd place) events = refl

-- what joins twice joins once
joined : {A : Type 0} (xs ys zs more rest : List A) → ys ≡ xs ++ more → zs ≡ ys ++ rest → zs ≡ xs ++ (more ++ rest)
joined xs ys zs more rest e f = f ∙ ap (λ l. l ++ rest) e ∙ append_assoc xs more rest

-- one event, and then others
then_continues : (e : Event) (events : List Event) (old mid new : State) → Continues (fed_by (e ∷ [])) old mid → Continues (fed_by events) mid new → Continues (fed_by (e ∷ events)) old new
then_continues e events old mid new one after = record {
  canvas = after.canvas ∙ one.canvas;
  slots = after.slots ∙ one.slots;
  fed = joined old.fed mid.fed new.fed (fed_by (e ∷ [])) (fed_by events) one.fed after.fed ∙ ap (λ cs. old.fed ++ cs) (fed_by_one e events);
  outcomes = (one.outcomes.0 ++ after.outcomes.0, joined old.outcomes mid.outcomes new.outcomes one.outcomes.0 after.outcomes.0 one.outcomes.1 after.outcomes.1);
  frames = (one.frames.0 ++ after.frames.0, joined old.frames mid.frames new.frames one.frames.0 after.frames.0 one.frames.1 after.frames.1);
  serials = (let a : old.next ≤ mid.next = one.serials in let b : mid.next ≤ new.next = after.serials in omega arith);
}

pub runs_continue : RunsContinue
runs_continue [] old new run = subst (Continues [] old) (sym run) (still old old refl refl refl refl refl (same_serial old.next))
runs_continue (e ∷ events) old new run = then_continues e events old run.0 new (step_continues old run.0 e run.1) (runs_continue events run.0 new run.2)
