-- An event as a line of a trace.
use Rattle.std.proofs.Common.{◌≡◌, ℕ, true, false, Bool, ◌&&◌, List, [], ◌∷◌, ◌++◌, Option, Some, None, refl, sym, ap, ◌∙◌, subst, inl, inr}
use Rattle.std.specs.List.{list_all, flat_map}
use Rattle.std.specs.Option.{option_and_then}
use Rattle.std.proofs.lemmas.List.{append-nil, append_assoc}
use Rattle.std.proofs.lemmas.Grind.{flat_map-append}
use Rattle.script_lines.proofs.FieldLemmas.{first, second, both}
use Rattle.machine_model.specs.State.{State}
use Rattle.machine_model.specs.Event as event
use Rattle.machine_model.specs.Event.{Event}
use Rattle.machine_model.specs.Step.{Step, Run}
use Rattle.machine_model.specs.SoundnessLaws.{IsReached}
use Rattle.machine_model.proofs.Continuing.{runs_continue}
use Rattle.desk_state.proofs.SettlingRuns.{run_then}
use Rattle.machine_model.proofs.GivenSteps.{steps_are_next}
use Rattle.machine_model.proofs.Turns.{turns_are_steps}
use Rattle.trace_lines.specs.declared.line.Line.{Line}
use Rattle.trace_lines.specs.declared.line.Line.TheVariants as told
use Rattle.trace_lines.specs.Replay.{happens}
use Rattle.trace_lines.specs.Texts.{line_text}
use Rattle.trace_lines.specs.Ranges.{line_in_range}
use Rattle.trace_lines.specs.Leads.{led_to}
use Rattle.trace_out.specs.Writing.{Writes}

-- what a trace says of an event
abbrev pub told_by : Event → Line
told_by (event.Feed c) = told.Feed c
told_by event.Init = told.Step
told_by (event.Start p) = told.Start p
told_by (event.Publish p k) = told.Publish p k
told_by (event.End p) = told.End p
told_by event.Finish = told.Step
told_by event.Cancel = told.Step
told_by event.Act = told.Step
told_by (event.WalkStart p q) = told.Walk p q
told_by (event.WalkPublish p g k) = told.Put p g k
told_by (event.WalkEnd p) = told.End p

-- what is said happens
pub told_happens : (es : List Event) (s t : State) (e : Event) → IsReached es s → Step s e t → happens s (told_by e) ≡ Some t
told_happens es s t (event.Feed c) r h = steps_are_next.reached es s (event.Feed c) t r h
told_happens es s t event.Init r h = turns_are_steps.turn_taken s t event.Init refl h
told_happens es s t (event.Start p) r h = steps_are_next.reached es s (event.Start p) t r h
told_happens es s t (event.Publish p k) r h = steps_are_next.reached es s (event.Publish p k) t r h
told_happens es s t (event.End p) r h = turns_are_steps.end_taken s t p (inl h)
told_happens es s t event.Finish r h = turns_are_steps.turn_taken s t event.Finish refl h
told_happens es s t event.Cancel r h = turns_are_steps.turn_taken s t event.Cancel refl h
told_happens es s t event.Act r h = turns_are_steps.turn_taken s t event.Act refl h
told_happens es s t (event.WalkStart p q) r h = steps_are_next.reached es s (event.WalkStart p q) t r h
told_happens es s t (event.WalkPublish p g k) r h = steps_are_next.reached es s (event.WalkPublish p g k) t r h
told_happens es s t (event.WalkEnd p) r h = turns_are_steps.end_taken s t p (inr h)

-- one event was written
pub one_written : (es : List Event) (s t : State) (e : Event) (before after : List ℕ) → IsReached es s → Step s e t → line_in_range (told_by e) ≡ true → after ≡ before ++ line_text (told_by e) → Writes s before t after
one_written es s t e before after r h fit text = record {
  lines = told_by e ∷ [];
  fit = both _ _ fit refl;
  leads = ap (option_and_then (λ u. led_to u [])) (told_happens es s t e r h);
  text = text ∙ ap (λ l. before ++ l) (sym (append-nil (line_text (told_by e))));
  canvas = (runs_continue (e ∷ []) s t (t, h, refl)).canvas;
}

-- nothing was
pub none_written : (s t : State) (before after : List ℕ) → t ≡ s → after ≡ before → Writes s before t after
none_written s t before after e h = record { lines = []; fit = refl; leads = ap Some (sym e); text = h ∙ sym (append-nil before); canvas = ap (λ (u : State). u.canvas) e }

led_step : (o : Option State) (t u : State) (ls ms : List Line) → ((v : State) → led_to v ls ≡ Some t → led_to v (ls ++ ms) ≡ Some u) → option_and_then (λ v. led_to v ls) o ≡ Some t → option_and_then (λ v. led_to v (ls ++ ms)) o ≡ Some u
led_step None t u ls ms further e = cc
led_step (Some v) t u ls ms further e = further v e

led_through : (s t u : State) (ls ms : List Line) → led_to s ls ≡ Some t → led_to t ms ≡ Some u → led_to s (ls ++ ms) ≡ Some u
led_through s t u [] ms e h = let same : s ≡ t = cc in ap (λ v. led_to v ms) same ∙ h
led_through s t u (l ∷ ls) ms e h = led_step (happens s l) t u ls ms (λ v f. led_through v t u ls ms f h) e

all_both : (ls ms : List Line) → list_all line_in_range ls ≡ true → list_all line_in_range ms ≡ true → list_all line_in_range (ls ++ ms) ≡ true
all_both [] ms h k = k
all_both (l ∷ ls) ms h k = both _ _ (first (line_in_range l) (list_all line_in_range ls) h) (all_both ls ms (second (line_in_range l) (list_all line_in_range ls) h) k)

-- some lines and then others
pub written_then : {s t u : State} {a b c : List ℕ} → Writes s a t b → Writes t b u c → Writes s a u c
written_then {s = s} {t = t} {u = u} {a = a} one two = record {
  lines = one.lines ++ two.lines;
  fit = all_both one.lines two.lines one.fit two.fit;
  leads = led_through s t u one.lines two.lines one.leads two.leads;
  text = two.text ∙ ap (λ l. l ++ flat_map line_text two.lines) one.text ∙ append_assoc a (flat_map line_text one.lines) (flat_map line_text two.lines) ∙ ap (λ l. a ++ l) (sym (flat_map-append line_text one.lines two.lines));
  canvas = two.canvas ∙ one.canvas;
}

-- a run with one event more
pub reached_more : (es : List Event) (s t : State) (e : Event) → IsReached es s → Step s e t → IsReached (es ++ e ∷ []) t
reached_more es s t e r h = record { start = r.start; new = r.new; run = run_then es (e ∷ []) r.start s t r.run (t, h, refl) }
