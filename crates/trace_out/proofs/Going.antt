-- What a scribe did, by the events.
use Rattle.std.proofs.Common.{◌≡◌, ℕ, ◌<◌, ◌≤◌, true, false, List, [], ◌∷◌, ◌++◌, length, Option, refl, sym, ap, ◌∙◌, subst, arith, length-append}
use Rattle.std.specs.Prelude.{not}
use Rattle.std.specs.List.{list_all}
use Rattle.machine_model.specs.State.{State}
use Rattle.machine_model.specs.Event as event
use Rattle.machine_model.specs.Event.{Event}
use Rattle.machine_model.specs.Step.{Step}
use Rattle.machine_model.specs.MeaningLaws.{is_feed}
use Rattle.machine_model.specs.Remaining.{left}
use Rattle.machine_model.specs.Sound.{IsOrderly}
use Rattle.machine_model.proofs.RunsOrderly.{runs_are_orderly}
use Rattle.doc_model.specs.declared.command.Command.{Command}
use Rattle.doc_model.specs.declared.command.Command.TheVariants as command
use Rattle.doc_model.specs.Strokes.{Entry}
use Rattle.doc_model.specs.Lawful.{may_follow}
use Rattle.script_forms.specs.Ranges.{is_sound}
use Rattle.script_lines.proofs.FieldLemmas.{both, first, second}
use Rattle.slot_core.specs.declared.Busy.{Busy}
use Rattle.desk_state.specs.declared.work.Work.{Work}
use Rattle.desk_state.specs.Choices.{is_done_at_once}
use Rattle.desk_state.specs.Settles.{Settles, GoesOn}
use Rattle.desk_state.proofs.SettlingRuns.{goes_on, goes_less, run_then, settles_none, settles_then}
use Rattle.trace_lines.specs.declared.line.Line.TheVariants as told
use Rattle.trace_lines.specs.Texts.{line_text}
use Rattle.trace_lines.specs.Ranges.{line_in_range}
use Rattle.trace_out.specs.declared.scribe.Scribe.{Scribe}
use Rattle.trace_out.specs.Writing.{IsTied, Writes}
use Rattle.trace_out.specs.Goes.{GoesOnWriting, SettlesWriting, GoesOnPutting, SettlesPutting}
use Rattle.trace_out.proofs.Events.{told_by, one_written, none_written, written_then}

-- what is held tells that the state is orderly
pub orderly_by : {held : List (Option (Busy Work))} {s : State} → IsTied held s → IsOrderly s
orderly_by {s = s} tie = runs_are_orderly tie.events s tie.reached

-- a command that may follow others has a job within the limits
pub sound_of : (es : List Entry) (c : Command) → may_follow es c ≡ true → is_sound c ≡ true
sound_of es (command.Add n kind job) h = first _ _ h
sound_of es c h = refl

-- an event that makes no work is a step
pub told_at_once : (e : Event) → is_done_at_once e ≡ true → told_by e ≡ told.Step
told_at_once event.Init h = refl
told_at_once event.Finish h = refl
told_at_once event.Cancel h = refl
told_at_once event.Act h = refl
told_at_once (event.Feed c) h = cc
told_at_once (event.Start p) h = cc
told_at_once (event.Publish p k) h = cc
told_at_once (event.End p) h = cc
told_at_once (event.WalkStart p q) h = cc
told_at_once (event.WalkPublish p g k) h = cc
told_at_once (event.WalkEnd p) h = cc

-- one event and its line
pub event_put : (held : List (Option (Busy Work))) (s t : State) (e : Event) (before after : List ℕ) → IsTied held s → Step s e t → is_feed e ≡ false → line_in_range (told_by e) ≡ true → after ≡ before ++ line_text (told_by e) → GoesOnPutting s before t after
event_put held s t e before after tie step other fit text = record {
  goes = goes_on s t e other step;
  writes = one_written tie.events s t e before after tie.reached step fit text;
}

-- none
pub put_none : (s t : State) (before after : List ℕ) → t ≡ s → after ≡ before → SettlesPutting s before t after
put_none s t before after e h = record { settles = settles_none s t e; writes = none_written s t before after e h }

-- some and more
pub put_more : {s t u : State} {a b c : List ℕ} → SettlesPutting s a t b → GoesOnPutting t b u c → SettlesPutting s a u c
put_more one two = record { settles = settles_then one.settles two.goes.settles; writes = written_then one.writes two.writes }

none_fed : (es fs : List Event) → list_all (λ e. not (is_feed e)) es ≡ true → list_all (λ e. not (is_feed e)) fs ≡ true → list_all (λ e. not (is_feed e)) (es ++ fs) ≡ true
none_fed [] fs h k = k
none_fed (e ∷ es) fs h k = both _ _ (first (not (is_feed e)) (list_all (λ x. not (is_feed x)) es) h) (none_fed es fs (second (not (is_feed e)) (list_all (λ x. not (is_feed x)) es) h) k)

-- at least one event, and others
goes_then : {a b c : State} → GoesOn a b → Settles b c → GoesOn a c
goes_then {a = a} {b = b} {c = c} one two = record {
  settles = record {
    events = one.settles.events ++ two.events;
    no_feed = none_fed one.settles.events two.events one.settles.no_feed two.no_feed;
    run = run_then one.settles.events two.events a b c one.settles.run two.run;
  };
  some = more one.some;
}
  where
    more : 1 ≤ length one.settles.events → 1 ≤ length (one.settles.events ++ two.events)
    more h = simp length-append (omega arith)

pub put_then : {s t u : State} {a b c : List ℕ} → GoesOnPutting s a t b → SettlesPutting t b u c → GoesOnPutting s a u c
put_then one two = record { goes = goes_then one.goes two.settles; writes = written_then one.writes two.writes }

-- any number of events
pub settles_more : {s : State} {a : List ℕ} {b c : Scribe} → SettlesWriting s a b → GoesOnWriting b.desk b.out.items c → SettlesWriting s a c
settles_more one two = record { puts = put_more one.puts two.puts; tied = two.tied }

pub settles_still : {s : State} {a : List ℕ} {b c : Scribe} → SettlesWriting s a b → c ≡ b → SettlesWriting s a c
settles_still {s = s} {a = a} one same = subst (λ d. SettlesWriting s a d) (sym same) one

pub settles_first : (b : Scribe) → IsTied b.held b.desk → SettlesWriting b.desk b.out.items b
settles_first b tied = record { puts = put_none b.desk b.desk b.out.items b.out.items refl refl; tied = tied }

-- fewer events are left
pub writing_less : (held : List (Option (Busy Work))) (s : State) (before : List ℕ) (b : Scribe) → IsTied held s → GoesOnWriting s before b → left b.desk < left s
writing_less held s before b tie on = goes_less s b.desk (orderly_by tie) on.puts.goes

-- an event whose work was put into its place
pub took_work : (held : List (Option (Busy Work))) (s t : State) (e : Event) (before : List ℕ) (b : Scribe) → IsTied held s → Step s e t → is_feed e ≡ false → line_in_range (told_by e) ≡ true → b.desk ≡ t → b.out.items ≡ before ++ line_text (told_by e) → IsTied b.held t → GoesOnWriting s before b
took_work held s t e before b tie step other fit same text tied = record {
  puts = subst (λ u. GoesOnPutting s before u b.out.items) (sym same) (event_put held s t e before b.out.items tie step other fit text);
  tied = subst (λ u. IsTied b.held u) (sym same) tied;
}
