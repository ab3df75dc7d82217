-- Going over the lines of a trace, one after another.
use Rattle.std.proofs.Common.{◌≡◌, ℕ, ◌+◌, suc, Bool, true, false, cond, List, [], ◌∷◌, Option, Some, None, Result, Ok, Err, length, refl, sym, ap, ◌∙◌, subst, arith, IfOk, IfErr}
use Rattle.std.specs.Option.{option_map}
use Rattle.doc_model.specs.declared.canvas.Canvas.{Canvas}
use Rattle.doc_model.specs.Feeding.{lawful}
use Rattle.script_lines.specs.declared.cause.Cause.{Cause}
use Rattle.script_forms.specs.Jobs.{Fields}
use Rattle.script_forms.specs.Ranges.{in_limits}
use Rattle.machine_model.specs.State.{State, new_state}
use Rattle.machine_model.specs.Sound.{IsOrderly}
use Rattle.machine_model.proofs.RunsOrderly.{step_keeps, new_orderly}
use Rattle.trace_lines.specs.declared.line.Line.{Line}
use Rattle.trace_lines.specs.declared.line.Line.TheVariants as line
use Rattle.trace_lines.specs.declared.line.TraceFault.{TraceFault}
use Rattle.trace_lines.specs.declared.line.TraceCause.TheVariants.{Unsettled}
use Rattle.trace_lines.specs.Forms.{line_of, slots, canvas_line}
use Rattle.trace_lines.specs.Replay as trace
use Rattle.trace_lines.specs.Replay.{Told, fault, and_then, of_form, replayed, replayed_behind, settled}
use Rattle.trace_lines.specs.ReplayLaws.{IsRunThatSettles}
use Rattle.trace_lines.proofs.ReplayedLines.{line_event, replayed_runs}
use Rattle.trace_lines.proofs.Heads.{slots_ok, canvas_line_ok}
use Rattle.machine_model.proofs.Continuing.{runs_continue}
use Rattle.trace_core.specs.declared.refusal.ReplayRefusal.{ReplayRefusal}
use Rattle.trace_core.specs.declared.refusal.ReplayRefusal.TheVariants.{Fault, NoMemory}
use Rattle.trace_core.specs.Outline.{Outline, outline}
use Rattle.trace_core.specs.Moves as move
use Rattle.trace_core.specs.Following.{happens, enabled, line_follows, follow, IsRefused}
use Rattle.trace_core.specs.Answers.{Answers, IsBegun, IsReplayed}
use Rattle.script_text.specs.Script.{Contents, contents}
use Rattle.script_text.specs.Closed.{all_closed}
use Rattle.trace_core.proofs.Outlines.{fed_told, started_told, published_told, work_ended_told, composed_one_told, walk_started_told, stepped_told, settled_told}

-- what is told of a state, told of its outline
abbrev pub told_outline : Told State → Told Outline
told_outline (Ok s) = Ok (outline s)
told_outline (Err f) = Err f

happens_told : (s : State) (l : Line) → IsOrderly s → option_map outline (trace.happens s l) ≡ happens (outline s) l
happens_told s (line.Feed c) is = fed_told s c is.told
happens_told s line.Outside is = refl
happens_told s line.Step is = stepped_told s
happens_told s (line.Start place) is = started_told s place
happens_told s (line.Publish place key) is = published_told s place key
happens_told s (line.End place) is = work_ended_told s place
happens_told s (line.Walk place patch) is = walk_started_told s place patch
happens_told s (line.Put place g key) is = composed_one_told s place g key

line_told : (n : ℕ) (s : State) (f : Fields) → IsOrderly s → told_outline (trace.line_follows n s f) ≡ line_follows n (outline s) f
line_told n s f is = go (line_of f)
  where
    go_on : (o : Option State) → told_outline (trace.enabled n o) ≡ enabled n (option_map outline o)
    go_on None = refl
    go_on (Some t) = refl

    go : (r : Result Line Cause) → told_outline (and_then (of_form n r) (λ l. trace.enabled n (trace.happens s l))) ≡ and_then (of_form n r) (λ l. enabled n (happens (outline s) l))
    go (Err c) = refl
    go (Ok l) = go_on (trace.happens s l) ∙ ap (enabled n) (happens_told s l is)

no_state : {A : Type 0} (f : TraceFault) (t : State) → ◌≡◌ {A = Told State} (Err f) (Ok t) → A
no_state f t e = cc

same_state : (s t : State) → ◌≡◌ {A = Told State} (Ok s) (Ok t) → s ≡ t
same_state s t e = cc

-- an orderly state that is of the same canvas as the other
record Keeps (s t : State) : Type 0 where
  orderly : IsOrderly t
  canvas : t.canvas ≡ s.canvas

line_keeps : (n : ℕ) (s t : State) (f : Fields) → IsOrderly s → trace.line_follows n s f ≡ Ok t → Keeps s t
line_keeps n s t f is e = go (line_of f) e
  where
    by : (l : Line) (o : Option State) → trace.happens s l ≡ o → trace.enabled n o ≡ Ok t → Keeps s t
    by l None h e = no_state _ t e
    by l (Some u) h e = (let ev = line_event s u l h in subst (Keeps s) (same_state u t e) (record { orderly = step_keeps s u ev.0 is ev.1; canvas = (runs_continue (ev.0 ∷ []) s u (u, ev.1, refl)).canvas }))

    go : (r : Result Line Cause) → and_then (of_form n r) (λ l. trace.enabled n (trace.happens s l)) ≡ Ok t → Keeps s t
    go (Err c) e = no_state _ t e
    go (Ok l) e = by l (trace.happens s l) refl e

-- the lines lead the outline where they lead the state
pub follow_told : (n : ℕ) (s : State) (ls : List Fields) → IsOrderly s → told_outline (trace.follow n s ls) ≡ follow n (outline s) ls
follow_told n s [] is = refl
follow_told n s (f ∷ more) is = go (λ t orderly. follow_told (suc n) t more orderly) (trace.line_follows n s f) refl
  where
    go : ((t : State) → IsOrderly t → told_outline (trace.follow (suc n) t more) ≡ follow (suc n) (outline t) more)
        → (r : Told State) → trace.line_follows n s f ≡ r → told_outline (and_then r (λ t. trace.follow (suc n) t more)) ≡ and_then (line_follows n (outline s) f) (λ p. follow (suc n) p more)
    go behind (Ok t) e = behind t (line_keeps n s t f is e).orderly ∙ ap (λ r. and_then r (λ p. follow (suc n) p more)) (ap told_outline (sym e) ∙ line_told n s f is)
    go behind (Err x) e = ap (λ r. and_then r (λ p. follow (suc n) p more)) (ap told_outline (sym e) ∙ line_told n s f is)

follow_keeps : (n : ℕ) (s t : State) (ls : List Fields) → IsOrderly s → trace.follow n s ls ≡ Ok t → Keeps s t
follow_keeps n s t [] is e = record { orderly = subst IsOrderly (same_state s t e) is; canvas = ap (λ (u : State). u.canvas) (sym (same_state s t e)) }
follow_keeps n s t (f ∷ more) is e = go (λ u orderly. follow_keeps (suc n) u t more orderly) (trace.line_follows n s f) refl e
  where
    go : ((u : State) → IsOrderly u → trace.follow (suc n) u more ≡ Ok t → Keeps u t)
        → (r : Told State) → trace.line_follows n s f ≡ r → and_then r (λ u. trace.follow (suc n) u more) ≡ Ok t → Keeps s t
    go behind (Ok u) h e =
        let first : Keeps s u = line_keeps n s u f is h in
        let rest : Keeps u t = behind u first.orderly e in
        record { orderly = rest.orderly; canvas = rest.canvas ∙ first.canvas }
    go behind (Err x) h e = no_state x t e

-- the first two lines
pub begins : (o : Outline) (n : ℕ) (canvas : Canvas) (one two : Fields) (more ls : List Fields) → o ≡ outline (new_state canvas n) → in_limits canvas ≡ true → ls ≡ one ∷ (two ∷ more) → slots one ≡ Ok n → canvas_line two ≡ Ok canvas → IsBegun o canvas more ls
unfolding replayed
begins o n canvas one two more ls outline_is limits is first second = record {
  slots = n;
  in_limits = limits;
  of_limits = canvas_line_ok two canvas second;
  some = (slots_ok one n first).0;
  few = (slots_ok one n first).1;
  outline_is = outline_is;
  number = (let e : length ls ≡ suc (suc (length more)) = ap length is in omega arith);
  replayed = ap replayed is
      ∙ ap (λ r. replayed_behind r two more) first
      ∙ ap (λ r. and_then (of_form 2 r) (λ c. and_then (trace.follow 3 (new_state c n) more) (λ s. settled (suc (suc (length more))) s))) second
      ∙ (let e : suc (suc (length more)) ≡ length more + 2 = omega arith in ap (λ k. and_then (trace.follow 3 (new_state canvas n) more) (λ t. settled k t)) e);
}

module _ (o : Outline) (canvas : Canvas) (behind ls : List Fields) (b : IsBegun o canvas behind ls) where
  -- a refusal of the lines behind is one of the whole
  pub refused : (e : ReplayRefusal) → IsRefused e (follow 3 o behind) → IsRefused e (replayed ls)
  refused NoMemory is = tt
  refused (Fault l c) is = b.replayed ∙ ap (λ r. and_then r (λ t. settled (length behind + 2) t)) (by (trace.follow 3 (new_state canvas b.slots) behind) led)
    where
      led : told_outline (trace.follow 3 (new_state canvas b.slots) behind) ≡ fault l c
      led = follow_told 3 (new_state canvas b.slots) behind (new_orderly canvas b.slots b.of_limits b.some b.few) ∙ ap (λ p. follow 3 p behind) (sym b.outline_is) ∙ is

      by : (r : Told State) → told_outline r ≡ fault l c → r ≡ fault l c
      by (Ok t) h = cc
      by (Err x) h = let same : x ≡ record { line = l; cause = c } = cc in ap Err same

  -- the state that the lines lead to
  pub record IsLed (new : Outline) : Type 0 where
    pub state : State
    pub orderly : IsOrderly state
    pub canvas_is : state.canvas ≡ canvas
    pub follows : trace.follow 3 (new_state canvas b.slots) behind ≡ Ok state
    pub outline_is : outline state ≡ new

  pub led_to : (new : Outline) → follow 3 o behind ≡ Ok new → IsLed new
  led_to new is = by (trace.follow 3 (new_state canvas b.slots) behind) refl led
    where
      orderly : IsOrderly (new_state canvas b.slots)
      orderly = new_orderly canvas b.slots b.of_limits b.some b.few

      led : told_outline (trace.follow 3 (new_state canvas b.slots) behind) ≡ Ok new
      led = follow_told 3 (new_state canvas b.slots) behind (new_orderly canvas b.slots b.of_limits b.some b.few) ∙ ap (λ p. follow 3 p behind) (sym b.outline_is) ∙ is

      by : (r : Told State) → trace.follow 3 (new_state canvas b.slots) behind ≡ r → told_outline r ≡ Ok new → IsLed new
      by (Ok t) h e =
          let keeps : Keeps (new_state canvas b.slots) t = follow_keeps 3 (new_state canvas b.slots) t behind orderly h in
          record { state = t; orderly = keeps.orderly; canvas_is = keeps.canvas; follows = h; outline_is = (let same : outline t ≡ new = cc in same) }
      by (Err x) h e = cc

  settles_by : (new : Outline) (led : IsLed new) (settles : Bool) → move.is_settled new ≡ settles → replayed ls ≡ cond settles (Ok led.state) (fault (length behind + 2) Unsettled)
  settles_by new led settles is =
      b.replayed
      ∙ ap (λ r. and_then r (λ t. settled (length behind + 2) t)) led.follows
      ∙ ap (λ s. cond s (Ok led.state) (fault (length behind + 2) Unsettled)) (settled_told led.state led.orderly.told ∙ ap move.is_settled led.outline_is ∙ is)

  -- what is left to do behind the last of them
  pub unsettled : (new : Outline) → IsLed new → move.is_settled new ≡ false → replayed ls ≡ fault (length behind + 2) Unsettled
  unsettled new led is = settles_by new led false is

  run_of : (new : Outline) (led : IsLed new) → move.is_settled new ≡ true → IsRunThatSettles led.state
  run_of new led is = replayed_runs ls led.state (settles_by new led true is)

  -- the state of a trace without a fault, with its script
  pub replays : (new : Outline) (led : IsLed new) (script : Contents) → move.is_settled new ≡ true → script ≡ contents canvas new.fed → IsReplayed (replayed ls) script
  replays new led script is script_is = record {
    state = led.state;
    told_is = settles_by new led true is;
    run = run_of new led is;
    script_is = script_is ∙ (λ i. contents (sym led.canvas_is i) (sym led.outline_is i).fed);
  }

  -- what such a trace has fed is a script
  pub fed_lawful : (new : Outline) → IsLed new → move.is_settled new ≡ true → lawful new.fed ≡ true
  fed_lawful new led is = subst (λ (p : Outline). lawful p.fed ≡ true) led.outline_is (run_of new led is).lawful

  pub fed_closed : (new : Outline) → IsLed new → move.is_settled new ≡ true → all_closed new.fed ≡ true
  fed_closed new led is = subst (λ (p : Outline). all_closed p.fed ≡ true) led.outline_is (run_of new led is).closed

  -- the answer to it
  pub answered : (new : Outline) → IsLed new → move.is_settled new ≡ true → (r : Result Contents ReplayRefusal) → IfOk r (λ script. script ≡ contents canvas new.fed) → IfErr r (λ e. e ≡ NoMemory) → Answers r (replayed ls)
  answered new led is (Ok script) ok err = replays new led script is ok
  answered new led is (Err e) ok err = subst (λ x. IsRefused x (replayed ls)) (sym err) tt
