-- Lines without a fault are a run that settles.
use Rattle.std.proofs.Common.{◌≡◌, ℕ, suc, ◌≤◌, Bool, true, false, cond, List, [], ◌∷◌, Option, Some, None, Result, Ok, Err, length, take, refl, sym, ap, ◌∙◌, subst, inl, inr}
use Rattle.std.specs.List.{list_all}
use Rattle.doc_model.specs.declared.canvas.Canvas.{Canvas}
use Rattle.doc_model.specs.Canvases.{IsOfLimits}
use Rattle.doc_model.specs.Feeding.{is_closed_entry}
use Rattle.doc_model.specs.Strokes.{entries}
use Rattle.script_lines.specs.declared.cause.Cause.{Cause}
use Rattle.script_forms.specs.Jobs.{Fields}
use Rattle.machine_model.specs.State.{State, new_state}
use Rattle.machine_model.specs.Event.{Event, Feed, Start, Publish, End, WalkStart, WalkPublish, WalkEnd}
use Rattle.machine_model.specs.Step.{Step, Run}
use Rattle.machine_model.specs.SoundnessLaws.{IsReached}
use Rattle.machine_model.specs.Sound.{IsOrderly}
use Rattle.machine_model.proofs.RunsOrderly.{runs_are_orderly, runs_have_meaning}
use Rattle.machine_model.proofs.Continuing.{runs_continue}
use Rattle.machine_model.proofs.Lists.{take_all}
use Rattle.machine_model.specs.Replays.{is_settled}
use Rattle.machine_model.proofs.GivenSteps.{gives_step}
use Rattle.machine_model.proofs.Turns.{turns_are_steps, settled_tells}
use Rattle.trace_lines.specs.declared.line.Line.{Line}
use Rattle.trace_lines.specs.declared.line.Line.TheVariants as line
use Rattle.trace_lines.specs.declared.line.TraceFault.{TraceFault}
use Rattle.trace_lines.specs.declared.line.TraceCause.TheVariants.{Unsettled}
use Rattle.trace_lines.specs.Forms.{line_of, slots, canvas_line}
use Rattle.trace_lines.specs.Replay.{Told, fault, happens, and_then, of_form, enabled, line_follows, follow, settled, replayed}
use Rattle.trace_lines.specs.ReplayLaws.{IsRunThatSettles, ReplayedRuns}
use Rattle.trace_lines.proofs.Heads.{canvas_line_ok, slots_ok}

no_ok : {A B : Type 0} (f : TraceFault) (y : B) → ◌≡◌ {A = Told B} (Err f) (Ok y) → A
no_ok f y e = cc

-- what a chain gave came from what its first step gave
first_told : {A B : Type 0} (r : Told A) (f : A → Told B) (y : B) → and_then r f ≡ Ok y → (x : A) × (r ≡ Ok x) × (f x ≡ Ok y)
first_told (Ok x) f y e = (x, refl, e)
first_told (Err c) f y e = no_ok c y e

form_ok : {A : Type 0} (n : ℕ) (r : Result A Cause) (x : A) → of_form n r ≡ Ok x → r ≡ Ok x
form_ok n (Ok y) x e = ok_same y x e
  where
    ok_same : {A : Type 0} (y x : A) → ◌≡◌ {A = Told A} (Ok y) (Ok x) → ◌≡◌ {A = Result A Cause} (Ok y) (Ok x)
    ok_same y x e = let same : y ≡ x = cc in ap Ok same
form_ok n (Err c) x e = no_ok _ x e

enabled_ok : (n : ℕ) (o : Option State) (t : State) → enabled n o ≡ Ok t → o ≡ Some t
enabled_ok n (Some s) t e = let same : s ≡ t = cc in ap Some same
enabled_ok n None t e = no_ok _ t e

pub line_event : (s t : State) (l : Line) → happens s l ≡ Some t → (e : Event) × Step s e t
line_event s t (line.Feed c) h = (Feed c, gives_step s t (Feed c) h)
line_event s t line.Outside h = cc
line_event s t line.Step h = let a = turns_are_steps.turn s t h in (a.0, a.2)
line_event s t (line.Start place) h = (Start place, gives_step s t (Start place) h)
line_event s t (line.Publish place key) h = (Publish place key, gives_step s t (Publish place key) h)
line_event s t (line.End place) h = elim (turns_are_steps.end s t place h) [ inl x ↦ (End place, x) | inr x ↦ (WalkEnd place, x) ]
line_event s t (line.Walk place patch) h = (WalkStart place patch, gives_step s t (WalkStart place patch) h)
line_event s t (line.Put place g key) h = (WalkPublish place g key, gives_step s t (WalkPublish place g key) h)

follow_run : (n : ℕ) (s t : State) (ls : List Fields) → follow n s ls ≡ Ok t → (es : List Event) × Run s es t
follow_run n s t [] e = ([], (let same : s ≡ t = cc in sym same))
follow_run n s t (fields ∷ more) e =
    let a = first_told (line_follows n s fields) (λ m. follow (suc n) m more) t e in
    let b = first_told (of_form n (line_of fields)) (λ l. enabled n (happens s l)) a.0 a.1 in
    let c = line_event s a.0 b.0 (enabled_ok n (happens s b.0) a.0 b.2) in
    let d = follow_run (suc n) a.0 t more a.2 in
    (c.0 ∷ d.0, (a.0, c.1, d.1))

settled_ok : (n : ℕ) (s t : State) → settled n s ≡ Ok t → (is_settled s ≡ true) × (s ≡ t)
settled_ok n s t e = go (is_settled s) refl e
  where
    go : (b : Bool) → is_settled s ≡ b → cond b (Ok s) (fault n Unsettled) ≡ Ok t → (is_settled s ≡ true) × (s ≡ t)
    go true h e = (h, (let same : s ≡ t = cc in same))
    go false h e = no_ok _ t e

runs : (c : Canvas) (n : ℕ) (s : State) (es : List Event) → IsOfLimits c → 1 ≤ n → n ≤ 17 → Run (new_state c n) es s → is_settled s ≡ true → IsRunThatSettles s
runs c n s es limits some few run rests = record {
  events = es;
  run = reached;
  settled = settled_tells.settled s rests;
  canvas = subst IsOfLimits (sym (runs_continue es (new_state c n) s run).canvas) limits;
  fed = (runs_continue es (new_state c n) s run).fed;
  lawful = orderly.told.lawful;
  closed = subst (λ k. list_all is_closed_entry k ≡ true) (ap (λ m. take m (entries s.fed)) (settled_tells.settled s rests).entries ∙ take_all (entries s.fed)) orderly.told.closed;
  meaning = runs_have_meaning es s reached (settled_tells.settled s rests);
}
  where
    reached : IsReached es s
    reached = record { start = new_state c n; new = record { canvas = c; slots = n; of_limits = limits; some_slot = some; few_slots = few; is = refl }; run = run }

    orderly : IsOrderly s
    orderly = runs_are_orderly es s reached

pub replayed_runs : ReplayedRuns
unfolding replayed
replayed_runs [] s e = no_ok _ s e
replayed_runs (one ∷ []) s e = (let a = first_told (of_form 1 (slots one)) _ s e in no_ok _ s a.2)
replayed_runs (one ∷ two ∷ more) s e =
    let a = first_told (of_form 1 (slots one)) (λ n. and_then (of_form 2 (canvas_line two)) (λ c. and_then (follow 3 (new_state c n) more) (λ t. settled (suc (suc (length more))) t))) s e in
    let b = first_told (of_form 2 (canvas_line two)) (λ c. and_then (follow 3 (new_state c a.0) more) (λ t. settled (suc (suc (length more))) t)) s a.2 in
    let d = first_told (follow 3 (new_state b.0 a.0) more) (λ t. settled (suc (suc (length more))) t) s b.2 in
    let r = follow_run 3 (new_state b.0 a.0) d.0 more d.1 in
    let z = settled_ok (suc (suc (length more))) d.0 s d.2 in
    let n = slots_ok one a.0 (form_ok 1 (slots one) a.0 a.1) in
    subst IsRunThatSettles z.1 (runs b.0 a.0 d.0 r.0 (canvas_line_ok two b.0 (form_ok 2 (canvas_line two) b.0 b.1)) n.0 n.1 r.1 z.0)
