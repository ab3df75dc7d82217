-- Which events exclude each other, and what the words of a trace stand for.
use Rattle.std.proofs.Common.{◌≡◌, ℕ, true, false, ◌&&◌, ◌||◌, Option, Some, None, length, refl, sym, ap, ◌∙◌, arith, eqb, ◌⊎◌, inl, inr}
use Rattle.std.specs.List.{list_all}
use Rattle.std.proofs.lemmas.Bool.Decides.{nat_tests}
use Rattle.geom_core.proofs.Tests.{and_left, and_right, both_true}
use Rattle.doc_model.specs.Strokes.{Stroke, Fate, Open, Ended, Cancelled, entries}
use Rattle.machine_model.specs.State.{Paints, Walks, State, head_stroke, is_free}
use Rattle.machine_model.specs.Event.{Event, Feed, Init, Start, Publish, End, Finish, Cancel, Act, WalkStart, WalkPublish, WalkEnd}
use Rattle.machine_model.specs.Guards.{is_cancelled, is_ended, overlaps, is_paint}
use Rattle.machine_model.specs.Step.{Step, InitStep, EndStep, FinishStep, CancelStep, ActStep, WalkEndStep}
use Rattle.machine_model.specs.Next.{next, is_clear}
use Rattle.machine_model.specs.Replays.{first_of, stepped, work_ended}
use Rattle.machine_model.specs.NextLaws.{TurnsExclude, TurnsAreSteps, SettledTells, is_turn}
use Rattle.machine_model.proofs.GivenSteps.{gives_step, init_given, finish_given, cancel_given, act_given, end_given, walk_end_given, nothing_waits, waits_nothing}
use Rattle.std.proofs.lemmas.Bool.{eqb-true, eq-eqb}

-- a stroke that was ended wasn't cancelled
not_both : (stroke : Stroke) → is_ended stroke ≡ true → is_cancelled stroke ≡ false
not_both stroke e = go stroke.fate refl
  where
    go : (f : Fate) → stroke.fate ≡ f → is_cancelled stroke ≡ false
    go Open is = rw is refl
    go Ended is = rw is refl
    go Cancelled is = (let f : false ≡ true = rw is at e in cc)

one_stroke : (o : Option Stroke) (a b : Stroke) → o ≡ Some a → o ≡ Some b → a ≡ b
one_stroke o a b e f = let same : Some a ≡ Some b = sym e ∙ f in cc

never : {A : Type 0} → true ≡ false → A
never e = cc

module _ {A : Type 0} (s t u : State) where
  init_finish : InitStep s t → FinishStep s u → A
  init_finish a b =
      let same : a.stroke ≡ b.stroke = one_stroke (head_stroke s) a.stroke b.stroke a.at_head b.at_head in
      let all = b.all_ended (ap (λ (k : Stroke). is_paint k.layer s.base) (sym same) ∙ a.on_paint) in
      let f : None ≡ Some (length b.stroke.jobs) = sym a.not_begun ∙ all.0 in
      cc

  init_cancel : InitStep s t → CancelStep s u → A
  init_cancel a b =
      let same : a.stroke ≡ b.stroke = one_stroke (head_stroke s) a.stroke b.stroke a.at_head b.at_head in
      never (sym b.refused ∙ (λ i. is_cancelled (sym same i) || overlaps (sym same i)) ∙ (λ i. a.not_cancelled i || a.no_overlap i))

  finish_cancel : FinishStep s t → CancelStep s u → A
  finish_cancel a b =
      let same : a.stroke ≡ b.stroke = one_stroke (head_stroke s) a.stroke b.stroke a.at_head b.at_head in
      never (sym b.refused ∙ (λ i. is_cancelled (sym same i) || overlaps (sym same i)) ∙ (λ i. not_both a.stroke a.ended i || a.no_overlap i))

  stroke_act : (stroke : Stroke) → head_stroke s ≡ Some stroke → ActStep s u → A
  stroke_act stroke e b = let f : None ≡ Some stroke = sym b.no_stroke ∙ e in cc

  job_walk : (place : ℕ) → EndStep s place t → WalkEndStep s place u → A
  job_walk place a b = let f : Some (Paints a.painter) ≡ Some (Walks b.walker) = sym a.runs ∙ b.runs in cc

exclude : (s t u : State) (e f : Event) → is_turn e ≡ true → is_turn f ≡ true → Step s e t → Step s f u → e ≡ f
exclude s t u Init Init a b x y = refl
exclude s t u Init Finish a b x y = init_finish s t u x y
exclude s t u Init Cancel a b x y = init_cancel s t u x y
exclude s t u Init Act a b x y = stroke_act s t u x.stroke x.at_head y
exclude s t u Finish Init a b x y = init_finish s u t y x
exclude s t u Finish Finish a b x y = refl
exclude s t u Finish Cancel a b x y = finish_cancel s t u x y
exclude s t u Finish Act a b x y = stroke_act s t u x.stroke x.at_head y
exclude s t u Cancel Init a b x y = init_cancel s u t y x
exclude s t u Cancel Finish a b x y = finish_cancel s u t y x
exclude s t u Cancel Cancel a b x y = refl
exclude s t u Cancel Act a b x y = stroke_act s t u x.stroke x.at_head y
exclude s t u Act Init a b x y = stroke_act s u t y.stroke y.at_head x
exclude s t u Act Finish a b x y = stroke_act s u t y.stroke y.at_head x
exclude s t u Act Cancel a b x y = stroke_act s u t y.stroke y.at_head x
exclude s t u Act Act a b x y = refl
exclude s t u (Feed c) f a b x y = cc
exclude s t u (Start place) f a b x y = cc
exclude s t u (Publish place key) f a b x y = cc
exclude s t u (End place) f a b x y = cc
exclude s t u (WalkStart place patch) f a b x y = cc
exclude s t u (WalkPublish place g key) f a b x y = cc
exclude s t u (WalkEnd place) f a b x y = cc
exclude s t u e (Feed c) a b x y = cc
exclude s t u e (Start place) a b x y = cc
exclude s t u e (Publish place key) a b x y = cc
exclude s t u e (End place) a b x y = cc
exclude s t u e (WalkStart place patch) a b x y = cc
exclude s t u e (WalkPublish place g key) a b x y = cc
exclude s t u e (WalkEnd place) a b x y = cc

pub turns_exclude : TurnsExclude
turns_exclude = exclude

-- where the first isn't there, it is the second
pass : (o p : Option State) → ((x : State) → o ≡ Some x → ⊥) → first_of o p ≡ p
pass None p absent = refl
pass (Some x) p absent = absurd (absent x refl)

turn : (s t : State) → stepped s ≡ Some t → (e : Event) × (is_turn e ≡ true) × Step s e t
turn s t h = one (next s Init) refl h
  where
    three : (o : Option State) → next s Cancel ≡ o → first_of o (next s Act) ≡ Some t → (e : Event) × (is_turn e ≡ true) × Step s e t
    three (Some x) e h = (Cancel, refl, gives_step s t Cancel (e ∙ h))
    three None e h = (Act, refl, gives_step s t Act h)

    two : (o : Option State) → next s Finish ≡ o → first_of o (first_of (next s Cancel) (next s Act)) ≡ Some t → (e : Event) × (is_turn e ≡ true) × Step s e t
    two (Some x) e h = (Finish, refl, gives_step s t Finish (e ∙ h))
    two None e h = three (next s Cancel) refl h

    one : (o : Option State) → next s Init ≡ o → first_of o (first_of (next s Finish) (first_of (next s Cancel) (next s Act))) ≡ Some t → (e : Event) × (is_turn e ≡ true) × Step s e t
    one (Some x) e h = (Init, refl, gives_step s t Init (e ∙ h))
    one None e h = two (next s Finish) refl h

turn_taken : (s t : State) (e : Event) → is_turn e ≡ true → Step s e t → stepped s ≡ Some t
turn_taken s t Init a x = ap (λ o. first_of o (first_of (next s Finish) (first_of (next s Cancel) (next s Act)))) (init_given s t x)
turn_taken s t Finish a x = pass (next s Init) _ (λ u e. init_finish s u t (gives_step s u Init e) x) ∙ ap (λ o. first_of o (first_of (next s Cancel) (next s Act))) (finish_given s t x)
turn_taken s t Cancel a x = pass (next s Init) _ (λ u e. init_cancel s u t (gives_step s u Init e) x) ∙ pass (next s Finish) _ (λ u e. finish_cancel s u t (gives_step s u Finish e) x) ∙ ap (λ o. first_of o (next s Act)) (cancel_given s t x)
turn_taken s t Act a x =
    pass (next s Init) _ (λ u e. (let b : InitStep s u = gives_step s u Init e in stroke_act s u t b.stroke b.at_head x))
    ∙ pass (next s Finish) _ (λ u e. (let b : FinishStep s u = gives_step s u Finish e in stroke_act s u t b.stroke b.at_head x))
    ∙ pass (next s Cancel) _ (λ u e. (let b : CancelStep s u = gives_step s u Cancel e in stroke_act s u t b.stroke b.at_head x))
    ∙ act_given s t x
turn_taken s t (Feed c) a x = cc
turn_taken s t (Start place) a x = cc
turn_taken s t (Publish place key) a x = cc
turn_taken s t (End place) a x = cc
turn_taken s t (WalkStart place patch) a x = cc
turn_taken s t (WalkPublish place g key) a x = cc
turn_taken s t (WalkEnd place) a x = cc

end_of : (s t : State) (place : ℕ) → work_ended s place ≡ Some t → Step s (End place) t ⊎ Step s (WalkEnd place) t
end_of s t place h = go (next s (End place)) refl h
  where
    go : (o : Option State) → next s (End place) ≡ o → first_of o (next s (WalkEnd place)) ≡ Some t → Step s (End place) t ⊎ Step s (WalkEnd place) t
    go (Some x) e h = inl (gives_step s t (End place) (e ∙ h))
    go None e h = inr (gives_step s t (WalkEnd place) h)

end_taken : (s t : State) (place : ℕ) → Step s (End place) t ⊎ Step s (WalkEnd place) t → work_ended s place ≡ Some t
end_taken s t place (inl x) = ap (λ o. first_of o (next s (WalkEnd place))) (end_given s t place x)
end_taken s t place (inr x) = pass (next s (End place)) _ (λ u e. job_walk s u t place (gives_step s u (End place) e) x) ∙ walk_end_given s t place x

pub turns_are_steps : TurnsAreSteps
turns_are_steps = record { turn = turn; turn_taken = turn_taken; end = end_of; end_taken = end_taken }

pub settled_tells : SettledTells
settled_tells = record {
  settled = λ s h. (
      let rest : (list_all is_free s.slots && is_clear s.updates) ≡ true = and_right (eqb (length s.outcomes) (length (entries s.fed))) _ h in
      record {
        entries = eqb-true _ _ (and_left (eqb (length s.outcomes) (length (entries s.fed))) _ h);
        slots = and_left (list_all is_free s.slots) _ rest;
        updates = nothing_waits s.updates (and_right (list_all is_free s.slots) _ rest);
      });
  told = λ s is. both_true _ _ (eq-eqb _ _ is.entries) (both_true _ _ is.slots (waits_nothing s.updates is.updates));
}
