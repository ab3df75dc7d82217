-- Every event keeps the machine orderly, and so does every run.
use Rattle.std.proofs.Common.{◌≡◌, ℕ, suc, zero, ◌≤◌, Bool, true, false, List, [], ◌∷◌, Option, Some, None, length, take, drop, refl, sym, ap, ◌∙◌, arith, subst}
use Rattle.std.specs.List.{AllByRecursion, list_any, list_all}
use Rattle.doc_model.specs.declared.canvas.Canvas.{Canvas}
use Rattle.doc_model.specs.Strokes.{Entry, entries}
use Rattle.doc_model.specs.Meaning.{meaning}
use Rattle.machine_model.specs.State.{State, Slot, Free, first, head_stroke, stroke_of, new_state}
use Rattle.machine_model.specs.Slots.{is_painter}
use Rattle.machine_model.specs.Event.{Event, Feed, Init, Start, Publish, End, Finish, Cancel, Act, WalkStart, WalkPublish, WalkEnd}
use Rattle.machine_model.specs.Step.{Run}
use Rattle.machine_model.specs.UnderWay.{IsOnWay}
use Rattle.machine_model.specs.Walking.{WalkStands, all_apart, walks_apart}
use Rattle.machine_model.specs.Counted.{SerialBelow, SerialsDiffer, PublishedOwn, HasNot}
use Rattle.doc_model.specs.Canvases.{IsOfLimits}
use Rattle.machine_model.specs.Sound.{IsOrderly}
use Rattle.machine_model.specs.SoundnessLaws.{IsNew, StepKeepsOrder, RunsAreOrderly}
use Rattle.machine_model.specs.MeaningLaws.{SettledHasMeaning, RunsHaveMeaning}
use Rattle.machine_model.proofs.Lists.{take_all}
use Rattle.machine_model.proofs.FeedKeeps.{feed_keeps}
use Rattle.machine_model.proofs.InitKeeps.{init_keeps}
use Rattle.machine_model.proofs.JobKeeps.{start_keeps, publish_keeps, end_keeps}
use Rattle.machine_model.proofs.FinishKeeps.{finish_keeps}
use Rattle.machine_model.proofs.CancelKeeps.{cancel_keeps}
use Rattle.machine_model.proofs.ActKeeps.{act_keeps}
use Rattle.machine_model.proofs.WalkKeeps.{walk_start_keeps, walk_publish_keeps, walk_end_keeps}
use Rattle.geom_core.proofs.Tests.{both_true, neither}
use Rattle.std.specs.Prelude.{not}

-- by event
pub step_keeps : StepKeepsOrder
step_keeps old new (Feed c) sound step = feed_keeps old new c sound step
step_keeps old new Init sound step = init_keeps old new sound step
step_keeps old new (Start place) sound step = start_keeps old new place sound step
step_keeps old new (Publish place key) sound step = publish_keeps old new place key sound step
step_keeps old new (End place) sound step = end_keeps old new place sound step
step_keeps old new Finish sound step = finish_keeps old new sound step
step_keeps old new Cancel sound step = cancel_keeps old new sound step
step_keeps old new Act sound step = act_keeps old new sound step
step_keeps old new (WalkStart place patch) sound step = walk_start_keeps old new place patch sound step
step_keeps old new (WalkPublish place g key) sound step = walk_publish_keeps old new place g key sound step
step_keeps old new (WalkEnd place) sound step = walk_end_keeps old new place sound step

-- slots that are all free
abbrev AllFree : List Slot → Type 0
AllFree slots = AllByRecursion (λ slot. slot ≡ Free) slots

new_free : (canvas : Canvas) (n : ℕ) → (AllFree (new_state canvas n).slots) × (length (new_state canvas n).slots ≡ n)
new_free canvas zero = (tt, refl)
new_free canvas (suc n) = let h : (AllFree (new_state canvas n).slots) × (length (new_state canvas n).slots ≡ n) = new_free canvas n in ((refl, h.0), ap suc h.1)

each_free : (P : Slot → Type 0) → P Free → (slots : List Slot) → AllFree slots → AllByRecursion P slots
each_free P h [] free = tt
each_free P h (x ∷ slots) free = (subst P (sym free.0) h, each_free P h slots free.1)

none_free : (test : Slot → Bool) → test Free ≡ false → (slots : List Slot) → AllFree slots → list_any test slots ≡ false
none_free test h [] free = refl
none_free test h (x ∷ slots) free = neither _ _ (ap test free.0 ∙ h) (none_free test h slots free.1)

apart_free : (slots : List Slot) → AllFree slots → all_apart slots ≡ true
apart_free [] free = refl
apart_free (x ∷ slots) free = subst (λ y. all_apart (y ∷ slots) ≡ true) (sym free.0) (both_true _ _ (nothing slots) (apart_free slots free.1))
  where
    nothing : (ys : List Slot) → list_all (walks_apart Free) ys ≡ true
    nothing [] = refl
    nothing (y ∷ ys) = nothing ys

differ_free : (slots : List Slot) → AllFree slots → SerialsDiffer slots
differ_free [] free = tt
differ_free (x ∷ slots) free = subst (λ y. SerialsDiffer (y ∷ slots)) (sym free.0) (nothing slots, differ_free slots free.1)
  where
    nothing : (ys : List Slot) → AllByRecursion (HasNot None) ys
    nothing [] = tt
    nothing (y ∷ ys) = (tt, nothing ys)

-- a new machine is orderly
pub new_orderly : (canvas : Canvas) (n : ℕ) → IsOfLimits canvas → 1 ≤ n → n ≤ 17 → IsOrderly (new_state canvas n)
new_orderly canvas n limits low high = record {
  told = record { lawful = refl; closed = refl; few = omega arith; means = refl };
  reached = record { past = tt; future = tt };
  on_way = record { same = refl; idle = ap not (none_free is_painter refl _ free.0) };
  walking = record {
    queue = record { places = refl; unlike = refl; few = omega arith };
    apart = apart_free _ free.0;
    groups = tt;
    walks = each_free (WalkStands (new_state canvas n)) tt _ free.0;
    alone = λ e. cc;
  };
  counted = record {
    canvas = limits;
    slots = subst (λ k. (1 ≤ k) × (k ≤ 17)) (sym free.1) (low, high);
    below = each_free (SerialBelow 0) tt _ free.0;
    differ = differ_free _ free.0;
    own = each_free PublishedOwn tt _ free.0;
    budget = omega arith;
  };
}
  where
    free : (AllFree (new_state canvas n).slots) × (length (new_state canvas n).slots ≡ n)
    free = new_free canvas n

run_keeps : (old : State) (events : List Event) (new : State) → IsOrderly old → Run old events new → IsOrderly new
run_keeps old [] new sound run = subst IsOrderly (sym run) sound
run_keeps old (e ∷ events) new sound run = run_keeps run.0 events new (step_keeps old run.0 e sound run.1) run.2

pub runs_are_orderly : RunsAreOrderly
runs_are_orderly events s reached = run_keeps reached.start events s (subst IsOrderly (sym new.is) (new_orderly new.canvas new.slots new.of_limits new.some_slot new.few_slots)) reached.run
  where
    new : IsNew reached.start
    new = reached.new

nothing_left : (n : ℕ) (es : List Entry) → n ≡ length es → first (drop n es) ≡ None
nothing_left zero [] e = refl
nothing_left zero (x ∷ es) e = absurd (omega arith)
nothing_left (suc n) [] e = absurd (omega arith)
nothing_left (suc n) (x ∷ es) e = nothing_left n es (omega arith)

-- an orderly state that is settled is what was fed means
pub settled_has_meaning : SettledHasMeaning
settled_has_meaning s sound settled = record {
  means = ap (meaning s.canvas) (sym (take_all (entries s.fed)) ∙ ap (λ n. take n (entries s.fed)) (sym settled.entries)) ∙ sound.told.means;
  present = go s.way sound.on_way;
}
  where
    go : (w : Option ℕ) → IsOnWay s w → s.present ≡ s.base
    go None rest = rest.same
    go (Some n) way =
        let none : head_stroke s ≡ None = ap stroke_of (nothing_left (length s.outcomes) (entries s.fed) settled.entries) in
        absurd (let f : None ≡ Some way.stroke = sym none ∙ way.at_head in cc)

pub runs_have_meaning : RunsHaveMeaning
runs_have_meaning events s reached settled = settled_has_meaning s (runs_are_orderly events s reached) settled
