-- Runs without feeding.
use Rattle.std.proofs.Common.{◌≡◌, ℕ, suc, zero, ◌+◌, ◌<◌, ◌≤◌, Bool, true, false, not, List, [], ◌∷◌, ◌++◌, Some, length, drop, refl, sym, ap, ◌∙◌, arith, subst, append-nil}
use Rattle.std.specs.Prelude.{slice_get}
use Rattle.std.specs.List.{list_all}
use Rattle.geom_core.proofs.Tests.{and_left, and_right, both_true, not_true}
use Rattle.doc_model.specs.Feeding.{is_closed_entry}
use Rattle.doc_model.specs.Strokes.{Entry, Strokes, Changes, Undoes, Redoes, Purges, Exports, entries, is_open}
use Rattle.machine_model.specs.State.{State, Slot, Paints, Walks, is_free, head, first}
use Rattle.machine_model.specs.Event.{Event, Feed, Init, Start, Publish, End, Finish, Cancel, Act, WalkStart, WalkPublish, WalkEnd}
use Rattle.machine_model.specs.Step.{Step, Run}
use Rattle.machine_model.specs.Sound.{IsOrderly}
use Rattle.machine_model.specs.MeaningLaws.{is_feed, MayGoOn, waits_for_commands}
use Rattle.machine_model.specs.SoundnessLaws.{fed_by}
use Rattle.machine_model.specs.Remaining.{left}
use Rattle.machine_model.proofs.Lists.{each_get}
use Rattle.machine_model.proofs.Continuing.{runs_continue}
use Rattle.machine_model.proofs.GoesOn.{no_dead_end}
use Rattle.machine_model.proofs.Spending.{spent}
use Rattle.desk_state.specs.Choices.{IsIdle, DoesAtOnce, is_done_at_once}
use Rattle.desk_state.specs.Settles.{Settles, GoesOn}

-- events and then others
pub run_then : (es fs : List Event) (a b c : State) → Run a es b → Run b fs c → Run a (es ++ fs) c
run_then [] fs a b c one two = subst (λ s. Run s fs c) one two
run_then (e ∷ es) fs a b c one two = (one.0, one.1, run_then es fs one.0 b c one.2 two)

none_fed : (es fs : List Event) → list_all (λ e. not (is_feed e)) es ≡ true → list_all (λ e. not (is_feed e)) fs ≡ true → list_all (λ e. not (is_feed e)) (es ++ fs) ≡ true
none_fed [] fs h k = k
none_fed (e ∷ es) fs h k = both_true _ _ (and_left _ _ h) (none_fed es fs (and_right (not (is_feed e)) _ h) k)

-- nothing happened yet
pub settles_none : (a b : State) → b ≡ a → Settles a b
settles_none a b e = record { events = []; no_feed = refl; run = e }

pub settles_then : {a b c : State} → Settles a b → Settles b c → Settles a c
settles_then {a = a} {b = b} {c = c} one two = record { events = one.events ++ two.events; no_feed = none_fed one.events two.events one.no_feed two.no_feed; run = run_then one.events two.events a b c one.run two.run }

-- one event
pub goes_on : (a b : State) (e : Event) → is_feed e ≡ false → Step a e b → GoesOn a b
goes_on a b e other step = record { settles = record { events = e ∷ []; no_feed = both_true _ _ (ap not other) refl; run = (b, step, refl) }; some = omega arith }

no_feed_at_once : (e : Event) → is_done_at_once e ≡ true → is_feed e ≡ false
no_feed_at_once (Feed c) h = cc
no_feed_at_once Init h = refl
no_feed_at_once (Start p) h = cc
no_feed_at_once (Publish p k) h = cc
no_feed_at_once (End p) h = cc
no_feed_at_once Finish h = refl
no_feed_at_once Cancel h = refl
no_feed_at_once Act h = refl
no_feed_at_once (WalkStart p q) h = cc
no_feed_at_once (WalkPublish p g k) h = cc
no_feed_at_once (WalkEnd p) h = cc

-- and one that makes no work
pub goes_at_once : {a b : State} {before now : ℕ} → DoesAtOnce a b before now → GoesOn a b
goes_at_once {a = a} {b = b} did = goes_on a b did.event (no_feed_at_once did.event did.at_once) did.step

-- fewer events are left
pub goes_less : (a b : State) → IsOrderly a → GoesOn a b → left b < left a
goes_less a b sound on =
    let h : length on.settles.events + left b ≤ left a = spent on.settles.events a b sound on.settles.run on.settles.no_feed in
    let k : 1 ≤ length on.settles.events = on.some in
    omega arith

feeds_none : (es : List Event) → list_all (λ e. not (is_feed e)) es ≡ true → fed_by es ≡ []
feeds_none [] h = refl
feeds_none (Feed c ∷ es) h = cc
feeds_none (Init ∷ es) h = feeds_none es h
feeds_none (Start p ∷ es) h = feeds_none es h
feeds_none (Publish p k ∷ es) h = feeds_none es h
feeds_none (End p ∷ es) h = feeds_none es h
feeds_none (Finish ∷ es) h = feeds_none es h
feeds_none (Cancel ∷ es) h = feeds_none es h
feeds_none (Act ∷ es) h = feeds_none es h
feeds_none (WalkStart p q ∷ es) h = feeds_none es h
feeds_none (WalkPublish p g k ∷ es) h = feeds_none es h
feeds_none (WalkEnd p ∷ es) h = feeds_none es h

-- the canvas and the commands stay
pub canvas_stays : {a b : State} → Settles a b → b.canvas ≡ a.canvas
canvas_stays {a = a} {b = b} s = (runs_continue s.events a b s.run).canvas

pub fed_stays : {a b : State} → Settles a b → b.fed ≡ a.fed
fed_stays {a = a} {b = b} s = (runs_continue s.events a b s.run).fed ∙ ap (λ cs. a.fed ++ cs) (feeds_none s.events s.no_feed) ∙ append-nil a.fed

-- so closed strokes stay closed
pub stay_closed : {a b : State} → Settles a b → list_all is_closed_entry (entries a.fed) ≡ true → list_all is_closed_entry (entries b.fed) ≡ true
stay_closed s h = ap (λ cs. list_all is_closed_entry (entries cs)) (fed_stays s) ∙ h

closed_from : (n : ℕ) (es : List Entry) → list_all is_closed_entry es ≡ true → list_all is_closed_entry (drop n es) ≡ true
closed_from zero es h = h
closed_from (suc n) [] h = h
closed_from (suc n) (e ∷ es) h = closed_from n es (and_right (is_closed_entry e) _ h)

-- a closed entry at the head waits for no command
closed_head : (s : State) (es : List Entry) → head s ≡ first es → list_all is_closed_entry es ≡ true → waits_for_commands s ≡ false
closed_head s [] e h = rw e refl
closed_head s (Strokes stroke ∷ es) e h = rw e (not_true _ (and_left (not (is_open stroke.fate)) _ h))
closed_head s (Changes c ∷ es) e h = rw e refl
closed_head s (Undoes ∷ es) e h = rw e refl
closed_head s (Redoes ∷ es) e h = rw e refl
closed_head s (Purges n ∷ es) e h = rw e refl
closed_head s (Exports ∷ es) e h = rw e refl

busy : (s : State) (place : ℕ) (slot : Slot) → list_all is_free s.slots ≡ true → slice_get s.slots place ≡ Some slot → is_free slot ≡ true
busy s place slot free h = each_get is_free s.slots place slot h free

-- where all slots are free an idle desk waits for commands
pub idle_waits : (s : State) → IsOrderly s → list_all is_free s.slots ≡ true → IsIdle s → waits_for_commands s ≡ true
idle_waits s sound free idle = go (waits_for_commands s) refl
  where
    by : (e : Event) → is_feed e ≡ false → (new : State) × Step s e new → ⊥
    by (Feed c) other can = cc
    by Init other can = idle.head Init refl can
    by (Start p) other can = idle.head (Start p) refl can
    by Finish other can = idle.head Finish refl can
    by Cancel other can = idle.head Cancel refl can
    by Act other can = idle.head Act refl can
    by (WalkStart p q) other can = idle.walks p q can
    by (Publish p k) other can = let e : false ≡ true = busy s p (Paints can.1.painter) free can.1.runs in cc
    by (End p) other can = let e : false ≡ true = busy s p (Paints can.1.painter) free can.1.runs in cc
    by (WalkPublish p g k) other can = let e : false ≡ true = busy s p (Walks can.1.walker) free can.1.runs in cc
    by (WalkEnd p) other can = let e : false ≡ true = busy s p (Walks can.1.walker) free can.1.runs in cc

    dead : MayGoOn s → ⊥
    dead on = by on.event on.not_feed (on.new, on.step)

    go : (b : Bool) → waits_for_commands s ≡ b → waits_for_commands s ≡ true
    go true e = e
    go false e = absurd (dead (no_dead_end s sound idle.unsettled e))

-- where all slots are free and all strokes closed a desk isn't idle
pub never_idle : (s : State) → IsOrderly s → list_all is_free s.slots ≡ true → list_all is_closed_entry (entries s.fed) ≡ true → IsIdle s → ⊥
never_idle s sound free closed idle =
    let e : false ≡ true = sym (closed_head s (drop (length s.outcomes) (entries s.fed)) refl (closed_from (length s.outcomes) (entries s.fed) closed)) ∙ idle_waits s sound free idle in
    cc
