-- Events other than feeding keep the canvas and the commands that were fed; those that take work keep the root's cache.
use Rattle.std.proofs.Common.{◌≡◌, ℕ, false, Result, Ok, Err, OnErr, refl, sym, ap, subst}
use Rattle.std.specs.Prelude.{IfOk}
use Rattle.doc_model.specs.Layers.{at}
use Rattle.machine_model.specs.State.{State}
use Rattle.machine_model.specs.Groups.{cache}
use Rattle.machine_model.specs.Settled.{IsSettled}
use Rattle.machine_model.specs.Event.{Event, Start, WalkStart}
use Rattle.machine_model.specs.Step.{Step}
use Rattle.machine_model.specs.MeaningLaws.{is_feed}
use Rattle.desk_state.specs.Settles.{Settles}
use Rattle.desk_state.specs.Choices.{DoesAtOnce, IsIdle, MayWant}
use Rattle.desk_state.proofs.SettlingRuns.{goes_on, goes_at_once, canvas_stays, fed_stays}
use Rattle.desk_events.specs.declared.tickets.PaintTicket.{PaintTicket}
use Rattle.desk_events.specs.declared.tickets.WalkTicket.{WalkTicket}
use Rattle.desk_events.specs.Tickets.{IsPaintTicket, IsWalkTicket}
use Rattle.desk_core.specs.declared.tickets.Taken.{Taken}
use Rattle.desk_core.specs.declared.tickets.Taken.TheVariants as taken
use Rattle.crew_run.specs.Front.{KeepsFed}
use Rattle.crew_run.specs.Watched.{KeepsRoot}
use Rattle.crew_run.proofs.Roots.{at_once_root}

keeps_same : {a b : State} → b ≡ a → KeepsFed a b
keeps_same {a = a} e = subst (KeepsFed a) (sym e) (record { canvas = refl; fed = refl; root = record { root = λ p. refl } })

-- what is known of other events
pub settles_keeps : {a b : State} → Settles a b → KeepsRoot a b → KeepsFed a b
settles_keeps s root = record { canvas = canvas_stays s; fed = fed_stays s; root = root }

-- one that starts work
step_keeps : (a b : State) (e : Event) → is_feed e ≡ false → Step a e b → KeepsRoot a b → KeepsFed a b
step_keeps a b e other step = settles_keeps (goes_on a b e other step).settles

at_once_keeps : {a b : State} {before now : ℕ} → DoesAtOnce a b before now → KeepsFed a b
at_once_keeps did = settles_keeps (goes_at_once did).settles (at_once_root did)

-- what is taken, with something beside it, or nothing for want of memory
pub take_keeps : {X E : Type 0} (r : Result X E) (taken_of : X → Taken) (a b : State) (before now : ℕ)
    → ((t : PaintTicket) → IfOk r (λ x. taken_of x ≡ taken.Paint t → Step a (Start t.slot.place) b × IsPaintTicket t b))
    → ((t : WalkTicket) → IfOk r (λ x. taken_of x ≡ taken.Walk t → Step a (WalkStart t.slot.place t.inputs.patch) b × IsWalkTicket t b))
    → IfOk r (λ x. taken_of x ≡ taken.Did → DoesAtOnce a b before now)
    → IfOk r (λ x. taken_of x ≡ taken.Idle → IsIdle a × (b ≡ a))
    → IfOk r (λ x. taken_of x ≡ taken.Settled → IsSettled a × (b ≡ a))
    → OnErr r (MayWant a × (b ≡ a))
    → KeepsFed a b
take_keeps (Err e) taken_of a b before now paint walk did idle settled err = keeps_same err.1
take_keeps (Ok x) taken_of a b before now paint walk did idle settled err = go (taken_of x) refl
  where
    go : (t : Taken) → taken_of x ≡ t → KeepsFed a b
    go (taken.Paint t) is = let step : Step a (Start t.slot.place) b = (paint t is).0 in step_keeps a b (Start t.slot.place) refl step (record { root = λ p. ap (λ (s : State). at (cache s.caches 0) p) step.new_is })
    go (taken.Walk t) is = let step : Step a (WalkStart t.slot.place t.inputs.patch) b = (walk t is).0 in step_keeps a b (WalkStart t.slot.place t.inputs.patch) refl step (record { root = λ p. ap (λ (s : State). at (cache s.caches 0) p) step.new_is })
    go taken.Did is = at_once_keeps (did is)
    go taken.Idle is = keeps_same (idle is).1
    go taken.Settled is = keeps_same (settled is).1
