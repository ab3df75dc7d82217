-- A new machine is sound, and every event keeps it so.
use Rattle.std.proofs.Common.{◌≡◌, ℕ, suc, zero, true, List, [], ◌∷◌, refl, sym, subst}
use Rattle.std.specs.List.{list_all}
use Rattle.doc_model.specs.declared.canvas.Canvas.{Canvas}
use Rattle.machine_model.specs.State.{State, new_state, is_free}
use Rattle.machine_model.specs.Event.{Event}
use Rattle.machine_model.specs.Step.{Run}
use Rattle.machine_model.specs.Sound.{IsSound}
use Rattle.machine_model.specs.SoundnessLaws.{NewIsSound, StepKeepsSound, RunsAreSound}
use Rattle.machine_model.proofs.RunsOrderly.{step_keeps, new_orderly}
use Rattle.machine_model.proofs.EventCaches.{CachesRight, caches_stay_right}
use Rattle.machine_model.proofs.WalksInside.{inside_keeps, start_inside, start_parts}

pub step_keeps_sound : StepKeepsSound
step_keeps_sound old new event sound step =
    let parts : CachesRight new = caches_stay_right old event new step sound sound.inside in
    record {
      orderly = step_keeps old new event sound.orderly step;
      caches = parts.caches;
      walks = parts.walks;
      inside = inside_keeps old event new step sound.orderly.walking.queue sound.inside;
    }

all_free : (canvas : Canvas) (n : ℕ) → list_all is_free (new_state canvas n).slots ≡ true
all_free canvas zero = refl
all_free canvas (suc n) = all_free canvas n

pub new_sound : NewIsSound
new_sound s new = subst IsSound (sym new.is) (record {
  orderly = new_orderly new.canvas new.slots new.of_limits new.some_slot new.few_slots;
  caches = parts.caches;
  walks = parts.walks;
  inside = start_inside start free;
})
  where
    start : State
    start = new_state new.canvas new.slots

    free : list_all is_free start.slots ≡ true
    free = all_free new.canvas new.slots

    parts : CachesRight start
    parts = start_parts start free refl refl

run_keeps_sound : (old : State) (events : List Event) (new : State) → IsSound old → Run old events new → IsSound new
run_keeps_sound old [] new sound run = subst IsSound (sym run) sound
run_keeps_sound old (e ∷ events) new sound run = run_keeps_sound run.0 events new (step_keeps_sound old run.0 e sound run.1) run.2

pub runs_are_sound : RunsAreSound
runs_are_sound events s reached = run_keeps_sound reached.start events s (new_sound reached.start reached.new) reached.run
