-- When the work in a slot may end.
use Rattle.std.proofs.Common.{◌≡◌, ℕ, Bool, true, Some, sym, ap, ◌∙◌, subst}
use Rattle.std.specs.Prelude.{slice_get}
use Rattle.std.specs.List.{list_any, list_all}
use Rattle.geom_core.specs.Grid.{same_key, keys_of, all_keys_of}
use Rattle.doc_model.specs.Jobs.{writes}
use Rattle.machine_model.specs.State as state
use Rattle.machine_model.specs.State.{State, Slot, Free, Paints, Walks}
use Rattle.machine_model.specs.Event.{Event, Feed, Init, Start, Publish, End, Finish, Cancel, Act, WalkStart, WalkPublish, WalkEnd}
use Rattle.machine_model.specs.Guards.{same_pair}
use Rattle.walker_core.specs.Readings.{path_in}
use Rattle.slot_core.specs.Busy.{work_at}
use Rattle.desk_state.specs.declared.work.Painter.{Painter}
use Rattle.desk_state.specs.declared.work.Walker.{Walker}
use Rattle.desk_state.specs.declared.work.Work.TheVariants as work
use Rattle.desk_state.specs.Enabled.{Enabled, MayEnd, ends, serial_of}
use Rattle.desk_state.specs.Parts.{Parts, state_of}
use Rattle.desk_state.specs.Tied.{IsDesk}
use Rattle.desk_state.specs.After.{after_walk_end}
use Rattle.desk_state.proofs.JobDoing.{may_end}
use Rattle.desk_state.proofs.KeyTests.{all_pass, all_on, same_place, own_place}
use Rattle.desk_state.proofs.Walking.{walk_end_step}
use Rattle.desk_state.proofs.WalkLaying.{walk_may_end}

-- whether all tiles of a job are published
abbrev pub job_done : Painter → Bool
job_done w = list_all (λ k. list_any (same_key k) w.published) (all_keys_of (writes w.job))

-- whether all pairs of a walk are
abbrev pub walk_done : Walker → Bool
walk_done w = list_all (λ key. list_all (λ g. list_any (same_pair g key) w.published) (path_in w.inputs)) (keys_of w.inputs.patch.rect)

pub job_may_end : (d : Parts) (place : ℕ) (w : Painter) → IsDesk d → work_at place d.slots ≡ Some (work.Paint w) → job_done w ≡ true → Enabled (state_of d) (End place)
job_may_end d place w desk h all = may_end d place w desk h (all_pass (λ k. list_any (same_key k) w.published) (all_keys_of (writes w.job)) all)

pub walker_may_end : (d : Parts) (place : ℕ) (w : Walker) → IsDesk d → work_at place d.slots ≡ Some (work.Walk w) → walk_done w ≡ true → Enabled (state_of d) (WalkEnd place)
walker_may_end d place w desk h all = (
  state_of (after_walk_end d place),
  walk_end_step d place w (walk_may_end d place w desk h
      (λ g key on_path in_patch. all_on (λ q. list_any (same_pair q key) w.published) (path_in w.inputs) (all_pass (λ k. list_all (λ q. list_any (same_pair q k) w.published) (path_in w.inputs)) (keys_of w.inputs.patch.rect) all key in_patch) g on_path)),
)

-- a job's end is an end, and so is a walk's
pub ends_own : (place : ℕ) → ends place (End place) ≡ true
ends_own place = own_place place

pub walk_ends_own : (place : ℕ) → ends place (WalkEnd place) ≡ true
walk_ends_own place = own_place place

other_slot : (s : State) (place : ℕ) (a : state.Painter) (b : state.Walker) → slice_get s.slots place ≡ Some (Paints a) → slice_get s.slots place ≡ Some (Walks b) → ⊥
other_slot s place a b h k = let e : Some (Paints a) ≡ Some (Walks b) = sym h ∙ k in cc

some_number : (a b : ℕ) → Some a ≡ Some b → a ≡ b
some_number a b e = cc

-- where neither a job nor a walk with that serial may end, no work with it may
pub none_ends : (s : State) (place serial : ℕ) → ((w : state.Painter) → slice_get s.slots place ≡ Some (Paints w) → w.serial ≡ serial → Enabled s (End place) → ⊥) → ((w : state.Walker) → slice_get s.slots place ≡ Some (Walks w) → w.serial ≡ serial → Enabled s (WalkEnd place) → ⊥)
    → MayEnd s place serial → ⊥
none_ends s place serial job walk may = by may.slot may.here may.drawn
  where
    of_job : (w : state.Painter) → slice_get s.slots place ≡ Some (Paints w) → w.serial ≡ serial → (e : Event) → ends place e ≡ true → Enabled s e → ⊥
    of_job w h d (End p) is can = job w h d (subst (λ q. Enabled s (End q)) (same_place p place is) can)
    of_job w h d (WalkEnd p) is can = other_slot s place w can.1.walker h (ap (slice_get s.slots) (sym (same_place p place is)) ∙ can.1.runs)
    of_job w h d (Feed c) is can = cc
    of_job w h d Init is can = cc
    of_job w h d (Start p) is can = cc
    of_job w h d (Publish p k) is can = cc
    of_job w h d Finish is can = cc
    of_job w h d Cancel is can = cc
    of_job w h d Act is can = cc
    of_job w h d (WalkStart p q) is can = cc
    of_job w h d (WalkPublish p g k) is can = cc

    of_walk : (w : state.Walker) → slice_get s.slots place ≡ Some (Walks w) → w.serial ≡ serial → (e : Event) → ends place e ≡ true → Enabled s e → ⊥
    of_walk w h d (End p) is can = other_slot s place can.1.painter w (ap (slice_get s.slots) (sym (same_place p place is)) ∙ can.1.runs) h
    of_walk w h d (WalkEnd p) is can = walk w h d (subst (λ q. Enabled s (WalkEnd q)) (same_place p place is) can)
    of_walk w h d (Feed c) is can = cc
    of_walk w h d Init is can = cc
    of_walk w h d (Start p) is can = cc
    of_walk w h d (Publish p k) is can = cc
    of_walk w h d Finish is can = cc
    of_walk w h d Cancel is can = cc
    of_walk w h d Act is can = cc
    of_walk w h d (WalkStart p q) is can = cc
    of_walk w h d (WalkPublish p g k) is can = cc

    by : (slot : Slot) → slice_get s.slots place ≡ Some slot → serial_of slot ≡ Some serial → ⊥
    by Free h d = cc
    by (Paints w) h d = of_job w h (some_number _ _ d) may.event may.is_end may.enabled
    by (Walks w) h d = of_walk w h (some_number _ _ d) may.event may.is_end may.enabled
