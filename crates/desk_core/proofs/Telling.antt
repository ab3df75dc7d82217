-- What is told of a walk as it starts, and runs that damage nothing.
use Rattle.std.proofs.Common.{Bool, ◌≡◌, ℕ, suc, zero, true, List, [], ◌∷◌, take, Option, Some, None, Result, Ok, Err, OnOk, OnErr, refl, sym, ◌∙◌, subst}
use Rattle.std.specs.Prelude.{IfSome, slice_get}
use Rattle.std.specs.List.{list_all}
use Rattle.geom_core.specs.Areas.{holds, Point}
use Rattle.geom_core.specs.Grid.{Key}
use Rattle.geom_core.proofs.Tests.{and_left, and_right, both_true}
use Rattle.frame_core.specs.Damage.{Parts, is_damaged}
use Rattle.machine_model.specs.State.{Walker, Walks, State}
use Rattle.machine_model.specs.Event.{Event, Feed, Init, Start, Publish, End, Finish, Cancel, Act, WalkStart, WalkPublish, WalkEnd}
use Rattle.doc_model.specs.declared.canvas.Patch.{Patch}
use Rattle.machine_model.specs.Step.{Step, Run}
use Rattle.machine_model.specs.Sound.{IsSound}
use Rattle.machine_model.proofs.RunsSound.{step_keeps_sound}
use Rattle.machine_model.specs.Walks.{walk_values}
use Rattle.walker_core.specs.declared.known.Footing.{Footing}
use Rattle.walker_core.specs.declared.known.Known.{Known}
use Rattle.walker_core.specs.Folds.{StandsOn}
use Rattle.walker_core.specs.Readings.{Readings, readings, path_in}
use Rattle.walker_core.specs.Knowing.{is_stale, IsKnown}
use Rattle.desk_events.specs.Commits.{RunsFront, pair_events}
use Rattle.desk_events.specs.OwnWork.{WalksOn, is_walk_publish}
use Rattle.desk_core.specs.declared.folds.Folds.{Folds}
use Rattle.desk_core.specs.Events.{goes_by}
use Rattle.desk_core.specs.Keeping.{AreOfFolds, Turns}
use Rattle.desk_core.specs.UpToDate.{AreCached, cached_at}
use Rattle.desk_core.specs.Tracking.{Tracks}
use Rattle.desk_core.specs.Shown.{ShowCaches}
use Rattle.desk_core.proofs.Shots.{show_values}
use Rattle.desk_core.proofs.Keeping.{footing_stands}
use Rattle.desk_core.proofs.Steps.{quiet_step}
use Rattle.desk_core.proofs.Tracking.{run_tracks, walk_known}

-- shots of the caches have the values of a walk as it starts, but on damaged parts, and the folds that are kept are its own
pub ticket_known : (old new : State) (place : ℕ) (patch : Patch) (d : Parts) (b : Bool) (f f' : Folds) (w : Walker) (r : Readings) (k : Known) → Step old (WalkStart place patch) new → Tracks old d b f → Turns f f' patch.walk → slice_get new.slots place ≡ Some (Walks w) → w.patch ≡ r.patch → w.shot ≡ r.groups
    → ((p : Point) → holds r.patch.rect p ≡ true → ShowCaches new.caches (path_in r) k.shots.items p) → ((p : Point) → holds r.patch.rect p ≡ true → is_stale k.damaged.items p ≡ is_damaged d p) → IfSome k.footing (AreOfFolds f') → IsKnown r k
ticket_known old new place patch d b f f' w r k step is turns at same_patch shot shots damaged footing = record {
  values = λ p h up_to_date. show_values new.caches r.groups k.shots.items [] p
      (subst (λ es. AreCached (cached_at new.caches p) (walk_values es [] p)) shot
      (walk_known new d place w p sound (quiet_step old new (WalkStart place patch) d is.sound step refl is.tracked) at (subst (λ (q : Patch). holds q.rect p ≡ true) (sym same_patch) h) (sym (damaged p h) ∙ up_to_date)))
      (shots p h);
  folds = stand k.footing footing;
}
  where
    sound : IsSound new
    sound = step_keeps_sound old new (WalkStart place patch) is.sound step

    one : readings w.patch w.shot ≡ r
    one i = readings (same_patch i) (shot i)

    stand : (o : Option Footing) → IfSome o (AreOfFolds f') → IfSome o (StandsOn r)
    stand None of = tt
    stand (Some x) of = subst (λ q. StandsOn q x) one (footing_stands old new place patch f f' w x step sound turns is.keeps at of)

-- tiles of a walk
front_goes : (place : ℕ) (ps : List (ℕ × Key)) (n : ℕ) → list_all goes_by (take n (pair_events place ps)) ≡ true
front_goes place ps zero = refl
front_goes place [] (suc n) = refl
front_goes place (p ∷ ps) (suc n) = front_goes place ps n

pairs_go : (place : ℕ) (ps : List (ℕ × Key)) → list_all goes_by (pair_events place ps) ≡ true
pairs_go place [] = refl
pairs_go place (p ∷ ps) = pairs_go place ps

pub row_tracks : {A E : Type 0} (place : ℕ) (ps : List (ℕ × Key)) (old new : State) (d : Parts) (b : Bool) (f : Folds) (r : Result A E) → OnOk r (Run old (pair_events place ps) new) → OnErr r (RunsFront old (pair_events place ps) new) → Tracks old d b f → Tracks new d b f
row_tracks place ps old new d b f (Ok x) all front is = run_tracks (pair_events place ps) old new d b f (pairs_go place ps) all is
row_tracks place ps old new d b f (Err x) all front is = run_tracks (take front.count (pair_events place ps)) old new d b f (front_goes place ps front.count) front.run is

walk_goes : (e : Event) → is_walk_publish e ≡ true → goes_by e ≡ true
walk_goes (Feed c) h = refl
walk_goes Init h = h
walk_goes (Start place) h = h
walk_goes (Publish place key) h = refl
walk_goes (End place) h = refl
walk_goes Finish h = refl
walk_goes Cancel h = h
walk_goes Act h = h
walk_goes (WalkStart place patch) h = h
walk_goes (WalkPublish place g key) h = refl
walk_goes (WalkEnd place) h = refl

walks_go : (es : List Event) → list_all is_walk_publish es ≡ true → list_all goes_by es ≡ true
walks_go [] h = refl
walks_go (e ∷ es) h = both_true (goes_by e) _ (walk_goes e (and_left (is_walk_publish e) _ h)) (walks_go es (and_right (is_walk_publish e) _ h))

pub walks_track : (old new : State) (d : Parts) (b : Bool) (f : Folds) → WalksOn old new → Tracks old d b f → Tracks new d b f
walks_track old new d b f on is = run_tracks on.events old new d b f (walks_go on.events on.walks) on.run is
