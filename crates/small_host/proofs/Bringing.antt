-- What is brought to a desk makes events other than feeding.
use Rattle.std.proofs.Common.{◌≡◌, ℕ, ◌≤◌, true, false, not, List, [], ◌∷◌, ◌++◌, length, refl, arith, length-append}
use Rattle.std.specs.List.{list_all}
use Rattle.geom_core.proofs.Tests.{and_left, and_right, both_true}
use Rattle.machine_model.specs.State.{State}
use Rattle.machine_model.specs.Event.{Event, Feed, Init, Start, Publish, End, Finish, Cancel, Act, WalkStart, WalkPublish, WalkEnd}
use Rattle.machine_model.specs.MeaningLaws.{is_feed}
use Rattle.desk_core.specs.declared.answers.Ended.{Ended}
use Rattle.desk_core.specs.declared.answers.Ended.TheVariants as ended
use Rattle.desk_state.specs.Enabled.{ends, IsEnd}
use Rattle.desk_state.specs.Settles.{GoesOn, Settles}
use Rattle.desk_state.proofs.SettlingRuns.{goes_on, run_then, settles_none}

none_fed : (es fs : List Event) → list_all (λ e. not (is_feed e)) es ≡ true → list_all (λ e. not (is_feed e)) fs ≡ true → list_all (λ e. not (is_feed e)) (es ++ fs) ≡ true
none_fed [] fs h k = k
none_fed (e ∷ es) fs h k = both_true _ _ (and_left _ _ h) (none_fed es fs (and_right (not (is_feed e)) _ h) k)

-- at least one event, and others
pub goes_then : {a b c : State} → GoesOn a b → Settles b c → GoesOn a c
goes_then {a = a} {b = b} {c = c} one two = record {
  settles = record {
    events = one.settles.events ++ two.events;
    no_feed = none_fed one.settles.events two.events one.settles.no_feed two.no_feed;
    run = run_then one.settles.events two.events a b c one.settles.run two.run;
  };
  some = more one.some;
}
  where
    more : 1 ≤ length one.settles.events → 1 ≤ length (one.settles.events ++ two.events)
    more h = simp length-append (omega arith)

no_feed_ends : (place : ℕ) (e : Event) → ends place e ≡ true → is_feed e ≡ false
no_feed_ends place (Feed c) h = cc
no_feed_ends place Init h = refl
no_feed_ends place (Start p) h = refl
no_feed_ends place (Publish p k) h = refl
no_feed_ends place (End p) h = refl
no_feed_ends place Finish h = refl
no_feed_ends place Cancel h = refl
no_feed_ends place Act h = refl
no_feed_ends place (WalkStart p q) h = refl
no_feed_ends place (WalkPublish p g k) h = refl
no_feed_ends place (WalkEnd p) h = refl

-- an end of work, or nothing
pub end_settles : (a b : State) (place : ℕ) (r : Ended) → (r ≡ ended.Done → IsEnd a place b) → (r ≡ ended.Nothing → b ≡ a) → Settles a b
end_settles a b place ended.Done done nothing = let e : IsEnd a place b = done refl in (goes_on a b e.0 (no_feed_ends place e.0 e.1) e.2).settles
end_settles a b place ended.Nothing done nothing = settles_none a b (nothing refl)
