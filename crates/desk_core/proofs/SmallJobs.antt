-- Small jobs that were painted are events other than feeding.
use Rattle.std.proofs.Common.{◌≡◌, ℕ, suc, zero, ◌≤◌, true, Option, Some, None, Result, Ok, Err, OnErr, length, refl, arith}
use Rattle.std.specs.Prelude.{not, IfOk, IfSome}
use Rattle.std.specs.List.{list_all}
use Rattle.geom_core.specs.Areas.{Area}
use Rattle.geom_core.specs.Grid.{Key}
use Rattle.machine_model.specs.State.{State}
use Rattle.machine_model.specs.MeaningLaws.{is_feed}
use Rattle.desk_state.specs.Settles.{GoesOn, Settles}
use Rattle.desk_state.proofs.SettlingRuns.{settles_none}
use Rattle.desk_events.specs.SmallJobs.{PaintsSmall, small_events}

none_fed : (place : ℕ) (key : Key) (n : ℕ) → list_all (λ e. not (is_feed e)) (small_events place key n) ≡ true
none_fed place key zero = refl
none_fed place key (suc n) = none_fed place key n

some_events : (place : ℕ) (key : Key) (n : ℕ) → 1 ≤ n → 1 ≤ length (small_events place key n)
some_events place key zero h = h
some_events place key (suc n) h = omega arith

pub small_goes : (old new : State) (bound : Area) → PaintsSmall old bound new → GoesOn old new
small_goes old new bound small = record {
  settles = record { events = small_events small.place small.key small.count; no_feed = none_fed small.place small.key small.count; run = small.run };
  some = some_events small.place small.key small.count small.some;
}

-- or none were
pub small_settles : {E : Type 0} (old new : State) (r : Result (Option Area) E) → IfOk r (λ o. IfSome o (λ bound. PaintsSmall old bound new)) → (r ≡ Ok None → new ≡ old) → OnErr r (new ≡ old) → Settles old new
small_settles old new (Ok (Some bound)) some none err = (small_goes old new bound some).settles
small_settles old new (Ok None) some none err = settles_none old new (none refl)
small_settles old new (Err e) some none err = settles_none old new err
