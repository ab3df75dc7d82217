-- What a machine is known for beside its damage and the folds that are kept.
use Rattle.std.specs.Prelude.{◌≡◌, Bool, true}
use Rattle.frame_core.specs.Damage.{Parts}
use Rattle.machine_model.specs.Sound.{IsSound}
use Rattle.machine_model.specs.State.{State}
use Rattle.desk_core.specs.Calm.{IsCalm}
use Rattle.desk_core.specs.Keeping.{Keeps}
use Rattle.desk_core.specs.UpToDate.{IsTracked}
use Rattle.desk_core.specs.declared.folds.Folds.{Folds}

-- the state is sound, all points of the canvas but damaged ones are up to date, where it is said to be calm it is, and the folds stand
pub record Tracks (s : State) (d : Parts) (known : Bool) (f : Folds) : Type 0 where
  pub sound : IsSound s
  pub tracked : IsTracked s d
  pub calm : known ≡ true → IsCalm s
  pub keeps : Keeps s f
