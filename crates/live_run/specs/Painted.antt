-- Scripts that were painted while others looked on.
use Rattle.std.specs.Prelude.{◌≡◌, []}
use Rattle.machine_model.specs.State.{State}
use Rattle.script_text.specs.Script.{Contents}
use Rattle.crew_run.specs.Painted.{IsPaintedBy}
use Rattle.live_view.specs.Shown.{updates_of, StartsWith}
use Rattle.live_view.specs.Views.{Feed, published, pending}
use Rattle.live_run.specs.Showing.{ShowsRoot, ShowsPicture}

-- the script was painted on the desk, and the writer has published what the desk shows, behind what it had published before
pub record IsShownBy (script : Contents) (before now : Feed) (desk : State) : Type 0 where
  pub painted : IsPaintedBy script desk
  pub goes_on : StartsWith (published now) (published before)
  pub nothing_pending : pending now ≡ []
  pub root : ShowsRoot (updates_of (published now)) desk
  pub picture : ShowsPicture (updates_of (published now)) desk
