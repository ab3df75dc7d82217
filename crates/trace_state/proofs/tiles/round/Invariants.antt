use Rattle.std.proofs.Common.{◌≡◌, drop, None}
use Rattle.geom_core.specs.Grid.{all_keys_of}
use Rattle.machine_model.specs.Effects.{writes_of}
use Rattle.trace_state.specs.Tiles.{rounded}
use Rattle.trace_state.proofs.tiles.round.Given as goal

-- with the tiles of the jobs that are left it is the rectangle round all
abbrev pub invariant-loop-job : goal.invariant-loop-job
invariant-loop-job l = rounded (all_keys_of (writes_of (drop l.job-index l.jobs))) l.round ≡ rounded (all_keys_of (writes_of l.jobs)) None
