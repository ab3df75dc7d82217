-- Lines one after another.
use Rattle.std.specs.Prelude.{Option, Some, List, [], ◌∷◌}
use Rattle.std.specs.Option.{option_and_then}
use Rattle.machine_model.specs.State.{State}
use Rattle.trace_lines.specs.declared.line.Line.{Line}
use Rattle.trace_lines.specs.Replay.{happens}

-- the state after the lines, where they may happen one after another
abbrev pub led_to : State → List Line → Option State
led_to s [] = Some s
led_to s (l ∷ ls) = option_and_then (λ t. led_to t ls) (happens s l)
