-- How many serials are used.
use Rattle.std.specs.Prelude.{◌+◌, ◌*◌, ◌^◌, ◌<◌, ◌≤◌, length}
use Rattle.machine_model.specs.State.{State}
use Rattle.machine_model.specs.Sound.{IsOrderly}

-- a serial is used for each job, and for each patch that is walked: at most 65 a command, and one for each of the 17 slots
abbrev pub SerialsAreFew : Type 0
SerialsAreFew = (s : State) → IsOrderly s → s.next + length s.updates ≤ 65 * length s.fed + 17

-- so a serial fits into 64 bits
abbrev pub SerialsFit : Type 0
SerialsFit = (s : State) → IsOrderly s → length s.fed ≤ 2 ^ 57 → s.next < 2 ^ 64
