-- When commands are of use.
use Rattle.std.specs.Prelude.{Bool, ◌||◌, is_none}
use Rattle.machine_model.specs.State.{State, head}
use Rattle.machine_model.specs.MeaningLaws.{waits_for_commands}

-- whether a further command may be of use at once: each entry has its outcome, or the stroke at the head is still open
abbrev pub wants_commands : State → Bool
wants_commands s = is_none (head s) || waits_for_commands s
