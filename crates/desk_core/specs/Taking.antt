-- What it means that nothing more may be taken of a desk.
use Rattle.std.specs.Prelude.{◌≡◌, true}
use Rattle.std.specs.List.{list_all}
use Rattle.machine_model.specs.State.{State, is_free}
use Rattle.machine_model.specs.Settled.{IsSettled}
use Rattle.machine_model.specs.MeaningLaws.{waits_for_commands}
use Rattle.desk_state.specs.Choices.{IsIdle}

-- no event may happen, but it isn't settled; it stays as it is
abbrev pub StaysIdle : State → State → Type 0
StaysIdle old new = IsIdle old × (new ≡ old)

-- it is settled, and stays as it is
abbrev pub StaysSettled : State → State → Type 0
StaysSettled old new = IsSettled old × (new ≡ old)

-- if no slot is busy, the stroke at the head is still open
abbrev pub WaitsIfFree : State → Type 0
WaitsIfFree s = list_all is_free s.slots ≡ true → waits_for_commands s ≡ true
