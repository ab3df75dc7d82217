-- What a host finds at its desk.
use Rattle.std.specs.Prelude.{◌≡◌, ◌≤◌, ◌-◌, ◌^◌, ◌⊎◌, false, length}
use Rattle.doc_model.specs.declared.command.Command.{Command}
use Rattle.doc_model.specs.Lawful.{may_follow}
use Rattle.doc_model.specs.Strokes.{entries}
use Rattle.machine_model.specs.State.{State}
use Rattle.machine_model.specs.Settled.{IsSettled}
use Rattle.desk_state.specs.Choices.{IsIdle}

-- the command may not follow those that were fed, or a desk takes no more than these
abbrev pub IsRefused : State → Command → Type 0
IsRefused s c = (may_follow (entries s.fed) c ≡ false) ⊎ (2 ^ 32 - 1 ≤ length s.fed)

-- nothing may be done before more is fed, or work is brought that is out
abbrev pub IsAtRest : State → Type 0
IsAtRest s = IsIdle s ⊎ IsSettled s
