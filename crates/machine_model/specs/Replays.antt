-- Runs that are read from a list: what each item stands for in the state that it comes to.
use Rattle.std.specs.Prelude.{ℕ, Bool, ◌&&◌, ◌==◌, Option, Some, None, length}
use Rattle.std.specs.List.{list_all}
use Rattle.doc_model.specs.Strokes.{entries}
use Rattle.machine_model.specs.State.{State, is_free}
use Rattle.machine_model.specs.Event.{Init, End, Finish, Cancel, Act, WalkEnd}
use Rattle.machine_model.specs.Next.{next, is_clear}

-- the first that is there
abbrev pub first_of : {A : Type 0} → Option A → Option A → Option A
first_of (Some x) other = Some x
first_of None other = other

-- the state after the one of Init, Finish, Cancel and Act that may happen, of which there is at most one
abbrev pub stepped : State → Option State
stepped s = first_of (next s Init) (first_of (next s Finish) (first_of (next s Cancel) (next s Act)))

-- the state after what is at work in the slot has ended, where all its tiles are published
abbrev pub work_ended : State → ℕ → Option State
work_ended s place = first_of (next s (End place)) (next s (WalkEnd place))

-- whether every entry has its outcome, and nothing runs or waits
abbrev pub is_settled : State → Bool
is_settled s = (length s.outcomes == length (entries s.fed)) && (list_all is_free s.slots && is_clear s.updates)
