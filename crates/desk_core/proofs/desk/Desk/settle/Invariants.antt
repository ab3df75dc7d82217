use Rattle.std.proofs.Common.{◌≡◌, true}
use Rattle.std.specs.List.{list_all}
use Rattle.doc_model.specs.Feeding.{is_closed_entry}
use Rattle.doc_model.specs.Strokes.{entries}
use Rattle.machine_model.specs.Remaining.{left}
use Rattle.desk_state.specs.Settles.{Settles}
use Rattle.desk_core.proofs.desk.Desk.settle.Given as goal

-- events other than feeding led here, and each stroke is closed
abbrev pub invariant-events : goal.invariant-events
invariant-events g l = Settles l.initial.self l.self × (list_all is_closed_entry (entries l.self.fed) ≡ true)

-- each turn leaves fewer events
abbrev pub decreases-events : goal.decreases-events
decreases-events g l = left l.self
