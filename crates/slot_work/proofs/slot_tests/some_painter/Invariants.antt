use Rattle.std.proofs.Common.{◌≡◌, map, drop}
use Rattle.std.specs.List.{list_any}
use Rattle.machine_model.specs.Slots.{is_painter}
use Rattle.desk_state.specs.Parts.{slot_of}
use Rattle.slot_work.proofs.slot_tests.some_painter.Given as goal

abbrev pub invariant-loop-place : goal.invariant-loop-place
invariant-loop-place l = list_any is_painter (drop l.place (map slot_of l.slots)) ≡ list_any is_painter (map slot_of l.slots)
