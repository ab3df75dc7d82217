use Rattle.std.proofs.Common.{◌≡◌, ◌+◌, drop}
use Rattle.script_lines.specs.Fronts.{pointed}
use Rattle.script_fields.specs.Fields.{fault_from}
use Rattle.script_fields.proofs.about.first_fault.Given as goal

-- the fields so far are of their sorts
abbrev pub invariant-loop-i : goal.invariant-loop-i
invariant-loop-i l = fault_from 2 l.sorts (pointed l.fields) ≡ fault_from (l.i + 2) (drop l.i l.sorts) (pointed (drop l.i l.fields))
