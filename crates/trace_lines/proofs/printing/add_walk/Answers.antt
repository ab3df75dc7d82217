use Rattle.std.proofs.Common.{rules, append_assoc}
use Rattle.trace_lines.proofs.printing.add_walk.Goals as goal

pub returns-in_ok-add_field-in-Up : goal.returns-in_ok-add_field-in-Up
returns-in_ok-add_field-in-Up c = search (rules, append_assoc)
