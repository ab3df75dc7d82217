use Rattle.std.proofs.Common.{rules, append_assoc}
use Rattle.trace_lines.proofs.printing.add_walk_line.Goals as goal

pub returns : goal.returns
returns c = search (rules, append_assoc)
