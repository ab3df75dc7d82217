use Rattle.trace_lines.proofs.ReplayedLines.{replayed_runs}
use Rattle.trace_lines.proofs.laws.replayed_runs.Goals as goal

pub returns : goal.returns
returns c = replayed_runs
