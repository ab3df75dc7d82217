use Rattle.trace_lines.proofs.PrintedTraces as traces
use Rattle.trace_lines.proofs.laws.printed_replays.Goals as goal

pub returns : goal.returns
returns c = traces.printed_replays
