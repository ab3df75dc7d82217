use Rattle.std.proofs.Common.{rules}
use Rattle.trace_core.proofs.Outlines.{new_outline}
use Rattle.trace_core.proofs.machine.OutlinedMachine.new.Goals as goal

pub returns : goal.returns
returns c = new_outline _ c.args.canvas.now c.args.n (search rules) (search rules) (search rules) (search rules) (search rules) (search rules) (search rules) (search rules) (search rules) (search rules)
