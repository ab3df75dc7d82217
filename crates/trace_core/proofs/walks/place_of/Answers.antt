use Rattle.std.proofs.Common.{sym, ◌∙◌}
use Rattle.machine_model.specs.Next.{same_patch}
use Rattle.trace_state.proofs.Passes.{found_here, not_here}
use Rattle.trace_core.proofs.walks.place_of.Goals as goal

pub returns-then-same_patch-clause-some : goal.returns-then-same_patch-clause-some
returns-then-same_patch-clause-some c = found_here (same_patch c.args.patch.now) c.args.updates.now.patches c.loop-i.i c.patch.result c.patch.ensures (sym c.same_patch.ensures ∙ c.if-same_patch.true) c.loop-i.invariant

pub loop-i-preserved : goal.loop-i-preserved
loop-i-preserved c = not_here (same_patch c.args.patch.now) c.args.updates.now.patches c.loop-i.i c.patch.result c.patch.ensures (sym c.same_patch.ensures ∙ c.if-same_patch.false) c.loop-i.invariant
