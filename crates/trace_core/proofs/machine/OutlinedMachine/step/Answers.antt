use Rattle.trace_core.specs.Parts.{parts}
use Rattle.trace_core.specs.Moves.{begun, finished, cancelled}
use Rattle.trace_core.proofs.Events.{yes_follows, no_follows, begun_first, step_finishes, step_cancels, step_acts}
use Rattle.trace_core.proofs.machine.OutlinedMachine.step.Goals as goal

pub returns-then-begin : goal.returns-then-begin
returns-then-begin c =
    let old = parts c.args.self.now in
    let new = parts c.begin.new.self in
    begun_first old new (yes_follows c.begin.result (begun old) old new c.begin.ensures c.if-begin.true)

pub returns-then-finished : goal.returns-then-finished
returns-then-finished c =
    let old = parts c.args.self.now in
    let mid = parts c.begin.new.self in
    let new = parts c.finish.new.self in
    step_finishes old mid new
    (no_follows c.begin.result (begun old) old mid c.begin.ensures c.if-begin.false)
    (yes_follows c.in_ok-finished.finished (finished mid) mid new c.in_ok-finished.ensures c.if-finished.true)

pub returns-then-cancel : goal.returns-then-cancel
returns-then-cancel c =
    let old = parts c.args.self.now in
    let mid = parts c.begin.new.self in
    let low = parts c.finish.new.self in
    let new = parts c.cancel.new.self in
    step_cancels old mid low new
    (no_follows c.begin.result (begun old) old mid c.begin.ensures c.if-begin.false)
    (no_follows c.in_ok-finished.finished (finished mid) mid low c.in_ok-finished.ensures c.if-finished.false)
    (yes_follows c.cancel.result (cancelled low) low new c.cancel.ensures c.if-cancel.true)

pub returns : goal.returns
returns c =
    let old = parts c.args.self.now in
    let mid = parts c.begin.new.self in
    let low = parts c.finish.new.self in
    let deep = parts c.cancel.new.self in
    step_acts old mid low deep (parts c.act.new.self) c.act.result
    (no_follows c.begin.result (begun old) old mid c.begin.ensures c.if-begin.false)
    (no_follows c.in_ok-finished.finished (finished mid) mid low c.in_ok-finished.ensures c.if-finished.false)
    (no_follows c.cancel.result (cancelled low) low deep c.cancel.ensures c.if-cancel.false)
    c.act.ensures
