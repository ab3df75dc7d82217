use Rattle.std.proofs.Common.{rules}
use Rattle.doc_model.specs.Strokes.{entries}
use Rattle.script_text.proofs.Closing.{left_found, left_next}
use Rattle.script_text.proofs.reading.Reading.left_open.Goals as goal

pub returns-then-is_open : goal.returns-then-is_open
returns-then-is_open c = left_found (entries c.args.self.now.draft) c.args.self.now.starts.items c.loop-i.i c.index-start.result.now _ (search rules) (search rules) c.loop-i.invariant (search rules)

pub loop-i-preserved : goal.loop-i-preserved
loop-i-preserved c = left_next (entries c.args.self.now.draft) c.args.self.now.starts.items c.loop-i.i c.index-start.result.now _ (search rules) (search rules) c.loop-i.invariant (search rules)
