use Rattle.std.proofs.Common.{arith}
use Rattle.script_text.proofs.PathLines.{path_taken}
use Rattle.script_text.proofs.reading.Reading.take.Goals as goal

pub returns-then-is-2-clause-taken : goal.returns-then-is-2-clause-taken
returns-then-is-2-clause-taken c = path_taken c.take_path.result c.args.self.now c.take_path.new.self c.args.number c.args.fields.now _ c.in-len1-up.len_at_least c.if-is-2.ensures c.take_path.ensures.taken
