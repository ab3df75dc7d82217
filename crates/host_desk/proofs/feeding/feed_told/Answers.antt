use Rattle.std.proofs.Common.{sym, subst}
use Rattle.host_lines.specs.declared.line.Line.{Line}
use Rattle.host_lines.specs.Lines.{commands_of, fault_of}
use Rattle.host_desk.specs.Feeding.{Fed}
use Rattle.host_desk.proofs.feeding.feed_told.Goals as goal

pub returns-in-Path : goal.returns-in-Path
returns-in-Path c = subst (λ (l : Line). Fed c.args.desk.now (fault_of c.args.desk.now.fed l) (commands_of l) c.feed_path.result c.feed_path.new.desk) (sym c.in-Path.is) c.feed_path.ensures
