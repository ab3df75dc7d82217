use Rattle.std.proofs.Common.{subst, Option}
use Rattle.script_lines.specs.declared.cause.Cause.{Cause}
use Rattle.script_lines.specs.Fronts.{pointed}
use Rattle.script_text.specs.Read.{IsRefused}
use Rattle.script_text.proofs.PathLines.{path_cause_is}
use Rattle.script_text.proofs.reading.Reading.take_path.Goals as goal

pub returns-in-Ok-clause-refused : goal.returns-in-Ok-clause-refused
returns-in-Ok-clause-refused c =
    let self = c.args.self.now in
    subst (λ (o : Option Cause). IsRefused c.add_path.result c.args.number o) (path_cause_is self.canvas self.cells self.draft (pointed c.args.others.now) c.in-Ok.told.0 c.in-Ok.told.1 c.if-is_none.ensures c.in-Ok.ensures.value) c.add_path.ensures.refused
