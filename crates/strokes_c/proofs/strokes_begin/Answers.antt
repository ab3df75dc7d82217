use Rattle.std.proofs.Common.{Option, subst}
use Rattle.doc_model.specs.declared.command.Command.{Command}
use Rattle.strokes_c.specs.Calls.{Called, FedValue}
use Rattle.strokes_c.proofs.strokes_begin.Goals as goal

pub returns : goal.returns
returns c = subst (λ (o : Option Command). Called (FedValue o) c.args.desk.now.value c.feed.result c.feed.new.desk.value) c.begin.ensures.value c.feed.ensures
