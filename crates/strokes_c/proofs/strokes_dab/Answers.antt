use Rattle.std.proofs.Common.{◌≡◌, Option, subst}
use Rattle.std.proofs.lemmas.Int.{to_z-of_z}
use Rattle.doc_model.specs.declared.command.Command.{Command}
use Rattle.host_lines.specs.Values.{dab_by}
use Rattle.strokes_c.specs.Calls.{Called, FedValue}
use Rattle.strokes_c.proofs.strokes_dab.Goals as goal

pub returns : goal.returns
returns c =
    let value : c.dab.result ≡ dab_by c.args.stroke c.args.kind c.args.x c.args.y c.args.brush.now = simp (to_z-of_z, c.ranges.x, c.ranges.y) at c.dab.ensures.value in
    subst (λ (o : Option Command). Called (FedValue o) c.args.desk.now.value c.feed.result c.feed.new.desk.value) value c.feed.ensures
