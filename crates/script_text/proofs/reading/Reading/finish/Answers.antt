use Rattle.std.proofs.Common.{◌≡◌, rules, true, sym, subst, None, List}
use Rattle.doc_model.specs.declared.command.Command.{Command}
use Rattle.doc_model.specs.Strokes.{entries}
use Rattle.script_text.specs.Script.{contents}
use Rattle.script_text.specs.Closed.{is_script}
use Rattle.script_forms.specs.Ranges.{in_limits}
use Rattle.script_text.specs.Reading.{left_open}
use Rattle.script_text.proofs.Closing.{all_shut}
use Rattle.script_text.proofs.Legal.{is_script_by}
use Rattle.script_text.proofs.reading.Reading.finish.Goals as goal

pub from_parts-requires : goal.from_parts-requires
from_parts-requires c =
    let cs = c.args.self.draft in
    let left : left_open (entries cs) c.args.self.starts.items ≡ None = search rules in
    let limits : in_limits c.in-Some.canvas ≡ true = search rules in
    subst (λ (l : List Command). is_script (contents c.in-Some.canvas l) ≡ true) (sym c.in_ok-into_commands-in-None.ensures.items)
    (is_script_by c.in-Some.canvas cs limits c.into_commands.ensures.ranges c.into_commands.ensures.lawful (all_shut c.args.self.starts.items cs c.requires.starts left))
