use Rattle.std.proofs.Common.{rules, append_assoc}
use Rattle.script_text.proofs.printing.add_blur.Goals as goal

pub returns : goal.returns
returns c = search (rules, append_assoc)
