use Rattle.script_fields.proofs.Lines.{told_canvas, told_command, told_path}
use Rattle.script_fields.proofs.laws.fails_at_its_field.Goals as goal

pub returns : goal.returns
returns c = record { of_canvas = told_canvas; of_path = told_path; of_command = told_command }
