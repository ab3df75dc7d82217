-- Scripts of which no stroke is left open.
use Rattle.std.specs.Prelude.{Bool, ◌&&◌, List, refl}
use Rattle.std.specs.List.{list_all}
use Rattle.std.specs.Coded.{Coded, code_by, coded×, coded_list}
use Rattle.doc_model.specs.declared.canvas.Canvas.{Canvas}
use Rattle.doc_model.specs.contracts.canvas.Canvas as canvas_row
use Rattle.doc_model.specs.declared.command.Command.{Command}
use Rattle.doc_model.specs.contracts.command.Command as command_row
use Rattle.doc_model.specs.Strokes.{entries}
use Rattle.script_forms.specs.Ranges.{in_limits, in_range}
use Rattle.doc_model.specs.Feeding.{lawful, is_closed_entry}
use Rattle.script_text.specs.Script.{Contents, contents}

abbrev pub contents_code : Coded Contents
contents_code = code_by (Canvas × List Command) (coded× (canvas_row.the_row).coded (coded_list (command_row.the_row).coded)) (λ s. (s.canvas, s.commands)) (λ t. contents t.0 t.1) (λ _. refl)

-- whether each stroke is closed
abbrev pub all_closed : List Command → Bool
all_closed commands = list_all is_closed_entry (entries commands)

-- whether a canvas and commands are a script
unfoldable pub is_script : Contents → Bool
is_script s = (in_limits s.canvas && list_all in_range s.commands) && (lawful s.commands && all_closed s.commands)
