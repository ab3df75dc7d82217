use Rattle.std.proofs.Common.{◌≡◌, true, List, sym, subst}
use Rattle.std.specs.List.{list_all}
use Rattle.doc_model.specs.declared.command.Command.{Command}
use Rattle.doc_model.specs.Feeding.{is_closed_entry}
use Rattle.doc_model.specs.Strokes.{entries}
use Rattle.script_text.proofs.Scripts.{script_holds}
use Rattle.artists.proofs.drawing.settle.Goals as goal

pub settle-requires : goal.settle-requires
settle-requires g c = subst (λ (l : List Command). list_all is_closed_entry (entries l) ≡ true) (sym c.requires.fed) (script_holds c.args.script.now c.commands-closed.ensures.script).closed
