-- A script, and what it means.
use Rattle.std.specs.Prelude.{List}
use Rattle.doc_model.specs.declared.canvas.Canvas.{Canvas}
use Rattle.doc_model.specs.declared.command.Command.{Command}
use Rattle.doc_model.specs.Strokes.{entries}
use Rattle.doc_model.specs.Meaning.{Story, meaning}

-- the canvas and the commands of a script
pub record Contents : Type 0 where
  pub canvas : Canvas
  pub commands : List Command

abbrev pub contents : Canvas → List Command → Contents
contents c commands = record { canvas = c; commands = commands }

-- what a script means: its entries one after another, from the empty document on
abbrev pub meaning_of : Contents → Story
meaning_of script = meaning script.canvas (entries script.commands)
