-- What a painted script gives.
use Rattle.std.specs.Prelude.{◌≡◌, List, map, All}
use Rattle.doc_model.specs.declared.command.Outcome.{Outcome}
use Rattle.frame_core.specs.Frames.{Scene}
use Rattle.script_text.specs.Script.{Contents, meaning_of}
use Rattle.frame_core.specs.Scenes.{HasSides, colours_of}

-- the frames show what the script's exports mean, and the outcomes are those of its entries
pub record Shows (script : Contents) (scenes : List Scene) (outcomes : List Outcome) : Type 0 where
  pub sides : All (HasSides script.canvas.w script.canvas.h) scenes
  pub colours : map colours_of scenes ≡ (meaning_of script).frames
  pub outcomes_are : outcomes ≡ (meaning_of script).outcomes
