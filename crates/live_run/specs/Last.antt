-- What a script shows once all of it is done.
use Rattle.std.specs.Prelude.{◌≡◌, List, [], ◌∷◌, map, All}
use Rattle.doc_model.specs.declared.command.Outcome.{Outcome}
use Rattle.doc_model.specs.Picture.{frame}
use Rattle.frame_core.specs.Frames.{Scene}
use Rattle.frame_core.specs.Scenes.{HasSides, colours_of}
use Rattle.script_text.specs.Script.{Contents, meaning_of}

-- the one frame is that of the document that the script makes, and the outcomes are those of its entries
pub record ShowsLast (script : Contents) (scenes : List Scene) (outcomes : List Outcome) : Type 0 where
  pub sides : All (HasSides script.canvas.w script.canvas.h) scenes
  pub colours : map colours_of scenes ≡ frame (meaning_of script).document script.canvas ∷ []
  pub outcomes_are : outcomes ≡ (meaning_of script).outcomes
