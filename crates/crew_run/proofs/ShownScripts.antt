-- A settled desk shows what its script means.
use Rattle.std.proofs.Common.{◌≡◌, List, map, sym, ap, ◌∙◌, subst}
use Rattle.std.specs.List.{All}
use Rattle.frame_core.specs.Frames.{Scene}
use Rattle.doc_model.specs.declared.canvas.Canvas.{Canvas}
use Rattle.doc_model.specs.declared.command.Outcome.{Outcome}
use Rattle.doc_model.specs.Meaning.{Story, meaning}
use Rattle.doc_model.specs.Strokes.{entries}
use Rattle.frame_core.specs.Scenes.{HasSides, colours_of}
use Rattle.machine_model.specs.State.{State}
use Rattle.machine_model.specs.Settled.{story}
use Rattle.machine_model.specs.MeaningLaws.{HasMeaning}
use Rattle.script_text.specs.Script.{Contents, meaning_of}
use Rattle.crew_run.specs.Shows.{Shows}

-- the frames and outcomes of a desk that has the script's canvas and commands, and what they mean
pub shown_is : (d : State) (script : Contents) (scenes : List Scene) (outcomes : List Outcome) → HasMeaning d → d.canvas ≡ script.canvas → d.fed ≡ script.commands
    → map colours_of scenes ≡ d.frames → All (HasSides d.canvas.w d.canvas.h) scenes → outcomes ≡ d.outcomes → Shows script scenes outcomes
shown_is d script scenes outcomes h canvas fed colours sides told =
    let same : meaning_of script ≡ story d = (λ i. meaning (sym canvas i) (entries (sym fed i))) ∙ h.means in
    record {
      sides = subst (λ (c : Canvas). All (HasSides c.w c.h) scenes) canvas sides;
      colours = colours ∙ sym (ap (λ (s : Story). s.frames) same);
      outcomes_are = told ∙ sym (ap (λ (s : Story). s.outcomes) same);
    }
