-- Lines of jobs at the front of a text.
use Rattle.std.specs.Prelude.{ℕ, ◌≡◌, List, [], ◌∷◌, Result, Ok, Err}
use Rattle.script_lines.specs.declared.cause.Cause.{Cause}
use Rattle.script_lines.specs.declared.cause.Cause.TheVariants.{FieldCount}
use Rattle.doc_model.specs.declared.command.Command.{Command}
use Rattle.script_lines.specs.Lines.{lines}
use Rattle.script_lines.specs.Fronts.{with_field}
use Rattle.script_forms.specs.declared.words.JobWord.{JobWord}
use Rattle.script_forms.specs.declared.jobs.Outline.{Outline}
use Rattle.script_forms.specs.declared.jobs.Ink.{Ink}
use Rattle.script_forms.specs.declared.jobs.Tip.{Tip}
use Rattle.script_forms.specs.Texts.{work_text}
use Rattle.script_forms.specs.Jobs.{Fields, outline, ink, tip, paint}

-- the first line begins with the fields of an outline, and the rest of the line stands behind
pub record BeginsOutline (text : List ℕ) (o : Outline) (behind : List ℕ) : Type 0 where
  pub left : List ℕ
  pub top : List ℕ
  pub width : List ℕ
  pub height : List ℕ
  pub told : outline left top width height ≡ Ok o
  pub line : lines text ≡ with_field left (with_field top (with_field width (with_field height (lines behind))))

-- the first line begins with the fields of a tip, and the rest of the line stands behind
pub record BeginsTip (text : List ℕ) (t : Tip) (behind : List ℕ) : Type 0 where
  pub left : List ℕ
  pub top : List ℕ
  pub radius : List ℕ
  pub edge : List ℕ
  pub told : tip left top radius edge ≡ Ok t
  pub line : lines text ≡ with_field left (with_field top (with_field radius (with_field edge (lines behind))))

-- the first line is the fields of an ink, and the other lines stand behind
pub record IsInkLine (text : List ℕ) (i : Ink) (behind : List ℕ) : Type 0 where
  pub colour : List ℕ
  pub operation : List ℕ
  pub strength : List ℕ
  pub told : ink colour operation strength ≡ Ok i
  pub line : lines text ≡ (colour ∷ operation ∷ strength ∷ []) ∷ lines behind

-- the first line is what stands behind the word of that job, it says the command, and the other lines stand behind
pub record IsPaintLine (work : JobWord) (text : List ℕ) (c : Command) (behind : List ℕ) : Type 0 where
  pub others : Fields
  pub told : paint work others ≡ Ok c
  pub line : lines text ≡ others ∷ lines behind

-- the first line is a job's, it says the command, and the other lines stand behind
pub record IsJobLine (text : List ℕ) (c : Command) (behind : List ℕ) : Type 0 where
  pub work : JobWord
  pub others : Fields
  pub told : paint work others ≡ Ok c
  pub line : lines text ≡ (work_text work ∷ others) ∷ lines behind

-- a command where nothing stands behind its word
abbrev pub alone : Command → Fields → Result Command Cause
alone c [] = Ok c
alone c (field ∷ others) = Err FieldCount
