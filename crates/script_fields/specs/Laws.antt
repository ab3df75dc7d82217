-- The first field that isn't of its sort is what reading a line fails at.
use Rattle.std.specs.Prelude.{◌≡◌, ℕ, ◌⊎◌, Option, Some, Result, Err}
use Rattle.script_lines.specs.declared.cause.Cause.{Cause}
use Rattle.script_lines.specs.declared.cause.Cause.TheVariants.{FieldCount, OutOfWorld, TooManyDabs}
use Rattle.script_forms.specs.declared.words.Word.{Word}
use Rattle.script_forms.specs.Forms.{canvas, command_of}
use Rattle.script_forms.specs.Jobs.{Fields, path}
use Rattle.script_fields.specs.declared.form.Form.TheVariants as form
use Rattle.script_fields.specs.Fields.{fault_from}
use Rattle.script_fields.specs.Sorts.{sorts}

-- the cause is about a whole line
abbrev pub IsOfLine : Cause → Type 0
IsOfLine c = (c ≡ FieldCount) ⊎ ((c ≡ OutOfWorld) ⊎ (c ≡ TooManyDabs))

-- reading fails for a cause of the whole line, or for the fault of this field
abbrev pub IsTold : {A : Type 0} → Result A Cause → Option (ℕ × Cause) → Type 0
IsTold told fault = (c : Cause) → told ≡ Err c → IsOfLine c ⊎ ((n : ℕ) × (fault ≡ Some (n, c)))

-- so for each line, behind its word
pub record FailsAtItsField : Type 0 where
  pub of_canvas : (fields : Fields) → IsTold (canvas fields) (fault_from 2 (sorts form.Canvas) fields)
  pub of_path : (fields : Fields) → IsTold (path fields) (fault_from 2 (sorts form.Path) fields)
  pub of_command : (word : Word) (fields : Fields) → IsTold (command_of word fields) (fault_from 2 (sorts (form.Command word)) fields)
