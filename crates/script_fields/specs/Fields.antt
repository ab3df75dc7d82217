-- The field that an error of a line is about.
use Rattle.std.specs.Prelude.{ℕ, suc, List, [], ◌∷◌, Option, Some, None, if◌then◌else◌}
use Rattle.std.specs.Str.{bytes_eq}
use Rattle.std.specs.Option.{option_map}
use Rattle.script_lines.specs.declared.cause.Cause.{Cause}
use Rattle.script_lines.specs.declared.cause.Cause.TheVariants.{UnknownWord, FieldCount, Number, Range, TooManyDabs, OutOfWorld, UnknownStroke, ClosedStroke, UsedAgain, CanvasMissing, CanvasAgain, TooManyJobs, TooManyExports, StrokeLeft}
use Rattle.script_forms.specs.Forms.{canvas_text, path_text, word_of}
use Rattle.script_forms.specs.Jobs.{Fields}
use Rattle.script_fields.specs.declared.sort.Sort.{Sort}
use Rattle.script_fields.specs.declared.form.Form.{Form}
use Rattle.script_fields.specs.declared.form.Form.TheVariants as form
use Rattle.script_fields.specs.Sorts.{coordinate, fault_of, sorts}

-- the form of the lines with a command word, if there are any
abbrev pub form_of : List ℕ → Option Form
form_of word = if bytes_eq word canvas_text then Some form.Canvas else (if bytes_eq word path_text then Some form.Path else option_map form.Command (word_of word))

-- a field's number and its fault, if it has one, or those of a later field
abbrev pub or_later : ℕ → Option Cause → Option (ℕ × Cause) → Option (ℕ × Cause)
or_later n (Some c) later = Some (n, c)
or_later n None later = later

-- the first field that isn't of its sort, where the first of them has the number n, and why it isn't
abbrev pub fault_from : ℕ → List Sort → Fields → Option (ℕ × Cause)
fault_from n ss [] = None
fault_from n [] (field ∷ others) = or_later n (fault_of coordinate field) (fault_from (suc n) [] others)
fault_from n (s ∷ ss) (field ∷ others) = or_later n (fault_of s field) (fault_from (suc n) ss others)

-- the number of that field, or 0
abbrev pub number_of : Option (ℕ × Cause) → ℕ
number_of None = 0
number_of (Some f) = f.0

-- the number of the first field of a line that can't stand there: that of its word, if no line begins so
abbrev pub bad_field : Fields → ℕ
bad_field [] = 0
bad_field (word ∷ others) = in_form (form_of word)
  where
    in_form : Option Form → ℕ
    in_form None = 1
    in_form (Some f) = number_of (fault_from 2 (sorts f) others)

-- the number, from 1, of the field that a cause is about: that of the word or of a stroke, or the first that can't stand where it does; 0 where the cause is about the whole line or more
abbrev pub field_at : Cause → Fields → ℕ
field_at UnknownWord fields = bad_field fields
field_at Number fields = bad_field fields
field_at Range fields = bad_field fields
field_at UnknownStroke fields = 2
field_at ClosedStroke fields = 2
field_at UsedAgain fields = 2
field_at CanvasMissing fields = 1
field_at CanvasAgain fields = 1
field_at FieldCount fields = 0
field_at TooManyDabs fields = 0
field_at OutOfWorld fields = 0
field_at TooManyJobs fields = 0
field_at TooManyExports fields = 0
field_at StrokeLeft fields = 0
