-- What a line says by itself, beside what a script's line says.
use Rattle.std.proofs.Common.{◌≡◌, ◌≤◌, ◌+◌, ℕ, true, false, nat_le, Bool, if◌then◌else◌, Option, Some, None, Ok, Err, List, [], ◌∷◌, ◌++◌, append-nil, length, refl, sym, ap, ◌∙◌, arith}
use Rattle.std.specs.Prelude.{Result, not, ◌&&◌, ◌||◌, ◌==◌}
use Rattle.std.specs.List.{list_any}
use Rattle.std.specs.Option.{option_map, option_or, option_to_list, option_and_then}
use Rattle.std.specs.Result.{result_ok}
use Rattle.std.specs.Str.{bytes_eq}
use Rattle.std.proofs.lemmas.Bool.Decides.{nat_tests}
use Rattle.std.proofs.lemmas.Slice.Eq.{bytes_eq-Decides}
use Rattle.doc_model.specs.declared.canvas.Canvas.{Canvas}
use Rattle.doc_model.specs.declared.command.Command.{Command}
use Rattle.doc_model.specs.Trails.{Trail}
use Rattle.doc_model.specs.Strokes.{Entry, Strokes, entries}
use Rattle.brush_path.specs.Cells.{jobs}
use Rattle.command_log.specs.declared.refusal.Misfit.{Misfit}
use Rattle.command_log.specs.declared.refusal.Misfit.TheVariants.{TooManyJobs}
use Rattle.command_log.specs.Misfits.{has_room_for, jobs_misfit, not_open}
use Rattle.script_lines.specs.declared.cause.Cause.{Cause}
use Rattle.script_lines.specs.Lines.{is_command}
use Rattle.script_forms.specs.declared.words.Word.{Word}
use Rattle.script_forms.specs.Forms.{canvas_text, command_of, path_text, word_of}
use Rattle.script_forms.specs.Jobs.{Fields, path}
use Rattle.script_text.specs.Paths.{path_commands, path_in, path_misfit}
use Rattle.script_text.specs.Reading.{canvas_cause, cause_by, cause_of, command_cause, command_in, commands_in, misfit, path_cause, track_cause, word_cause}
use Rattle.script_lines.specs.declared.cause.Cause.TheVariants.{CanvasAgain}
use Rattle.host_lines.specs.declared.line.Line.TheVariants as line
use Rattle.host_lines.specs.Said.{command_told, line_told, path_told, track_told, word_told}
use Rattle.host_lines.specs.Lines.{commands_of, fault_of, first_fields, line_fault, said, told_by}

-- room for so many jobs is room for no more than a stroke takes
fits_few : (es : List Entry) (n k : ℕ) → list_any (has_room_for k n) es ≡ true → k ≤ 4096
fits_few [] n k h = absurd (cc (h))
fits_few (Strokes s ∷ es) n k h = either (s.no == n) (nat_le (length s.jobs + k) 4096) refl (fits_few es n k) h
  where
    room : nat_le (length s.jobs + k) 4096 ≡ true → k ≤ 4096
    room e = grind (arith, nat_tests)

    either : (a b : Bool) → b ≡ nat_le (length s.jobs + k) 4096 → (list_any (has_room_for k n) es ≡ true → k ≤ 4096) → ((a && b) || list_any (has_room_for k n) es) ≡ true → k ≤ 4096
    either true true e others h = room (sym e)
    either true false e others h = others h
    either false b e others h = others h
fits_few (e ∷ es) n k h = fits_few es n k h

-- jobs that their stroke takes are few enough for a script
jobs_fit : (es : List Entry) (n k : ℕ) → option_or (jobs_misfit es n k) (if nat_le (0 + k) 65536 then None else Some TooManyJobs) ≡ jobs_misfit es n k
jobs_fit es n k = by (not_open n es) (list_any (has_room_for k n) es) refl
  where
    within : k ≤ 4096 → (if nat_le (0 + k) 65536 then None else Some TooManyJobs) ≡ None
    within h = let ok : nat_le (0 + k) 65536 ≡ true = grind (arith, nat_tests) in ap (λ b. if b then None else Some TooManyJobs) ok

    few : (b : Bool) → b ≡ list_any (has_room_for k n) es → option_or (if b then None else Some TooManyJobs) (if nat_le (0 + k) 65536 then None else Some TooManyJobs) ≡ (if b then None else Some TooManyJobs)
    few false e = refl
    few true e = within (fits_few es n k (sym e))

    by : (o : Option Misfit) (b : Bool) → b ≡ list_any (has_room_for k n) es
        → option_or (option_or o (if b then None else Some TooManyJobs)) (if nat_le (0 + k) 65536 then None else Some TooManyJobs) ≡ option_or o (if b then None else Some TooManyJobs)
    by None b e = few b e
    by (Some m) b e = refl

path_fits : (es : List Entry) (n : ℕ) (t : Trail) → path_misfit es 0 n t ≡ jobs_misfit es n (length (jobs t))
path_fits es n t = jobs_fit es n (length (jobs t))

track_fault : (fed : List Command) (o : Result (ℕ × Trail) Cause) → track_cause 0 fed o ≡ fault_of fed (track_told o)
track_fault fed (Err c) = refl
track_fault fed (Ok p) = ap (option_map cause_of) (path_fits (entries fed) p.0 p.1)

word_fault : (canvas : Canvas) (fed : List Command) (o : Option Word) (others : Fields) → word_cause (Some canvas) fed o others ≡ fault_of fed (word_told o others)
unfolding misfit
word_fault canvas fed None others = refl
word_fault canvas fed (Some w) others = of (command_of w others)
  where
    of : (o : Result Command Cause) → command_cause fed o ≡ fault_of fed (command_told o)
    of (Ok c) = refl
    of (Err c) = refl

-- so a line's fault is that of the script's line
pub fault_told : (canvas : Canvas) (fed : List Command) (fields : Fields) → cause_by (Some canvas) 0 fed fields ≡ fault_of fed (line_told fields)
unfolding cause_by
fault_told canvas fed [] = refl
fault_told canvas fed (w ∷ others) = by (bytes_eq w canvas_text) (bytes_eq w path_text)
  where
    by : (a b : Bool) → (if a then canvas_cause (Some canvas) others else if b then path_cause (Some canvas) 0 fed others else word_cause (Some canvas) fed (word_of w) others)
        ≡ fault_of fed (if a then line.Wrong CanvasAgain else if b then path_told others else word_told (word_of w) others)
    by true b = refl
    by false true = track_fault fed (path others)
    by false false = word_fault canvas fed (word_of w) others

-- a path's word is none of the others
no_word : (w : List ℕ) → w ≡ path_text → word_of w ≡ None
unfolding word_of
no_word w e = ap word_of e

no_path : (w : List ℕ) → w ≡ canvas_text → bytes_eq w path_text ≡ false
no_path w e = ap (λ v. bytes_eq v path_text) e

is_text : (w v : List ℕ) → bytes_eq w v ≡ true → w ≡ v
is_text w v e = grind (arith, bytes_eq-Decides, nat_tests)

track_commands : (o : Result (ℕ × Trail) Cause) → path_commands (result_ok o) ≡ commands_of (track_told o)
track_commands (Ok p) = refl
track_commands (Err c) = refl

word_commands : (o : Option Word) (others : Fields) → option_to_list (option_and_then (λ w. result_ok (command_of w others)) o) ++ [] ≡ commands_of (word_told o others)
word_commands None others = refl
word_commands (Some w) others = of (command_of w others)
  where
    of : (o : Result Command Cause) → option_to_list (result_ok o) ++ [] ≡ commands_of (command_told o)
    of (Ok c) = refl
    of (Err c) = refl

-- and its commands are those of the script's line
pub commands_told : (fields : Fields) → commands_in fields ≡ commands_of (line_told fields)
commands_told [] = refl
commands_told (w ∷ others) = by (bytes_eq w canvas_text) (bytes_eq w path_text) refl refl
  where
    by : (a b : Bool) → a ≡ bytes_eq w canvas_text → b ≡ bytes_eq w path_text
        → option_to_list (if a then None else option_and_then (λ v. result_ok (command_of v others)) (word_of w)) ++ path_commands (if b then result_ok (path others) else None)
        ≡ commands_of (if a then line.Wrong CanvasAgain else if b then path_told others else word_told (word_of w) others)
    by true true e f = absurd (cc (no_path w (is_text w canvas_text (sym e)), f))
    by true false e f = refl
    by false true e f = ap (λ o. option_to_list (option_and_then (λ v. result_ok (command_of v others)) o) ++ path_commands (result_ok (path others))) (no_word w (is_text w path_text (sym f))) ∙ track_commands (path others)
    by false false e f = word_commands (word_of w) others

-- what the first line of a text says, where it is told by itself
pub said_is : (bytes : List ℕ) → said bytes ≡ commands_of (told_by (first_fields bytes))
said_is bytes = by (is_command (first_fields bytes))
  where
    by : (b : Bool) → (if b then commands_in (first_fields bytes) else []) ≡ commands_of (if b then line_told (first_fields bytes) else line.Blank)
    by true = commands_told (first_fields bytes)
    by false = refl

pub line_fault_is : (canvas : Canvas) (fed : List Command) (bytes : List ℕ) → line_fault canvas fed bytes ≡ fault_of fed (told_by (first_fields bytes))
line_fault_is canvas fed bytes = by (is_command (first_fields bytes))
  where
    by : (b : Bool) → (if b then cause_by (Some canvas) 0 fed (first_fields bytes) else None) ≡ fault_of fed (if b then line_told (first_fields bytes) else line.Blank)
    by true = fault_told canvas fed (first_fields bytes)
    by false = refl
