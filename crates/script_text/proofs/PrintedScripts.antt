-- A printed script reads back.
use Rattle.std.proofs.Common.{◌≡◌, ℕ, ◌+◌, Bool, true, false, ◌&&◌, Option, Some, None, List, [], ◌∷◌, ◌++◌, refl, ap, ◌∙◌, if◌then◌else◌}
use Rattle.std.specs.List.{list_all, flat_map}
use Rattle.std.proofs.lemmas.List.Elements.{filter_map-append}
use Rattle.doc_model.specs.declared.canvas.Canvas.{Canvas}
use Rattle.doc_model.specs.declared.command.Command.{Command}
use Rattle.doc_model.specs.Strokes.{Entry, fed, all_fed, entries}
use Rattle.doc_model.specs.Lawful.{may_follow}
use Rattle.doc_model.specs.Feeding.{lawful_after, lawful, is_closed_entry}
use Rattle.script_lines.specs.Lines.{lines}
use Rattle.script_forms.specs.Jobs.{Fields}
use Rattle.script_forms.specs.Forms.{canvas_text}
use Rattle.script_forms.specs.Texts.{word_text}
use Rattle.script_forms.specs.Ranges.{in_range, in_limits, is_sound}
use Rattle.script_text.specs.declared.reading.Start.{Start}
use Rattle.script_text.specs.Script.{Contents}
use Rattle.script_text.specs.Closed.{is_script, all_closed}
use Rattle.script_text.specs.Paths.{path_in, path_commands}
use Rattle.script_text.specs.Reading.{command_lines, canvas_in, command_in, commands_in, cells_of, canvas_of, commands_of, starts_of, cause_by, cause, end_by, left_open, fault_after, fault, script, cause_of, misfit}
use Rattle.script_text.specs.Read.{contents_by}
use Rattle.std.specs.Option.{option_or, option_map, option_to_list, is_some}
use Rattle.std.proofs.lemmas.Grind.{flat_map-append}
use Rattle.script_text.specs.Pieces.{NumberedLine, commands_from}
use Rattle.script_text.specs.Text.{canvas_fields, command_text, text}
use Rattle.script_text.specs.Laws.{PrintedReadsBack}
use Rattle.script_lines.proofs.FieldLemmas.{first, second}
use Rattle.script_text.proofs.PrintedLines.{line_first}
use Rattle.script_text.proofs.PrintedWords.{words}
use Rattle.script_text.proofs.PrintedJobs.{Told}
use Rattle.script_text.proofs.PrintedCommands.{told, canvas_back, canvas_plain}
use Rattle.script_text.proofs.Refusals.{unsound, some_left, left_fault}
use Rattle.doc_model.proofs.Feeding.{entries_last}
use Rattle.command_log.proofs.Following.{fits as log_fits}
use Rattle.script_text.proofs.Scanning.{canvas_of-append, from_more, goes_on}
use Rattle.script_text.proofs.Scanning as scan

-- what would be false, where a test is true
none_where : {A : Type 0} (o : Option A) (b : Bool) → b ≡ true → ((x : A) → o ≡ Some x → b ≡ false) → o ≡ None
none_where None b h wrong = refl
none_where (Some x) b h wrong = let f = wrong x refl in absurd (cc (h, f))

sound_where : (es : List Entry) (c : Command) → may_follow es c ≡ true → is_sound c ≡ true
sound_where es c h = go (is_sound c) refl
  where
    go : (b : Bool) → is_sound c ≡ b → b ≡ true
    go true e = refl
    go false e = let f = unsound es c e in absurd (cc (h, f))

fits : (es : List Entry) (c : Command) → may_follow es c ≡ true → misfit es c ≡ None
unfolding misfit
fits es c h = ap (option_map cause_of) (log_fits es c h)

none_left : (es : List Entry) (starts : List Start) → list_all is_closed_entry es ≡ true → left_open es starts ≡ None
none_left es starts h = none_where (left_open es starts) (list_all is_closed_entry es) h (some_left es starts)

-- the fields of a command's line
abbrev row : {c : Command} → Told c → Fields
row t = word_text t.word ∷ t.fields

line_told : (c : Command) (t : Told c) (rest : List ℕ) → lines (command_text c ++ rest) ≡ row t ∷ lines rest
line_told c t rest = ap (λ l. lines (l ++ rest)) t.text ∙ line_first (word_text t.word) t.fields rest (words t.word).is_field t.plain

command_told : (c : Command) (t : Told c) → command_in (row t) ≡ Some c
command_told c t =
    let w = words t.word in
    rw (w.no_canvas, w.back, t.reads) refl

path_told : (c : Command) (t : Told c) → path_in (row t) ≡ None
path_told c t =
    let w = words t.word in
    rw (w.no_path) refl

alone_told : (c : Command) (t : Told c) → commands_in (row t) ≡ c ∷ []
alone_told c t = λ i. option_to_list (command_told c t i) ++ path_commands (path_told c t i)

no_canvas_told : (c : Command) (t : Told c) → canvas_in (row t) ≡ None
no_canvas_told c t =
    let w = words t.word in
    rw (w.no_canvas) refl

cause_told : (c : Command) (t : Told c) (canvas : Canvas) (cells : ℕ) (before : List Command) → cause_by (Some canvas) cells before (row t) ≡ misfit (entries before) c
unfolding cause_by
cause_told c t canvas cells before =
    let w = words t.word in
    rw (w.no_canvas, w.no_path, w.back, t.reads) refl

cmds_told : (n : ℕ) (c : Command) (t : Told c) (rest : List ℕ) → commands_from n (lines (command_text c ++ rest)) ≡ scan.line n (row t) ∷ commands_from (n + 1) (lines rest)
cmds_told n c t rest = ap (commands_from n) (line_told c t rest) ∙ from_more n (row t) (lines rest) ((words t.word).begins t.fields)

more_commands : (before : List NumberedLine) (n : ℕ) (c : Command) (t : Told c) → commands_of (before ++ scan.line n (row t) ∷ []) ≡ commands_of before ++ c ∷ []
more_commands before n c t = flat_map-append (λ (l : NumberedLine). commands_in l.1) before (scan.line n (row t) ∷ []) ∙ ap (λ l. commands_of before ++ (l ++ [])) (alone_told c t)

-- after some lines, those of the other commands have no fault
record IsBefore (before : List NumberedLine) (c : Canvas) (cs : List Command) : Type 0 where
  canvas : canvas_of before ≡ Some c
  commands : commands_of before ≡ cs

before_more : (before : List NumberedLine) (canvas : Canvas) (commands : List Command) (n : ℕ) (c : Command) (t : Told c) → IsBefore before canvas commands → IsBefore (before ++ scan.line n (row t) ∷ []) canvas (commands ++ c ∷ [])
before_more before canvas commands n c t is = record {
  canvas = canvas_of-append before (scan.line n (row t)) ∙ ap (λ o. option_or o (canvas_in (row t))) is.canvas;
  commands = more_commands before n c t ∙ ap (λ l. l ++ c ∷ []) is.commands;
}

ended : (before : List NumberedLine) (canvas : Canvas) (commands : List Command) → IsBefore before canvas commands → list_all is_closed_entry (entries commands) ≡ true → fault_after before [] ≡ None
unfolding fault_after
ended before canvas commands is h = (λ i. end_by (is.canvas i) (is.commands i) (starts_of before)) ∙ ap left_fault (none_left (entries commands) (starts_of before) h)

no_fault_after : (before : List NumberedLine) (canvas : Canvas) (commands : List Command) (n : ℕ) (cs : List Command) → IsBefore before canvas commands → list_all in_range cs ≡ true → lawful_after (entries commands) cs ≡ true → list_all is_closed_entry (all_fed (entries commands) cs) ≡ true → fault_after before (commands_from n (lines (flat_map command_text cs))) ≡ None
no_fault_after before canvas commands n [] is r l h = ended before canvas commands is h
no_fault_after before canvas commands n (c ∷ cs) is r l h =
    let may = first (may_follow (entries commands) c) (lawful_after (fed (entries commands) c) cs) l in
    let t = told c (first (in_range c) (list_all in_range cs) r) (sound_where (entries commands) c may) in
    let others = commands_from (n + 1) (lines (flat_map command_text cs)) in
    let good : cause before (row t) ≡ None = (λ i. cause_by (is.canvas i) (cells_of before) (is.commands i) (row t)) ∙ (cause_told c t canvas (cells_of before) commands ∙ fits (entries commands) c may) in
    let rest = no_fault_after (before ++ scan.line n (row t) ∷ []) canvas (commands ++ c ∷ []) (n + 1) cs (before_more before canvas commands n c t is) (second (in_range c) (list_all in_range cs) r)
    (ap (λ es. lawful_after es cs) (entries_last commands c) ∙ second (may_follow (entries commands) c) (lawful_after (fed (entries commands) c) cs) l)
    (ap (λ es. list_all is_closed_entry (all_fed es cs)) (entries_last commands c) ∙ h) in
    ap (fault_after before) (cmds_told n c t (flat_map command_text cs)) ∙ (goes_on before others n (row t) good ∙ rest)

commands_told : (es : List Entry) (n : ℕ) (cs : List Command) → list_all in_range cs ≡ true → lawful_after es cs ≡ true → commands_of (commands_from n (lines (flat_map command_text cs))) ≡ cs
commands_told es n [] r l = refl
commands_told es n (c ∷ cs) r l =
    let t = told c (first (in_range c) (list_all in_range cs) r) (sound_where es c (first (may_follow es c) (lawful_after (fed es c) cs) l)) in
    let rest = commands_told (fed es c) (n + 1) cs (second (in_range c) (list_all in_range cs) r) (second (may_follow es c) (lawful_after (fed es c) cs) l) in
    ap commands_of (cmds_told n c t (flat_map command_text cs)) ∙ ap (λ l. l ++ commands_of (commands_from (n + 1) (lines (flat_map command_text cs)))) (alone_told c t) ∙ ap (λ l. c ∷ l) rest

-- the four parts of a script
record IsScript (s : Contents) : Type 0 where
  limits : in_limits s.canvas ≡ true
  ranges : list_all in_range s.commands ≡ true
  lawful : lawful s.commands ≡ true
  closed : all_closed s.commands ≡ true

parts : (s : Contents) → is_script s ≡ true → IsScript s
unfolding is_script
parts s h =
    let front = first (in_limits s.canvas && list_all in_range s.commands) (lawful s.commands && all_closed s.commands) h in
    let back = second (in_limits s.canvas && list_all in_range s.commands) (lawful s.commands && all_closed s.commands) h in
    record {
      limits = first (in_limits s.canvas) (list_all in_range s.commands) front;
      ranges = second (in_limits s.canvas) (list_all in_range s.commands) front;
      lawful = first (lawful s.commands) (all_closed s.commands) back;
      closed = second (lawful s.commands) (all_closed s.commands) back;
    }

-- the fields of the canvas line
abbrev canvas_row : Canvas → Fields
canvas_row c = canvas_text ∷ canvas_fields c

canvas_told : (c : Canvas) → in_limits c ≡ true → canvas_in (canvas_row c) ≡ Some c
canvas_told c h = rw (canvas_back c h) refl

canvas_good : (c : Canvas) → in_limits c ≡ true → cause_by None 0 [] (canvas_row c) ≡ None
unfolding cause_by
canvas_good c h = rw (canvas_back c h) refl

abbrev others_of : List Command → List NumberedLine
others_of cs = commands_from 2 (lines (flat_map command_text cs))

lines_told : (s : Contents) → in_limits s.canvas ≡ true → command_lines (text s) ≡ scan.line 1 (canvas_row s.canvas) ∷ others_of s.commands
unfolding text
lines_told s h = ap (commands_from 1) (line_first canvas_text (canvas_fields s.canvas) (flat_map command_text s.commands) refl (canvas_plain s.canvas h)) ∙ from_more 1 (canvas_row s.canvas) (lines (flat_map command_text s.commands)) refl

first_before : (c : Canvas) → in_limits c ≡ true → IsBefore (scan.line 1 (canvas_row c) ∷ []) c []
first_before c h = record { canvas = ap (λ o. option_or o None) (canvas_told c h); commands = refl }

no_fault : (s : Contents) → is_script s ≡ true → fault (text s) ≡ None
unfolding fault
no_fault s h =
    let p = parts s h in
    let start = scan.line 1 (canvas_row s.canvas) in
    let rest = no_fault_after (start ∷ []) s.canvas [] 2 s.commands (first_before s.canvas p.limits) p.ranges p.lawful p.closed in
    ap (fault_after []) (lines_told s p.limits) ∙ (goes_on [] (others_of s.commands) 1 (canvas_row s.canvas) (canvas_good s.canvas p.limits) ∙ rest)

same : (s : Contents) → is_script s ≡ true → script (text s) ≡ Some s
unfolding script fault
same s h =
    let p = parts s h in
    let start = scan.line 1 (canvas_row s.canvas) in
    let canvas : canvas_of (command_lines (text s)) ≡ Some s.canvas = ap canvas_of (lines_told s p.limits) ∙ ap (λ o. option_or o (canvas_of (others_of s.commands))) (canvas_told s.canvas p.limits) in
    let commands : commands_of (command_lines (text s)) ≡ s.commands = ap commands_of (lines_told s p.limits) ∙ commands_told [] 2 s.commands p.ranges p.lawful in
    λ i. if is_some (no_fault s h i) then None else contents_by (canvas i) (commands i)

pub printed_reads_back : PrintedReadsBack
printed_reads_back = record { no_fault = no_fault; same = same }
