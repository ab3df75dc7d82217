-- Going over the lines of a script, one after another.
use Rattle.std.proofs.Common.{◌≡◌, ℕ, ◌+◌, ◌<◌, ◌≤◌, suc, true, false, Option, Some, None, Result, Ok, Err, List, [], ◌∷◌, ◌++◌, length, map, filter, refl, sym, ap, ◌∙◌, subst, arith, length-append, append_assoc}
use Rattle.std.specs.List.{enumerate_from, filter_map, slice_split, count_by}
use Rattle.std.specs.Prelude.{◌==◌}
use Rattle.std.specs.Option.{option_to_list}
use Rattle.std.proofs.lemmas.List.{append-nil}
use Rattle.std.proofs.lemmas.List.Elements.{filter-append, filter_map-append}
use Rattle.std.proofs.lemmas.List.Splits.{length-slice_split}
use Rattle.std.proofs.lemmas.List.Sums.{count_by-le-length}
use Rattle.doc_model.specs.declared.canvas.Canvas.{Canvas}
use Rattle.doc_model.specs.declared.command.Command.{Command}
use Rattle.doc_model.specs.declared.command.Command.TheVariants as command
use Rattle.script_lines.specs.declared.cause.Cause.{Cause}
use Rattle.script_lines.specs.Lines.{fields, lines, is_command}
use Rattle.script_text.specs.declared.script.ScriptFault.{ScriptFault}
use Rattle.script_text.specs.declared.script.ReadRefusal.{ReadRefusal}
use Rattle.script_text.specs.declared.script.ReadRefusal.TheVariants.{Fault, NoMemory}
use Rattle.script_text.specs.declared.reading.Reading.{Reading}
use Rattle.script_text.specs.declared.reading.Start.{Start}
use Rattle.script_forms.specs.Jobs.{Fields}
use Rattle.script_text.specs.Script.{Contents}
use Rattle.script_text.specs.Reading.{canvas_in, command_in, commands_in, cells_of, canvas_of, commands_of, starts_of, start_by, cause_by, cause, end_by, fault_after}
use Rattle.script_text.specs.Read.{end_fault, contents_by}
use Rattle.script_text.specs.Pieces.{NumberedLine, commands_from, commands_among, fault_in, script_in}
use Rattle.std.specs.Option.{option_or}
use Rattle.script_text.specs.Read.{Takes, IsRefused, Answers, StartsAre, started_by}
use Rattle.std.proofs.lemmas.Grind.{flat_map-append}
use Rattle.std.proofs.lemmas.List.Sums.{sum_by-append}
use Rattle.doc_model.specs.declared.job.Job.{Job}
use Rattle.doc_model.specs.Trails.{Trail}
use Rattle.brush_path.specs.Cells.{jobs}
use Rattle.script_text.specs.Paths.{path_in, path_commands, adding, cells_in}
use Rattle.script_text.specs.Pieces.{IsReading, AreRead}
use Rattle.geom_core.proofs.Tests.{length_map}

abbrev pub line : ℕ → Fields → NumberedLine
line n f = (n, f)

numbered-append : (n : ℕ) (xs ys : List Fields) → enumerate_from n (xs ++ ys) ≡ enumerate_from n xs ++ enumerate_from (n + length xs) ys
numbered-append n [] ys = let e : n ≡ n + 0 = omega arith in ap (λ m. enumerate_from m ys) e
numbered-append n (x ∷ xs) ys = ap (λ l. line n x ∷ l) (numbered-append (n + 1) xs ys ∙ ap (λ m. enumerate_from (n + 1) xs ++ enumerate_from m ys) (omega arith))

from-append : (n : ℕ) (xs ys : List Fields) → commands_from n (xs ++ ys) ≡ commands_from n xs ++ commands_from (n + length xs) ys
from-append n xs ys = ap (filter (λ l. is_command l.1)) (numbered-append n xs ys) ∙ filter-append (λ (l : NumberedLine). is_command l.1) (enumerate_from n xs) (enumerate_from (n + length xs) ys)

-- one more line, where it is a command
among_more : (before : List Fields) (n : ℕ) (f : Fields) → n ≡ length before → is_command f ≡ true → commands_among (before ++ f ∷ []) ≡ commands_among before ++ line (n + 1) f ∷ []
among_more before n f e c = from-append 1 before (f ∷ []) ∙ rw c (ap (λ k. commands_among before ++ line k f ∷ []) (omega arith))

pub from_more : (n : ℕ) (f : Fields) (more : List Fields) → is_command f ≡ true → commands_from n (f ∷ more) ≡ line n f ∷ commands_from (n + 1) more
from_more n f more c = rw c refl

-- where it is none
among_same : (before : List Fields) (f : Fields) → is_command f ≡ false → commands_among (before ++ f ∷ []) ≡ commands_among before
among_same before f c = from-append 1 before (f ∷ []) ∙ rw c (append-nil (commands_among before))

from_same : (n : ℕ) (f : Fields) (more : List Fields) → is_command f ≡ false → commands_from n (f ∷ more) ≡ commands_from (n + 1) more
from_same n f more c = rw c refl

pub canvas_of-append : (before : List NumberedLine) (l : NumberedLine) → canvas_of (before ++ l ∷ []) ≡ option_or (canvas_of before) (canvas_in l.1)
canvas_of-append [] l = go (canvas_in l.1)
  where
    go : (o : Option Canvas) → option_or o None ≡ option_or None o
    go None = refl
    go (Some c) = refl
canvas_of-append (b ∷ before) l = ap (option_or (canvas_in b.1)) (canvas_of-append before l) ∙ go (canvas_in b.1)
  where
    go : (o : Option Canvas) → option_or o (option_or (canvas_of before) (canvas_in l.1)) ≡ option_or (option_or o (canvas_of before)) (canvas_in l.1)
    go None = refl
    go (Some c) = refl

one_option : {A : Type 0} (o : Option A) → Rattle.std.specs.List.cons_option o [] ≡ option_to_list o
one_option None = refl
one_option (Some x) = refl

reads_more : (r new : Reading) (before : List NumberedLine) (n : ℕ) (f : Fields) → IsReading r before → Takes r new n f → IsReading new (before ++ line n f ∷ [])
reads_more r new before n f is t = record {
  canvas = t.canvas ∙ (ap (λ o. option_or o (canvas_in f)) is.canvas ∙ sym (canvas_of-append before (line n f)));
  draft = t.draft ∙ (ap (λ l. l ++ commands_in f) is.draft ∙ sym (flat_map-append (λ (l : NumberedLine). commands_in l.1) before (line n f ∷ []) ∙ ap (λ l. commands_of before ++ l) (append-nil (commands_in f))));
  starts = t.starts ∙ (ap (λ l. l ++ option_to_list (start_by n (command_in f))) is.starts ∙ sym (filter_map-append _ before (line n f ∷ []) ∙ ap (λ l. starts_of before ++ l) (one_option (start_by n (command_in f)))));
  cells = t.cells ∙ (ap (λ k. k + cells_in f) is.cells ∙ sym (sum_by-append (λ (l : NumberedLine). cells_in l.1) before (line n f ∷ []) ∙ ap (λ k. cells_of before + k) (alone (cells_in f))));
}
  where
    alone : (k : ℕ) → 0 + k ≡ k
    alone k = omega arith

same_cause : (r : Reading) (before : List NumberedLine) (f : Fields) (o : Option Cause) → IsReading r before → cause_by r.canvas r.cells r.draft f ≡ o → cause before f ≡ o
same_cause r before f o is h = sym (λ i. cause_by (is.canvas i) (is.cells i) (is.draft i) f) ∙ h

-- a good line
pub goes_on : (before rest : List NumberedLine) (n : ℕ) (f : Fields) → cause before f ≡ None → fault_after before (line n f ∷ rest) ≡ fault_after (before ++ line n f ∷ []) rest
unfolding fault_after
goes_on before rest n f h = rw h refl

-- a bad line
stops : (before rest : List NumberedLine) (n : ℕ) (f : Fields) (c : Cause) → cause before f ≡ Some c → fault_after before (line n f ∷ rest) ≡ Some (record { line = n; cause = c })
unfolding fault_after
stops before rest n f c h = rw h refl

-- the end of the lines
ends : (before : List NumberedLine) → fault_after before [] ≡ end_fault before
unfolding fault_after
ends before = refl

-- paths start no strokes
adding_starts : (n : ℕ) (js : List Job) → filter_map started_by (adding n js) ≡ []
adding_starts n [] = refl
adding_starts n (j ∷ js) = adding_starts n js

path_starts : (p : Option (ℕ × Trail)) → filter_map started_by (path_commands p) ≡ []
path_starts None = refl
path_starts (Some p) = adding_starts p.0 (jobs p.1)

before_rest : {A : Type 0} (o : Option A) (rest : List A) → option_to_list o ++ rest ≡ Rattle.std.specs.List.cons_option o rest
before_rest None rest = refl
before_rest (Some x) rest = refl

same_starts : (o : Option Command) (p : Option (ℕ × Trail)) (rest : List Command) → filter_map started_by ((option_to_list o ++ path_commands p) ++ rest) ≡ filter_map started_by (Rattle.std.specs.List.cons_option o rest)
same_starts o p rest =
    filter_map-append started_by (option_to_list o ++ path_commands p) rest
    ∙ ap (λ l. l ++ filter_map started_by rest) (filter_map-append started_by (option_to_list o) (path_commands p) ∙ ap (λ l. filter_map started_by (option_to_list o) ++ l) (path_starts p) ∙ append-nil (filter_map started_by (option_to_list o)))
    ∙ sym (filter_map-append started_by (option_to_list o) rest)
    ∙ ap (filter_map started_by) (before_rest o rest)

-- the strokes that lines start are those that their commands start
pub starts_are : (before : List NumberedLine) → StartsAre (starts_of before) (commands_of before)
starts_are [] = refl
starts_are (l ∷ before) = go (command_in l.1) (starts_are before) ∙ sym (same_starts (command_in l.1) (path_in l.1) (commands_of before))
  where
    go : (o : Option Command) → StartsAre (starts_of before) (commands_of before) → map (λ (s : Start). s.no) (Rattle.std.specs.List.cons_option (start_by l.0 o) (starts_of before)) ≡ filter_map started_by (Rattle.std.specs.List.cons_option o (commands_of before))
    go None h = h
    go (Some (command.Stroke n layer x)) h = ap (λ t. n ∷ t) h
    go (Some (command.Change change)) h = h
    go (Some (command.Add n k j)) h = h
    go (Some (command.End n)) h = h
    go (Some (command.Cancel n)) h = h
    go (Some command.Undo) h = h
    go (Some command.Redo) h = h
    go (Some (command.Purge keep)) h = h
    go (Some command.Export) h = h

-- there are not many more lines than bytes
pub few_lines : (bytes : List ℕ) → length (lines bytes) ≤ length bytes + 1
few_lines bytes = omega (arith, length_map fields (slice_split (λ b. b == 10) bytes), length-slice_split (λ b. b == 10) bytes, count_by-le-length (λ b. b == 10) bytes)

-- a text has a line
pub some_line : (text : List ℕ) → 1 ≤ length (lines text)
some_line text = omega (arith, length_map fields (slice_split (λ b. b == 10) text), length-slice_split (λ b. b == 10) text)

-- what a loop over the lines knows: those that were read, and those that are left
pub record Going (all : List Fields) (n : ℕ) (r : Reading) (left : List Fields) : Type 0 where
  pub before : List Fields
  pub read : AreRead before n r
  pub whole : before ++ left ≡ all

-- the next line can be numbered
pub numbered_next : (ls text rest : List Fields) (n : ℕ) (r : Reading) → Going (ls ++ text) n r rest → 1 ≤ length rest → length ls + length text < 4294967296 → n + 1 < 4294967296
numbered_next ls text rest n r g some room = omega (arith, g.read.number, ap length g.whole, length-append g.before rest, length-append ls text)

-- the lines before the next one and it
cut : (all before others more : List Fields) (f : Fields) → before ++ f ∷ others ≡ all → all ++ more ≡ before ++ f ∷ (others ++ more)
cut all before others more f e = ap (λ ls. ls ++ more) (sym e) ∙ append_assoc before (f ∷ others) more

one_more : (all before others : List Fields) (f : Fields) → before ++ f ∷ others ≡ all → (before ++ f ∷ []) ++ others ≡ all
one_more all before others f e = append_assoc before (f ∷ []) others ∙ e

count_more : (before : List Fields) (n : ℕ) (f : Fields) → n ≡ length before → n + 1 ≡ length (before ++ f ∷ [])
count_more before n f e = omega (arith, length-append before (f ∷ []))

-- at a line that is read
pub taken : (all others : List Fields) (n : ℕ) (f : Fields) (r new : Reading) → is_command f ≡ true → Going all n r (f ∷ others) → Takes r new (n + 1) f → cause_by r.canvas r.cells r.draft f ≡ None → Going all (n + 1) new others
taken all others n f r new c g t none =
    let before = g.before in
    let now = among_more before n f g.read.number c in
    record {
      before = before ++ f ∷ [];
      read = record {
        number = count_more before n f g.read.number;
        reading = subst (IsReading new) (sym now) (reads_more r new (commands_among before) (n + 1) f g.read.reading t);
        good = λ more.
            ap fault_in (append_assoc before (f ∷ []) more) ∙ (g.read.good (f ∷ more)
            ∙ (ap (fault_after (commands_among before)) (from_more (n + 1) f more c)
            ∙ (goes_on (commands_among before) (commands_from (n + 1 + 1) more) (n + 1) f (same_cause r (commands_among before) f None g.read.reading none)
            ∙ ap (λ ls. fault_after ls (commands_from (n + 1 + 1) more)) (sym now))));
      };
      whole = one_more all before others f g.whole;
    }

-- at a line that is passed over
pub passed : (all others : List Fields) (n : ℕ) (f : Fields) (r : Reading) → is_command f ≡ false → Going all n r (f ∷ others) → Going all (n + 1) r others
passed all others n f r c g =
    let before = g.before in
    let now = among_same before f c in
    record {
      before = before ++ f ∷ [];
      read = record {
        number = count_more before n f g.read.number;
        reading = subst (IsReading r) (sym now) g.read.reading;
        good = λ more.
            ap fault_in (append_assoc before (f ∷ []) more) ∙ (g.read.good (f ∷ more)
            ∙ (λ i. fault_after (sym now i) (from_same (n + 1) f more c i)));
      };
      whole = one_more all before others f g.whole;
    }

-- at a line that is refused
pub refused : (all others more : List Fields) (n : ℕ) (f : Fields) (r : Reading) (g : ScriptFault) → is_command f ≡ true → Going all n r (f ∷ others) → IsRefused {A = Unit {0}} (Err (Fault g)) (n + 1) (cause_by r.canvas r.cells r.draft f) → fault_in (all ++ more) ≡ Some g
refused all others more n f r fault c g bad =
    let before = g.before in
    ap fault_in (cut all before others more f g.whole) ∙ (g.read.good (f ∷ (others ++ more))
    ∙ (ap (fault_after (commands_among before)) (from_more (n + 1) f (others ++ more) c)
    ∙ (stops (commands_among before) (commands_from (n + 1 + 1) (others ++ more)) (n + 1) f fault.cause (same_cause r (commands_among before) f (Some fault.cause) g.read.reading bad.1)
    ∙ ap (λ k. Some (record { line = k; cause = fault.cause })) (sym bad.0))))

-- what is wrong with the end
end_of : (ls : List Fields) (n : ℕ) (r : Reading) → AreRead ls n r → fault_in ls ≡ end_by r.canvas r.draft r.starts.items
end_of ls n r read =
    let is = read.reading in
    ap fault_in (sym (append-nil ls)) ∙ (read.good [] ∙ (ends (commands_among ls) ∙ (λ i. end_by (sym is.canvas i) (sym is.draft i) (sym is.starts i))))

-- the answer at the end
pub all_read : (result : Result Contents ReadRefusal) (ls : List Fields) (n : ℕ) (r : Reading) → AreRead ls n r → Answers result (end_by r.canvas r.draft r.starts.items) (contents_by r.canvas r.draft) → Answers result (fault_in ls) (script_in ls)
unfolding script_in
all_read (Ok s) ls n r read h =
    let is = read.reading in
    let none : fault_in ls ≡ None = end_of ls n r read ∙ h.0 in
    (none, rw none ((λ i. contents_by (sym is.canvas i) (sym is.draft i)) ∙ h.1))
all_read (Err (Fault f)) ls n r read h = end_of ls n r read ∙ h
all_read (Err NoMemory) ls n r read h = tt

pub starts_match : (r : Reading) (before : List NumberedLine) → IsReading r before → StartsAre r.starts.items r.draft
starts_match r before is = ap (map (λ (s : Start). s.no)) is.starts ∙ (starts_are before ∙ ap (filter_map started_by) (sym is.draft))
