-- What a reader has of a script whose end isn't known yet.
use Rattle.std.specs.Prelude.{◌≡◌, ℕ, ◌+◌, ◌<◌, List, [], ◌++◌, length, filter, Option, None, is_some, if◌then◌else◌}
use Rattle.std.specs.List.{enumerate_from}
use Rattle.script_forms.specs.Jobs.{Fields}
use Rattle.script_text.specs.declared.pieces.Reader.{Reader}
use Rattle.script_text.specs.declared.reading.Reading.{Reading}
use Rattle.script_text.specs.declared.script.ScriptFault.{ScriptFault}
use Rattle.script_text.specs.Script.{Contents}
use Rattle.script_text.specs.Reading.{canvas_of, commands_of, cells_of, starts_of, fault_after}
use Rattle.script_text.specs.Read.{contents_by}
use Rattle.script_lines.specs.Lines.{is_command}

-- a line and its number
abbrev pub NumberedLine : Type 0
NumberedLine = ℕ × Fields

-- the lines that are commands, where the first line has the number n
abbrev pub commands_from : ℕ → List Fields → List NumberedLine
commands_from n ls = filter (λ l. is_command l.1) (enumerate_from n ls)

-- the lines that are commands, numbered from 1
abbrev pub commands_among : List Fields → List NumberedLine
commands_among ls = commands_from 1 ls

-- the first fault of some lines as a whole script
unfoldable pub fault_in : List Fields → Option ScriptFault
fault_in ls = fault_after [] (commands_among ls)

-- the canvas and the commands of lines that are a script without a fault
unfoldable pub script_in : List Fields → Option Contents
script_in ls = if is_some (fault_in ls) then None else contents_by (canvas_of (commands_among ls)) (commands_of (commands_among ls))

-- what was read is what those lines say
pub record IsReading (r : Reading) (before : List NumberedLine) : Type 0 where
  pub canvas : r.canvas ≡ canvas_of before
  pub draft : r.draft ≡ commands_of before
  pub starts : r.starts.items ≡ starts_of before
  pub cells : r.cells ≡ cells_of before

-- so many lines were read, which are these, and none of them has a fault: whatever lines follow, the
-- first fault is the first one after them
pub record AreRead (ls : List Fields) (count : ℕ) (r : Reading) : Type 0 where
  pub number : count ≡ length ls
  pub reading : IsReading r (commands_among ls)
  pub good : (more : List Fields) → fault_in (ls ++ more) ≡ fault_after (commands_among ls) (commands_from (count + 1) more)

-- the reader has read these lines, of which none has a fault
abbrev pub HasRead : Reader → List Fields → Type 0
HasRead r ls = AreRead ls r.number r.reading

-- the reader has read lines, so few that these can be numbered after them
abbrev pub HasRoom : Reader → List Fields → Type 0
HasRoom r more = (ls : List Fields) × HasRead r ls × (length ls + length more < 4294967296)
