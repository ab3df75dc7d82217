-- What was fed, as lines of a script.
use Rattle.std.specs.Prelude.{◌≡◌, ◌⊎◌, ◌≤◌, ◌<◌, ◌+◌, ◌-◌, ◌++◌, ℕ, Result, Ok, Err, Some, List, ◌∷◌, map, take, drop, length, slice_get}
use Rattle.std.specs.List.{flat_map}
use Rattle.machine_model.specs.State.{State}
use Rattle.script_text.specs.Text.{canvas_line, command_text}
use Rattle.host_lines.specs.declared.answer.Answer.{Answer}
use Rattle.host_lines.specs.declared.answer.Answer.TheVariants as answer
use Rattle.host_desk.specs.declared.texts.Written.{Written}

-- the lines of the text: the canvas's, and those of the commands
abbrev pub lines_of : State → List (List ℕ)
lines_of s = canvas_line s.canvas ∷ map command_text s.fed

-- a line was added
pub record AddsLine (s : State) (i : ℕ) (old new : List ℕ) : Type 0 where
  pub line : List ℕ
  pub at : slice_get (lines_of s) i ≡ Some line
  pub added : new ≡ old ++ line

-- the lines from one on up to another
abbrev pub text_between : State → ℕ → ℕ → List ℕ
text_between s from to = flat_map (λ (l : List ℕ). l) (take (to - from) (drop from (lines_of s)))

-- no line is left, or the next one is longer than the room that is left
abbrev pub NoMore : State → ℕ → ℕ → ℕ → Type 0
NoMore s to used room = (to ≡ length (lines_of s)) ⊎ ((line : List ℕ) × (slice_get (lines_of s) to ≡ Some line) × (room < used + length line))

-- as many whole lines as there is room for
pub record Gathered (s : State) (from to : ℕ) (bytes : List ℕ) (room : ℕ) : Type 0 where
  pub some : from ≤ to
  pub few : to ≤ length (lines_of s)
  pub text : bytes ≡ text_between s from to
  pub fits : length bytes ≤ room
  pub no_more : NoMore s to (length bytes) room

-- they were written to the first places
pub record TextWritten (s : State) (from : ℕ) (old : List ℕ) (w : Written) (new : List ℕ) : Type 0 where
  pub text : List ℕ
  pub gathered : Gathered s from w.next text (length old)
  pub bytes : w.bytes ≡ length text
  pub new_is : new ≡ text ++ drop (length text) old

-- or there is no such line, too little room or no memory, and nothing is written
abbrev pub TextTold : State → ℕ → List ℕ → Result Written Answer → List ℕ → Type 0
TextTold s from old (Ok w) new = TextWritten s from old w new
TextTold s from old (Err answer.Outside) new = (length (lines_of s) < from) × (new ≡ old)
TextTold s from old (Err answer.NoRoom) new = (length old < 256) × (new ≡ old)
TextTold s from old (Err answer.NoMemory) new = new ≡ old
TextTold s from old (Err a) new = ⊥
