-- What a run reads.
use Rattle.std.specs.Prelude.{◌≡◌, ℕ, ◌+◌, ◌≤◌, ◌<◌, Bool, true, false, List, Option, Some, None, length, IsSomeAnd, is_some}
use Rattle.std.specs.Option.{option_map_or}
use Rattle.std.specs.Io.KnownBytes.{Consumes, IsAtEnd}
use Rattle.script_text.specs.Script.{Contents}
use Rattle.script_text.specs.Reading.{fault, script}
use Rattle.script_text.specs.declared.script.ScriptFault.{ScriptFault}
use Rattle.demo_gen.specs.Demo.{demo}
use Rattle.strokes_top.specs.Choice.{choice}

-- the source gave some bytes, up to its end, and these have P; where it tells what it has left, they are all that it had
abbrev pub WasRead : Option (List ℕ) → Option (List ℕ) → (List ℕ → Type 0) → Type 0
WasRead before after P = (bytes : List ℕ) × Consumes before after bytes × IsAtEnd after × P bytes

-- the bytes are a script without a fault, which has P
abbrev pub Spells : (Contents → Type 0) → List ℕ → Type 0
Spells P bytes = (fault bytes ≡ None) × IsSomeAnd (script bytes) P

-- the generated script of the number has P, or, where there is no number, that which the source's bytes spell
abbrev pub IsOfScript : (Contents → Type 0) → Option ℕ → Option (List ℕ) → Option (List ℕ) → Type 0
IsOfScript P (Some number) before after = P (demo number)
IsOfScript P None before after = WasRead before after (Spells P)

-- the command takes the words, no script is generated and no trace read, and the first fault of the source's bytes is that line and cause
abbrev pub IsFaulty : ScriptFault → List (List ℕ) → Option (List ℕ) → Option (List ℕ) → Type 0
IsFaulty f words before after = IsSomeAnd (choice words) (λ c. (c.demo ≡ None) × (c.replay ≡ false) × WasRead before after (λ bytes. fault bytes ≡ Some f))

-- the words ask for a generated script
abbrev pub asks_for_demo : List (List ℕ) → Bool
asks_for_demo words = option_map_or (λ c. is_some c.demo) (choice words) false

-- the most bytes that a script or a trace may have
abbrev pub limit_of : Bool → ℕ
limit_of false = 1048576
limit_of true = 16777216

-- the most bytes that are read where the command takes the words
abbrev pub limit_for : List (List ℕ) → ℕ
limit_for words = limit_of (option_map_or (λ c. c.replay) (choice words) false)

-- more than limit of the known bytes were taken, but no more than a piece behind the limit
abbrev pub ConsumesMore : ℕ → ℕ → Option (List ℕ) → Option (List ℕ) → Type 0
ConsumesMore limit piece old new = (bs : List ℕ) × Consumes old new bs × (limit < length bs) × (length bs ≤ limit + piece)

-- at most limit of the known bytes were taken
abbrev pub ConsumesAtMost : ℕ → Option (List ℕ) → Option (List ℕ) → Type 0
ConsumesAtMost limit old new = (bs : List ℕ) × Consumes old new bs × (length bs ≤ limit)

-- a script is generated, or the source has just the bytes of one left, which is not too long and has no fault
abbrev pub HasScript : Option ℕ → Option (List ℕ) → Type 0
HasScript (Some number) left = Unit {0}
HasScript None left = IsSomeAnd left (λ bytes. (length bytes ≤ limit_of false) × (fault bytes ≡ None))

-- the command takes the words, no trace is read, and there is such a script
abbrev pub IsGivenScript : List (List ℕ) → Option (List ℕ) → Type 0
IsGivenScript words left = IsSomeAnd (choice words) (λ c. (c.replay ≡ false) × HasScript c.demo left)
