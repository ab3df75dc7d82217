-- How a text names what is written.
use Rattle.std.specs.Prelude.{◌≡◌, ℕ, List, Some, None, Result, Ok, Err}
use Rattle.strokes_top.specs.declared.choice.Emit.{Emit}
use Rattle.strokes_top.specs.declared.choice.UnknownEmit.{UnknownEmit}
use Rattle.strokes_top.specs.Choice.{emit_named}

-- the answer to a text
abbrev pub IsNamed : List ℕ → Result Emit UnknownEmit → Type 0
IsNamed text (Ok emit) = emit_named text ≡ Some emit
IsNamed text (Err e) = emit_named text ≡ None
