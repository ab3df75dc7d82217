-- What the readers of lines promise of what a line says.
use Rattle.std.specs.Prelude.{◌≡◌, true}
use Rattle.geom_core.specs.Keys.{IsWorldKey}
use Rattle.script_forms.specs.Ranges.{in_range, is_sound}
use Rattle.trace_lines.specs.declared.line.Line.{Line}
use Rattle.trace_lines.specs.declared.line.Line.TheVariants.{Feed, Publish, Put}

-- a command's numbers are in their ranges and its job meets the limits, and a tile is one of the world
abbrev pub Fits : Line → Type 0
Fits (Feed c) = (in_range c ≡ true) × (is_sound c ≡ true)
Fits (Publish p k) = IsWorldKey k
Fits (Put p g k) = IsWorldKey k
Fits line = Unit {0}
