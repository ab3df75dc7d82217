-- The ranges of the numbers in a trace's lines.
use Rattle.std.specs.Prelude.{ℕ, pos, negsuc, nat_le, int_le, Bool, true, false, ◌&&◌}
use Rattle.geom_core.specs.Areas.{lies_in, world}
use Rattle.geom_core.specs.Grid.{Key}
use Rattle.doc_model.specs.declared.canvas.Walk.{Walk}
use Rattle.doc_model.specs.declared.canvas.Walk.TheVariants.{Up, All}
use Rattle.doc_model.specs.declared.canvas.Patch.{Patch}
use Rattle.doc_model.specs.Lawful.{of_limits}
use Rattle.script_forms.specs.Ranges.{in_range, is_sound}
use Rattle.trace_lines.specs.declared.line.Line.{Line}
use Rattle.trace_lines.specs.declared.line.Line.TheVariants as told

-- a slot's place
abbrev pub is_place : ℕ → Bool
is_place place = nat_le place 16

-- a tile of the world
abbrev pub is_key : Key → Bool
is_key k = (int_le (negsuc 255) k.col && int_le k.col (pos 255)) && (int_le (negsuc 255) k.row && int_le k.row (pos 255))

-- a group; 0 is the root
abbrev pub is_group_number : ℕ → Bool
is_group_number g = nat_le g 65535

abbrev pub walk_in_range : Walk → Bool
walk_in_range (Up g) = is_group_number g
walk_in_range All = true

-- a patch that the world holds, of at most 4096 by 4096 points
abbrev pub patch_in_range : Patch → Bool
patch_in_range p = walk_in_range p.walk && (lies_in p.rect world && of_limits p.rect)

-- whether it can happen at all: each number is in its range, a job is within its limits, and a job and a patch lie in the world
abbrev pub line_in_range : Line → Bool
line_in_range (told.Feed c) = in_range c && is_sound c
line_in_range told.Outside = false
line_in_range told.Step = true
line_in_range (told.Start place) = is_place place
line_in_range (told.Publish place k) = is_place place && is_key k
line_in_range (told.End place) = is_place place
line_in_range (told.Walk place patch) = is_place place && patch_in_range patch
line_in_range (told.Put place g k) = is_place place && (is_group_number g && is_key k)
