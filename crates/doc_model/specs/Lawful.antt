-- Which commands may follow which.
use Rattle.std.specs.Prelude.{filter, nat_lt, nat_le, Bool, true, ◌&&◌, not, List, length}
use Rattle.std.specs.List.{list_any}
use Rattle.geom_core.specs.Areas.{Area}
use Rattle.doc_model.specs.declared.job.Job.{Job}
use Rattle.doc_model.specs.declared.job.Job.TheVariants.{Fill, Dab, Move, Blur, Track}
use Rattle.doc_model.specs.declared.command.Command.{Command}
use Rattle.doc_model.specs.declared.command.Command.TheVariants as command
use Rattle.doc_model.specs.Trails.{centres}
use Rattle.doc_model.specs.Jobs.{checks}
use Rattle.doc_model.specs.Strokes.{Entry, has_room, is_export, is_open_stroke, is_stroke}

-- whether a rectangle has 1 to 4096 columns and rows
abbrev pub of_limits : Area → Bool
of_limits a = (nat_le 1 a.w && nat_le a.w 4096) && (nat_le 1 a.h && nat_le a.h 4096)

-- whether a job meets the limits
abbrev pub within_limits : Job → Bool
within_limits (Fill rect colour op strength) = of_limits rect
within_limits (Dab x y r soft colour op strength) = nat_le r 128
within_limits (Move rect dx dy) = of_limits rect
within_limits (Blur rect r) = of_limits rect && (nat_le 1 r && nat_le r 16)
within_limits (Track t cell) = nat_le (length (centres t)) 4096

-- whether the command may follow those that made these entries
abbrev pub may_follow : List Entry → Command → Bool
may_follow es (command.Stroke n layer exclusive) = not (list_any (is_stroke n) es)
may_follow es (command.Add n kind job) = (checks job && within_limits job) && (list_any (is_open_stroke n) es && list_any (has_room n) es)
may_follow es (command.End n) = list_any (is_open_stroke n) es
may_follow es (command.Cancel n) = list_any (is_open_stroke n) es
may_follow es command.Export = nat_lt (length (filter is_export es)) 64
may_follow es c = true
