-- What C passes and is told, as the library has it.
use Rattle.std.specs.Prelude.{ℕ, ◌+◌, ◌*◌, ◌/◌, ◌%◌, ◌^◌, pos, nat_le, ◌&&◌, if◌then◌else◌, Option, Some, None}
use Rattle.pixel_core.specs.Rgba.{Rgba, if_canonical}
use Rattle.geom_core.specs.Areas.{Area}
use Rattle.doc_model.specs.declared.canvas.Canvas.{Canvas}
use Rattle.doc_model.specs.declared.command.Outcome.{Outcome}
use Rattle.doc_model.specs.declared.command.Outcome.TheVariants as outcome
use Rattle.doc_model.specs.declared.tree.TreeFault.{TreeFault}
use Rattle.doc_model.specs.declared.tree.TreeFault.TheVariants as fault
use Rattle.host_lines.specs.declared.structs.StrokesCanvas.{StrokesCanvas}
use Rattle.host_lines.specs.declared.structs.StrokesOutcome.{StrokesOutcome}
use Rattle.host_lines.specs.declared.structs.StrokesRect.{StrokesRect}

-- a rectangle, or one without points
abbrev pub rect_by : Option Area → StrokesRect
rect_by None = record { x = pos 0; y = pos 0; w = 0; h = 0 }
rect_by (Some a) = record { x = a.x; y = a.y; w = a.w; h = a.h }

-- the opaque pixel of a colour
abbrev pub paper_by : ℕ → Rgba
paper_by n = if_canonical ((n / 2 ^ 16) % 256) ((n / 2 ^ 8) % 256) (n % 256) 255

-- the canvas of these numbers, where they are in their ranges
abbrev pub canvas_by : StrokesCanvas → Option Canvas
canvas_by c = if (nat_le 1 c.w && nat_le c.w 2048) && ((nat_le 1 c.h && nat_le c.h 2048) && nat_le c.paper 16777215)
    then Some (record { w = c.w; h = c.h; paper = paper_by c.paper })
    else None

-- red, green and blue as one number, the red highest
abbrev pub paper_told : Rgba → ℕ
paper_told p = (65536 * p.r + 256 * p.g) + p.b

abbrev pub canvas_told : Canvas → StrokesCanvas
canvas_told c = record { w = c.w; h = c.h; paper = paper_told c.paper }

-- a fault of the tree as numbers
abbrev pub fault_told : TreeFault → ℕ × ℕ × ℕ
fault_told (fault.Taken id) = (5, id, 0)
fault_told (fault.NoNode id) = (6, id, 0)
fault_told (fault.NotGroup id) = (7, id, 0)
fault_told (fault.IntoItself id) = (8, id, 0)
fault_told (fault.TreeFull n) = (9, n, 0)
fault_told (fault.TooDeep n) = (10, n, 0)
fault_told (fault.BadPlace n) = (11, n, 0)

abbrev pub of_numbers : ℕ × ℕ × ℕ → StrokesOutcome
of_numbers n = record { what = n.0; first = n.1; second = n.2 }

-- an outcome as numbers
abbrev pub outcome_told : Outcome → StrokesOutcome
outcome_told outcome.Done = of_numbers (0, 0, 0)
outcome_told outcome.Cancelled = of_numbers (1, 0, 0)
outcome_told (outcome.Overlap a b) = of_numbers (2, a, b)
outcome_told (outcome.NoLayer id) = of_numbers (3, id, 0)
outcome_told (outcome.NotPaint id) = of_numbers (4, id, 0)
outcome_told (outcome.Tree f) = of_numbers (fault_told f)
outcome_told outcome.NothingToUndo = of_numbers (12, 0, 0)
outcome_told outcome.NothingToRedo = of_numbers (13, 0, 0)
