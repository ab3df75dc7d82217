-- What numbers say that stand for a line.
use Rattle.std.specs.Prelude.{◌≡◌, ℕ, ◌/◌, ◌%◌, ◌^◌, ℤ, ◌==◌, nat_le, Bool, true, false, ◌&&◌, if◌then◌else◌, Option, Some, None}
use Rattle.std.specs.Option.{option_and_then, option_map}
use Rattle.pixel_core.specs.Rgba.{Rgba, if_canonical}
use Rattle.pixel_core.specs.declared.blending.Op.{Op}
use Rattle.pixel_core.specs.declared.blending.Op.TheVariants.{Over, Erase, Multiply, Screen, Addition}
use Rattle.doc_model.specs.declared.command.Command.{Command}
use Rattle.doc_model.specs.declared.command.Command.TheVariants as command
use Rattle.doc_model.specs.declared.job.Job.TheVariants.{Dab}
use Rattle.doc_model.specs.declared.job.Kind.{Kind}
use Rattle.doc_model.specs.declared.job.Kind.TheVariants.{Con, Seq, Bar, Uni}
use Rattle.doc_model.specs.declared.track.Stamp.{Stamp}
use Rattle.doc_model.specs.Lawful.{within_limits}
use Rattle.script_forms.specs.Ranges.{is_coordinate}
use Rattle.host_lines.specs.declared.structs.StrokesBrush.{StrokesBrush}

abbrev pub kind_by : ℕ → Option Kind
kind_by n = if n == 0 then Some Con else if n == 1 then Some Seq else if n == 2 then Some Bar else if n == 3 then Some Uni else None

abbrev pub op_by : ℕ → Option Op
op_by n =
    if n == 0 then Some Over else if n == 1 then Some Erase else if n == 2 then Some Multiply
    else if n == 3 then Some Screen else if n == 4 then Some Addition else None

abbrev pub soft_by : ℕ → Option Bool
soft_by n = if n == 0 then Some false else if n == 1 then Some true else None

-- red, green, blue and alpha, the red highest
abbrev pub colour_by : ℕ → Rgba
colour_by n = if_canonical (n / 2 ^ 24) ((n / 2 ^ 16) % 256) ((n / 2 ^ 8) % 256) (n % 256)

-- what a brush lays, where its numbers are in their ranges
unfoldable pub stamp_by : StrokesBrush → Option Stamp
stamp_by b = if nat_le b.radius 128
    then option_and_then (λ soft. option_map (λ op. record { r = b.radius; soft = soft; colour = colour_by b.colour; op = op; strength = b.strength }) (op_by b.op)) (soft_by b.soft)
    else None

abbrev pub begin_by : ℕ → ℕ → Bool → Option Command
begin_by n layer exclusive = if layer == 0 then None else Some (command.Stroke n layer exclusive)

abbrev pub dab_on : ℕ → Kind → ℤ → ℤ → Stamp → Command
dab_on n kind x y s = command.Add n kind (Dab x y s.r s.soft s.colour s.op s.strength)

unfoldable pub dab_by : ℕ → ℕ → ℤ → ℤ → StrokesBrush → Option Command
dab_by n kind x y b = if is_coordinate x && is_coordinate y
    then option_and_then (λ k. option_map (dab_on n k x y) (stamp_by b)) (kind_by kind)
    else None

-- its job, if it has one, meets the limits
abbrev pub IsOfLimits : Command → Type 0
IsOfLimits (command.Add n kind job) = within_limits job ≡ true
IsOfLimits c = Unit {0}
