use Rattle.std.proofs.Common.{◌≡◌, ◌<◌, ℕ, get_or}
use Rattle.pixel_core.specs.Compose.{compose}
use Rattle.pixel_core.specs.declared.blending.Op.TheVariants.{Over}
use Rattle.pixel_core.specs.Rgba.{clear}
use Rattle.pixel_rows.proofs.block.opaque_block.Given as goal

-- the results so far are right
abbrev pub invariant-loop-i : goal.invariant-loop-i
invariant-loop-i l = (k : ℕ) → k < l.i → get_or l.laid k clear ≡ compose Over (get_or l.sources k clear) (get_or l.row k clear) 255
