use Rattle.std.proofs.Common.{ℕ, ◌<◌, get_or}
use Rattle.pixel_core.specs.Rgba.{clear}
use Rattle.pixel_core.specs.Canonical.{IsCanonical}
use Rattle.pixel_rows.proofs.block.tell_canonical.Given as goal

-- the pixels so far are
abbrev pub invariant-loop-i : goal.invariant-loop-i
invariant-loop-i l = (k : ℕ) → k < l.i → IsCanonical (get_or l.pixels k clear)
