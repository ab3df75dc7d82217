use Rattle.std.proofs.Common.{◌≡◌, ◌<◌, ℕ, get_or}
use Rattle.pixel_core.specs.Compose.{compose}
use Rattle.pixel_core.specs.Rgba.{clear}
use Rattle.pixel_rows.proofs.block.mixed_block.Given as goal

-- the results so far are right
abbrev pub invariant-loop-i : goal.invariant-loop-i
invariant-loop-i g l = (k : ℕ) → k < l.i → get_or l.laid k clear ≡ compose g.M.Mix.operation (get_or l.sources k clear) (get_or l.row k clear) 255
