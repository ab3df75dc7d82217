use Rattle.std.proofs.Common.{◌≡◌, ℕ, ◌<◌, get_or}
use Rattle.pixel_core.specs.Rgba.{clear}
use Rattle.compose_core.proofs.pile.is_all_opaque.Given as goal

-- the pixels so far are opaque
abbrev pub invariant-loop-pixel : goal.invariant-loop-pixel
invariant-loop-pixel l = (k : ℕ) → k < l.pixel-index → (get_or l.pixels k clear).a ≡ 255
