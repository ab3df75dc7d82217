use Rattle.std.proofs.Common.{◌≡◌, ◌<◌, ℕ, get_or}
use Rattle.pixel_core.specs.Rgba.{clear}
use Rattle.pixel_core.specs.Compose.{compose}
use Rattle.pixel_core.specs.declared.blending.Op.TheVariants.{Over}
use Rattle.pixel_rows.proofs.paper.lay_on_paper.Given as goal

-- the sources so far are laid on the paper
abbrev pub invariant-loop-k : goal.invariant-loop-k
invariant-loop-k l = (j : ℕ) → j < l.k → get_or l.laid j clear ≡ compose Over (get_or l.sources j clear) l.paper 255
