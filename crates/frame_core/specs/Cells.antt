-- What a frame has on one tile.
use Rattle.frame_core.specs.Plies.{Content, IsStack, of_pixels, of_plies}
use Rattle.frame_core.specs.declared.cell.Kept.{Kept}
use Rattle.frame_core.specs.declared.cell.Kept.TheVariants as kept

-- the pixels that are kept, or the plies
abbrev pub content : Kept → Content
content (kept.Pixels tile) = of_pixels tile
content (kept.Plies plies) = of_plies plies.value.items

-- of plies each group is closed
abbrev pub IsCell : Kept → Type 0
IsCell (kept.Pixels tile) = Unit {0}
IsCell (kept.Plies plies) = IsStack plies.value.items
