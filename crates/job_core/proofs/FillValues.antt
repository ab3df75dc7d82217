-- What a fill leaves.
use Rattle.std.proofs.Common.{◌≡◌, ◌*◌, List, [], ◌∷◌, length, refl, sym, ap, ◌∙◌}
use Rattle.pixel_core.specs.Rgba.{Rgba}
use Rattle.pixel_core.specs.Compose.{compose}
use Rattle.pixel_rows.specs.Rows.{LaysRow}
use Rattle.geom_core.specs.Areas.{Area, Point}
use Rattle.geom_core.specs.Rects.{place_in, IsShared}
use Rattle.geom_core.specs.Grid.{Key, tile}
use Rattle.geom_core.proofs.Tests.{and_left}
use Rattle.tile_core.specs.Blocks.{Piece}
use Rattle.tile_core.specs.Shots.{Sight, sight_at}
use Rattle.tile_core.specs.Pixels.{HasPixels}
use Rattle.tile_core.proofs.Taken.{place_small}
use Rattle.job_core.specs.declared.ink.Ink.{Ink}
use Rattle.job_core.specs.Paints.{paint, IsPainted}
use Rattle.job_core.specs.Due.{IsDue}
use Rattle.job_core.specs.Tasks.{fill_of}
use Rattle.job_core.proofs.Values.{seen_at, painted_once}
use Rattle.job_core.proofs.Keys.{due_key}
use Rattle.job_core.specs.Made.{IsBlock}

pub fill_painted : (rect part : Area) (ink : Ink) (s : Sight) (key : Key) (b : Piece) → IsDue (fill_of rect ink) s key → IsShared rect (tile key) part
    → IsBlock key part (λ p. compose ink.op ink.colour (sight_at s p) ink.strength) b → IsPainted (paint (fill_of rect ink) s key (b ∷ []))
fill_painted rect part ink s key b due shared is = painted_once (fill_of rect ink) s key rect part _ b refl (due_key _ _ _ due) shared is
    (λ p h. ap (λ q. compose ink.op ink.colour q ink.strength) (sym (seen_at s rect p (and_left _ _ due.seen) h)))

-- ink laid on each of a rectangle's pixels
pub inked_pixels : (ink : Ink) (a : Area) (g : Point → Rgba) (old new : List Rgba) → length old ≡ a.h * a.w → HasPixels a g old → LaysRow ink.op (λ _. ink.colour) (λ _. ink.strength) old new → HasPixels a (λ p. compose ink.op ink.colour (g p) ink.strength) new
inked_pixels ink a g old new n has each p h = each (place_in a p) (rw n (place_small a p h)) ∙ ap (λ q. compose ink.op ink.colour q ink.strength) (has p h)
