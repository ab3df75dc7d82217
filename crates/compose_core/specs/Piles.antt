-- Children of a group on one tile, laid one on another.
use Rattle.std.specs.Prelude.{◌≡◌, ◌%◌, Bool, ◌==◌, ◌&&◌, not, true, false, List, length}
use Rattle.pixel_core.specs.Rgba.{Rgba}
use Rattle.pixel_core.specs.Canonical.{IsCanonical}
use Rattle.pixel_core.specs.declared.blending.Op.{Op}
use Rattle.pixel_core.specs.declared.blending.Op.TheVariants.{Over, Erase}
use Rattle.geom_core.specs.Areas.{Area, holds, Point}
use Rattle.geom_core.specs.Place.{across, down}
use Rattle.doc_model.specs.declared.tree.Look.{Look}
use Rattle.compose_core.specs.declared.children.Given.{Given}
use Rattle.compose_core.specs.Children.{laid_children, children_on}
use Rattle.compose_core.specs.declared.pile.Pile.{Pile}
use Rattle.compose_core.specs.Spots.{given_on, point_in_tile}

-- children with these looks, laid from the bottom on a clear backdrop at a point of the tile
abbrev pub laid_at : List Look → List Given → Point → Rgba
laid_at looks tiles p = laid_children (children_on looks tiles (across p % 64) (down p % 64))

-- the same of a pile
abbrev pub pile_at : Pile → Point → Rgba
pile_at pile p = laid_at pile.looks.items pile.tiles.items p

-- what is given is canonical at each point
abbrev pub IsClean : Given → Type 0
IsClean given = (p : Point) → IsCanonical (given_on given p)

-- each child has a look and what it has on the tile; what is laid so far is canonical
pub record IsPile (pile : Pile) : Type 0 where
  pub paired : length pile.looks.items ≡ length pile.tiles.items
  pub canonical : (p : Point) → IsCanonical (pile_at pile p)

-- what is given has the pile's pixels on a part whose columns and rows count from the tile's corner
abbrev pub ShowsPile : Pile → Area → Given → Type 0
ShowsPile pile part given = (p : Point) → holds part (point_in_tile p) ≡ true → given_on given p ≡ pile_at pile p

-- whether a source with that look on a clear backdrop is left as it is
abbrev pub shows_itself : Look → Bool
shows_itself look = (look.visible && (look.opacity == 255)) && not (is_erase look.op)
  where
    is_erase : Op → Bool
    is_erase Erase = true
    is_erase op = false

-- whether an opaque source with that look hides what it is laid over
abbrev pub covers : Look → Bool
covers look = (look.visible && (look.opacity == 255)) && is_over look.op
  where
    is_over : Op → Bool
    is_over Over = true
    is_over op = false
