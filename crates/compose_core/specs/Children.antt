-- The children of a group: each one's look, and its pixel at a point.
use Rattle.std.specs.Prelude.{◌≡◌, ℕ, ◌<◌, pos, if◌then◌else◌, List, [], ◌∷◌, map, fold, zip}
use Rattle.pixel_core.specs.Rgba.{Rgba, clear}
use Rattle.geom_core.specs.Areas.{Area, holds, Point, point}
use Rattle.tile_core.specs.Pixels.{Pixels, pixel_of}
use Rattle.doc_model.specs.declared.tree.Look.{Look}
use Rattle.doc_model.specs.Forest.{none, paint, group}
use Rattle.doc_model.specs.Layers.{at}
use Rattle.doc_model.specs.Picture.{Doc, with_look, picture}
use Rattle.compose_core.specs.declared.children.Given.{Given}
use Rattle.compose_core.specs.declared.children.Given.TheVariants.{Held, Plain}

-- a child's pixel laid on what lies below it, with its look
abbrev pub with_child : Rgba → Look × Rgba → Rgba
with_child backdrop child = with_look child.0 child.1 backdrop

-- the children laid from the bottom, on a clear backdrop
abbrev pub laid_children : List (Look × Rgba) → Rgba
laid_children children = fold with_child clear children

-- a child's pixel at a column and a row of the tile
abbrev pub given_at : ℕ → ℕ → Given → Rgba
given_at col row (Held tile) = pixel_of tile col row
given_at col row (Plain p) = p

-- the children at a column and a row of the tile
abbrev pub children_on : List Look → List Given → ℕ → ℕ → List (Look × Rgba)
children_on looks tiles col row = zip looks (map (given_at col row) tiles)

-- the tile has the children's picture on the rectangle, and is clear elsewhere
abbrev pub IsComposed : Area → List Look → List Given → Pixels → Type 0
IsComposed rect looks tiles tile = (col row : ℕ) → col < 64 → row < 64 → pixel_of tile col row ≡ (if holds rect (point (pos col) (pos row)) then laid_children (children_on looks tiles col row) else clear)

-- a group's children at a point of a document, a child that is a group with its own picture there
abbrev pub children_at : Doc → Point → List (Look × Rgba)
children_at none p = []
children_at (paint id look layer rest) p = (look, at layer p) ∷ children_at rest p
children_at (group id look nodes rest) p = (look, picture nodes p) ∷ children_at rest p

-- the picture of a group is that of its children's pictures
abbrev pub PictureOfPictures : Type 0
PictureOfPictures = (nodes : Doc) (p : Point) → picture nodes p ≡ laid_children (children_at nodes p)
