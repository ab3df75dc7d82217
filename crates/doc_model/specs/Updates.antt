-- The list of patches that wait for a walk.
use Rattle.std.specs.Prelude.{◌+◌, ◌==◌, nat_le, Bool, true, false, ◌&&◌, not, if◌then◌else◌, Option, Some, None, List, [], ◌∷◌, ◌++◌, map, length}
use Rattle.std.specs.List.{filter, list_any}
use Rattle.geom_core.specs.Areas.{Area}
use Rattle.geom_core.specs.Overlaps.{bound, clipped}
use Rattle.geom_core.specs.Grid.{cell_of, parts, same_key}
use Rattle.doc_model.specs.declared.canvas.Walk.{Walk}
use Rattle.doc_model.specs.declared.canvas.Walk.TheVariants.{Up, All}
use Rattle.doc_model.specs.declared.canvas.Patch.{Patch}

-- whether the walks are one
abbrev pub same_walk : Walk → Walk → Bool
same_walk All All = true
same_walk (Up a) (Up b) = a == b
same_walk All (Up b) = false
same_walk (Up a) All = false

-- a patch of that walk
abbrev pub patch : Walk → Area → Patch
patch walk rect = record { walk = walk; rect = rect }

-- whether the rectangles lie in one cell
abbrev pub one_cell : Area → Area → Bool
one_cell a b = same_key (cell_of a) (cell_of b)

-- the patch takes the part in where walk and cell are the same
abbrev pub merged : Walk → Area → Patch → Patch
merged walk part p = if same_walk p.walk walk && one_cell p.rect part then patch p.walk (bound p.rect part) else p

-- whether a patch has the walk in the part's cell
abbrev pub has_place : Walk → Area → List Patch → Bool
has_place walk part patches = list_any (λ (p : Patch). same_walk p.walk walk && one_cell p.rect part) patches

-- the patches, each part taken in where one has its place
abbrev pub merge_all : Walk → List Area → List Patch → List Patch
merge_all walk [] patches = patches
merge_all walk (part ∷ more) patches = merge_all walk more (map (merged walk part) patches)

-- the parts that no patch takes in
abbrev pub new_parts : Walk → List Area → List Patch → List Area
new_parts walk more patches = filter (λ part. not (has_place walk part patches)) more

-- the bounding rectangle of a rectangle and all patches
abbrev pub bound_all : Area → List Patch → Area
bound_all rect [] = rect
bound_all rect (p ∷ more) = bound_all (bound rect p.rect) more

-- all groups on the cells of the bounding rectangle
abbrev pub replaced : List Patch → Area → List Patch
replaced patches rect = map (patch All) (parts (bound_all rect patches))

-- the patches with a rectangle of the canvas
abbrev pub added : List Patch → Walk → Area → List Patch
added patches walk rect =
    let fresh = map (patch walk) (new_parts walk (parts rect) patches) in
    if nat_le (length patches + length fresh) 64
    then merge_all walk (parts rect) patches ++ fresh
    else replaced patches rect

-- the same, or the patches where nothing is left of it
abbrev pub queued_part : List Patch → Walk → Option Area → List Patch
queued_part patches walk None = patches
queued_part patches walk (Some rect) = added patches walk rect

-- the rectangle, clipped to the canvas, joins the list
unfoldable pub queued : Area → List Patch → Walk → Area → List Patch
queued canvas patches walk rect = queued_part patches walk (clipped canvas rect)

-- all on the cells, or the patches where nothing is left
abbrev pub refreshed_part : List Patch → Option Area → List Patch
refreshed_part patches None = patches
refreshed_part patches (Some rect) = replaced patches rect

-- the list made new, with the rectangle clipped to the canvas
unfoldable pub refreshed : Area → List Patch → Area → List Patch
refreshed canvas patches rect = refreshed_part patches (clipped canvas rect)
