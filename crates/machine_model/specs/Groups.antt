-- Groups, their children and caches, and which of them a walk composes.
use Rattle.std.specs.Prelude.{ℕ, ◌==◌, Bool, if◌then◌else◌, List, [], ◌∷◌, ◌++◌, map}
use Rattle.std.specs.Option.{unwrap_or}
use Rattle.std.specs.Ordering.{nat_cmp}
use Rattle.std.specs.List.{list_any}
use Rattle.std.specs.FinMap as map
use Rattle.std.specs.FinMap.{FinMap}
use Rattle.pixel_core.specs.Rgba.{clear}
use Rattle.doc_model.specs.declared.canvas.Walk.{Walk}
use Rattle.doc_model.specs.declared.canvas.Walk.TheVariants.{Up, All}
use Rattle.doc_model.specs.Layers.{Layer, plain}
use Rattle.doc_model.specs.Forest.{none, paint, group, children}
use Rattle.doc_model.specs.Readers.{parent, path, order}
use Rattle.doc_model.specs.Picture.{Doc}
use Rattle.machine_model.specs.State.{Child, State}

-- the cache of a group, clear where it has none
abbrev pub cache : FinMap nat_cmp Layer → ℕ → Layer
cache caches g = unwrap_or (map.get caches g) (plain clear)

-- the children of a group, each with its pixels: of a group the cache
abbrev pub with_pixels : FinMap nat_cmp Layer → Doc → List Child
with_pixels caches none = []
with_pixels caches (paint id look layer rest) = record { id = id; look = look; pixels = layer } ∷ with_pixels caches rest
with_pixels caches (group id look nodes rest) = record { id = id; look = look; pixels = cache caches id } ∷ with_pixels caches rest

-- the nodes in a group; the group 0 is the root
abbrev pub nodes_in : ℕ → Doc → Doc
nodes_in g doc = if g == 0 then doc else children g doc

-- the children of a group as they are now
abbrev pub children_of : State → ℕ → List Child
children_of s g = with_pixels s.caches (nodes_in g s.present)

-- the groups that a walk composes, each after those in it
abbrev pub path_of : Walk → Doc → List ℕ
path_of (Up g) doc = if g == 0 then 0 ∷ [] else path g doc ++ 0 ∷ []
path_of All doc = order doc ++ 0 ∷ []

-- whether the group is on the path
abbrev pub on : ℕ → List ℕ → Bool
on g gs = list_any (λ q. q == g) gs

-- the group round a layer
abbrev pub parent_of : ℕ → Doc → ℕ
parent_of id doc = unwrap_or (parent id 0 doc) 0
