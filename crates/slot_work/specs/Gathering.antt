-- What a walk reads of a document and of caches.
use Rattle.std.specs.Prelude.{◌≡◌, ℕ, suc, if◌then◌else◌, List, [], ◌∷◌}
use Rattle.std.specs.Ordering.{nat_cmp}
use Rattle.std.specs.FinMap.{FinMap}
use Rattle.doc_model.specs.declared.canvas.Patch.{Patch}
use Rattle.doc_model.specs.Forest.{upper}
use Rattle.doc_model.specs.Layers.{Layer}
use Rattle.doc_model.specs.Picture.{Doc}
use Rattle.doc_model.specs.Changes.{takes}
use Rattle.machine_model.specs.State.{Child, State}
use Rattle.machine_model.specs.Groups.{cache, nodes_in, with_pixels}
use Rattle.machine_model.specs.Effects.{layer_in}
use Rattle.machine_model.specs.Walks.{cut_child, walk_shot}
use Rattle.desk_steps.specs.Archives.{Archive}
use Rattle.walker_core.specs.Readings.{Readings, readings, with_child}

-- these are what a walk of the patch reads in a state of that document and those caches
abbrev pub ReadsWalk : Doc → FinMap nat_cmp Layer → Patch → Readings → Type 0
ReadsWalk doc caches patch r = (s : State) → s.present ≡ doc → s.caches ≡ caches → r ≡ readings patch (walk_shot s patch)

-- the pixels of a node: of a group its cache
abbrev pub pixels_in : FinMap nat_cmp Layer → Doc → ℕ → Layer
pixels_in caches doc id = if takes id doc then cache caches id else layer_in id doc

-- with these children on top of the group's others, one after another
abbrev pub with_children : Readings → ℕ → List Child → Readings
with_children r g [] = r
with_children r g (c ∷ cs) = with_children (with_child r g (cut_child r.patch.rect c)) g cs

-- the children of a group come on top of its others
abbrev pub AddsChildren : FinMap nat_cmp Layer → Archive → ℕ → Readings → Readings → Type 0
AddsChildren caches a g old new = new ≡ with_children old g (with_pixels caches (nodes_in g a.present))

-- the child at a place comes on top of the group's others: with those above it this is what it was with them and the child
abbrev pub AddsChild : FinMap nat_cmp Layer → Archive → ℕ → ℕ → Readings → Readings → Type 0
AddsChild caches a g k old new = with_children new g (with_pixels caches (upper (suc k) (nodes_in g a.present))) ≡ with_children old g (with_pixels caches (upper k (nodes_in g a.present)))

-- with the children of each of the groups
abbrev pub filled : FinMap nat_cmp Layer → Doc → Readings → List ℕ → Readings
filled caches doc r [] = r
filled caches doc r (g ∷ gs) = filled caches doc (with_children r g (with_pixels caches (nodes_in g doc))) gs
