-- A document as its tree and the steps of its layers.
use Rattle.std.specs.Prelude.{ℕ, ◌==◌, if◌then◌else◌, List}
use Rattle.doc_model.specs.Layers.{Layer, plain}
use Rattle.doc_model.specs.Forest.{Forest}
use Rattle.doc_model.specs.Each.{each}
use Rattle.doc_model.specs.Picture.{Doc}
use Rattle.doc_model.specs.declared.tree.Change.{Change}
use Rattle.doc_model.specs.declared.tree.Change.TheVariants as change
use Rattle.plain_painter.specs.declared.layer.Step.{Step}
use Rattle.plain_painter.specs.Steps.{layer_after}

-- the tree with each paint node's layer after these steps
abbrev pub filled : Forest (Unit {0}) → List Step → Doc
filled t steps = each (λ id u. layer_after id steps) t

-- the layers after a change of the tree: one that it sets in has its default pixel everywhere
abbrev pub with_fresh : Change → (ℕ → Layer) → ℕ → Layer
with_fresh (change.Layer id above place pixel) layers q = if id == q then plain pixel else layers q
with_fresh (change.Group id above place) layers q = layers q
with_fresh (change.Remove id) layers q = layers q
with_fresh (change.Place id above place) layers q = layers q
with_fresh (change.Look id look) layers q = layers q
