-- What is asked of a tree without pixels.
use Rattle.std.specs.Prelude.{ℕ, ◌==◌, Bool, is_some, if◌then◌else◌, List, [], ◌∷◌, ◌++◌}
use Rattle.std.specs.Option.{unwrap_or}
use Rattle.doc_model.specs.declared.canvas.Walk.{Walk}
use Rattle.doc_model.specs.declared.canvas.Walk.TheVariants.{Up, All}
use Rattle.doc_model.specs.Forest.{Forest, content}
use Rattle.doc_model.specs.Readers.{parent, path, order}

-- the tree of a document
abbrev pub Shape : Type 0
Shape = Forest (Unit {0})

-- whether it has such a paint layer
abbrev pub paints : ℕ → Shape → Bool
paints id tree = is_some (content id tree)

-- the group round a layer
abbrev pub group_of : ℕ → Shape → ℕ
group_of id tree = unwrap_or (parent id 0 tree) 0

-- a node and the groups round it, without the root
abbrev pub up_from : ℕ → Shape → List ℕ
up_from g tree = if g == 0 then [] else path g tree

-- the groups that a walk composes, each after those in it
abbrev pub tree_path : Walk → Shape → List ℕ
tree_path (Up g) tree = if g == 0 then 0 ∷ [] else path g tree ++ 0 ∷ []
tree_path All tree = order tree ++ 0 ∷ []
