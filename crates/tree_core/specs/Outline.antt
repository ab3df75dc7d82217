-- The visible nodes of a tree, in the order in which they are laid.
use Rattle.std.specs.Prelude.{ℕ, suc, List, [], ◌∷◌, ◌++◌, if◌then◌else◌}
use Rattle.doc_model.specs.Forest.{Forest, none, paint, group}
use Rattle.doc_model.specs.Flat.{Row, read}
use Rattle.tree_core.specs.declared.node.Node.{Node}
use Rattle.tree_core.specs.declared.outline.Stage.{Stage}
use Rattle.tree_core.specs.declared.outline.Stage.TheVariants.{Layer, Open, Close}

-- each visible node from the bottom, what stands in a group between its beginning and its end
abbrev pub outline : {A : Type 0} → Forest A → List Stage
outline none = []
outline (paint id look x rest) = if look.visible then Layer id look ∷ outline rest else outline rest
outline (group id look nodes rest) = if look.visible then Open ∷ (outline nodes ++ Close look ∷ outline rest) else outline rest

-- what comes from the rows on, where these groups stand round the first row, the outermost of them at the depth d first
abbrev pub outline_due : {A : Type 0} → ℕ → List Node → List (Row A) → List Stage
outline_due d [] rows = outline (read d rows)
outline_due d (g ∷ gs) rows = outline_due (suc d) gs rows ++ Close g.look ∷ outline (read d rows)
