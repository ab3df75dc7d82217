-- Contents of a tree's paint nodes, changed by a function.
use Rattle.std.specs.Prelude.{ℕ, ◌==◌, if◌then◌else◌}
use Rattle.doc_model.specs.Forest.{Forest, group, none, paint}

module _ {A : Type 0} where
  -- the content of the paint node q, changed by a function
  abbrev pub adjusted : ℕ → (A → A) → Forest A → Forest A
  adjusted q change none = none
  adjusted q change (paint id look x rest) = paint id look (if q == id then change x else x) (adjusted q change rest)
  adjusted q change (group id look nodes rest) = group id look (adjusted q change nodes) (adjusted q change rest)
