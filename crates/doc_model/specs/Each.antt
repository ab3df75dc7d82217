-- Contents of a tree's paint nodes, each by its id.
use Rattle.std.specs.Prelude.{ℕ}
use Rattle.doc_model.specs.Forest.{Forest, group, none, paint}

-- each content by its id
abbrev pub each : {A B : Type 0} → (ℕ → A → B) → Forest A → Forest B
each f none = none
each f (paint id look x rest) = paint id look (f id x) (each f rest)
each f (group id look nodes rest) = group id look (each f nodes) (each f rest)
