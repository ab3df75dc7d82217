-- The looks of a tree's nodes, and children by their place.
use Rattle.std.specs.Prelude.{ℕ, ◌-◌, ◌==◌, if◌then◌else◌, Option, Some, None}
use Rattle.doc_model.specs.declared.tree.Look.{Look}
use Rattle.doc_model.specs.Forest.{Forest, none, paint, group, or_else, children}

module _ {A : Type 0} where
  -- the look of the node q, or None where it isn't there
  abbrev pub look_in : ℕ → Forest A → Option Look
  look_in q none = None
  look_in q (paint id look x rest) = if q == id then Some look else look_in q rest
  look_in q (group id look nodes rest) = if q == id then Some look else or_else (look_in q nodes) (look_in q rest)

  -- the id of the k-th of the nodes side by side, from the bottom; k counts from 0
  abbrev pub side_at : ℕ → Forest A → Option ℕ
  side_at k none = None
  side_at k (paint id look x rest) = if k == 0 then Some id else side_at (k - 1) rest
  side_at k (group id look nodes rest) = if k == 0 then Some id else side_at (k - 1) rest

  -- the id of the k-th child of the group q, where the group 0 is the root
  abbrev pub child_in : ℕ → ℕ → Forest A → Option ℕ
  child_in q k t = side_at k (if q == 0 then t else children q t)
