-- What is asked of a tree, node by node.
use Rattle.std.specs.Prelude.{ℕ, ◌==◌, if◌then◌else◌, Option, Some, None, List, [], ◌∷◌, ◌++◌}
use Rattle.doc_model.specs.Forest.{Forest, none, paint, group, has}

module _ {A : Type 0} where
  -- the group in which the node q stands, or None where q isn't there. above is the group round all
  abbrev pub parent : ℕ → ℕ → Forest A → Option ℕ
  parent q above none = None
  parent q above (paint id look x rest) = if q == id then Some above else parent q above rest
  parent q above (group id look nodes rest) = if q == id then Some above else (if has q nodes then parent q id nodes else parent q above rest)

  -- q and the groups above it, up to but without the one round all; [] where q isn't there
  abbrev pub path : ℕ → Forest A → List ℕ
  path q none = []
  path q (paint id look x rest) = if q == id then id ∷ [] else path q rest
  path q (group id look nodes rest) = if q == id then id ∷ [] else (if has q nodes then path q nodes ++ id ∷ [] else path q rest)

  -- the groups, each after those in it
  abbrev pub order : Forest A → List ℕ
  order none = []
  order (paint id look x rest) = order rest
  order (group id look nodes rest) = order nodes ++ (id ∷ order rest)
