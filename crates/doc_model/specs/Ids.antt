-- How often ids stand in a tree.
use Rattle.std.specs.Prelude.{◌≡◌, ◌≤◌, ℕ, ◌+◌, ◌==◌, cond}
use Rattle.doc_model.specs.Forest.{Forest, none, paint, group}

-- the sum of a number for each node, by its id
abbrev pub weight : {A : Type 0} → (ℕ → ℕ) → Forest A → ℕ
weight w none = 0
weight w (paint id look x rest) = w id + weight w rest
weight w (group id look nodes rest) = w id + (weight w nodes + weight w rest)

-- 1 for the id q, and 0 for others
abbrev pub mark : ℕ → ℕ → ℕ
mark q id = cond (q == id) 1 0

-- how often the id q stands there
abbrev pub times : {A : Type 0} → ℕ → Forest A → ℕ
times q f = weight (mark q) f

-- each id stands once at most, and none is that of the root
pub record IsTree {A : Type 0} (f : Forest A) : Type 0 where
  pub root : times 0 f ≡ 0
  pub once : (q : ℕ) → times q f ≤ 1
