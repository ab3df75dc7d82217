-- Trees of paint nodes and groups.
use Rattle.std.specs.Prelude.{ℕ, suc, zero, ◌+◌, ◌==◌, Bool, false, ◌||◌, if◌then◌else◌, Option, Some, None, max}
use Rattle.doc_model.specs.declared.tree.Look.{Look}

-- Nodes side by side, from the bottom. A paint node has an id, a look and a content, a group an id, a look and the nodes in it
pub data Forest (A : Type 0) : Type 0 where
  none : Forest A
  paint : ℕ → Look → A → Forest A → Forest A
  group : ℕ → Look → Forest A → Forest A → Forest A

-- the first, or the second where there is no first
abbrev pub or_else : {A : Type 0} → Option A → Option A → Option A
or_else None b = b
or_else (Some x) b = Some x

module _ {A : Type 0} where
  -- how many nodes there are, at all depths
  abbrev pub count : Forest A → ℕ
  count none = 0
  count (paint id look x rest) = 1 + count rest
  count (group id look nodes rest) = 1 + count nodes + count rest

  -- how many stand side by side
  abbrev pub width : Forest A → ℕ
  width none = 0
  width (paint id look x rest) = suc (width rest)
  width (group id look nodes rest) = suc (width rest)

  -- how many levels there are
  abbrev pub height : Forest A → ℕ
  height none = 0
  height (paint id look x rest) = max 1 (height rest)
  height (group id look nodes rest) = max (suc (height nodes)) (height rest)

  -- whether a node has the id q
  abbrev pub has : ℕ → Forest A → Bool
  has q none = false
  has q (paint id look x rest) = (q == id) || has q rest
  has q (group id look nodes rest) = (q == id) || (has q nodes || has q rest)

  -- whether a group has the id q
  abbrev pub is_group : ℕ → Forest A → Bool
  is_group q none = false
  is_group q (paint id look x rest) = is_group q rest
  is_group q (group id look nodes rest) = (q == id) || (is_group q nodes || is_group q rest)

  -- side by side
  abbrev pub join : Forest A → Forest A → Forest A
  join none b = b
  join (paint id look x rest) b = paint id look x (join rest b)
  join (group id look nodes rest) b = group id look nodes (join rest b)

  -- the first n, and the others
  abbrev pub lower : ℕ → Forest A → Forest A
  lower zero f = none
  lower (suc n) none = none
  lower (suc n) (paint id look x rest) = paint id look x (lower n rest)
  lower (suc n) (group id look nodes rest) = group id look nodes (lower n rest)

  -- without the first n
  abbrev pub upper : ℕ → Forest A → Forest A
  upper zero f = f
  upper (suc n) none = none
  upper (suc n) (paint id look x rest) = upper n rest
  upper (suc n) (group id look nodes rest) = upper n rest

  -- the nodes set among the others, n of them below
  abbrev pub inserted : ℕ → Forest A → Forest A → Forest A
  inserted n nodes f = join (lower n f) (join nodes (upper n f))

  -- the children of the group q, changed
  abbrev pub within : ℕ → (Forest A → Forest A) → Forest A → Forest A
  within q change none = none
  within q change (paint id look x rest) = paint id look x (within q change rest)
  within q change (group id look nodes rest) = group id look (if q == id then change nodes else within q change nodes) (within q change rest)

  -- without the node q and all below it
  abbrev pub without : ℕ → Forest A → Forest A
  without q none = none
  without q (paint id look x rest) = if q == id then without q rest else paint id look x (without q rest)
  without q (group id look nodes rest) = if q == id then without q rest else group id look (without q nodes) (without q rest)

  -- the node q with all below it, and nothing else
  abbrev pub only : ℕ → Forest A → Forest A
  only q none = none
  only q (paint id look x rest) = if q == id then paint id look x none else only q rest
  only q (group id look nodes rest) = if q == id then group id look nodes none else join (only q nodes) (only q rest)

  -- the children of the group q
  abbrev pub children : ℕ → Forest A → Forest A
  children q none = none
  children q (paint id look x rest) = children q rest
  children q (group id look nodes rest) = if q == id then nodes else join (children q nodes) (children q rest)

  -- how many groups stand round the node q and itself, or 0 where it isn't there
  abbrev pub depth : ℕ → Forest A → ℕ
  depth q none = 0
  depth q (paint id look x rest) = if q == id then 1 else depth q rest
  depth q (group id look nodes rest) = if q == id then 1 else (if has q nodes then suc (depth q nodes) else depth q rest)

  -- the look of the node q, changed
  abbrev pub with_look : ℕ → Look → Forest A → Forest A
  with_look q new none = none
  with_look q new (paint id look x rest) = paint id (if q == id then new else look) x (with_look q new rest)
  with_look q new (group id look nodes rest) = group id (if q == id then new else look) (with_look q new nodes) (with_look q new rest)

  -- the content of the paint node q, or None where there is no such paint node
  abbrev pub content : ℕ → Forest A → Option A
  content q none = None
  content q (paint id look x rest) = if q == id then Some x else content q rest
  content q (group id look nodes rest) = or_else (content q nodes) (content q rest)

  -- the content of the paint node q, replaced
  abbrev pub with_content : ℕ → A → Forest A → Forest A
  with_content q new none = none
  with_content q new (paint id look x rest) = paint id look (if q == id then new else x) (with_content q new rest)
  with_content q new (group id look nodes rest) = group id look (with_content q new nodes) (with_content q new rest)
