-- A tree as the list of its nodes, each before those in it.
use Rattle.std.specs.Prelude.{◌≡◌, ℕ, suc, ◌+◌, ◌==◌, ◌-◌, nat_lt, ◌≤◌, Bool, true, false, if◌then◌else◌, Option, Some, None, List, [], ◌∷◌, ◌++◌, map, take, drop, slice_range, max, min}
use Rattle.std.specs.List.{position_or_len, remove_range}
use Rattle.doc_model.specs.declared.tree.Look.{Look}
use Rattle.doc_model.specs.Forest.{Forest, height, depth}
use Rattle.doc_model.specs.Flat.{Row, flat, read}
use Rattle.doc_model.specs.Ids.{IsTree}
use Rattle.tree_core.specs.declared.node.Node.{Node}
use Rattle.tree_core.specs.declared.edits.Route.{Route}

-- the tree of a document without its layers' pixels
abbrev pub Tree : Type 0
Tree = Forest (Unit {0})

-- a paint layer has an empty content, a group has none
abbrev pub content_of : Bool → Option (Unit {0})
content_of true = Some tt
content_of false = None

-- a node as a row of the flat form
abbrev pub row_of : Node → Row (Unit {0})
row_of n = record { depth = n.depth; id = n.id; look = n.look; content = content_of n.paints }

-- the nodes as rows
abbrev pub rows_of : List Node → List (Row (Unit {0}))
rows_of nodes = map row_of nodes

-- the tree that the nodes stand for
abbrev pub tree_of : List Node → Tree
tree_of nodes = read 0 (rows_of nodes)

-- the nodes are those of a tree of the limits: nothing is lost, no id stands twice or is 0, and none is deeper than 16
pub record IsKept (nodes : List Node) : Type 0 where
  pub whole : rows_of nodes ≡ flat 0 (tree_of nodes)
  pub once : IsTree (tree_of nodes)
  pub low : height (tree_of nodes) ≤ 16

-- the node, with that look where it is q
abbrev pub node_with_look : ℕ → Look → Node → Node
node_with_look q look n = if n.id == q then record n { look = look } else n

-- a node of a branch at its new depth: the children of the branch's first node stood at a, and that node now stands at b
abbrev pub moved_node : ℕ → ℕ → Node → Node
moved_node a b n = record n { depth = min ((n.depth + 1 + b) - a) 255 }

-- where the nodes in the group q begin: right after it, and at the front where q is the root
abbrev pub start_in : ℕ → List Node → ℕ
start_in q nodes = if q == 0 then 0 else suc (position_or_len (λ n. n.id == q) nodes)

-- how many nodes stand before the place k among those at the depth d, up to the first above them
abbrev pub nodes_before : ℕ → ℕ → List Node → ℕ
nodes_before d k [] = 0
nodes_before d k (n ∷ ns) = if nat_lt n.depth d then 0 else (if n.depth == d then (if k == 0 then 0 else suc (nodes_before d (k - 1) ns)) else suc (nodes_before d k ns))

-- how many nodes stand before the place k of the group q
abbrev pub at_place : ℕ → ℕ → List Node → ℕ
at_place q k nodes = start_in q nodes + nodes_before (depth q (tree_of nodes)) k (drop (start_in q nodes) nodes)

-- the nodes with a branch taken out and set in again, at its new place and depths
abbrev pub moved_along : Route → List Node → List Node
moved_along r nodes = take r.at (remove_range nodes r.branch.start r.branch.end) ++ (map (moved_node r.from r.to) (slice_range nodes r.branch.start r.branch.end) ++ drop r.at (remove_range nodes r.branch.start r.branch.end))

-- the id of the last node above the depth d, or best where there is none
abbrev pub last_low : ℕ → ℕ → List Node → ℕ
last_low d best [] = best
last_low d best (n ∷ ns) = last_low d (if nat_lt n.depth d then n.id else best) ns

-- the greatest depth, or 0 where there is no node
abbrev pub greatest_depth : List Node → ℕ
greatest_depth [] = 0
greatest_depth (n ∷ ns) = max n.depth (greatest_depth ns)

-- how many levels a node has with those below it, which come after it
abbrev pub levels : List Node → ℕ
levels [] = 0
levels (n ∷ ns) = (max n.depth (greatest_depth ns) + 1) - n.depth
