-- Parts of a list in each other's place.
use Rattle.std.proofs.Common.{◌≡◌, ℕ, ◌+◌, ◌-◌, List, [], ◌++◌, take, drop, map, sym, ap, ◌∙◌, arith}
use Rattle.std.specs.Prelude.{slice_range}
use Rattle.std.proofs.lemmas.List.{take-map, drop-map}
use Rattle.tree_core.specs.declared.node.Node.{Node}
use Rattle.tree_core.specs.declared.turn.Turn.{Turn}
use Rattle.tree_core.specs.Nodes.{row_of, rows_of}
use Rattle.tree_core.specs.Exchanges.{brought, part, replaced, turned}
use Rattle.tree_core.proofs.Replaced.{map_replaced}

-- the rows of a part
part_rows : (nodes : List Node) (a b n : ℕ) → b - a ≡ n → rows_of (slice_range nodes a b) ≡ part a n (rows_of nodes)
part_rows nodes a b n e = ap (λ m. rows_of (take m (drop a nodes))) e ∙ sym (take-map row_of n (drop a nodes)) ∙ ap (take n) (sym (drop-map row_of a nodes))

-- the nodes with the parts in each other's place have those rows
pub turned_rows : (t : Turn) (nodes new parts second none : List Node) → none ≡ [] → new ≡ replaced t.at (t.at + (t.first.count + t.second.count) - t.at) parts nodes
    → rows_of second ≡ rows_of none ++ map (brought t.second) (rows_of (slice_range nodes (t.at + t.first.count) (t.at + (t.first.count + t.second.count))))
    → rows_of parts ≡ rows_of second ++ map (brought t.first) (rows_of (slice_range nodes t.at (t.at + t.first.count))) → rows_of new ≡ turned t (rows_of nodes)
turned_rows t nodes new parts second none empty is seconds both =
    let long : t.at + (t.first.count + t.second.count) - t.at ≡ t.first.count + t.second.count = omega arith in
    let a = part_rows nodes (t.at + t.first.count) (t.at + (t.first.count + t.second.count)) t.second.count (omega arith) in
    let b = part_rows nodes t.at (t.at + t.first.count) t.first.count (omega arith) in
    ap rows_of is ∙ map_replaced row_of t.at (t.at + (t.first.count + t.second.count) - t.at) parts nodes
    ∙ (λ i. replaced t.at (long i) ((both ∙ (λ j. (seconds ∙ (λ k. rows_of (empty k) ++ map (brought t.second) (a k))) j ++ map (brought t.first) (b j))) i) (rows_of nodes))
