-- A node with another look.
use Rattle.std.proofs.Common.{◌≡◌, ℕ, suc, ◌≢◌, ◌≤◌, ◌<◌, ◌+◌, Bool, true, false, ◌||◌, cond, Some, None, is_some, List, [], ◌∷◌, ◌++◌, map, length, get_or, set, take, drop, refl, sym, ap, ◌∙◌, arith, eqb, subst, append_assoc}
use Rattle.std.specs.List.{refill}
use Rattle.std.proofs.lemmas.List.{map-append, map_more, take_more, length-map}
use Rattle.std.proofs.lemmas.Grind.{common_steps}
use Rattle.std.proofs.lemmas.Bool.Decides.{nat_tests}
use Rattle.geom_core.proofs.Tests.{taken, kept, none_left, none_right}
use Rattle.doc_model.specs.declared.tree.Look.{Look}
use Rattle.doc_model.specs.Forest.{none, paint, group, has, with_look}
use Rattle.doc_model.specs.Flat.{Row, flat}
use Rattle.doc_model.proofs.TreeChanges.{tree_look}
use Rattle.doc_model.proofs.Heights.{height_look}
use Rattle.tree_core.specs.declared.node.Node.{Node}
use Rattle.tree_core.specs.Nodes.{Tree, row_of, content_of, tree_of, IsKept, node_with_look}
use Rattle.tree_core.proofs.Choices.{turned}
use Rattle.tree_core.proofs.Kept.{tree_from, kept_from}
use Rattle.tree_core.proofs.Passes.{first_with, next_node}

-- another look
abbrev relook_row : ℕ → Look → Row (Unit {0}) → Row (Unit {0})
relook_row q look r = record r { look = cond (eqb q r.id) look r.look }

-- the rows of the tree with that look
flat_look : (q d : ℕ) (look : Look) (f : Tree) → map (relook_row q look) (flat d f) ≡ flat d (with_look q look f)
flat_look q d look none = refl
flat_look q d look (paint id l x rest) = ap (λ rs. record { depth = d; id = id; look = cond (eqb q id) look l; content = Some x } ∷ rs) (flat_look q d look rest)
flat_look q d look (group id l nodes rest) = ap (λ rs. record { depth = d; id = id; look = cond (eqb q id) look l; content = None } ∷ rs)
    (map-append (relook_row q look) (flat (suc d) nodes) (flat d rest) ∙ ap (λ rs. rs ++ map (relook_row q look) (flat d rest)) (flat_look q (suc d) look nodes) ∙ ap (λ rs. flat (suc d) (with_look q look nodes) ++ rs) (flat_look q d look rest))

-- a node's row
relook_is : (q : ℕ) (look : Look) (n : Node) → row_of (node_with_look q look n) ≡ relook_row q look (row_of n)
relook_is q look n = go (eqb n.id q) ∙ ap (λ b. record { depth = n.depth; id = n.id; look = cond b look n.look; content = content_of n.paints }) (turned n.id q)
  where
    go : (b : Bool) → row_of (cond b (record n { look = look }) n) ≡ record { depth = n.depth; id = n.id; look = cond b look n.look; content = content_of n.paints }
    go true = refl
    go false = refl

-- the same of nodes
relook_rows : (q : ℕ) (look : Look) (nodes : List Node) → map row_of (map (node_with_look q look) nodes) ≡ map (relook_row q look) (map row_of nodes)
relook_rows q look [] = refl
relook_rows q look (n ∷ ns) = both (relook_is q look n) (relook_rows q look ns)
  where
    both : {A : Type 0} {x y : A} {xs ys : List A} → x ≡ y → xs ≡ ys → x ∷ xs ≡ y ∷ ys
    both e h i = e i ∷ h i

-- the same of the nodes of a tree
look_flat : (q : ℕ) (look : Look) (nodes : List Node) → IsKept nodes → map row_of (map (node_with_look q look) nodes) ≡ flat 0 (with_look q look (tree_of nodes))
look_flat q look nodes k = relook_rows q look nodes ∙ ap (map (relook_row q look)) k.whole ∙ flat_look q 0 look (tree_of nodes)

-- the nodes stand for the tree with that look
pub tree_relook : (q : ℕ) (look : Look) (nodes : List Node) → IsKept nodes → tree_of (map (node_with_look q look) nodes) ≡ with_look q look (tree_of nodes)
tree_relook q look nodes k = tree_from (map (node_with_look q look) nodes) (with_look q look (tree_of nodes)) (look_flat q look nodes k)

-- and are a tree of the limits
pub kept_relook : (q : ℕ) (look : Look) (nodes : List Node) → IsKept nodes → IsKept (map (node_with_look q look) nodes)
kept_relook q look nodes k =
    kept_from (map (node_with_look q look) nodes) (with_look q look (tree_of nodes)) (look_flat q look nodes k) (tree_look q look (tree_of nodes) k.once) (subst (λ n. n ≤ 16) (sym (height_look q look (tree_of nodes))) k.low)

-- the nodes are written back whole
pub filled : (nodes new : List Node) → length new ≡ length nodes → refill (length nodes) nodes new ≡ new
filled nodes new e = grind (arith, common_steps, e)

-- and so are those with that look
pub look_filled : (q : ℕ) (look : Look) (nodes new : List Node) → new ≡ map (node_with_look q look) nodes → refill (length nodes) nodes new ≡ map (node_with_look q look) nodes
look_filled q look nodes new e = filled nodes new (ap length e ∙ length-map nodes (node_with_look q look)) ∙ e

-- no look of another node changes
pub look_lost : (q : ℕ) (look : Look) (f : Tree) → has q f ≡ false → with_look q look f ≡ f
look_lost q look none h = refl
look_lost q look (paint id l x rest) h = ap (λ m. paint id m x (with_look q look rest)) (kept (eqb q id) look l (none_left (eqb q id) _ h)) ∙ ap (paint id l x) (look_lost q look rest (none_right (eqb q id) _ h))
look_lost q look (group id l nodes rest) h = ap (λ m. group id m (with_look q look nodes) (with_look q look rest)) (kept (eqb q id) look l (none_left (eqb q id) _ h))
    ∙ ap (λ f. group id l f (with_look q look rest)) (look_lost q look nodes (none_left (has q nodes) _ (none_right (eqb q id) _ h))) ∙ ap (group id l nodes) (look_lost q look rest (none_right (has q nodes) _ (none_right (eqb q id) _ h)))

-- what the first i nodes with that look and the others left are
abbrev Looked : ℕ → Look → List Node → List Node → ℕ → Bool → Type 0
Looked q look old now i there = (now ≡ map (node_with_look q look) (take i old) ++ drop i old) × (there ≡ is_some (first_with q (take i old)))

-- one more node is found where it has the id
found_more : (q : ℕ) (xs : List Node) (n : Node) → is_some (first_with q (xs ++ (n ∷ []))) ≡ (is_some (first_with q xs) || eqb n.id q)
found_more q [] n = go (eqb n.id q)
  where
    go : (b : Bool) → is_some (cond b (Some n) None) ≡ (false || b)
    go true = refl
    go false = refl
found_more q (x ∷ xs) n = go (eqb x.id q) (found_more q xs n)
  where
    go : (b : Bool) → is_some (first_with q (xs ++ (n ∷ []))) ≡ (is_some (first_with q xs) || eqb n.id q) → is_some (cond b (Some x) (first_with q (xs ++ (n ∷ [])))) ≡ (is_some (cond b (Some x) (first_with q xs)) || eqb n.id q)
    go true e = refl
    go false e = e

-- a node set at a seam
pub set_at : (xs : List Node) (x y : Node) (ys : List Node) → set (xs ++ (x ∷ ys)) (length xs) y ≡ xs ++ (y ∷ ys)
set_at [] x y ys = refl
set_at (z ∷ xs) x y ys = ap (λ zs. z ∷ zs) (set_at xs x y ys)

-- the node at a seam
pub get_at : (xs : List Node) (x d : Node) (ys : List Node) → get_or (xs ++ (x ∷ ys)) (length xs) d ≡ x
get_at [] x d ys = refl
get_at (z ∷ xs) x d ys = get_at xs x d ys

module _ (q : ℕ) (look : Look) (old now : List Node) (i : ℕ) (d : Node) (there : Bool) (now' : List Node) (there' : Bool) (h : i < length old) (so : Looked q look old now i there) where
  abbrev front : List Node
  front = map (node_with_look q look) (take i old)

  many : length front ≡ i
  many = length-map (take i old) (node_with_look q look) ∙ grind (arith, common_steps)

  split : now ≡ front ++ (get_or old i d ∷ drop (i + 1) old)
  split = so.0 ∙ ap (λ xs. front ++ xs) (next_node old i d h)

  here : get_or now i d ≡ get_or old i d
  here = ap (λ xs. get_or xs i d) split ∙ ap (λ n. get_or (front ++ (get_or old i d ∷ drop (i + 1) old)) n d) (sym many) ∙ get_at front (get_or old i d) d (drop (i + 1) old)

  more : map (node_with_look q look) (take (i + 1) old) ++ drop (i + 1) old ≡ front ++ (node_with_look q look (get_or old i d) ∷ drop (i + 1) old)
  more = ap (λ xs. xs ++ drop (i + 1) old) (map_more (node_with_look q look) old i d h) ∙ append_assoc front (node_with_look q look (get_or old i d) ∷ []) (drop (i + 1) old)

  found : is_some (first_with q (take (i + 1) old)) ≡ (there || eqb (get_or old i d).id q)
  found = ap (λ xs. is_some (first_with q xs)) (take_more old i d h) ∙ found_more q (take i old) (get_or old i d) ∙ ap (λ b. b || eqb (get_or old i d).id q) (sym so.1)

  -- the node has the id, and gets the look
  pub look_set : (get_or now i d).id ≡ q → now' ≡ set now i (record (get_or now i d) { look = look }) → there' ≡ true → Looked q look old now' (i + 1) there'
  look_set e n t = (
    n ∙ ap (λ (x : Node). set now i (record x { look = look })) here ∙ ap (λ xs. set xs i (record (get_or old i d) { look = look })) split
        ∙ ap (λ j. set (front ++ (get_or old i d ∷ drop (i + 1) old)) j (record (get_or old i d) { look = look })) (sym many) ∙ set_at front (get_or old i d) (record (get_or old i d) { look = look }) (drop (i + 1) old)
        ∙ ap (λ x. front ++ (x ∷ drop (i + 1) old)) (sym (taken (eqb (get_or old i d).id q) (record (get_or old i d) { look = look }) (get_or old i d) yes_it)) ∙ sym more,
    t ∙ sym (found ∙ ap (λ b. there || b) yes_it ∙ or_true there),
  )
    where
      yes_it : eqb (get_or old i d).id q ≡ true
      yes_it = let is : (get_or old i d).id ≡ q = ap (λ (x : Node). x.id) (sym here) ∙ e in grind (arith, nat_tests)

      or_true : (b : Bool) → (b || true) ≡ true
      or_true true = refl
      or_true false = refl

  -- the node hasn't the id, and stays
  pub look_kept : (get_or now i d).id ≢ q → now' ≡ now → there' ≡ there → Looked q look old now' (i + 1) there'
  look_kept e n t = (
    n ∙ split ∙ ap (λ x. front ++ (x ∷ drop (i + 1) old)) (sym (kept (eqb (get_or old i d).id q) (record (get_or old i d) { look = look }) (get_or old i d) other)) ∙ sym more,
    t ∙ sym (found ∙ ap (λ b. there || b) other ∙ or_none there),
  )
    where
      other : eqb (get_or old i d).id q ≡ false
      other = let is : (get_or now i d).id ≡ (get_or old i d).id = ap (λ (x : Node). x.id) here in grind (arith, nat_tests)

      or_none : (b : Bool) → (b || false) ≡ b
      or_none true = refl
      or_none false = refl
