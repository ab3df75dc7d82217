-- The nodes of a part, and those but the part's.
use Rattle.std.proofs.Common.{◌≡◌, ℕ, suc, ◌+◌, ◌-◌, ◌<◌, ◌≤◌, zero, Bool, true, false, ◌&&◌, not, cond, Some, is_some, List, [], ◌∷◌, length, get_or, refl, sym, ap, ◌∙◌, arith, eqb, ltb}
use Rattle.std.specs.Prelude.{slice_range}
use Rattle.std.specs.List.{remove_range}
use Rattle.std.proofs.lemmas.Grind.{common_steps}
use Rattle.std.proofs.lemmas.Bool.Decides.{nat_tests}
use Rattle.geom_core.proofs.Tests.{taken, kept}
use Rattle.doc_model.specs.Forest.{has}
use Rattle.doc_model.specs.Changes.{takes, new_look}
use Rattle.doc_model.proofs.Weights.{tree_root}
use Rattle.tree_core.specs.declared.node.Node.{Node}
use Rattle.tree_core.specs.Nodes.{tree_of, start_in, IsKept}
use Rattle.tree_core.proofs.Passes.{first_with}
use Rattle.tree_core.proofs.Finding.{found_has}
use Rattle.tree_core.proofs.Starts.{Stands, stands, start_at, group_stands, other}

-- a node to read past the end
abbrev blank : Node
blank = record { depth = 0; id = 0; look = new_look; paints = false }

-- a group whose nodes begin there is one of the part
pub begins_in : (s e g : ℕ) → (ltb s g && not (ltb e g)) ≡ true → (s < g) × (g ≤ e)
begins_in s e g h = (grind (arith, nat_tests), grind (arith, nat_tests))

-- or it isn't
pub begins_beside : (s e g : ℕ) → (ltb s g && not (ltb e g)) ≡ false → s < g → e < g
begins_beside s e g h l = grind (arith, nat_tests)

-- a node is found where it stands
found_in : (q : ℕ) (xs : List Node) (j : ℕ) (d : Node) → j < length xs → (get_or xs j d).id ≡ q → is_some (first_with q xs) ≡ true
found_in q [] j d h e = absurd (omega arith)
found_in q (x ∷ xs) zero d h e = ap is_some (taken (eqb x.id q) (Some x) (first_with q xs) (grind (arith, nat_tests)))
found_in q (x ∷ xs) (suc j) d h e = go (eqb x.id q) (found_in q xs j d (omega arith) e)
  where
    go : (b : Bool) → is_some (first_with q xs) ≡ true → is_some (cond b (Some x) (first_with q xs)) ≡ true
    go true r = refl
    go false r = r

module _ (nodes : List Node) (s e : ℕ) (order : s ≤ e) (low : e ≤ length nodes) where
  abbrev left : List Node
  left = remove_range nodes s e

  abbrev moved : List Node
  moved = slice_range nodes s e

  -- so many are left
  pub length_left : length left + (e - s) ≡ length nodes
  length_left = grind (arith, common_steps)

  pub length_moved : length moved ≡ e - s
  length_moved = grind (arith, common_steps)

  get_before : (i : ℕ) (d : Node) → i < s → get_or left i d ≡ get_or nodes i d
  get_before i d h = grind (arith, common_steps)

  get_after : (i : ℕ) (d : Node) → e ≤ i → i < length nodes → get_or left (i - (e - s)) d ≡ get_or nodes i d
  get_after i d h l = grind (arith, common_steps)

  get_moved : (j : ℕ) (d : Node) → j < e - s → get_or moved j d ≡ get_or nodes (s + j) d
  get_moved j d h = grind (arith, common_steps)

  module _ (p : ℕ) (k : IsKept nodes) (t : takes p (tree_of nodes) ≡ true) where
    group : eqb p 0 ≡ false → Stands p nodes
    group i = group_stands p nodes k (other p i) t

    group_start : (i : eqb p 0 ≡ false) → start_in p nodes ≡ suc (group i).at
    group_start i = kept (eqb p 0) _ _ i ∙ (group i).start

    root_start : eqb p 0 ≡ true → start_in p nodes ≡ 0
    root_start i = taken (eqb p 0) _ _ i

    -- a group whose nodes begin in the part stands in it
    pub in_part : s < start_in p nodes → start_in p nodes ≤ e → is_some (first_with p moved) ≡ true
    in_part a b = go (eqb p 0) refl
      where
        go : (b : Bool) → eqb p 0 ≡ b → is_some (first_with p moved) ≡ true
        go true i = absurd (let z : start_in p nodes ≡ 0 = root_start i in omega arith)
        go false i =
            let g : ℕ = (group i).at in
            let z : start_in p nodes ≡ suc g = group_start i in
            let here : s + (g - s) ≡ g = omega arith in
            found_in p moved (g - s) blank (let l : length moved ≡ e - s = length_moved in omega arith) (ap (λ (n : Node). n.id) (get_moved (g - s) blank (omega arith) ∙ ap (λ j. get_or nodes j blank) here) ∙ (group i).id blank)

    module _ (out : s < start_in p nodes → e < start_in p nodes) where
      -- any other doesn't
      pub out_part : is_some (first_with p moved) ≡ false
      out_part = go (is_some (first_with p moved)) refl
        where
          go : (b : Bool) → is_some (first_with p moved) ≡ b → b ≡ false
          go true f = absurd (by_id (eqb p 0) refl)
            where
              m : Stands p moved
              m = stands p moved f

              within : m.at < e - s
              within = let l : length moved ≡ e - s = length_moved in let h : m.at < length moved = m.low in omega arith

              low' : s + m.at < length nodes
              low' = let w : m.at < e - s = within in omega arith

              same : (get_or nodes (s + m.at) blank).id ≡ p
              same = ap (λ (n : Node). n.id) (sym (get_moved m.at blank within)) ∙ m.id blank

              by_id : (b : Bool) → eqb p 0 ≡ b → ⊥
              by_id true i =
                  let root : p ≡ 0 = grind (arith, nat_tests) in
                  let found : is_some (first_with p nodes) ≡ true = found_in p nodes (s + m.at) blank low' same in
                  let lost : is_some (first_with p nodes) ≡ false = found_has p nodes k ∙ ap (λ n. has n (tree_of nodes)) root ∙ tree_root (tree_of nodes) k.once in
                  cc
              by_id false i =
                  let z : start_in p nodes ≡ suc (s + m.at) = start_at p nodes (s + m.at) blank k (other p i) low' same in
                  let in_it : m.at < e - s = within in
                  let no : e < start_in p nodes = out (omega arith) in
                  omega arith
          go false f = refl

      -- where its nodes begin among the others
      pub start_left : IsKept left → start_in p left ≡ cond (ltb s (start_in p nodes)) (start_in p nodes - (e - s)) (start_in p nodes)
      start_left kept_left = by_id (eqb p 0) refl
        where
          by_id : (b : Bool) → eqb p 0 ≡ b → start_in p left ≡ cond (ltb s (start_in p nodes)) (start_in p nodes - (e - s)) (start_in p nodes)
          by_id true i = taken (eqb p 0) _ _ i ∙ sym (kept (ltb s 0) (0 - (e - s)) 0 (grind (arith, nat_tests))) ∙ sym (ap (λ n. cond (ltb s n) (n - (e - s)) n) (root_start i))
          by_id false i = go (ltb s (start_in p nodes)) refl
            where
              g : ℕ
              g = (group i).at

              z : start_in p nodes ≡ suc g
              z = group_start i

              go : (b : Bool) → ltb s (start_in p nodes) ≡ b → start_in p left ≡ cond b (start_in p nodes - (e - s)) (start_in p nodes)
              go true h =
                  let a : s < start_in p nodes = grind (arith, nat_tests) in
                  let y : start_in p nodes ≡ suc g = z in
                  let far : e < start_in p nodes = out a in
                  let long : length left + (e - s) ≡ length nodes = length_left in
                  let l : g < length nodes = (group i).low in
                  let minus : suc (g - (e - s)) ≡ start_in p nodes - (e - s) = omega arith in
                  start_at p left (g - (e - s)) blank kept_left (other p i) (omega arith) (ap (λ (n : Node). n.id) (get_after g blank (omega arith) l) ∙ (group i).id blank) ∙ minus
              go false h =
                  let a : start_in p nodes ≤ s = grind (arith, nat_tests) in
                  let y : start_in p nodes ≡ suc g = z in
                  let long : length left + (e - s) ≡ length nodes = length_left in
                  start_at p left g blank kept_left (other p i) (omega arith) (ap (λ (n : Node). n.id) (get_before g blank (omega arith)) ∙ (group i).id blank) ∙ sym z
