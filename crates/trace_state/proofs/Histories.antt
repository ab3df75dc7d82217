-- A history that goes back and forth by links.
use Rattle.std.proofs.Common.{◌≡◌, ℕ, suc, zero, List, [], ◌∷◌, take, refl, ap}
use Rattle.trace_state.specs.declared.history.Link.{Link}
use Rattle.trace_state.specs.Trees.{Shape}
use Rattle.trace_state.specs.Histories.{former, next_tree, AllLead, formers}

-- the first of the past stays behind the others
pub taken : (t : Shape) (n : ℕ) (ls : List Link) → formers t (take n ls) ≡ take n (formers t ls)
taken t zero ls = refl
taken t (suc n) [] = refl
taken t (suc n) (l ∷ ls) = ap (λ fs. former (next_tree l.tree t) l.reach ∷ fs) (taken (next_tree l.tree t) n ls)

pub taken_lead : (t : Shape) (n : ℕ) (ls : List Link) → AllLead t ls → AllLead t (take n ls)
taken_lead t zero ls all = tt
taken_lead t (suc n) [] all = tt
taken_lead t (suc n) (l ∷ ls) all = (all.0, taken_lead (next_tree l.tree t) n ls all.1)
