-- Tiles that are noted as published, of groups one after another.
use Rattle.std.proofs.Common.{◌≡◌, ℕ, ◌+◌, suc, zero, Bool, true, false, ◌||◌, ◌&&◌, not, cond, Result, Ok, Err, List, [], ◌∷◌, drop, map, Some, refl, sym, ap, ◌∙◌, arith, eqb}
use Rattle.std.specs.Prelude.{slice_get, slice_set, OnOk, IfOk}
use Rattle.std.specs.List.{list_any}
use Rattle.std.specs.FinSet as set
use Rattle.std.specs.FinSet.{FinSet}
use Rattle.std.proofs.lemmas.Bool.Decides.{nat_tests}
use Rattle.geom_core.specs.declared.NoMemory.{NoMemory}
use Rattle.geom_core.specs.Grid.{Key, key_cmp}
use Rattle.update_queue.proofs.Elements.{drop_here}
use Rattle.memento_core.proofs.Sets.{inserted_again}
use Rattle.trace_state.specs.declared.group.WalkedGroup.{WalkedGroup}
use Rattle.trace_state.specs.Walking.{lacks, noted}
use Rattle.geom_core.proofs.Tests.{none_left, none_right}

-- a group that doesn't lack the tile stays
same_noted : (g : ℕ) (key : Key) (c : WalkedGroup) → lacks g key c ≡ false → noted g key c ≡ c
same_noted g key c e = go (eqb g c.group) refl (set.contains c.published key) refl
  where
    go : (b : Bool) → eqb g c.group ≡ b → (d : Bool) → set.contains c.published key ≡ d → cond b (record c { published = set.insert c.published key }) c ≡ c
    go false h d f = refl
    go true h true f = ap (λ s. record c { published = s }) (inserted_again c.published key f)
    go true h false f = let other : eqb c.group g ≡ true = grind (arith, nat_tests) in absurd (no (sym (λ i. other i && not (f i)) ∙ e))
      where
        no : true ≡ false → ⊥
        no h = cc

-- groups of which none lacks the tile stay
same_groups : (g : ℕ) (key : Key) (cs : List WalkedGroup) → list_any (lacks g key) cs ≡ false → map (noted g key) cs ≡ cs
same_groups g key [] e = refl
same_groups g key (c ∷ cs) e = λ i. same_noted g key c (none_left (lacks g key c) (list_any (lacks g key) cs) e) i ∷ same_groups g key cs (none_right (lacks g key c) (list_any (lacks g key) cs) e) i

flip : (b : Bool) → false ≡ not b → b ≡ true
flip true e = refl
flip false e = cc

-- what is answered false to stays
pub same_tiles : (r : Result Bool NoMemory) (old new : FinSet key_cmp) (key : Key) → OnOk r (new ≡ set.insert old key) → IfOk r (λ b. b ≡ not (set.contains old key)) → r ≡ Ok false → new ≡ old
same_tiles (Ok true) old new key is e h = cc
same_tiles (Ok false) old new key is e h = is ∙ inserted_again old key (flip (set.contains old key) e)
same_tiles (Err x) old new key is e h = cc

pub same_walk : (r : Result Bool NoMemory) (old new : List WalkedGroup) (g : ℕ) (key : Key) → OnOk r (new ≡ map (noted g key) old) → IfOk r (λ b. b ≡ list_any (lacks g key) old) → r ≡ Ok false → new ≡ old
same_walk (Ok true) old new g key is e h = cc
same_walk (Ok false) old new g key is e h = is ∙ same_groups g key old (sym e)
same_walk (Err x) old new g key is e h = cc

drop_set : {A : Type 0} (xs : List A) (i : ℕ) (y : A) → drop (i + 1) (slice_set xs i y) ≡ drop (i + 1) xs
drop_set [] i y = refl
drop_set (x ∷ xs) zero y = refl
drop_set (x ∷ xs) (suc i) y = (let e : suc i + 1 ≡ suc (i + 1) = omega arith in ap (λ n. drop n (x ∷ slice_set xs i y)) e ∙ drop_set xs i y ∙ ap (λ n. drop n (x ∷ xs)) (sym e))

-- whether some of the groups fit, by those before a place and those from there on
pub some_here : {A : Type 0} (f : A → Bool) (old new : List A) (i : ℕ) (x y : A) (sofar whole : Bool) → slice_get old i ≡ Some x → new ≡ slice_set old i y → (sofar || list_any f (drop i old)) ≡ whole → ((sofar || f x) || list_any f (drop (i + 1) new)) ≡ whole
some_here f old new i x y sofar whole at is so =
    ap (λ xs. (sofar || f x) || list_any f (drop (i + 1) xs)) is
    ∙ ap (λ xs. (sofar || f x) || list_any f xs) (drop_set old i y)
    ∙ or_assoc sofar (f x) (list_any f (drop (i + 1) old))
    ∙ ap (λ xs. sofar || list_any f xs) (sym (drop_here old i x at))
    ∙ so
  where
    or_assoc : (a b c : Bool) → ((a || b) || c) ≡ (a || (b || c))
    or_assoc true b c = refl
    or_assoc false b c = refl
