-- The values that are given for the groups of a walk.
use Rattle.std.proofs.Common.{◌≡◌, ◌≢◌, ℕ, suc, ◌+◌, ◌<◌, Bool, true, false, cond, List, [], ◌∷◌, ◌++◌, take, length, get_or, Some, map, refl, sym, ap, ◌∙◌, arith, eqb}
use Rattle.std.specs.Option.{unwrap_or}
use Rattle.std.proofs.lemmas.List.{take_more, length-take-le, length-map, get_or-map}
use Rattle.std.proofs.lemmas.Bool.Decides.{nat_tests}
use Rattle.pixel_core.specs.Rgba.{Rgba, clear}
use Rattle.geom_core.specs.Areas.{Area, Point}
use Rattle.doc_model.specs.Layers.{at}
use Rattle.machine_model.specs.State.{Child}
use Rattle.machine_model.specs.Walks.{value_in, walk_folded, walk_values, looked_up}
use Rattle.compose_core.specs.declared.children.Given.{Given}
use Rattle.compose_core.specs.declared.children.Given.TheVariants.{Plain}
use Rattle.walker_core.specs.declared.gathered.Source.{Source}
use Rattle.compose_core.specs.Spots.{given_on}
use Rattle.walker_core.specs.Rows.{given_values, found}
use Rattle.walker_core.specs.Knowing.{value_at}
use Rattle.walker_core.specs.Views.{groups_of}

-- one group more
pub given_more : (gs : List ℕ) (xs : List Given) (g : ℕ) (x : Given) (vs : List (ℕ × Rgba)) (p : Point) → length gs ≡ length xs → given_values (gs ++ g ∷ []) (xs ++ x ∷ []) vs p ≡ (g, given_on x p) ∷ given_values gs xs vs p
given_more [] [] g x vs p e = refl
given_more [] (y ∷ xs) g x vs p e = absurd (omega arith)
given_more (h ∷ gs) [] g x vs p e = absurd (omega arith)
given_more (h ∷ gs) (y ∷ xs) g x vs p e = given_more gs xs g x ((h, given_on y p) ∷ vs) p (omega arith)

walked_more : (es : List (ℕ × List Child)) (e : ℕ × List Child) (vs : List (ℕ × Rgba)) (p : Point) → walk_values (es ++ e ∷ []) vs p ≡ (e.0, walk_folded (walk_values es vs p) e.1 p clear) ∷ walk_values es vs p
walked_more [] e vs p = refl
walked_more (d ∷ es) e vs p = walked_more es e ((d.0, walk_folded vs d.1 p clear) ∷ vs) p

pub groups_count : (rect : Area) (ss : List Source) (gs : List ℕ) → length (groups_of rect ss gs) ≡ length gs
groups_count rect ss [] = refl
groups_count rect ss (g ∷ gs) = ap suc (groups_count rect ss gs)

pub groups_path : (rect : Area) (ss : List Source) (gs : List ℕ) → map (λ (e : ℕ × List Child). e.0) (groups_of rect ss gs) ≡ gs
groups_path rect ss [] = refl
groups_path rect ss (g ∷ gs) = ap (λ hs. g ∷ hs) (groups_path rect ss gs)

-- the value of a child, by what was found
pub value_found : (vs : List (ℕ × Rgba)) (c : Child) (p : Point) → value_in vs c p ≡ unwrap_or (found vs c.id) (at c.pixels p)
value_found [] c p = refl
value_found (v ∷ vs) c p = go (eqb v.0 c.id) (value_found vs c p)
  where
    go : (b : Bool) → value_in vs c p ≡ unwrap_or (found vs c.id) (at c.pixels p) → cond b v.1 (value_in vs c p) ≡ unwrap_or (cond b (Some v.1) (found vs c.id)) (at c.pixels p)
    go true e = refl
    go false e = e

pub looked_found : (vs : List (ℕ × Rgba)) (g : ℕ) → looked_up vs g ≡ unwrap_or (found vs g) clear
looked_found [] g = refl
looked_found (v ∷ vs) g = go (eqb v.0 g) (looked_found vs g)
  where
    go : (b : Bool) → looked_up vs g ≡ unwrap_or (found vs g) clear → cond b v.1 (looked_up vs g) ≡ unwrap_or (cond b (Some v.1) (found vs g)) clear
    go true e = refl
    go false e = e

-- a search from the end: what comes last is the group, or isn't
last_found : (gs : List ℕ) (xs : List Given) (k g : ℕ) (d : Given) (p : Point) (b : Bool) → k < length gs → length xs ≡ length gs → eqb (get_or gs k 0) g ≡ b
    → found (given_values (take (k + 1) gs) (take (k + 1) xs) [] p) g ≡ cond b (Some (given_on (get_or xs k d) p)) (found (given_values (take k gs) (take k xs) [] p) g)
last_found gs xs k g d p b h n e =
    let few_xs : k < length xs = omega arith in
    (λ i. found (given_values (take_more gs k 0 h i) (take_more xs k d few_xs i) [] p) g)
    ∙ ap (λ vs. found vs g) (given_more (take k gs) (take k xs) (get_or gs k 0) (get_or xs k d) [] p (length-take-le k gs (omega arith) ∙ sym (length-take-le k xs (omega arith))))
    ∙ ap (λ t. cond t (Some (given_on (get_or xs k d) p)) (found (given_values (take k gs) (take k xs) [] p) g)) e

pub not_last : (gs : List ℕ) (xs : List Given) (n k g : ℕ) (p : Point) → n ≡ k + 1 → k < length gs → length xs ≡ length gs → get_or gs k 0 ≢ g
    → found (given_values (take n gs) (take n xs) [] p) g ≡ found (given_values (take k gs) (take k xs) [] p) g
not_last gs xs n k g p m h e other = ap (λ j. found (given_values (take j gs) (take j xs) [] p) g) m ∙ last_found gs xs k g (Plain clear) p false h e (grind (arith, nat_tests))

pub is_last : (gs : List ℕ) (xs : List Given) (n k g : ℕ) (x : Given) (p : Point) → n ≡ k + 1 → k < length gs → length xs ≡ length gs → x ≡ get_or xs k x → get_or gs k 0 ≡ g
    → found (given_values (take n gs) (take n xs) [] p) g ≡ Some (given_on x p)
is_last gs xs n k g x p m h e at same = ap (λ j. found (given_values (take j gs) (take j xs) [] p) g) m ∙ last_found gs xs k g x p true h e (grind (arith, nat_tests)) ∙ ap (λ y. Some (given_on y p)) (sym at)

-- the walk's values of the groups so far, and of one more
pub row_next : (es : List (ℕ × List Child)) (path : List ℕ) (xs : List Given) (x : Given) (i : ℕ) (p : Point) → path ≡ map (λ (e : ℕ × List Child). e.0) es → i < length es → length xs ≡ i
    → given_values (take i path) xs [] p ≡ walk_values (take i es) [] p → given_on x p ≡ value_at es i p
    → given_values (take (i + 1) path) (xs ++ x ∷ []) [] p ≡ walk_values (take (i + 1) es) [] p
row_next es path xs x i p e h n so_far value =
    let many : length path ≡ length es = ap length e ∙ length-map es (λ (e : ℕ × List Child). e.0) in
    let at : get_or path i 0 ≡ (get_or {A = ℕ × List Child} es i (0, [])).0 = ap (λ gs. get_or gs i 0) e ∙ get_or-map (λ (e : ℕ × List Child). e.0) es i (0, []) 0 h in
    let longer : take (i + 1) path ≡ take i path ++ (get_or {A = ℕ × List Child} es i (0, [])).0 ∷ [] = take_more path i 0 (omega arith) ∙ ap (λ q. take i path ++ q ∷ []) at in
    let few : length (take i path) ≡ length xs = length-take-le i path (omega arith) ∙ sym n in
    ap (λ gs. given_values gs (xs ++ x ∷ []) [] p) longer
    ∙ given_more (take i path) xs (get_or {A = ℕ × List Child} es i (0, [])).0 x [] p few
    ∙ (λ k. ((get_or {A = ℕ × List Child} es i (0, [])).0, value k) ∷ so_far k)
    ∙ sym (walked_more (take i es) (get_or es i (0, [])) [] p)
    ∙ ap (λ t. walk_values t [] p) (sym (take_more es i (0, []) h))
