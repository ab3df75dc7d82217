-- A rectangle joins the list part by part.
use Rattle.std.proofs.Common.{◌≡◌, ℕ, zero, suc, ◌+◌, ◌<◌, ◌≤◌, Bool, true, false, ◌&&◌, ◌||◌, not, cond, List, [], ◌∷◌, ◌++◌, map, length, drop, Some, refl, sym, ap, ◌∙◌, arith, subst, append-nil, append_assoc, inl, inr}
use Rattle.std.specs.Prelude.{slice_get, slice_set, nat_le, ℤ, pos, ◌+ℤ◌, int_le}
use borrow.Author.Differences.{ints}
use Rattle.std.proofs.lemmas.Option.{slice_get_cases}
use Rattle.std.specs.List.{list_all, position, position_or_len}
use Rattle.std.proofs.lemmas.List.{map-append, drop_all}
use Rattle.std.proofs.lemmas.List.Folds.{list_any-append}
use Rattle.std.proofs.lemmas.Bool.Decides.{nat_tests}
use Rattle.geom_core.proofs.Tests.{and_left, and_right, both_true, not_true, none_left, none_right}
use Rattle.geom_core.proofs.Lying.{same_key-same}
use Rattle.geom_core.specs.Areas.{Area, lies_in}
use Rattle.geom_core.specs.Overlaps.{bound}
use Rattle.geom_core.specs.Grid.{cell, cell_of, parts, same_key}
use Rattle.doc_model.specs.declared.canvas.Walk.{Walk}
use Rattle.doc_model.specs.declared.canvas.Walk.TheVariants.{Up, All}
use Rattle.doc_model.specs.declared.canvas.Patch.{Patch}
use Rattle.doc_model.specs.Updates.{same_walk, one_cell, patch, merged, merge_all, new_parts, has_place, bound_all}
use Rattle.doc_model.specs.Queues.{alike, all_unlike, in_place}
use Rattle.doc_model.proofs.Patches.{cells_differ, merged_place, merged_unlike, unlike-append, length_merge, length_append, parts_right, parts_apart}
use Rattle.update_queue.proofs.Bounded.{bound_all-merged, bound_all-placed}
use Rattle.update_queue.proofs.Elements.{drop_here, all_at, at_place, position_any, position-Some}

-- the list with all parts, were there places enough
abbrev pub grown : Walk → List Area → List Patch → List Patch
grown walk more ps = merge_all walk more ps ++ map (patch walk) (new_parts walk more ps)

-- whether a patch has the walk and the cell
abbrev pub fits : Walk → Area → Patch → Bool
fits walk part p = same_walk p.walk walk && one_cell p.rect part

-- where no patch fits, none takes the part in
pub merged_none : (walk : Walk) (part : Area) (ps : List Patch) → has_place walk part ps ≡ false → map (merged walk part) ps ≡ ps
merged_none walk part [] h = refl
merged_none walk part (p ∷ ps) h = both (one (fits walk part p) (none_left (fits walk part p) _ h)) (merged_none walk part ps (none_right (fits walk part p) _ h))
  where
    one : (b : Bool) → b ≡ false → cond b (patch p.walk (bound p.rect part)) p ≡ p
    one true e = cc
    one false e = refl

    both : {x y : Patch} {xs ys : List Patch} → x ≡ y → xs ≡ ys → x ∷ xs ≡ y ∷ ys
    both e f i = e i ∷ f i

merge-append : (walk : Walk) (more : List Area) (xs ys : List Patch) → merge_all walk more (xs ++ ys) ≡ merge_all walk more xs ++ merge_all walk more ys
merge-append walk [] xs ys = refl
merge-append walk (part ∷ more) xs ys = ap (merge_all walk more) (map-append (merged walk part) xs ys) ∙ merge-append walk more (map (merged walk part) xs) (map (merged walk part) ys)

-- a patch of its own takes in no part of another cell
merge_one : (walk : Walk) (a : Area) (more : List Area) → list_all (λ b. not (one_cell a b)) more ≡ true → merge_all walk more (patch walk a ∷ []) ≡ patch walk a ∷ []
merge_one walk a [] h = refl
merge_one walk a (b ∷ more) h = ap (λ p. merge_all walk more (p ∷ [])) (one (same_walk walk walk) (one_cell a b) (not_true (one_cell a b) (and_left _ _ h))) ∙ merge_one walk a more (and_right (not (one_cell a b)) _ h)
  where
    one : (s t : Bool) → t ≡ false → cond (s && t) (patch walk (bound a b)) (patch walk a) ≡ patch walk a
    one s true e = cc
    one true false e = refl
    one false false e = refl

-- a part that is taken in
pub grown_merged : (walk : Walk) (part : Area) (more : List Area) (ps : List Patch) → has_place walk part ps ≡ true → grown walk (part ∷ more) ps ≡ grown walk more (map (merged walk part) ps)
grown_merged walk part more ps h =
    let rest : new_parts walk (part ∷ more) ps ≡ new_parts walk more ps = ap (λ b. cond (not b) (part ∷ new_parts walk more ps) (new_parts walk more ps)) h in
    let same : new_parts walk more ps ≡ new_parts walk more (map (merged walk part) ps) = new_moved walk more ps part in
    ap (λ xs. merge_all walk more (map (merged walk part) ps) ++ map (patch walk) xs) (rest ∙ same)
  where
    new_moved : (walk : Walk) (more : List Area) (ps : List Patch) (part : Area) → new_parts walk more ps ≡ new_parts walk more (map (merged walk part) ps)
    new_moved walk [] ps part = refl
    new_moved walk (b ∷ more) ps part = both (sym (merged_place walk walk part b ps)) (new_moved walk more ps part)
      where
        both : {s t : Bool} {xs ys : List Area} → s ≡ t → xs ≡ ys → cond (not s) (b ∷ xs) xs ≡ cond (not t) (b ∷ ys) ys
        both e f i = cond (not (e i)) (b ∷ f i) (f i)

-- a part that takes a place of its own
new_behind : (walk : Walk) (a : Area) (more : List Area) (ps : List Patch) → list_all (λ b. not (one_cell a b)) more ≡ true → new_parts walk more (ps ++ patch walk a ∷ []) ≡ new_parts walk more ps
new_behind walk a [] ps h = refl
new_behind walk a (b ∷ more) ps h =
    both (list_any-append (fits walk b) ps (patch walk a ∷ []) ∙ one (has_place walk b ps) (same_walk walk walk) (one_cell a b) (not_true (one_cell a b) (and_left _ _ h))) (new_behind walk a more ps (and_right (not (one_cell a b)) _ h))
  where
    one : (r s t : Bool) → t ≡ false → (r || ((s && t) || false)) ≡ r
    one r s true e = cc
    one true true false e = refl
    one true false false e = refl
    one false true false e = refl
    one false false false e = refl

    both : {s t : Bool} {xs ys : List Area} → s ≡ t → xs ≡ ys → cond (not s) (b ∷ xs) xs ≡ cond (not t) (b ∷ ys) ys
    both e f i = cond (not (e i)) (b ∷ f i) (f i)

new_first : (walk : Walk) (part : Area) (more : List Area) (ps : List Patch) → has_place walk part ps ≡ false → new_parts walk (part ∷ more) ps ≡ part ∷ new_parts walk more ps
new_first walk part more ps h = ap (λ b. cond (not b) (part ∷ new_parts walk more ps) (new_parts walk more ps)) h

pub grown_placed : (walk : Walk) (part : Area) (more : List Area) (ps : List Patch) → has_place walk part ps ≡ false → list_all (λ b. not (one_cell part b)) more ≡ true
    → grown walk (part ∷ more) ps ≡ grown walk more (ps ++ patch walk part ∷ [])
grown_placed walk part more ps h apart =
    let q : List Patch = patch walk part ∷ [] in
    let left : grown walk (part ∷ more) ps ≡ merge_all walk more ps ++ (patch walk part ∷ map (patch walk) (new_parts walk more ps)) =
    both (ap (merge_all walk more) (merged_none walk part ps h)) (ap (map (patch walk)) (new_first walk part more ps h)) in
    let right : grown walk more (ps ++ q) ≡ (merge_all walk more ps ++ q) ++ map (patch walk) (new_parts walk more ps) =
    both (merge-append walk more ps q ∙ ap (λ xs. merge_all walk more ps ++ xs) (merge_one walk part more apart)) (ap (map (patch walk)) (new_behind walk part more ps apart)) in
    left ∙ sym (right ∙ append_assoc (merge_all walk more ps) q (map (patch walk) (new_parts walk more ps)))
  where
    both : {xs ys us vs : List Patch} → xs ≡ ys → us ≡ vs → xs ++ us ≡ ys ++ vs
    both e f i = e i ++ f i

pub length-grown : (walk : Walk) (more : List Area) (ps : List Patch) → length (grown walk more ps) ≡ length ps + length (map (patch walk) (new_parts walk more ps))
length-grown walk more ps = length_append (merge_all walk more ps) (map (patch walk) (new_parts walk more ps)) ∙ ap (λ n. n + length (map (patch walk) (new_parts walk more ps))) (length_merge walk more ps)

-- a part without a place makes the list longer
pub length-placed : (walk : Walk) (part : Area) (more : List Area) (ps : List Patch) → has_place walk part ps ≡ false → length ps < length (grown walk (part ∷ more) ps)
length-placed walk part more ps h =
    let e : length (grown walk (part ∷ more) ps) ≡ length ps + length (map (patch walk) (new_parts walk (part ∷ more) ps)) = length-grown walk (part ∷ more) ps in
    let f : length (map (patch walk) (new_parts walk (part ∷ more) ps)) ≡ suc (length (map (patch walk) (new_parts walk more ps))) = ap (λ xs. length (map (patch walk) xs)) (new_first walk part more ps h) in
    omega arith

pub grown_done : (walk : Walk) (ps : List Patch) → grown walk [] ps ≡ ps
grown_done walk ps = append-nil ps

-- walks that are the same are one
same_walk-same : (a b : Walk) → same_walk a b ≡ true → a ≡ b
same_walk-same All All h = refl
same_walk-same (Up a) (Up b) h = let e : a ≡ b = grind (arith, nat_tests) in ap Up e
same_walk-same All (Up b) h = cc
same_walk-same (Up a) All h = cc

same_walk-refl : (a : Walk) → same_walk a a ≡ true
same_walk-refl All = refl
same_walk-refl (Up a) = grind (arith, nat_tests)

-- of patches that are all unlike, only one takes the part in
others_miss : (walk : Walk) (part : Area) (p : Patch) (ps : List Patch) → fits walk part p ≡ true → list_all (λ q. not (alike p q)) ps ≡ true → has_place walk part ps ≡ false
others_miss walk part p [] h u = refl
others_miss walk part p (q ∷ ps) h u = go (fits walk part q) refl (others_miss walk part p ps h)
  where
    go : (b : Bool) → fits walk part q ≡ b → (list_all (λ r. not (alike p r)) ps ≡ true → has_place walk part ps ≡ false) → (b || has_place walk part ps) ≡ false
    go false e rest = rest (and_right (not (alike p q)) _ u)
    go true e rest =
        let w : q.walk ≡ p.walk = same_walk-same q.walk walk (and_left _ _ e) ∙ sym (same_walk-same p.walk walk (and_left _ _ h)) in
        let k : cell_of q.rect ≡ cell_of p.rect = same_key-same _ _ (and_right (same_walk q.walk walk) _ e) ∙ sym (same_key-same _ _ (and_right (same_walk p.walk walk) _ h)) in
        let one : same_walk p.walk q.walk ≡ true = ap (λ v. same_walk p.walk v) w ∙ same_walk-refl p.walk in
        let two : same_key (cell_of p.rect) (cell_of q.rect) ≡ true = ap (λ c. same_key (cell_of p.rect) c) (k ∙ same_key-same _ _ (and_right (same_walk p.walk walk) _ h)) ∙ and_right (same_walk p.walk walk) _ h in
        let both : alike p q ≡ true = both_true _ _ one two in
        let none : alike p q ≡ false = not_true (alike p q) (and_left _ _ u) in
        cc

-- so one that fits is the first
pub fitting_first : (walk : Walk) (part : Area) (ps : List Patch) (i : ℕ) (p : Patch) → all_unlike ps ≡ true → slice_get ps i ≡ Some p → fits walk part p ≡ true → position_or_len (fits walk part) ps ≡ i
fitting_first walk part [] i p u at h = cc
fitting_first walk part (q ∷ ps) zero p u at h = let e : fits walk part q ≡ true = ap (fits walk part) (let s : q ≡ p = cc in s) ∙ h in ap (λ b. cond (not b) (1 + position_or_len (fits walk part) ps) 0) e
fitting_first walk part (q ∷ ps) (suc i) p u at h = go (fits walk part q) refl (fitting_first walk part ps i p (and_right (list_all (λ r. not (alike q r)) ps) _ u) at h)
  where
    go : (b : Bool) → fits walk part q ≡ b → position_or_len (fits walk part) ps ≡ i → cond (not b) (1 + position_or_len (fits walk part) ps) 0 ≡ suc i
    go false e rest = omega arith
    go true e rest = absurd (
        let none : has_place walk part ps ≡ false = others_miss walk part q ps e (and_left _ _ u) in
        let some : has_place walk part ps ≡ true = position_any (fits walk part) ps (let n : i < length ps = at_place ps i p at in omega arith) in
        let t : false ≡ true = sym none ∙ some in
        cc
        )

-- so to widen the first that fits is to let all take the part in
pub widened_merged : (walk : Walk) (part : Area) (ps : List Patch) (i : ℕ) (p : Patch) → all_unlike ps ≡ true → position_or_len (fits walk part) ps ≡ i → slice_get ps i ≡ Some p
    → slice_set ps i (patch p.walk (bound p.rect part)) ≡ map (merged walk part) ps
widened_merged walk part [] i p u at h = cc
widened_merged walk part (q ∷ ps) i p u at h = go (fits walk part q) refl (λ j a g. widened_merged walk part ps j p (and_right (list_all (λ r. not (alike q r)) ps) _ u) a g) i at h
  where
    go : (b : Bool) → fits walk part q ≡ b
        → ((j : ℕ) → position_or_len (fits walk part) ps ≡ j → slice_get ps j ≡ Some p → slice_set ps j (patch p.walk (bound p.rect part)) ≡ map (merged walk part) ps)
        → (i : ℕ) → cond (not b) (1 + position_or_len (fits walk part) ps) 0 ≡ i → slice_get (q ∷ ps) i ≡ Some p
        → slice_set (q ∷ ps) i (patch p.walk (bound p.rect part)) ≡ cond b (patch q.walk (bound q.rect part)) q ∷ map (merged walk part) ps
    go true e rest zero at h =
        let same : p ≡ q = cc in
        ap (λ (r : Patch). patch r.walk (bound r.rect part) ∷ ps) same ∙ ap (λ xs. patch q.walk (bound q.rect part) ∷ xs) (sym (merged_none walk part ps (others_miss walk part q ps e (and_left _ _ u))))
    go true e rest (suc i) at h = absurd (omega arith)
    go false e rest zero at h = absurd (omega arith)
    go false e rest (suc i) at h = ap (λ xs. q ∷ xs) (rest i (omega arith) h)

pub unlike_merged : (walk : Walk) (part : Area) (ps : List Patch) → all_unlike ps ≡ true → all_unlike (map (merged walk part) ps) ≡ true
unlike_merged walk part ps u = merged_unlike walk part ps ∙ u

pub unlike_placed : (walk : Walk) (part : Area) (ps : List Patch) → has_place walk part ps ≡ false → all_unlike ps ≡ true → all_unlike (ps ++ patch walk part ∷ []) ≡ true
unlike_placed walk part ps h u = unlike-append ps (patch walk part ∷ []) u refl (both_true _ _ (ap not h) refl)

-- the cells of the parts from a place on
pub differ-drop : (i : ℕ) (as' : List Area) → cells_differ as' ≡ true → cells_differ (drop i as') ≡ true
differ-drop zero as' h = h
differ-drop (suc i) [] h = refl
differ-drop (suc i) (a ∷ rest) h = differ-drop i rest (and_right (list_all (λ b. not (one_cell a b)) rest) _ h)

-- the first place that fits is widened
pub widened_is : (walk : Walk) (part : Area) (ps new : List Patch) (i : ℕ) → all_unlike ps ≡ true → position (fits walk part) ps ≡ Some i
    → ((p : Patch) → slice_get ps i ≡ Some p → new ≡ slice_set ps i (patch p.walk (bound p.rect part))) → new ≡ map (merged walk part) ps
widened_is walk part ps new i u at is =
    let found = position-Some (fits walk part) ps i at in
    elim (slice_get_cases ps i).1 [ inl e ↦ is e.0 e.2 ∙ widened_merged walk part ps i e.0 u found.0 e.2 | inr e ↦ absurd (let few : length ps ≤ i = e.0 in let more : position_or_len (fits walk part) ps < length ps = found.1 in let same : position_or_len (fits walk part) ps ≡ i = found.0 in omega arith) ]

pub lies_in-refl : (a : Area) → lies_in a a ≡ true
lies_in-refl a = both_true _ _ (one a.x a.w) (one a.y a.h)
  where
    one : (x : ℤ) (n : ℕ) → (int_le x x && int_le (x +ℤ pos n) (x +ℤ pos n)) ≡ true
    one x n = grind (arith, ints)

-- of a rectangle's parts, those before i have joined the list
pub record Joined (walk : Walk) (rect : Area) (first : List Patch) (i : ℕ) (ps : List Patch) : Type 0 where
  pub unlike : all_unlike ps ≡ true
  pub few : length ps ≤ 64
  pub rest : grown walk (drop i (parts rect)) ps ≡ grown walk (parts rect) first
  pub bounds : bound_all rect ps ≡ bound_all rect first

pub joined_none : (walk : Walk) (rect : Area) (ps : List Patch) → all_unlike ps ≡ true → length ps ≤ 64 → Joined walk rect ps 0 ps
joined_none walk rect ps u few = record { unlike = u; few = few; rest = refl; bounds = refl }

-- one part more
pub joined_more : (walk : Walk) (rect : Area) (first ps new : List Patch) (i : ℕ) (part : Area) → Joined walk rect first i ps → slice_get (parts rect) i ≡ Some part → length new ≤ 64
    → (has_place walk part ps ≡ true → new ≡ map (merged walk part) ps) → (has_place walk part ps ≡ false → new ≡ ps ++ patch walk part ∷ []) → Joined walk rect first (i + 1) new
joined_more walk rect first ps new i part j at few taken placed = go (has_place walk part ps) refl
  where
    here : drop i (parts rect) ≡ part ∷ drop (i + 1) (parts rect)
    here = drop_here (parts rect) i part at

    inside : lies_in part rect ≡ true
    inside = and_right (lies_in part (cell (cell_of part))) _ (all_at (λ a. in_place rect (patch walk a)) (parts rect) i part at (parts_right rect rect walk (lies_in-refl rect)))

    apart : list_all (λ b. not (one_cell part b)) (drop (i + 1) (parts rect)) ≡ true
    apart = and_left _ _ (subst (λ xs. cells_differ xs ≡ true) (drop_here (parts rect) i part at) (differ-drop i (parts rect) (parts_apart rect)))

    go : (b : Bool) → has_place walk part ps ≡ b → Joined walk rect first (i + 1) new
    go true e = let is : new ≡ map (merged walk part) ps = taken e in record {
      unlike = ap all_unlike is ∙ unlike_merged walk part ps j.unlike;
      few = few;
      rest = ap (grown walk (drop (i + 1) (parts rect))) is ∙ sym (grown_merged walk part (drop (i + 1) (parts rect)) ps e) ∙ ap (λ xs. grown walk xs ps) (sym here) ∙ j.rest;
      bounds = ap (bound_all rect) is ∙ bound_all-merged rect walk part ps inside ∙ j.bounds;
    }
    go false e = let is : new ≡ ps ++ patch walk part ∷ [] = placed e in record {
      unlike = ap all_unlike is ∙ unlike_placed walk part ps e j.unlike;
      few = few;
      rest = ap (grown walk (drop (i + 1) (parts rect))) is ∙ sym (grown_placed walk part (drop (i + 1) (parts rect)) ps e apart) ∙ ap (λ xs. grown walk xs ps) (sym here) ∙ j.rest;
      bounds = ap (bound_all rect) is ∙ bound_all-placed rect walk part ps inside ∙ j.bounds;
    }

-- a part that finds no place
pub no_room : (walk : Walk) (rect : Area) (first ps : List Patch) (i : ℕ) (part : Area) → Joined walk rect first i ps → slice_get (parts rect) i ≡ Some part → has_place walk part ps ≡ false → length ps ≡ 64
    → nat_le (length first + length (map (patch walk) (new_parts walk (parts rect) first))) 64 ≡ false
no_room walk rect first ps i part j at none full =
    let longer : length ps < length (grown walk (part ∷ drop (i + 1) (parts rect)) ps) = length-placed walk part (drop (i + 1) (parts rect)) ps none in
    let same : length (grown walk (part ∷ drop (i + 1) (parts rect)) ps) ≡ length (grown walk (parts rect) first) = ap (λ xs. length (grown walk xs ps)) (sym (drop_here (parts rect) i part at)) ∙ ap length j.rest in
    let all : length (grown walk (parts rect) first) ≡ length first + length (map (patch walk) (new_parts walk (parts rect) first)) = length-grown walk (parts rect) first in
    beyond _ (let n : 64 < length first + length (map (patch walk) (new_parts walk (parts rect) first)) = omega arith in n)
  where
    beyond : (n : ℕ) → 64 < n → nat_le n 64 ≡ false
    beyond n h = grind (arith, nat_tests)

-- all parts have joined
pub joined_all : (walk : Walk) (rect : Area) (first ps : List Patch) (i : ℕ) → Joined walk rect first i ps → length (parts rect) ≤ i → ps ≡ grown walk (parts rect) first
joined_all walk rect first ps i j past = sym (ap (λ xs. grown walk xs ps) (drop_all i (parts rect) past) ∙ grown_done walk ps) ∙ j.rest

pub fits_all : (walk : Walk) (rect : Area) (first ps : List Patch) (i : ℕ) → Joined walk rect first i ps → length (parts rect) ≤ i → nat_le (length first + length (map (patch walk) (new_parts walk (parts rect) first))) 64 ≡ true
fits_all walk rect first ps i j past =
    let all : length (grown walk (parts rect) first) ≡ length first + length (map (patch walk) (new_parts walk (parts rect) first)) = length-grown walk (parts rect) first in
    let same : length ps ≡ length (grown walk (parts rect) first) = ap length (joined_all walk rect first ps i j past) in
    let few : length ps ≤ 64 = j.few in
    within _ (let n : length first + length (map (patch walk) (new_parts walk (parts rect) first)) ≤ 64 = omega arith in n)
  where
    within : (n : ℕ) → n ≤ 64 → nat_le n 64 ≡ true
    within n h = grind (arith, nat_tests)
