-- What is queued keeps to the rules of a list of patches.
use Rattle.std.proofs.Common.{◌≡◌, suc, ◌+◌, ◌≤◌, Bool, true, false, ◌&&◌, ◌||◌, not, cond, List, [], ◌∷◌, ◌++◌, map, length, Some, None, refl, sym, ap, ◌∙◌, arith, subst}
use Rattle.std.specs.Prelude.{pos, nat_le}
use Rattle.std.specs.List.{list_any, list_all, filter, filter_map}
use Rattle.std.proofs.lemmas.Bool.Decides.{nat_tests}
use Rattle.geom_core.proofs.Tests.{and_left, and_right, both_true, none_left, none_right, not_true, length_map}
use Rattle.geom_core.proofs.Lying.{lies_trans, bound_lies, common_lies_left, common_lies_right, same_key-same, cell_of_common, same_cell_key}
use Rattle.geom_core.specs.Areas.{Area, meets, lies_in}
use Rattle.geom_core.specs.Overlaps.{bound, common, clipped}
use Rattle.geom_core.specs.Grid.{Key, cell, cell_of, cells, parts, same_key, keys_in_rows, count_from}
use Rattle.doc_model.specs.declared.canvas.Walk.{Walk}
use Rattle.doc_model.specs.declared.canvas.Walk.TheVariants.{All}
use Rattle.doc_model.specs.declared.canvas.Patch.{Patch}
use Rattle.doc_model.specs.Updates.{same_walk, one_cell, patch, merged, merge_all, has_place, new_parts, bound_all, replaced, added, queued, queued_part, refreshed, refreshed_part}
use Rattle.doc_model.specs.Queues.{IsQueue, in_place, alike, all_unlike}

not_false : (b : Bool) → b ≡ false → not b ≡ true
not_false b e = rw e refl

all_from : {A : Type 0} (f g : A → Bool) (xs : List A) → ((x : A) → f x ≡ true → g x ≡ true) → list_all f xs ≡ true → list_all g xs ≡ true
all_from f g [] each h = refl
all_from f g (x ∷ xs) each h = both_true _ _ (each x (and_left _ _ h)) (all_from f g xs each (and_right _ _ h))

all_filter : {A : Type 0} (f test : A → Bool) (xs : List A) → list_all f xs ≡ true → list_all f (filter test xs) ≡ true
all_filter f test [] h = refl
all_filter f test (x ∷ xs) h = go (test x) (all_filter f test xs (and_right _ _ h))
  where
    go : (b : Bool) → list_all f (filter test xs) ≡ true → list_all f (cond b (x ∷ filter test xs) (filter test xs)) ≡ true
    go true rest = both_true _ _ (and_left _ _ h) rest
    go false rest = rest

pub all_append : {A : Type 0} (f : A → Bool) (xs ys : List A) → list_all f xs ≡ true → list_all f ys ≡ true → list_all f (xs ++ ys) ≡ true
all_append f [] ys h i = i
all_append f (x ∷ xs) ys h i = both_true _ _ (and_left _ _ h) (all_append f xs ys (and_right _ _ h) i)

-- no two of the rectangles have one cell
abbrev pub cells_differ : List Area → Bool
cells_differ [] = true
cells_differ (a ∷ rest) = list_all (λ b. not (one_cell a b)) rest && cells_differ rest

filter_differ : (test : Area → Bool) (as' : List Area) → cells_differ as' ≡ true → cells_differ (filter test as') ≡ true
filter_differ test [] h = refl
filter_differ test (a ∷ rest) h = go (test a) (filter_differ test rest (and_right _ _ h))
  where
    go : (b : Bool) → cells_differ (filter test rest) ≡ true → cells_differ (cond b (a ∷ filter test rest) (filter test rest)) ≡ true
    go true r = both_true _ _ (all_filter _ test rest (and_left _ _ h)) r
    go false r = r

unlike_one : (walk : Walk) (a : Area) (rest : List Area) → list_all (λ b. not (one_cell a b)) rest ≡ true → list_all (λ q. not (alike (patch walk a) q)) (map (patch walk) rest) ≡ true
unlike_one walk a [] h = refl
unlike_one walk a (b ∷ rest) h = both_true _ _ (go (same_walk walk walk) (one_cell a b) (and_left _ _ h)) (unlike_one walk a rest (and_right _ _ h))
  where
    go : (s t : Bool) → not t ≡ true → not (s && t) ≡ true
    go true t e = e
    go false t e = refl

unlike_patches : (walk : Walk) (as' : List Area) → cells_differ as' ≡ true → all_unlike (map (patch walk) as') ≡ true
unlike_patches walk [] h = refl
unlike_patches walk (a ∷ rest) h = both_true _ _ (unlike_one walk a rest (and_left _ _ h)) (unlike_patches walk rest (and_right _ _ h))

-- the parts of a rectangle by some cells
parts_in : Area → List Key → List Area
parts_in a ks = filter_map (clipped a) (map cell ks)

keys_differ : List Key → Bool
keys_differ [] = true
keys_differ (k ∷ ks) = not (list_any (same_key k) ks) && keys_differ ks

no_other : (a b : Area) (k : Key) (ks : List Key) → cell_of b ≡ k → list_any (same_key k) ks ≡ false → list_all (λ c. not (one_cell b c)) (parts_in a ks) ≡ true
unfolding parts_in
no_other a b k [] e h = refl
no_other a b k (j ∷ ks) e h = go (no_other a b k ks e (none_right (same_key k j) _ h)) (meets a (cell j)) refl
  where
    go : list_all (λ c. not (one_cell b c)) (parts_in a ks) ≡ true → (t : Bool) → meets a (cell j) ≡ t → list_all (λ c. not (one_cell b c)) (filter_map (clipped a) (map cell (j ∷ ks))) ≡ true
    go rest true m = rw m (both_true _ _ (not_false _ ((λ i. same_key (e i) (cell_of_common a j m i)) ∙ none_left (same_key k j) _ h)) rest)
    go rest false m = rw m rest

parts_differ : (a : Area) (ks : List Key) → keys_differ ks ≡ true → cells_differ (parts_in a ks) ≡ true
unfolding parts_in keys_differ
parts_differ a [] h = refl
parts_differ a (k ∷ ks) h = go (parts_differ a ks (and_right _ _ h)) (meets a (cell k)) refl
  where
    go : cells_differ (parts_in a ks) ≡ true → (t : Bool) → meets a (cell k) ≡ t → cells_differ (filter_map (clipped a) (map cell (k ∷ ks))) ≡ true
    go rest true m = rw m (both_true _ _ (no_other a (common a (cell k)) k ks (cell_of_common a k m) (not_true (list_any (same_key k) ks) (and_left _ _ h))) rest)
    go rest false m = rw m rest

parts_placed : (canvas a : Area) (walk : Walk) (ks : List Key) → lies_in a canvas ≡ true → list_all (λ part. in_place canvas (patch walk part)) (parts_in a ks) ≡ true
unfolding parts_in
parts_placed canvas a walk [] h = refl
parts_placed canvas a walk (k ∷ ks) h = go (parts_placed canvas a walk ks h) (meets a (cell k)) refl
  where
    go : list_all (λ part. in_place canvas (patch walk part)) (parts_in a ks) ≡ true → (t : Bool) → meets a (cell k) ≡ t → list_all (λ part. in_place canvas (patch walk part)) (filter_map (clipped a) (map cell (k ∷ ks))) ≡ true
    go rest true m = rw m (both_true _ _
        (both_true _ _ (ap (λ c. lies_in (common a (cell k)) (cell c)) (cell_of_common a k m) ∙ common_lies_right a (cell k) m) (lies_trans _ a canvas (common_lies_left a (cell k) m) h))
        rest)
    go rest false m = rw m rest

length_parts : (a : Area) (ks : List Key) → length (parts_in a ks) ≤ length ks
unfolding parts_in
length_parts a [] = omega arith
length_parts a (k ∷ ks) = go (length_parts a ks) (meets a (cell k)) refl
  where
    go : length (filter_map (clipped a) (map cell ks)) ≤ length ks → (t : Bool) → meets a (cell k) ≡ t → length (filter_map (clipped a) (map cell (k ∷ ks))) ≤ length (k ∷ ks)
    go rest true m = rw m (omega arith)
    go rest false m = rw m (omega arith)

abbrev grid : List Key
grid = keys_in_rows (count_from (pos 0) 8) (count_from (pos 0) 8)

grid_differs : keys_differ grid ≡ true
unfolding keys_differ
grid_differs = refl

by_grid : (a : Area) → parts a ≡ parts_in a grid
unfolding parts_in cells
by_grid a = refl

-- a patch that takes a part in has the walk and the cell that it had
pub merged_walk : (walk : Walk) (part : Area) (p : Patch) → (merged walk part p).walk ≡ p.walk
merged_walk walk part p = go (same_walk p.walk walk && one_cell p.rect part)
  where
    go : (t : Bool) → (cond t (patch p.walk (bound p.rect part)) p).walk ≡ p.walk
    go true = refl
    go false = refl

pub merged_cell : (walk : Walk) (part : Area) (p : Patch) → cell_of (merged walk part p).rect ≡ cell_of p.rect
merged_cell walk part p = go (same_walk p.walk walk && one_cell p.rect part) refl
  where
    go : (t : Bool) → (same_walk p.walk walk && one_cell p.rect part) ≡ t → cell_of (cond t (patch p.walk (bound p.rect part)) p).rect ≡ cell_of p.rect
    go true e = same_cell_key p.rect part (same_key-same _ _ (and_right (same_walk p.walk walk) _ e))
    go false e = refl

merged_placed : (canvas : Area) (walk : Walk) (part : Area) (p : Patch) → in_place canvas (patch walk part) ≡ true → in_place canvas p ≡ true → in_place canvas (merged walk part p) ≡ true
merged_placed canvas walk part p h i = go (same_walk p.walk walk && one_cell p.rect part) refl
  where
    go : (t : Bool) → (same_walk p.walk walk && one_cell p.rect part) ≡ t → in_place canvas (cond t (patch p.walk (bound p.rect part)) p) ≡ true
    go true e =
        let same : cell_of p.rect ≡ cell_of part = same_key-same _ _ (and_right (same_walk p.walk walk) _ e) in
        both_true _ _
        (ap (λ k. lies_in (bound p.rect part) (cell k)) (same_cell_key p.rect part same) ∙ bound_lies p.rect part (cell (cell_of p.rect)) (and_left _ _ i) (ap (λ k. lies_in part (cell k)) same ∙ and_left _ _ h))
        (bound_lies p.rect part canvas (and_right (lies_in p.rect (cell (cell_of p.rect))) _ i) (and_right (lies_in part (cell (cell_of part))) _ h))
    go false e = i

merged_alike : (walk : Walk) (part : Area) (p q : Patch) → alike (merged walk part p) (merged walk part q) ≡ alike p q
merged_alike walk part p q = same (merged_walk walk part p) (merged_walk walk part q) (merged_cell walk part p) (merged_cell walk part q)
  where
    same : {v v' w w' : Walk} {k k' l l' : Key} → v ≡ v' → w ≡ w' → k ≡ k' → l ≡ l' → (same_walk v w && same_key k l) ≡ (same_walk v' w' && same_key k' l')
    same e f g h i = same_walk (e i) (f i) && same_key (g i) (h i)

merged_unlike_one : (walk : Walk) (part : Area) (p : Patch) (ps : List Patch) → list_all (λ q. not (alike (merged walk part p) q)) (map (merged walk part) ps) ≡ list_all (λ q. not (alike p q)) ps
merged_unlike_one walk part p [] = refl
merged_unlike_one walk part p (q ∷ ps) = both (ap not (merged_alike walk part p q)) (merged_unlike_one walk part p ps)
  where
    both : {a b c d : Bool} → a ≡ b → c ≡ d → (a && c) ≡ (b && d)
    both e f i = e i && f i

pub merged_unlike : (walk : Walk) (part : Area) (ps : List Patch) → all_unlike (map (merged walk part) ps) ≡ all_unlike ps
merged_unlike walk part [] = refl
merged_unlike walk part (p ∷ ps) = both (merged_unlike_one walk part p ps) (merged_unlike walk part ps)
  where
    both : {a b c d : Bool} → a ≡ b → c ≡ d → (a && c) ≡ (b && d)
    both e f i = e i && f i

pub merged_place : (walk walk' : Walk) (part part' : Area) (ps : List Patch) → has_place walk' part' (map (merged walk part) ps) ≡ has_place walk' part' ps
merged_place walk walk' part part' [] = refl
merged_place walk walk' part part' (p ∷ ps) = one (merged_walk walk part p) (merged_cell walk part p) (merged_place walk walk' part part' ps)
  where
    one : {v v' : Walk} {k k' : Key} {b c : Bool} → v ≡ v' → k ≡ k' → b ≡ c → ((same_walk v walk' && same_key k (cell_of part')) || b) ≡ ((same_walk v' walk' && same_key k' (cell_of part')) || c)
    one e f g i = (same_walk (e i) walk' && same_key (f i) (cell_of part')) || g i

-- the same for all parts
merge_unlike : (walk : Walk) (more : List Area) (ps : List Patch) → all_unlike (merge_all walk more ps) ≡ all_unlike ps
merge_unlike walk [] ps = refl
merge_unlike walk (part ∷ more) ps = merge_unlike walk more (map (merged walk part) ps) ∙ merged_unlike walk part ps

pub merge_place : (walk walk' : Walk) (part' : Area) (more : List Area) (ps : List Patch) → has_place walk' part' (merge_all walk more ps) ≡ has_place walk' part' ps
merge_place walk walk' part' [] ps = refl
merge_place walk walk' part' (part ∷ more) ps = merge_place walk walk' part' more (map (merged walk part) ps) ∙ merged_place walk walk' part part' ps

map_placed : (canvas : Area) (walk : Walk) (part : Area) (ps : List Patch) → in_place canvas (patch walk part) ≡ true → list_all (in_place canvas) ps ≡ true → list_all (in_place canvas) (map (merged walk part) ps) ≡ true
map_placed canvas walk part [] h i = refl
map_placed canvas walk part (p ∷ ps) h i = both_true _ _ (merged_placed canvas walk part p h (and_left (in_place canvas p) _ i)) (map_placed canvas walk part ps h (and_right (in_place canvas p) _ i))

merge_placed : (canvas : Area) (walk : Walk) (more : List Area) (ps : List Patch) → list_all (λ part. in_place canvas (patch walk part)) more ≡ true → list_all (in_place canvas) ps ≡ true → list_all (in_place canvas) (merge_all walk more ps) ≡ true
merge_placed canvas walk [] ps h i = i
merge_placed canvas walk (part ∷ more) ps h i = merge_placed canvas walk more (map (merged walk part) ps) (and_right (in_place canvas (patch walk part)) _ h) (map_placed canvas walk part ps (and_left (in_place canvas (patch walk part)) _ h) i)

pub length_merge : (walk : Walk) (more : List Area) (ps : List Patch) → length (merge_all walk more ps) ≡ length ps
length_merge walk [] ps = refl
length_merge walk (part ∷ more) ps = length_merge walk more (map (merged walk part) ps) ∙ length_map (merged walk part) ps

pub length_append : {A : Type 0} (xs ys : List A) → length (xs ++ ys) ≡ length xs + length ys
length_append [] ys = omega arith
length_append (x ∷ xs) ys = let e : length (xs ++ ys) ≡ length xs + length ys = length_append xs ys in omega arith

pub unlike-append : (xs ys : List Patch) → all_unlike xs ≡ true → all_unlike ys ≡ true → list_all (λ q. not (list_any (λ x. alike x q) xs)) ys ≡ true → all_unlike (xs ++ ys) ≡ true
unlike-append [] ys h i c = i
unlike-append (x ∷ xs) ys h i c = both_true _ _
    (all_append (λ q. not (alike x q)) xs ys (and_left _ _ h) (all_from _ _ ys (λ q e. first (alike x q) _ e) c))
    (unlike-append xs ys (and_right (list_all (λ q. not (alike x q)) xs) _ h) i (all_from _ _ ys (λ q e. second (alike x q) _ e) c))
  where
    first : (a b : Bool) → not (a || b) ≡ true → not a ≡ true
    first true b e = e
    first false b e = refl

    second : (a b : Bool) → not (a || b) ≡ true → not b ≡ true
    second true b e = cc
    second false b e = e

-- the patches of the parts that no patch takes in are like none of those that are there
new_unlike : (walk : Walk) (more : List Area) (ps qs : List Patch) → ((part : Area) → has_place walk part qs ≡ has_place walk part ps) → list_all (λ q. not (list_any (λ x. alike x q) qs)) (map (patch walk) (new_parts walk more ps)) ≡ true
new_unlike walk [] ps qs same = refl
new_unlike walk (part ∷ more) ps qs same = go (new_unlike walk more ps qs same) (has_place walk part ps) refl
  where
    go : list_all (λ q. not (list_any (λ x. alike x q) qs)) (map (patch walk) (new_parts walk more ps)) ≡ true → (b : Bool) → has_place walk part ps ≡ b
        → list_all (λ q. not (list_any (λ x. alike x q) qs)) (map (patch walk) (cond (not b) (part ∷ new_parts walk more ps) (new_parts walk more ps))) ≡ true
    go rest true e = rest
    go rest false e = both_true _ _ (not_false _ (same part ∙ e)) rest

pub bound_all_lies : (canvas rect : Area) (ps : List Patch) → lies_in rect canvas ≡ true → list_all (in_place canvas) ps ≡ true → lies_in (bound_all rect ps) canvas ≡ true
bound_all_lies canvas rect [] h i = h
bound_all_lies canvas rect (p ∷ ps) h i = bound_all_lies canvas (bound rect p.rect) ps (bound_lies rect p.rect canvas h (and_right (lies_in p.rect (cell (cell_of p.rect))) _ (and_left (in_place canvas p) _ i))) (and_right (in_place canvas p) _ i)

placed_patches : (canvas : Area) (walk : Walk) (rects : List Area) → list_all (λ part. in_place canvas (patch walk part)) rects ≡ true → list_all (in_place canvas) (map (patch walk) rects) ≡ true
placed_patches canvas walk [] h = refl
placed_patches canvas walk (r ∷ rects) h = both_true _ _ (and_left (in_place canvas (patch walk r)) _ h) (placed_patches canvas walk rects (and_right (in_place canvas (patch walk r)) _ h))

pub parts_right : (canvas a : Area) (walk : Walk) → lies_in a canvas ≡ true → list_all (λ part. in_place canvas (patch walk part)) (parts a) ≡ true
parts_right canvas a walk h = ap (λ ps. list_all (λ part. in_place canvas (patch walk part)) ps) (by_grid a) ∙ parts_placed canvas a walk grid h

pub parts_apart : (a : Area) → cells_differ (parts a) ≡ true
parts_apart a = ap cells_differ (by_grid a) ∙ parts_differ a grid grid_differs

pub few_parts : (a : Area) → length (parts a) ≤ 64
few_parts a = let h : length (parts_in a grid) ≤ length grid = length_parts a grid in subst (λ ps. length ps ≤ 64) (sym (by_grid a)) h

replaced_right : (canvas rect : Area) (ps : List Patch) → lies_in rect canvas ≡ true → IsQueue canvas ps → IsQueue canvas (replaced ps rect)
replaced_right canvas rect ps h q = record {
  places = placed_patches canvas All (parts (bound_all rect ps)) (parts_right canvas _ All (bound_all_lies canvas rect ps h q.places));
  unlike = unlike_patches All (parts (bound_all rect ps)) (parts_apart _);
  few = subst (λ n. n ≤ 64) (sym (length_map (patch All) (parts (bound_all rect ps)))) (few_parts (bound_all rect ps));
}

added_right : (canvas : Area) (ps : List Patch) (walk : Walk) (rect : Area) → lies_in rect canvas ≡ true → IsQueue canvas ps → IsQueue canvas (added ps walk rect)
added_right canvas ps walk rect h q = go (nat_le (length ps + length (map (patch walk) (new_parts walk (parts rect) ps))) 64) refl
  where
    fresh : List Patch
    fresh = map (patch walk) (new_parts walk (parts rect) ps)

    go : (b : Bool) → nat_le (length ps + length (map (patch walk) (new_parts walk (parts rect) ps))) 64 ≡ b
        → IsQueue canvas (cond b (merge_all walk (parts rect) ps ++ map (patch walk) (new_parts walk (parts rect) ps)) (replaced ps rect))
    go true e = record {
      places = all_append (in_place canvas) (merge_all walk (parts rect) ps) fresh
          (merge_placed canvas walk (parts rect) ps (parts_right canvas rect walk h) q.places)
          (placed_patches canvas walk (new_parts walk (parts rect) ps) (all_filter (λ part. in_place canvas (patch walk part)) (λ part. not (has_place walk part ps)) (parts rect) (parts_right canvas rect walk h)));
      unlike = unlike-append (merge_all walk (parts rect) ps) fresh (merge_unlike walk (parts rect) ps ∙ q.unlike)
          (unlike_patches walk (new_parts walk (parts rect) ps) (filter_differ (λ part. not (has_place walk part ps)) (parts rect) (parts_apart rect)))
          (new_unlike walk (parts rect) ps (merge_all walk (parts rect) ps) (λ part. merge_place walk walk part (parts rect) ps));
      few = subst (λ n. n ≤ 64) (sym (length_append (merge_all walk (parts rect) ps) fresh ∙ ap (λ n. n + length fresh) (length_merge walk (parts rect) ps))) (grind (arith, nat_tests, e));
    }
    go false e = replaced_right canvas rect ps h q

-- what is queued or refreshed keeps to the rules
pub queued_right : (canvas : Area) (ps : List Patch) (walk : Walk) (rect : Area) → IsQueue canvas ps → IsQueue canvas (queued canvas ps walk rect)
unfolding queued
queued_right canvas ps walk rect q = go (meets canvas rect) refl
  where
    go : (b : Bool) → meets canvas rect ≡ b → IsQueue canvas (queued_part ps walk (cond b (Some (common canvas rect)) None))
    go true e = added_right canvas ps walk (common canvas rect) (common_lies_left canvas rect e) q
    go false e = q

pub refreshed_right : (canvas : Area) (ps : List Patch) (rect : Area) → IsQueue canvas ps → IsQueue canvas (refreshed canvas ps rect)
unfolding refreshed
refreshed_right canvas ps rect q = go (meets canvas rect) refl
  where
    go : (b : Bool) → meets canvas rect ≡ b → IsQueue canvas (refreshed_part ps (cond b (Some (common canvas rect)) None))
    go true e = replaced_right canvas (common canvas rect) ps (common_lies_left canvas rect e) q
    go false e = q
