-- What was queued stays queued, and what is added is queued.
use Rattle.std.proofs.Common.{◌≡◌, ℕ, ◌+◌, Bool, true, false, ◌&&◌, cond, List, [], ◌∷◌, ◌++◌, map, refl, ap, ◌∙◌, arith, length, inl, inr}
use Rattle.std.specs.Prelude.{ℤ, pos, ◌+ℤ◌, int_le, int_lt, nat_abs, ◌-ℤ◌, nat_le}
use Rattle.std.specs.Int.{int_min, int_max}
use borrow.Author.Differences.{ints}
use Rattle.std.specs.List.{list_any, filter_map}
use Rattle.std.proofs.lemmas.Bool.Decides.{nat_tests}
use Rattle.std.proofs.lemmas.List.Folds.{list_any-append}
use Rattle.geom_core.specs.Areas.{Area, area, holds, meets, Point}
use Rattle.geom_core.specs.Overlaps.{bound, clipped, common}
use Rattle.geom_core.specs.Grid.{cells, parts}
use Rattle.geom_core.proofs.Cells.{any_cells}
use Rattle.doc_model.specs.declared.canvas.Walk.{Walk}
use Rattle.doc_model.specs.declared.canvas.Walk.TheVariants.{Up, All}
use Rattle.doc_model.specs.declared.canvas.Patch.{Patch}
use Rattle.doc_model.specs.Updates.{added, replaced, merged, merge_all, new_parts, has_place, bound_all, patch, same_walk, one_cell}
pub use Rattle.doc_model.specs.Queues.{queued_for}
use Rattle.geom_core.proofs.Tests.{and_left, and_right, both_true, or_cases, or_left, or_right}
use Rattle.doc_model.proofs.Conflicts.{meets_at}

-- one axis of the bounding rectangle
axis : (a b p : ℤ) (n m : ℕ) → (int_le a p && int_lt p (a +ℤ pos n)) ≡ true → (int_le (int_min a b) p && int_lt p (int_min a b +ℤ pos (nat_abs (int_max (a +ℤ pos n) (b +ℤ pos m) -ℤ int_min a b)))) ≡ true
axis a b p n m h = grind (arith, ints)

axis' : (a b p : ℤ) (n m : ℕ) → (int_le b p && int_lt p (b +ℤ pos m)) ≡ true → (int_le (int_min a b) p && int_lt p (int_min a b +ℤ pos (nat_abs (int_max (a +ℤ pos n) (b +ℤ pos m) -ℤ int_min a b)))) ≡ true
axis' a b p n m h = grind (arith, ints)

pub bound_left : (a b : Area) (p : Point) → holds a p ≡ true → holds (bound a b) p ≡ true
bound_left a b p h = both_true _ _ (axis a.x b.x p.x a.w b.w (and_left _ _ h)) (axis a.y b.y p.y a.h b.h (and_right _ _ h))

pub bound_right : (a b : Area) (p : Point) → holds b p ≡ true → holds (bound a b) p ≡ true
bound_right a b p h = both_true _ _ (axis' a.x b.x p.x a.w b.w (and_left _ _ h)) (axis' a.y b.y p.y a.h b.h (and_right _ _ h))

-- one axis of the common points
axis_common : (a b p : ℤ) (n m : ℕ) → (int_le a p && int_lt p (a +ℤ pos n)) ≡ true → (int_le b p && int_lt p (b +ℤ pos m)) ≡ true
    → (int_le (int_max a b) p && int_lt p (int_max a b +ℤ pos (cond (int_lt (int_max a b) (int_min (a +ℤ pos n) (b +ℤ pos m))) (nat_abs (int_min (a +ℤ pos n) (b +ℤ pos m) -ℤ int_max a b)) 0))) ≡ true
axis_common a b p n m h k = grind (arith, ints)

pub common_holds : (a b : Area) (p : Point) → holds a p ≡ true → holds b p ≡ true → holds (common a b) p ≡ true
common_holds a b p h k = both_true _ _ (axis_common a.x b.x p.x a.w b.w (and_left _ _ h) (and_left _ _ k)) (axis_common a.y b.y p.y a.h b.h (and_right _ _ h) (and_right _ _ k))

-- the parts by some cells hold what the rectangle and a cell hold
parts_by : (a : Area) (cs : List Area) (p : Point) → holds a p ≡ true → list_any (λ c. holds c p) cs ≡ true → list_any (λ c. holds c p) (filter_map (clipped a) cs) ≡ true
parts_by a [] p h k = cc
parts_by a (c ∷ cs) p h k = go (λ e. parts_by a cs p h e) (meets a c) refl
  where
    go : (list_any (λ c. holds c p) cs ≡ true → list_any (λ c. holds c p) (filter_map (clipped a) cs) ≡ true) → (b : Bool) → meets a c ≡ b → list_any (λ c. holds c p) (filter_map (clipped a) (c ∷ cs)) ≡ true
    go rest true e = rw e (elim (or_cases _ _ k) [ inl f ↦ or_left _ _ (common_holds a c p h f) | inr f ↦ or_right _ _ (rest f) ])
    go rest false e = rw e (elim (or_cases _ _ k) [ inl f ↦ (let t : meets a c ≡ true = meets_at a c p h f in cc) | inr f ↦ rest f ])

-- the points of the largest canvas
abbrev pub in_grid : Point → Bool
in_grid p = holds (area (pos 0) (pos 0) 2048 2048) p

pub parts_hold : (a : Area) (p : Point) → in_grid p ≡ true → holds a p ≡ true → list_any (λ c. holds c p) (parts a) ≡ true
parts_hold a p g h = parts_by a cells p h (any_cells p ∙ g)

-- a merge keeps what a patch holds
merged_keeps : (covers : Walk → Bool) (walk : Walk) (part : Area) (q : Patch) (p : Point) → (covers q.walk && holds q.rect p) ≡ true → (covers (merged walk part q).walk && holds (merged walk part q).rect p) ≡ true
merged_keeps covers walk part q p h = go (same_walk q.walk walk && one_cell q.rect part)
  where
    go : (b : Bool) → (covers (cond b (patch q.walk (bound q.rect part)) q).walk && holds (cond b (patch q.walk (bound q.rect part)) q).rect p) ≡ true
    go true = both_true _ _ (and_left _ _ h) (bound_left q.rect part p (and_right _ _ h))
    go false = h

pub map_merged_keeps : (covers : Walk → Bool) (walk : Walk) (part : Area) (patches : List Patch) (p : Point) → queued_for covers patches p ≡ true → queued_for covers (map (merged walk part) patches) p ≡ true
map_merged_keeps covers walk part [] p h = cc
map_merged_keeps covers walk part (q ∷ patches) p h = elim (or_cases _ _ h) [ inl e ↦ or_left _ _ (merged_keeps covers walk part q p e) | inr e ↦ or_right _ _ (map_merged_keeps covers walk part patches p e) ]

pub merge_all_keeps : (covers : Walk → Bool) (walk : Walk) (more : List Area) (patches : List Patch) (p : Point) → queued_for covers patches p ≡ true → queued_for covers (merge_all walk more patches) p ≡ true
merge_all_keeps covers walk [] patches p h = h
merge_all_keeps covers walk (part ∷ more) patches p h = merge_all_keeps covers walk more (map (merged walk part) patches) p (map_merged_keeps covers walk part patches p h)

pub bound_all_first : (rect : Area) (patches : List Patch) (p : Point) → holds rect p ≡ true → holds (bound_all rect patches) p ≡ true
bound_all_first rect [] p h = h
bound_all_first rect (q ∷ patches) p h = bound_all_first (bound rect q.rect) patches p (bound_left rect q.rect p h)

pub bound_all_patch : (covers : Walk → Bool) (rect : Area) (patches : List Patch) (p : Point) → queued_for covers patches p ≡ true → holds (bound_all rect patches) p ≡ true
bound_all_patch covers rect [] p h = cc
bound_all_patch covers rect (q ∷ patches) p h = elim (or_cases (covers q.walk && holds q.rect p) (queued_for covers patches p) h) [ inl e ↦ bound_all_first (bound rect q.rect) patches p (bound_right rect q.rect p (and_right (covers q.walk) (holds q.rect p) e)) | inr e ↦ bound_all_patch covers (bound rect q.rect) patches p e ]

pub map_patch : (covers : Walk → Bool) (walk : Walk) (rects : List Area) (p : Point) → covers walk ≡ true → list_any (λ c. holds c p) rects ≡ true → queued_for covers (map (patch walk) rects) p ≡ true
map_patch covers walk [] p c h = cc
map_patch covers walk (r ∷ rects) p c h = elim (or_cases _ _ h) [ inl e ↦ or_left _ _ (both_true _ _ c e) | inr e ↦ or_right _ _ (map_patch covers walk rects p c e) ]

-- what was queued stays queued
pub queued_keeps : (covers : Walk → Bool) → ((w : Walk) → covers w ≡ true → covers All ≡ true) → (patches : List Patch) (walk : Walk) (rect : Area) (p : Point)
    → in_grid p ≡ true → queued_for covers patches p ≡ true → queued_for covers (added patches walk rect) p ≡ true
queued_keeps covers all patches walk rect p g h = go (nat_le (length patches + length (map (patch walk) (new_parts walk (parts rect) patches))) 64)
  where
    all_covered : (ps : List Patch) → queued_for covers ps p ≡ true → covers All ≡ true
    all_covered [] e = cc
    all_covered (q ∷ ps) e = elim (or_cases (covers q.walk && holds q.rect p) (queued_for covers ps p) e) [ inl f ↦ all q.walk (and_left (covers q.walk) (holds q.rect p) f) | inr f ↦ all_covered ps f ]

    go : (b : Bool) → queued_for covers (cond b (merge_all walk (parts rect) patches ++ map (patch walk) (new_parts walk (parts rect) patches)) (replaced patches rect)) p ≡ true
    go true = list_any-append _ (merge_all walk (parts rect) patches) _ ∙ or_left _ _ (merge_all_keeps covers walk (parts rect) patches p h)
    go false = map_patch covers All (parts (bound_all rect patches)) p (all_covered patches h) (parts_hold (bound_all rect patches) p g (bound_all_patch covers rect patches p h))

-- where a patch takes the part in, what the part holds is queued
merged_takes : (covers : Walk → Bool) (walk : Walk) (part : Area) (q : Patch) (p : Point) → (same_walk q.walk walk && one_cell q.rect part) ≡ true → covers q.walk ≡ true → holds part p ≡ true
    → (covers (merged walk part q).walk && holds (merged walk part q).rect p) ≡ true
merged_takes covers walk part q p e c h = rw e (both_true _ _ c (bound_right q.rect part p h))

-- to have the same walk
same_walk-same : (a b : Walk) → same_walk a b ≡ true → a ≡ b
same_walk-same All All e = refl
same_walk-same (Up a) (Up b) e = ap Up (grind (arith, nat_tests))
same_walk-same All (Up b) e = cc
same_walk-same (Up a) All e = cc

pub place_takes : (covers : Walk → Bool) (walk : Walk) (part : Area) (patches : List Patch) (p : Point) → covers walk ≡ true → has_place walk part patches ≡ true → holds part p ≡ true → queued_for covers (map (merged walk part) patches) p ≡ true
place_takes covers walk part [] p c e h = cc
place_takes covers walk part (q ∷ patches) p c e h = elim (or_cases (same_walk q.walk walk && one_cell q.rect part) (has_place walk part patches) e) [
  | inl f ↦ or_left _ _ (merged_takes covers walk part q p f (ap covers (same_walk-same q.walk walk (and_left (same_walk q.walk walk) (one_cell q.rect part) f)) ∙ c) h)
  | inr f ↦ or_right _ _ (place_takes covers walk part patches p c f h)
]
