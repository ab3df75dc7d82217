-- The law of the list of patches, whole: what was queued stays queued, and what is added is queued.
use Rattle.std.proofs.Common.{◌≡◌, ◌+◌, Bool, true, false, ◌&&◌, ◌||◌, not, cond, List, [], ◌∷◌, ◌++◌, map, refl, ◌∙◌, Some, None, length, ◌⊎◌, inl, inr}
use Rattle.std.specs.Prelude.{nat_le}
use Rattle.std.specs.List.{list_any}
use Rattle.std.proofs.lemmas.List.Folds.{list_any-append}
use Rattle.geom_core.specs.Areas.{Area, holds, meets, Point}
use Rattle.geom_core.specs.Overlaps.{common}
use Rattle.geom_core.specs.Grid.{parts}
use Rattle.doc_model.specs.declared.canvas.Walk.{Walk}
use Rattle.doc_model.specs.declared.canvas.Walk.TheVariants.{All}
use Rattle.doc_model.specs.declared.canvas.Patch.{Patch}
use Rattle.doc_model.specs.Updates.{queued, queued_part, refreshed, refreshed_part, added, replaced, merged, merge_all, new_parts, has_place, bound_all, patch}
use Rattle.doc_model.proofs.Conflicts.{meets_at}
use Rattle.doc_model.proofs.Patches.{merged_place}
use Rattle.doc_model.proofs.QueueLaws.{common_holds, in_grid, parts_hold, queued_for, queued_keeps, merge_all_keeps, bound_all_first, map_patch, place_takes}
use Rattle.geom_core.proofs.Tests.{and_left, and_right, both_true, or_cases, or_left, or_right}

-- a part that has a place has one after a merge
has_place_stays : (walk : Walk) (other part : Area) (patches : List Patch) → has_place walk part patches ≡ true → has_place walk part (map (merged walk other) patches) ≡ true
has_place_stays walk other part patches h = merged_place walk walk other part patches ∙ h

-- a part that has a place is queued after all were merged
merge_all_takes : (covers : Walk → Bool) (walk : Walk) (more : List Area) (patches : List Patch) (p : Point) → covers walk ≡ true
    → list_any (λ part. has_place walk part patches && holds part p) more ≡ true → queued_for covers (merge_all walk more patches) p ≡ true
merge_all_takes covers walk [] patches p c h = absurd (let t : false ≡ true = h in cc)
merge_all_takes covers walk (part ∷ more) patches p c h = elim (or_cases (has_place walk part patches && holds part p) _ h) [
  | inl e ↦ merge_all_keeps covers walk more (map (merged walk part) patches) p (place_takes covers walk part patches p c (and_left (has_place walk part patches) _ e) (and_right (has_place walk part patches) _ e))
  | inr e ↦ merge_all_takes covers walk more (map (merged walk part) patches) p c (stay more e)
]
  where
    stay : (ps : List Area) → list_any (λ q. has_place walk q patches && holds q p) ps ≡ true → list_any (λ q. has_place walk q (map (merged walk part) patches) && holds q p) ps ≡ true
    stay [] h = h
    stay (q ∷ ps) h = elim (or_cases (has_place walk q patches && holds q p) _ h) [
      | inl e ↦ or_left _ _ (both_true _ _ (has_place_stays walk part q patches (and_left (has_place walk q patches) _ e)) (and_right (has_place walk q patches) _ e))
      | inr e ↦ or_right _ _ (stay ps e)
    ]

-- each part has a place or is a new one
parts_either : (walk : Walk) (more : List Area) (patches : List Patch) (p : Point) → list_any (λ c. holds c p) more ≡ true
    → (list_any (λ part. has_place walk part patches && holds part p) more ≡ true) ⊎ (list_any (λ c. holds c p) (new_parts walk more patches) ≡ true)
parts_either walk [] patches p h = absurd (let t : false ≡ true = h in cc)
parts_either walk (part ∷ more) patches p h = go (λ e. parts_either walk more patches p e) (has_place walk part patches) refl
  where
    go : (list_any (λ c. holds c p) more ≡ true → (list_any (λ part. has_place walk part patches && holds part p) more ≡ true) ⊎ (list_any (λ c. holds c p) (new_parts walk more patches) ≡ true))
        → (b : Bool) → has_place walk part patches ≡ b
        → (((b && holds part p) || list_any (λ part. has_place walk part patches && holds part p) more) ≡ true) ⊎ (list_any (λ c. holds c p) (cond (not b) (part ∷ new_parts walk more patches) (new_parts walk more patches)) ≡ true)
    go rest true e = elim (or_cases (holds part p) _ h) [
      | inl f ↦ inl (or_left (holds part p) _ f)
      | inr f ↦ elim (rest f) [ inl g ↦ inl (or_right (holds part p) _ g) | inr g ↦ inr g ]
    ]
    go rest false e = elim (or_cases (holds part p) _ h) [
      | inl f ↦ inr (or_left (holds part p) _ f)
      | inr f ↦ elim (rest f) [ inl g ↦ inl g | inr g ↦ inr (or_right (holds part p) _ g) ]
    ]

-- what is added is queued
pub added_takes : (covers : Walk → Bool) → ((w : Walk) → covers w ≡ true → covers All ≡ true) → (patches : List Patch) (walk : Walk) (rect : Area) (p : Point)
    → in_grid p ≡ true → covers walk ≡ true → holds rect p ≡ true → queued_for covers (added patches walk rect) p ≡ true
added_takes covers all patches walk rect p g c h = go (nat_le (length patches + length (map (patch walk) (new_parts walk (parts rect) patches))) 64)
  where
    go : (b : Bool) → queued_for covers (cond b (merge_all walk (parts rect) patches ++ map (patch walk) (new_parts walk (parts rect) patches)) (replaced patches rect)) p ≡ true
    go true = list_any-append _ (merge_all walk (parts rect) patches) _ ∙ elim (parts_either walk (parts rect) patches p (parts_hold rect p g h)) [
      | inl e ↦ or_left _ _ (merge_all_takes covers walk (parts rect) patches p c e)
      | inr e ↦ or_right (queued_for covers (merge_all walk (parts rect) patches) p) _ (map_patch covers walk (new_parts walk (parts rect) patches) p c e)
    ]
    go false = map_patch covers All (parts (bound_all rect patches)) p (all walk c) (parts_hold (bound_all rect patches) p g (bound_all_first rect patches p h))

pub queued_stays : (covers : Walk → Bool) → ((w : Walk) → covers w ≡ true → covers All ≡ true) → (canvas : Area) (patches : List Patch) (walk : Walk) (rect : Area) (p : Point)
    → in_grid p ≡ true → queued_for covers patches p ≡ true → queued_for covers (queued canvas patches walk rect) p ≡ true
unfolding queued
queued_stays covers all canvas patches walk rect p g h = go (meets canvas rect)
  where
    go : (b : Bool) → queued_for covers (queued_part patches walk (cond b (Some (common canvas rect)) None)) p ≡ true
    go true = queued_keeps covers all patches walk (common canvas rect) p g h
    go false = h

pub queued_takes : (covers : Walk → Bool) → ((w : Walk) → covers w ≡ true → covers All ≡ true) → (canvas : Area) (patches : List Patch) (walk : Walk) (rect : Area) (p : Point)
    → in_grid p ≡ true → holds canvas p ≡ true → covers walk ≡ true → holds rect p ≡ true → queued_for covers (queued canvas patches walk rect) p ≡ true
unfolding queued
queued_takes covers all canvas patches walk rect p g k c h = go (meets canvas rect) refl
  where
    go : (b : Bool) → meets canvas rect ≡ b → queued_for covers (queued_part patches walk (cond b (Some (common canvas rect)) None)) p ≡ true
    go true e = added_takes covers all patches walk (common canvas rect) p g c (common_holds canvas rect p k h)
    go false e = absurd (let t : meets canvas rect ≡ true = meets_at canvas rect p k h in cc)

pub refreshed_takes : (covers : Walk → Bool) → covers All ≡ true → (canvas : Area) (patches : List Patch) (rect : Area) (p : Point)
    → in_grid p ≡ true → holds canvas p ≡ true → holds rect p ≡ true → queued_for covers (refreshed canvas patches rect) p ≡ true
unfolding refreshed
refreshed_takes covers all canvas patches rect p g k h = go (meets canvas rect) refl
  where
    go : (b : Bool) → meets canvas rect ≡ b → queued_for covers (refreshed_part patches (cond b (Some (common canvas rect)) None)) p ≡ true
    go true e = map_patch covers All (parts (bound_all (common canvas rect) patches)) p all (parts_hold (bound_all (common canvas rect) patches) p g (bound_all_first (common canvas rect) patches p (common_holds canvas rect p k h)))
    go false e = absurd (let t : meets canvas rect ≡ true = meets_at canvas rect p k h in cc)
