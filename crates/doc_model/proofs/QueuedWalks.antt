-- The walks of what is queued.
use Rattle.std.proofs.Common.{◌≡◌, ◌+◌, Bool, true, false, ◌&&◌, cond, List, [], ◌∷◌, ◌++◌, map, length, Some, None, subst, sym}
use Rattle.std.specs.Prelude.{nat_le}
use Rattle.std.specs.List.{AllByRecursion}
use Rattle.geom_core.specs.Areas.{Area, meets}
use Rattle.geom_core.specs.Overlaps.{bound, common}
use Rattle.geom_core.specs.Grid.{parts}
use Rattle.doc_model.specs.declared.canvas.Walk.{Walk}
use Rattle.doc_model.specs.declared.canvas.Walk.TheVariants.{All}
use Rattle.doc_model.specs.declared.canvas.Patch.{Patch}
use Rattle.doc_model.specs.Updates.{same_walk, one_cell, patch, merged, merge_all, new_parts, bound_all, replaced, queued, queued_part, refreshed, refreshed_part}

module _ (P : Walk → Type 0) where
  abbrev pub EachWalk : List Patch → Type 0
  EachWalk ps = AllByRecursion (λ (p : Patch). P p.walk) ps

  merged_each : (walk : Walk) (part : Area) (ps : List Patch) → EachWalk ps → EachWalk (map (merged walk part) ps)
  merged_each walk part [] h = tt
  merged_each walk part (p ∷ ps) h = (go (same_walk p.walk walk && one_cell p.rect part), merged_each walk part ps h.1)
    where
      go : (t : Bool) → P (cond t (patch p.walk (bound p.rect part)) p).walk
      go true = h.0
      go false = h.0

  merge_each : (walk : Walk) (more : List Area) (ps : List Patch) → EachWalk ps → EachWalk (merge_all walk more ps)
  merge_each walk [] ps h = h
  merge_each walk (part ∷ more) ps h = merge_each walk more (map (merged walk part) ps) (merged_each walk part ps h)

  patches_each : (walk : Walk) (rects : List Area) → P walk → EachWalk (map (patch walk) rects)
  patches_each walk [] h = tt
  patches_each walk (r ∷ rects) h = (h, patches_each walk rects h)

  append_each : (ps qs : List Patch) → EachWalk ps → EachWalk qs → EachWalk (ps ++ qs)
  append_each [] qs h i = i
  append_each (p ∷ ps) qs h i = (h.0, append_each ps qs h.1 i)

  -- a walk that is queued is one that was queued, the new one, or that of all groups
  pub queued_each : (canvas : Area) (ps : List Patch) (walk : Walk) (rect : Area) → P walk → P All → EachWalk ps → EachWalk (queued canvas ps walk rect)
  unfolding queued
  queued_each canvas ps walk rect new all h = go (meets canvas rect)
    where
      enough : (r : Area) (b : Bool) → EachWalk (cond b (merge_all walk (parts r) ps ++ map (patch walk) (new_parts walk (parts r) ps)) (replaced ps r))
      enough r true = append_each (merge_all walk (parts r) ps) _ (merge_each walk (parts r) ps h) (patches_each walk (new_parts walk (parts r) ps) new)
      enough r false = patches_each All (parts (bound_all r ps)) all

      go : (b : Bool) → EachWalk (queued_part ps walk (cond b (Some (common canvas rect)) None))
      go true = enough (common canvas rect) (nat_le (length ps + length (map (patch walk) (new_parts walk (parts (common canvas rect)) ps))) 64)
      go false = h

  -- a refresh that is not empty leaves walks of all groups alone
  pub refreshed_whole : (canvas : Area) (ps : List Patch) (rect : Area) → meets canvas rect ≡ true → P All → EachWalk (refreshed canvas ps rect)
  unfolding refreshed
  refreshed_whole canvas ps rect e all = subst (λ b. EachWalk (refreshed_part ps (cond b (Some (common canvas rect)) None))) (sym e) (patches_each All (parts (bound_all (common canvas rect) ps)) all)
