-- What is added and what is taken keeps to the rules of a list of patches.
use Rattle.std.proofs.Common.{◌≡◌, ℕ, zero, suc, Bool, true, false, not, cond, List, [], ◌∷◌, Some, None, refl, sym, ap, ◌∙◌, arith, subst}
use Rattle.std.specs.Prelude.{Option, remove, slice_get}
use Rattle.std.specs.List.{list_all, find, position_or_len}
use Rattle.std.proofs.lemmas.List.Folds.{find_at}
use Rattle.geom_core.specs.Areas.{Area, meets, lies_in}
use Rattle.geom_core.specs.Overlaps.{clipped, common}
use Rattle.geom_core.proofs.Tests.{and_left, and_right, both_true}
use Rattle.geom_core.proofs.Lying.{common_lies_left, lies_trans}
use Rattle.doc_model.specs.declared.canvas.Walk.{Walk}
use Rattle.doc_model.specs.declared.canvas.Patch.{Patch}
use Rattle.doc_model.specs.Updates.{bound_all, added, replaced, queued, queued_part, refreshed, refreshed_part}
use Rattle.doc_model.specs.Queues.{IsQueue, alike, all_unlike, in_place}
use Rattle.doc_model.proofs.Patches.{queued_right, refreshed_right, bound_all_lies}
use Rattle.update_queue.specs.Waiting.{Waiting, waiting, avoids, largest}
use Rattle.update_queue.proofs.Elements.{all-remove, length-remove}

clipped_lies : (canvas rect r : Area) → clipped canvas rect ≡ Some r → lies_in r canvas ≡ true
clipped_lies canvas rect r h = go (meets canvas rect) refl h
  where
    go : (b : Bool) → meets canvas rect ≡ b → cond b (Some (common canvas rect)) None ≡ Some r → lies_in r canvas ≡ true
    go true m e = let is : common canvas rect ≡ r = cc in ap (λ a. lies_in a canvas) (sym is) ∙ common_lies_left canvas rect m
    go false m e = cc

pub clipped_inside : (canvas rect r : Area) → lies_in canvas largest ≡ true → clipped canvas rect ≡ Some r → lies_in r largest ≡ true
clipped_inside canvas rect r l h = lies_trans r canvas largest (clipped_lies canvas rect r h) l

-- the bounding rectangle of what waits and a part of the canvas lies in the largest canvas
pub bound_inside : (canvas rect r : Area) (ps : List Patch) → lies_in canvas largest ≡ true → IsQueue canvas ps → clipped canvas rect ≡ Some r → lies_in (bound_all r ps) largest ≡ true
bound_inside canvas rect r ps l q h = lies_trans (bound_all r ps) canvas largest (bound_all_lies canvas r ps (clipped_lies canvas rect r h) q.places) l

queued_some : (canvas rect r : Area) (ps : List Patch) (walk : Walk) → clipped canvas rect ≡ Some r → queued canvas ps walk rect ≡ added ps walk r
unfolding queued
queued_some canvas rect r ps walk h = ap (queued_part ps walk) h

queued_none : (canvas rect : Area) (ps : List Patch) (walk : Walk) → clipped canvas rect ≡ None → queued canvas ps walk rect ≡ ps
unfolding queued
queued_none canvas rect ps walk h = ap (queued_part ps walk) h

refreshed_some : (canvas rect r : Area) (ps : List Patch) → clipped canvas rect ≡ Some r → refreshed canvas ps rect ≡ replaced ps r
unfolding refreshed
refreshed_some canvas rect r ps h = ap (refreshed_part ps) h

refreshed_none : (canvas rect : Area) (ps : List Patch) → clipped canvas rect ≡ None → refreshed canvas ps rect ≡ ps
unfolding refreshed
refreshed_none canvas rect ps h = ap (refreshed_part ps) h

pub queue_added : (canvas rect r : Area) (ps new : List Patch) (walk : Walk) → IsQueue canvas ps → clipped canvas rect ≡ Some r → new ≡ added ps walk r → IsQueue canvas new
queue_added canvas rect r ps new walk q h is = subst (IsQueue canvas) (queued_some canvas rect r ps walk h ∙ sym is) (queued_right canvas ps walk rect q)

pub queue_replaced : (canvas rect r : Area) (ps new : List Patch) → IsQueue canvas ps → clipped canvas rect ≡ Some r → new ≡ replaced ps r → IsQueue canvas new
queue_replaced canvas rect r ps new q h is = subst (IsQueue canvas) (refreshed_some canvas rect r ps h ∙ sym is) (refreshed_right canvas ps rect q)

-- the list seen after an addition
pub added_is : (canvas rect r : Area) (ps new : List Patch) (walk : Walk) (old : Waiting) → waiting canvas ps ≡ old → clipped canvas rect ≡ Some r → new ≡ added ps walk r → waiting canvas new ≡ waiting old.canvas (queued old.canvas old.patches walk rect)
added_is canvas rect r ps new walk old seen h is = ap (waiting canvas) (is ∙ sym (queued_some canvas rect r ps walk h)) ∙ ap (λ (w : Waiting). waiting w.canvas (queued w.canvas w.patches walk rect)) seen

pub nothing_added : (canvas rect : Area) (ps : List Patch) (walk : Walk) (old : Waiting) → waiting canvas ps ≡ old → clipped canvas rect ≡ None → old ≡ waiting old.canvas (queued old.canvas old.patches walk rect)
nothing_added canvas rect ps walk old seen h = sym seen ∙ ap (waiting canvas) (sym (queued_none canvas rect ps walk h)) ∙ ap (λ (w : Waiting). waiting w.canvas (queued w.canvas w.patches walk rect)) seen

-- a list that an addition doesn't change
pub stays_added : (canvas rect r : Area) (ps : List Patch) (walk : Walk) (old : Waiting) → waiting canvas ps ≡ old → clipped canvas rect ≡ Some r → added old.patches walk r ≡ old.patches → old ≡ waiting old.canvas (queued old.canvas old.patches walk rect)
stays_added canvas rect r ps walk old seen h same =
    let part : clipped old.canvas rect ≡ Some r = ap (λ (w : Waiting). clipped w.canvas rect) (sym seen) ∙ h in
    ap (waiting old.canvas) (sym (queued_some old.canvas rect r old.patches walk part ∙ same))

pub stays_refreshed : (canvas rect r : Area) (ps : List Patch) (old : Waiting) → waiting canvas ps ≡ old → clipped canvas rect ≡ Some r → replaced old.patches r ≡ old.patches → old ≡ waiting old.canvas (refreshed old.canvas old.patches rect)
stays_refreshed canvas rect r ps old seen h same =
    let part : clipped old.canvas rect ≡ Some r = ap (λ (w : Waiting). clipped w.canvas rect) (sym seen) ∙ h in
    ap (waiting old.canvas) (sym (refreshed_some old.canvas rect r old.patches part ∙ same))

pub replaced_is : (canvas rect r : Area) (ps new : List Patch) (old : Waiting) → waiting canvas ps ≡ old → clipped canvas rect ≡ Some r → new ≡ replaced ps r → waiting canvas new ≡ waiting old.canvas (refreshed old.canvas old.patches rect)
replaced_is canvas rect r ps new old seen h is = ap (waiting canvas) (is ∙ sym (refreshed_some canvas rect r ps h)) ∙ ap (λ (w : Waiting). waiting w.canvas (refreshed w.canvas w.patches rect)) seen

pub nothing_replaced : (canvas rect : Area) (ps : List Patch) (old : Waiting) → waiting canvas ps ≡ old → clipped canvas rect ≡ None → old ≡ waiting old.canvas (refreshed old.canvas old.patches rect)
nothing_replaced canvas rect ps old seen h = sym seen ∙ ap (waiting canvas) (sym (refreshed_none canvas rect ps h)) ∙ ap (λ (w : Waiting). waiting w.canvas (refreshed w.canvas w.patches rect)) seen

unlike-remove : (ps : List Patch) (i : ℕ) → all_unlike ps ≡ true → all_unlike (remove ps i) ≡ true
unlike-remove [] zero h = refl
unlike-remove [] (suc i) h = refl
unlike-remove (p ∷ ps) zero h = and_right (list_all (λ q. not (alike p q)) ps) _ h
unlike-remove (p ∷ ps) (suc i) h = both_true _ _ (all-remove (λ q. not (alike p q)) ps i (and_left _ _ h)) (unlike-remove ps i (and_right (list_all (λ q. not (alike p q)) ps) _ h))

queue-remove : (canvas : Area) (ps : List Patch) (i : ℕ) → IsQueue canvas ps → IsQueue canvas (remove ps i)
queue-remove canvas ps i q = record {
  places = all-remove (in_place canvas) ps i q.places;
  unlike = unlike-remove ps i q.unlike;
  few = let fewer = length-remove ps i in let few = q.few in omega arith;
}

pub queue_removed : (canvas : Area) (ps new : List Patch) (i : ℕ) → IsQueue canvas ps → new ≡ remove ps i → IsQueue canvas new
queue_removed canvas ps new i q is = subst (IsQueue canvas) (sym is) (queue-remove canvas ps i q)

-- the first patch that avoids the walkers is taken, and the others are left
pub taken_is : (canvas : Area) (running : List Area) (ps : List Patch) (i : ℕ) (r : Option Patch) (old : Waiting) → waiting canvas ps ≡ old → i ≡ position_or_len (avoids running) ps → r ≡ slice_get ps i → r ≡ find (avoids running) old.patches
taken_is canvas running ps i r old seen at is = is ∙ ap (slice_get ps) at ∙ sym (find_at (avoids running) ps) ∙ ap (λ (w : Waiting). find (avoids running) w.patches) seen

pub left_is : (canvas : Area) (running : List Area) (ps new : List Patch) (i : ℕ) (old : Waiting) → waiting canvas ps ≡ old → i ≡ position_or_len (avoids running) ps → new ≡ remove ps i
    → waiting canvas new ≡ waiting old.canvas (remove old.patches (position_or_len (avoids running) old.patches))
left_is canvas running ps new i old seen at is = ap (waiting canvas) (is ∙ ap (remove ps) at) ∙ ap (λ (w : Waiting). waiting w.canvas (remove w.patches (position_or_len (avoids running) w.patches))) seen
