-- A cancel keeps what caches and running walks hold; and what an undo or redo of a stroke shares with it.
use Rattle.geom_core.proofs.Tests.{kept, or_left, or_right, none_left, none_right, not_true, no_first}
use Rattle.std.proofs.Common.{◌≡◌, ℕ, suc, zero, ◌<◌, Bool, true, false, ◌&&◌, ◌||◌, List, [], ◌∷◌, Option, Some, None, refl, sym, ap, ◌∙◌, arith, subst, ◌⊎◌, inl, inr, take}
use Rattle.std.specs.Ordering.{nat_cmp}
use Rattle.std.specs.FinMap.{FinMap}
use Rattle.std.specs.FinSet as set
use Rattle.std.specs.List.{list_any, AllByRecursion}
use Rattle.std.proofs.lemmas.List.Folds.{list_any-append}
use Rattle.geom_core.specs.Areas.{Area, holds, Point}
use Rattle.geom_core.specs.Rects.{any_holds}
use Rattle.geom_core.specs.Grid.{Key, key_set}
use Rattle.doc_model.specs.declared.canvas.Walk.{Walk}
use Rattle.doc_model.specs.declared.canvas.Walk.TheVariants.{Up}
use Rattle.doc_model.specs.declared.canvas.Patch.{Patch}
use Rattle.doc_model.specs.Layers.{Layer, at}
use Rattle.doc_model.specs.Jobs.{writes}
use Rattle.doc_model.specs.Picture.{Doc, canvas_area}
use Rattle.doc_model.specs.Forest.{content, with_content}
use Rattle.doc_model.specs.Strokes.{Jobs, Stroke}
use Rattle.doc_model.proofs.Contents.{with_content-with_content, content-with_content}
use Rattle.doc_model.proofs.Weights.{tree_distinct}
use Rattle.doc_model.specs.Ids.{IsTree}
use Rattle.doc_model.proofs.QueueLaws.{in_grid}
use Rattle.doc_model.specs.Queues.{queued_for}
use Rattle.doc_model.proofs.Paths.{content_put_back}
use Rattle.machine_model.specs.State.{Child, Walker, Slot, State}
use Rattle.machine_model.specs.Groups.{with_pixels, nodes_in, path_of, on, parent_of}
use Rattle.machine_model.specs.Covers.{composes}
use Rattle.machine_model.specs.Slots.{is_painter}
use Rattle.machine_model.specs.Painters.{done}
use Rattle.machine_model.specs.Step.{CancelStep}
use Rattle.machine_model.specs.Effects.{updates_with, bound_of, writes_of, started_jobs}
use Rattle.machine_model.specs.Guards.{kept_jobs}
use Rattle.machine_model.specs.Caches.{CachesFold, WalkIsRight}
use Rattle.machine_model.specs.Walking.{WalkStands, IsGroupOf, WalkInside}
use Rattle.machine_model.specs.UnderWay.{IsOnWay, shown, writes_at}
use Rattle.machine_model.proofs.WalkPaths.{grouped, grouped_with, SameAt, same_at_refl, path_here, path_all, path_of_with}
use Rattle.machine_model.proofs.Covers.{slot_on, any_slot, covered_by, painted_path, IsFold, IsRead, FoldsAt, ReadsAt, caches_by, walks_by, any_same}
use Rattle.machine_model.proofs.JobCaches.{covered_by_idle, either_covers}
use Rattle.machine_model.proofs.OtherPixels.{moved_from, fold_moves, read_moves, fold_new, read_new, updates_with_stays, updates_with_takes}
use Rattle.machine_model.proofs.TileBounds.{areas_hold}

-- a part of a state that is what another part is
pub fold_at : (new : State) {caches : FinMap nat_cmp Layer} {doc : Doc} {updates : List Patch} {slots : List Slot} {g : ℕ} {p : Point} → new.caches ≡ caches → new.present ≡ doc → new.updates ≡ updates → new.slots ≡ slots
    → FoldsAt caches doc (painted_path new) updates slots g p → IsFold new g p
fold_at new {g = g} {p = p} a b c d h = subst (λ (v : FinMap nat_cmp Layer × (Doc × (List Patch × List Slot))). FoldsAt v.0 v.1.0 (painted_path new) v.1.1.0 v.1.1.1 g p) (λ i. (sym a i, (sym b i, (sym c i, sym d i)))) h

read_at : (new : State) {caches : FinMap nat_cmp Layer} {doc : Doc} {updates : List Patch} {slots : List Slot} {w : Walker} {g : ℕ} {read : List Child} {p : Point} → new.caches ≡ caches → new.present ≡ doc → new.updates ≡ updates → new.slots ≡ slots
    → ReadsAt caches doc (painted_path new) updates slots w g read p → IsRead new w g read p
read_at new {w = w} {g = g} {read = read} {p = p} a b c d h = subst (λ (v : FinMap nat_cmp Layer × (Doc × (List Patch × List Slot))). ReadsAt v.0 v.1.0 (painted_path new) v.1.1.0 v.1.1.1 w g read p) (λ i. (sym a i, (sym b i, (sym c i, sym d i)))) h

-- documents with the same paths
covered_by_docs : (keep : Slot → Bool) (d d' : Doc) (up : List ℕ) (updates : List Patch) (slots : List Slot) (g : ℕ) (p : Point) → ((w : Walk) → path_of w d ≡ path_of w d') → covered_by keep d up updates slots g p ≡ covered_by keep d' up updates slots g p
covered_by_docs keep d d' up updates slots g p same = ap (λ b. b || list_any (λ slot. keep slot && slot_on up g p slot) slots)
    (any_same (λ (r : Patch). on g (path_of r.walk d) && holds r.rect p) (λ (r : Patch). on g (path_of r.walk d') && holds r.rect p) updates (λ r. ap (λ gs. on g gs && holds r.rect p) (same r.walk)))

-- present and base have the same paths and groups
base_paths : (s : State) → IsOnWay s s.way → (w : Walk) → path_of w s.present ≡ path_of w s.base
base_paths s way w = go s.way way
  where
    go : (o : Option ℕ) → IsOnWay s o → path_of w s.present ≡ path_of w s.base
    go None rest = ap (path_of w) rest.same
    go (Some n) u = ap (path_of w) u.is ∙ path_of_with w u.stroke.layer u.layer s.base

base_grouped : (s : State) → IsOnWay s s.way → (g : ℕ) → grouped g s.present ≡ grouped g s.base
base_grouped s way g = go s.way way
  where
    go : (o : Option ℕ) → IsOnWay s o → grouped g s.present ≡ grouped g s.base
    go None rest = ap (grouped g) rest.same
    go (Some n) u = ap (grouped g) u.is ∙ grouped_with g u.stroke.layer u.layer s.base

-- outside the rectangles of the started jobs nothing was painted
areas_outside : (jobs : Jobs) (n j : ℕ) (p : Point) → any_holds (writes_of (take n jobs)) p ≡ false → j < n → any_holds (writes_at jobs j) p ≡ false
areas_outside [] n j p out h = refl
areas_outside (k ∷ jobs) zero j p out h = absurd (omega arith)
areas_outside (k ∷ jobs) (suc n) zero p out h = none_left (any_holds (writes k.1) p) _ (sym (list_any-append (λ a. holds a p) (writes k.1) (writes_of (take n jobs))) ∙ out)
areas_outside (k ∷ jobs) (suc n) (suc j) p out h = areas_outside jobs n j p (none_right (any_holds (writes k.1) p) _ (sym (list_any-append (λ a. holds a p) (writes k.1) (writes_of (take n jobs))) ∙ out)) (omega arith)

shown_outside : (jobs : Jobs) (layer : Layer) (d : ℕ → Key → Bool) (n : ℕ) (p : Point) → ((j : ℕ) → j < n → any_holds (writes_at jobs j) p ≡ false) → shown jobs layer d n p ≡ at layer p
shown_outside jobs layer d zero p out = refl
shown_outside jobs layer d (suc n) p out = kept _ _ _ (no_first _ _ (out n (omega arith))) ∙ shown_outside jobs layer d n p (λ j h. out j (omega arith))

module _ (old new : State) (tree : IsTree old.base) (present_tree : IsTree old.present) (way : IsOnWay old old.way) (step : CancelStep old new) where
  -- the stroke's layer
  abbrev q : ℕ
  q = step.stroke.layer

  -- the rectangles of the jobs that were started
  abbrev rects : List Area
  rects = writes_of (started_jobs old step.stroke)

  -- the patches that wait afterwards
  abbrev queue : List Patch
  queue = updates_with old (parent_of q old.present) (bound_of (set.items (key_set rects)))

  -- whether one of them may have painted the point
  abbrev touched : Point → Bool
  touched p = any_holds rects p

  idle : list_any is_painter old.slots ≡ false
  idle = not_true _ step.idle

  back_move : (g : ℕ) (p : Point) → SameAt (with_pixels old.caches (nodes_in g old.present)) (with_pixels old.caches (nodes_in g old.base)) p ⊎ ((touched p ≡ true) × (parent_of q old.present ≡ g))
  back_move g p = go old.way refl way
    where
      go : (o : Option ℕ) → old.way ≡ o → IsOnWay old o → SameAt (with_pixels old.caches (nodes_in g old.present)) (with_pixels old.caches (nodes_in g old.base)) p ⊎ ((touched p ≡ true) × (parent_of q old.present ≡ g))
      go None e rest = inl (subst (λ d. SameAt (with_pixels old.caches (nodes_in g old.present)) (with_pixels old.caches (nodes_in g d)) p) rest.same (same_at_refl _ p))
      go (Some n) e u = subst (λ d. SameAt (with_pixels old.caches (nodes_in g old.present)) (with_pixels old.caches (nodes_in g d)) p ⊎ ((touched p ≡ true) × (parent_of q old.present ≡ g))) back
          (moved_from old.caches q u.layer u.base_layer old.present g p (touched p) present_tree there outside)
        where
          same_stroke : step.stroke ≡ u.stroke
          same_stroke = let e : Some step.stroke ≡ Some u.stroke = sym step.at_head ∙ u.at_head in cc

          there : content q old.present ≡ Some u.layer
          there = ap (λ (t : Stroke). content t.layer old.present) same_stroke ∙ ap (content u.stroke.layer) u.is ∙ content-with_content u.stroke.layer u.layer u.base_layer old.base u.was

          back : with_content q u.base_layer old.present ≡ old.base
          back = ap (λ (t : Stroke). with_content t.layer u.base_layer old.present) same_stroke ∙ ap (with_content u.stroke.layer u.base_layer) u.is ∙ with_content-with_content u.stroke.layer u.base_layer u.layer old.base
              ∙ content_put_back u.stroke.layer u.base_layer old.base (tree_distinct old.base tree) u.was

          rects_are : rects ≡ writes_of (take n (kept_jobs u.stroke))
          rects_are = rw e (ap (λ (t : Stroke). writes_of (take n (kept_jobs t))) same_stroke)

          outside : touched p ≡ false → at u.layer p ≡ at u.base_layer p
          outside f = u.painted.pixels p ∙ shown_outside (kept_jobs u.stroke) u.base_layer (done old.slots) n p (λ j h. areas_outside (kept_jobs u.stroke) n j p (ap (λ rs. any_holds rs p) (sym rects_are) ∙ f) h)

  -- what was covered stays so, and what was touched is covered for the layer's parent
  covers : (keep : Slot → Bool) (up : List ℕ) (g : ℕ) (p : Point) → grouped g old.base ≡ true → in_grid p ≡ true → covered_by keep old.present (painted_path old) old.updates old.slots g p ≡ true → covered_by keep old.base up queue old.slots g p ≡ true
  covers keep up g p is grid h = either_covers _ _ _
      (λ e. or_left _ _ (updates_with_stays (composes g old.base) (λ w e. path_all g old.base is) old (parent_of q old.present) (bound_of (set.items (key_set rects))) p grid e))
      (λ e. or_right (queued_for (composes g old.base) queue p) _ e)
      (sym (covered_by_idle keep old.base (painted_path old) up old.updates old.slots g p idle) ∙ sym (covered_by_docs keep old.present old.base (painted_path old) old.updates old.slots g p (base_paths old way)) ∙ h)

  touched_covered : (keep : Slot → Bool) (up : List ℕ) (g : ℕ) (p : Point) → grouped g old.base ≡ true → in_grid p ≡ true → holds (canvas_area old.canvas) p ≡ true → touched p ≡ true → parent_of q old.present ≡ g → covered_by keep old.base up queue old.slots g p ≡ true
  touched_covered keep up g p is grid inside hit above = or_left _ _ (updates_with_takes (composes g old.base) (λ w e. path_all g old.base is) old (parent_of q old.present) (bound_of (set.items (key_set rects))) p grid inside
      (ap (λ h. on g (path_of (Up h) old.base)) above ∙ path_here g old.base is) (areas_hold rects p hit))

  -- groups of present are groups of base
  abbrev by_present : (g : ℕ) → grouped g old.present ≡ true → grouped g old.base ≡ true
  by_present g is = sym (base_grouped old way g) ∙ is

  pub caches_cancel : ((p : Point) → holds (canvas_area old.canvas) p ≡ true → in_grid p ≡ true) → CachesFold old → CachesFold new
  caches_cancel grid = caches_by old new (ap (λ (s : State). s.canvas) step.new_is)
      (λ g h. base_grouped old way g ∙ ap (λ (s : State). grouped g s.present) (sym step.new_is) ∙ h)
      (λ g p is inside h. fold_at new (ap (λ (s : State). s.caches) step.new_is) (ap (λ (s : State). s.present) step.new_is) (ap (λ (s : State). s.updates) step.new_is) (ap (λ (s : State). s.slots) step.new_is)
      (elim (back_move g p) [
        | inl same ↦ fold_moves refl same (covers any_slot (painted_path new) g p (by_present g is) (grid p inside)) h
        | inr hit ↦ fold_new (touched_covered any_slot (painted_path new) g p (by_present g is) (grid p inside) inside hit.0 hit.1)
      ]))

  pub walks_cancel : ((p : Point) → holds (canvas_area old.canvas) p ≡ true → in_grid p ≡ true) → ((v : Walk) (g : ℕ) → IsGroupOf old.present v → on g (path_of v old.present) ≡ true → grouped g old.present ≡ true)
      → AllByRecursion (WalkStands old) old.slots → AllByRecursion (WalkInside (canvas_area old.canvas)) old.slots → AllByRecursion (WalkIsRight old) old.slots → AllByRecursion (WalkIsRight new) new.slots
  walks_cancel grid groups stands within right = subst (AllByRecursion (WalkIsRight new)) (ap (λ (s : State). s.slots) (sym step.new_is))
      (walks_by old new (λ v is path p g read held inside on' same h. point v g read p (groups v.patch.walk g is (ap (on g) (sym path) ∙ on')) inside h) old.slots stands within right)
    where
      point : (v : Walker) (g : ℕ) (read : List Child) (p : Point) → grouped g old.present ≡ true → holds (canvas_area old.canvas) p ≡ true → IsRead old v g read p → IsRead new v g read p
      point v g read p is inside h = read_at new (ap (λ (s : State). s.caches) step.new_is) (ap (λ (s : State). s.present) step.new_is) (ap (λ (s : State). s.updates) step.new_is) (ap (λ (s : State). s.slots) step.new_is)
          (elim (back_move g p) [
            | inl same ↦ read_moves same (covers is_painter (painted_path new) g p (by_present g is) (grid p inside)) h
            | inr hit ↦ read_new (touched_covered is_painter (painted_path new) g p (by_present g is) (grid p inside) inside hit.0 hit.1) h
          ])
