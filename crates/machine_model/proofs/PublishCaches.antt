-- A job that publishes a tile keeps what caches and running walks hold.
use Rattle.std.proofs.Common.{◌≡◌, ℕ, Bool, true, ◌&&◌, ◌||◌, cond, List, ◌∷◌, Some, refl, sym, ap, ◌∙◌, subst, ◌⊎◌, inl, inr}
use Rattle.std.specs.Prelude.{slice_set}
use Rattle.std.specs.List.{AllByRecursion}
use Rattle.geom_core.specs.Areas.{Point}
use Rattle.geom_core.specs.Rects.{any_holds}
use Rattle.geom_core.specs.Grid.{Key}
use Rattle.doc_model.specs.declared.canvas.Walk.{Walk}
use Rattle.doc_model.specs.declared.canvas.Walk.TheVariants.{Up}
use Rattle.doc_model.specs.Layers.{Layer, at}
use Rattle.doc_model.specs.Jobs.{writes, apply}
use Rattle.doc_model.specs.Shots.{published, in_tile}
use Rattle.doc_model.specs.Picture.{Doc, canvas_area}
use Rattle.doc_model.specs.Forest.{content, with_content}
use Rattle.doc_model.proofs.Shots.{at-published}
use Rattle.doc_model.proofs.Weights.{tree_distinct}
use Rattle.doc_model.specs.Ids.{IsTree}
use Rattle.doc_model.specs.Queues.{queued_for}
use Rattle.geom_core.proofs.Tests.{or_right, both_true, and_left}
use Rattle.doc_model.proofs.SameContent.{adjusted_is}
use Rattle.machine_model.specs.State.{Child, Painter, Walker, Slot, Paints, State}
use Rattle.machine_model.specs.Groups.{with_pixels, nodes_in, path_of, on, parent_of}
use Rattle.machine_model.specs.Covers.{composes}
use Rattle.machine_model.specs.Slots.{is_painter}
use Rattle.machine_model.specs.Step.{PublishStep}
use Rattle.machine_model.specs.Caches.{CachesFold, WalkIsRight}
use Rattle.machine_model.specs.Walking.{WalkStands, IsGroupOf, WalkInside}
use Rattle.machine_model.proofs.Lists.{all_set}
use Rattle.machine_model.proofs.WalkPaths.{grouped, grouped_with, SameAt, path_here}
use Rattle.machine_model.proofs.Covers.{slot_on, any_slot, covered_by, painted_path, IsFold, IsRead, caches_by, walks_by, any_set_same, any_found}
use Rattle.machine_model.proofs.JobCaches.{painted_by}
use Rattle.machine_model.proofs.OtherPixels.{moved_from, fold_moves, read_moves, fold_new, read_new, covered_by_with, up_with}

module _ (old new : State) (place : ℕ) (key : Key) (tree : IsTree old.present) (step : PublishStep old place key new) (layer : Layer) (on_layer : content step.stroke.layer old.present ≡ Some layer) where
  -- the stroke's layer
  abbrev q : ℕ
  q = step.stroke.layer

  -- the job that publishes
  abbrev w : Painter
  w = step.painter

  -- the layer afterwards
  abbrev after : Layer
  after = published w.job w.shot key layer

  -- the slots afterwards
  abbrev slots' : List Slot
  slots' = slice_set old.slots place (Paints (record w { published = key ∷ w.published }))

  -- the document afterwards
  abbrev doc' : Doc
  doc' = with_content q after old.present

  -- the state afterwards
  abbrev next : State
  next = record old { present = doc'; slots = slots' }

  new_is : new ≡ next
  new_is = step.new_is ∙ ap (λ d. record old { present = d; slots = slots' }) (adjusted_is q (published w.job w.shot key) layer old.present (tree_distinct old.present tree) on_layer)

  -- whether the publish may change the point
  abbrev touched : Point → Bool
  touched p = any_holds (writes w.job) p && in_tile key p

  -- what is covered stays so
  covers : (keep : Slot → Bool) → keep (Paints (record w { published = key ∷ w.published })) ≡ keep (Paints w) → (g : ℕ) (p : Point)
      → covered_by keep doc' (painted_path next) old.updates slots' g p ≡ covered_by keep old.present (painted_path old) old.updates old.slots g p
  covers keep same g p = covered_by_with keep q after old.present (painted_path next) old.updates slots' g p
      ∙ ap (λ up. covered_by keep old.present up old.updates slots' g p) (up_with old q after)
      ∙ ap (λ b. queued_for (composes g old.present) old.updates p || b)
      (any_set_same (λ slot. keep slot && slot_on (painted_path old) g p slot) old.slots place (Paints w) (Paints (record w { published = key ∷ w.published })) step.runs (ap (λ b. b && (any_holds (writes w.job) p && on g (painted_path old))) same))

  -- a point that was painted is covered for the layer's parent
  painted_covered : (keep : Slot → Bool) → keep (Paints (record w { published = key ∷ w.published })) ≡ keep (Paints w) → keep (Paints w) ≡ true → (g : ℕ) (p : Point) → grouped g old.present ≡ true → touched p ≡ true → parent_of q old.present ≡ g
      → covered_by keep doc' (painted_path next) old.updates slots' g p ≡ true
  painted_covered keep same keeps g p is hit above = covers keep same g p
      ∙ or_right (queued_for (composes g old.present) old.updates p) _
      (any_found (λ slot. keep slot && slot_on (painted_path old) g p slot) old.slots place (Paints w) step.runs (both_true _ _ keeps (both_true _ _ (and_left (any_holds (writes w.job) p) _ hit) on_up)))
    where
      on_up : on g (painted_path old) ≡ true
      on_up = ap (on g) (painted_by old step.stroke step.at_head) ∙ ap (λ h. on g (path_of (Up h) old.present)) above ∙ path_here g old.present is

  children_move : (g : ℕ) (p : Point) → SameAt (with_pixels old.caches (nodes_in g old.present)) (with_pixels old.caches (nodes_in g doc')) p ⊎ ((touched p ≡ true) × (parent_of q old.present ≡ g))
  children_move g p = moved_from old.caches q layer after old.present g p (touched p) tree on_layer (λ e. sym (at-published w.job w.shot key layer p ∙ ap (λ b. cond b (at (apply w.job w.shot) p) (at layer p)) e))

  pub caches_publish : CachesFold old → CachesFold new
  caches_publish = caches_by old new (ap (λ (s : State). s.canvas) new_is)
      (λ g h. sym (grouped_with g q after old.present) ∙ ap (λ (s : State). grouped g s.present) (sym new_is) ∙ h)
      (λ g p is inside h. subst (λ s. IsFold s g p) (sym new_is) (point g p is h))
    where
      point : (g : ℕ) (p : Point) → grouped g old.present ≡ true → IsFold old g p → IsFold next g p
      point g p is h = elim (children_move g p) [
        | inl same ↦ fold_moves refl same (λ c. covers any_slot refl g p ∙ c) h
        | inr hit ↦ fold_new (painted_covered any_slot refl refl g p is hit.0 hit.1)
      ]

  pub walks_publish : ((v : Walk) (g : ℕ) → IsGroupOf old.present v → on g (path_of v old.present) ≡ true → grouped g old.present ≡ true)
      → AllByRecursion (WalkStands old) old.slots → AllByRecursion (WalkInside (canvas_area old.canvas)) old.slots → AllByRecursion (WalkIsRight old) old.slots → AllByRecursion (WalkIsRight new) new.slots
  walks_publish groups stands inside right = subst (AllByRecursion (WalkIsRight new)) (ap (λ (s : State). s.slots) (sym new_is))
      (all_set (WalkIsRight new) old.slots place _
      (walks_by old new (λ v is path p g read held inside on' same h. subst (λ s. IsRead s v g read p) (sym new_is) (point v g read p (groups v.patch.walk g is (ap (on g) (sym path) ∙ on')) h)) old.slots stands inside right) tt)
    where
      point : (v : Walker) (g : ℕ) (read : List Child) (p : Point) → grouped g old.present ≡ true → IsRead old v g read p → IsRead next v g read p
      point v g read p is h = elim (children_move g p) [
        | inl same ↦ read_moves same (λ c. covers is_painter refl g p ∙ c) h
        | inr hit ↦ read_new (painted_covered is_painter refl refl g p is hit.0 hit.1) h
      ]
