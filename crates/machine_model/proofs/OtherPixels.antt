-- What other pixels of a layer do to the children of groups, and to what is covered.
use Rattle.std.proofs.Common.{◌≡◌, ℕ, Bool, true, false, ◌&&◌, ◌||◌, cond, List, [], ◌∷◌, Option, Some, None, refl, sym, ap, ◌∙◌, eqb, subst, ◌⊎◌, inl, inr}
use Rattle.std.specs.Ordering.{nat_cmp}
use Rattle.std.specs.FinMap.{FinMap}
use Rattle.std.specs.List.{list_any}
use Rattle.std.specs.Option.{unwrap_or}
use Rattle.pixel_core.specs.Rgba.{clear}
use Rattle.geom_core.specs.Areas.{Area, holds, Point}
use Rattle.doc_model.specs.declared.canvas.Walk.{Walk}
use Rattle.doc_model.specs.declared.canvas.Walk.TheVariants.{Up, All}
use Rattle.doc_model.specs.declared.canvas.Patch.{Patch}
use Rattle.doc_model.specs.Layers.{Layer, at}
use Rattle.doc_model.specs.Picture.{Doc, canvas_area}
use Rattle.doc_model.specs.Forest.{none, paint, group, content, with_content}
use Rattle.doc_model.specs.Strokes.{Stroke}
use Rattle.doc_model.proofs.Weights.{tree_distinct}
use Rattle.doc_model.specs.Ids.{IsTree}
use Rattle.doc_model.proofs.QueueLaws.{in_grid}
use Rattle.doc_model.specs.Queues.{queued_for}
use Rattle.doc_model.proofs.QueueWhole.{queued_stays, queued_takes}
use Rattle.doc_model.proofs.Paths.{content_put_back}
use Rattle.machine_model.specs.State.{Child, Walker, Slot, State, head_stroke}
use Rattle.machine_model.specs.Groups.{cache, with_pixels, nodes_in, path_of, on, parent_of}
use Rattle.machine_model.specs.Covers.{painted_group}
use Rattle.machine_model.specs.Slots.{is_painter}
use Rattle.machine_model.specs.Effects.{updates_with}
use Rattle.machine_model.specs.Caches.{SamePixels}
use Rattle.machine_model.proofs.GroupChildren.{children_same, is_child, nodes_with}
use Rattle.machine_model.proofs.WalkPaths.{SameAt, same_at_refl, folded_same, path_of_with, parent_of_with, is_child_side, child_above}
use Rattle.machine_model.proofs.Covers.{groups_of, slot_on, any_slot, covered_by, painted_path, FoldsAt, ReadsAt, any_same}
use Rattle.machine_model.proofs.TileBounds.{held_by}

same_choice_at : (b : Bool) (x y l : Layer) (p : Point) → at x p ≡ at y p → at (cond b x l) p ≡ at (cond b y l) p
same_choice_at true x y l p e = e
same_choice_at false x y l p e = refl

-- where two layers have the same pixel, so have the children
same_pixels_at : (caches : FinMap nat_cmp Layer) (q : ℕ) (x y : Layer) (f : Doc) (p : Point) → at x p ≡ at y p → SameAt (with_pixels caches (with_content q x f)) (with_pixels caches (with_content q y f)) p
same_pixels_at caches q x y none p e = tt
same_pixels_at caches q x y (paint id look l rest) p e = (refl, refl, same_choice_at (eqb q id) x y l p e, same_pixels_at caches q x y rest p e)
same_pixels_at caches q x y (group id look nodes rest) p e = (refl, refl, refl, same_pixels_at caches q x y rest p e)

-- a layer's other pixels leave the children of a group as they are at a point, unless the point was touched and the group is the layer's parent
moved_at : (caches : FinMap nat_cmp Layer) (q : ℕ) (x y : Layer) (doc : Doc) (g : ℕ) (p : Point) (touched : Bool) → IsTree doc → (touched ≡ false → at x p ≡ at y p)
    → SameAt (with_pixels caches (nodes_in g (with_content q x doc))) (with_pixels caches (nodes_in g (with_content q y doc))) p ⊎ ((touched ≡ true) × (parent_of q doc ≡ g))
moved_at caches q x y doc g p false t same = inl (subst (λ f. SameAt (with_pixels caches f) (with_pixels caches (nodes_in g (with_content q y doc))) p) (sym (nodes_with g q x doc))
    (subst (λ f. SameAt (with_pixels caches (with_content q x (nodes_in g doc))) (with_pixels caches f) p) (sym (nodes_with g q y doc)) (same_pixels_at caches q x y (nodes_in g doc) p (same refl))))
moved_at caches q x y doc g p true t same = go (is_child q (with_pixels caches (nodes_in g doc))) refl
  where
    go : (b : Bool) → is_child q (with_pixels caches (nodes_in g doc)) ≡ b → SameAt (with_pixels caches (nodes_in g (with_content q x doc))) (with_pixels caches (nodes_in g (with_content q y doc))) p ⊎ ((true ≡ true) × (parent_of q doc ≡ g))
    go false e = inl (subst (λ cs. SameAt cs (with_pixels caches (nodes_in g (with_content q y doc))) p) (sym (children_same caches g q x doc e))
        (subst (λ cs. SameAt (with_pixels caches (nodes_in g doc)) cs p) (sym (children_same caches g q y doc e)) (same_at_refl _ p)))
    go true e = inr (refl, ap (λ o. unwrap_or o 0) (child_above q g doc (tree_distinct doc t) (sym (is_child_side caches q (nodes_in g doc)) ∙ e)))

-- the same from a document that has these pixels
pub moved_from : (caches : FinMap nat_cmp Layer) (q : ℕ) (x y : Layer) (doc : Doc) (g : ℕ) (p : Point) (touched : Bool) → IsTree doc → content q doc ≡ Some x → (touched ≡ false → at x p ≡ at y p)
    → SameAt (with_pixels caches (nodes_in g doc)) (with_pixels caches (nodes_in g (with_content q y doc))) p ⊎ ((touched ≡ true) × (parent_of q doc ≡ g))
moved_from caches q x y doc g p touched t there same = subst (λ d. SameAt (with_pixels caches (nodes_in g d)) (with_pixels caches (nodes_in g (with_content q y doc))) p ⊎ ((touched ≡ true) × (parent_of q doc ≡ g)))
    (content_put_back q x doc (tree_distinct doc t) there) (moved_at caches q x y doc g p touched t same)

-- a cache that is a fold stays one where the children are the same
pub fold_moves : {caches caches' : FinMap nat_cmp Layer} {doc doc' : Doc} {up up' : List ℕ} {updates updates' : List Patch} {slots slots' : List Slot} {g : ℕ} {p : Point}
    → at (cache caches' g) p ≡ at (cache caches g) p → SameAt (with_pixels caches (nodes_in g doc)) (with_pixels caches' (nodes_in g doc')) p
    → (covered_by any_slot doc up updates slots g p ≡ true → covered_by any_slot doc' up' updates' slots' g p ≡ true) → FoldsAt caches doc up updates slots g p → FoldsAt caches' doc' up' updates' slots' g p
fold_moves {p = p} own same more h = record { is = elim h.is [ inl e ↦ inl (own ∙ e ∙ folded_same _ _ p clear clear same refl) | inr e ↦ inr (more e) ] }

-- the pixels that were read are those of the children still
pub reads_move : (path : List ℕ) (read xs ys : List Child) (p : Point) → SameAt xs ys p → SamePixels path read xs p → SamePixels path read ys p
reads_move path [] [] [] p same reads = tt
reads_move path (r ∷ read) (x ∷ xs) (y ∷ ys) p same reads = ((λ e. reads.0 e ∙ same.2), reads_move path read xs ys p same.3 reads.1)
reads_move path [] [] (y ∷ ys) p same reads = absurd same
reads_move path [] (x ∷ xs) ys p same reads = absurd reads
reads_move path (r ∷ read) [] ys p same reads = absurd reads
reads_move path (r ∷ read) (x ∷ xs) [] p same reads = absurd same

-- what was read stays so where the children are the same
pub read_moves : {caches : FinMap nat_cmp Layer} {doc doc' : Doc} {up up' : List ℕ} {updates updates' : List Patch} {slots slots' : List Slot} {w : Walker} {g : ℕ} {read : List Child} {p : Point}
    → SameAt (with_pixels caches (nodes_in g doc)) (with_pixels caches (nodes_in g doc')) p
    → (covered_by is_painter doc up updates slots g p ≡ true → covered_by is_painter doc' up' updates' slots' g p ≡ true) → ReadsAt caches doc up updates slots w g read p → ReadsAt caches doc' up' updates' slots' w g read p
read_moves {w = w} {read = read} {p = p} same more h = record { published = h.published; current = elim h.current [ inl e ↦ inl (reads_move (groups_of w) read _ _ p same e) | inr e ↦ inr (more e) ] }

-- or something covers the point now
pub fold_new : {caches' : FinMap nat_cmp Layer} {doc' : Doc} {up' : List ℕ} {updates' : List Patch} {slots' : List Slot} {g : ℕ} {p : Point} → covered_by any_slot doc' up' updates' slots' g p ≡ true → FoldsAt caches' doc' up' updates' slots' g p
fold_new e = record { is = inr e }

-- or something covers the point now
pub read_new : {caches : FinMap nat_cmp Layer} {doc doc' : Doc} {up up' : List ℕ} {updates updates' : List Patch} {slots slots' : List Slot} {w : Walker} {g : ℕ} {read : List Child} {p : Point}
    → covered_by is_painter doc' up' updates' slots' g p ≡ true → ReadsAt caches doc up updates slots w g read p → ReadsAt caches doc' up' updates' slots' w g read p
read_new e h = record { published = h.published; current = inr e }

-- other pixels change nothing that is covered
pub covered_by_with : (keep : Slot → Bool) (q : ℕ) (x : Layer) (doc : Doc) (up : List ℕ) (updates : List Patch) (slots : List Slot) (g : ℕ) (p : Point) → covered_by keep (with_content q x doc) up updates slots g p ≡ covered_by keep doc up updates slots g p
covered_by_with keep q x doc up updates slots g p = ap (λ b. b || list_any (λ slot. keep slot && slot_on up g p slot) slots)
    (any_same (λ (r : Patch). on g (path_of r.walk (with_content q x doc)) && holds r.rect p) (λ (r : Patch). on g (path_of r.walk doc) && holds r.rect p) updates (λ r. ap (λ gs. on g gs && holds r.rect p) (path_of_with r.walk q x doc)))

-- nor the path that is painted
pub up_with : (s : State) (q : ℕ) (x : Layer) → painted_path (record s { present = with_content q x s.present }) ≡ painted_path s
up_with s q x = go (head_stroke s)
  where
    go : (o : Option Stroke) → path_of (Up (painted_group (record s { present = with_content q x s.present }) o)) (with_content q x s.present) ≡ path_of (Up (painted_group s o)) s.present
    go None = path_of_with (Up 0) q x s.present
    go (Some stroke) = path_of_with (Up (parent_of stroke.layer (with_content q x s.present))) q x s.present ∙ ap (λ h. path_of (Up h) s.present) (parent_of_with stroke.layer q x s.present)

-- a bounding rectangle that is queued
pub updates_with_stays : (covers : Walk → Bool) → ((w : Walk) → covers w ≡ true → covers All ≡ true) → (s : State) (h : ℕ) (o : Option Area) (p : Point)
    → in_grid p ≡ true → queued_for covers s.updates p ≡ true → queued_for covers (updates_with s h o) p ≡ true
updates_with_stays covers all s h None p grid e = e
updates_with_stays covers all s h (Some rect) p grid e = queued_stays covers all (canvas_area s.canvas) s.updates (Up h) rect p grid e

-- what it holds waits afterwards
pub updates_with_takes : (covers : Walk → Bool) → ((w : Walk) → covers w ≡ true → covers All ≡ true) → (s : State) (h : ℕ) (o : Option Area) (p : Point)
    → in_grid p ≡ true → holds (canvas_area s.canvas) p ≡ true → covers (Up h) ≡ true → held_by o p ≡ true → queued_for covers (updates_with s h o) p ≡ true
updates_with_takes covers all s h None p grid inside c e = absurd (let t : false ≡ true = e in cc)
updates_with_takes covers all s h (Some rect) p grid inside c e = queued_takes covers all (canvas_area s.canvas) s.updates (Up h) rect p grid inside c e
