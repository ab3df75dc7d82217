-- Points that are up to date stay so.
use Rattle.std.proofs.Common.{◌≡◌, ℕ, Bool, true, false, List, [], ◌∷◌, Some, refl, sym, ap, ◌∙◌, subst, arith, eqb, inl, inr}
use Rattle.std.specs.Prelude.{slice_set}
use Rattle.std.specs.Ordering.{nat_cmp}
use Rattle.std.specs.FinMap.{FinMap}
use Rattle.std.specs.List.{list_any, AllByRecursion}
use Rattle.std.proofs.lemmas.Bool.Decides.{nat_tests}
use Rattle.pixel_core.specs.Rgba.{clear}
use Rattle.geom_core.specs.Areas.{holds, Point}
use Rattle.geom_core.specs.Rects.{any_holds}
use Rattle.geom_core.specs.Grid.{Key}
use Rattle.geom_core.proofs.Tests.{not_true}
use Rattle.doc_model.specs.declared.canvas.Patch.{Patch}
use Rattle.doc_model.specs.Jobs.{writes}
use Rattle.doc_model.specs.Layers.{Layer, at}
use Rattle.doc_model.specs.Picture.{Doc, canvas_area}
use Rattle.doc_model.specs.Forest.{none, paint, group, content, with_content}
use Rattle.doc_model.specs.Ids.{IsTree}
use Rattle.doc_model.specs.Shots.{in_tile}
use Rattle.doc_model.specs.Strokes.{Stroke}
use Rattle.doc_model.proofs.Weights.{tree_distinct}
use Rattle.machine_model.specs.State.{Walker, Slot, Free, Paints, Walks, State}
use Rattle.machine_model.specs.Event.{Event, Feed, Init, Start, Publish, End, Finish, Cancel, Act, WalkStart, WalkPublish, WalkEnd}
use Rattle.machine_model.specs.Step.{Step, StartStep, PublishStep, WalkStartStep, WalkPublishStep}
use Rattle.machine_model.specs.Slots.{is_painter, is_walker, no_painter, no_walker}
use Rattle.machine_model.specs.Groups.{with_pixels, nodes_in, on, path_of}
use Rattle.machine_model.specs.Covers.{folded, covered}
use Rattle.machine_model.specs.Guards.{is_paint}
use Rattle.machine_model.specs.Effects.{after_finish}
use Rattle.machine_model.specs.EffectLaws.{PublishesTile, ComposesTile}
use Rattle.machine_model.specs.Sound.{IsSound}
use Rattle.machine_model.specs.Walking.{IsGroupOf}
use Rattle.machine_model.specs.Walks.{walk_value, walk_values, walk_shot}
use Rattle.machine_model.proofs.Continuing.{runs_continue}
use Rattle.machine_model.proofs.EffectsHold.{publish_stays_in_tile, walk_stays_in_tile}
use Rattle.machine_model.proofs.Lists.{all_set, all_get, all_map}
use Rattle.machine_model.proofs.OtherPixels.{moved_from}
use Rattle.machine_model.proofs.RootPicture.{still_is_clean}
use Rattle.machine_model.proofs.StateTrees.{present_tree}
use Rattle.machine_model.proofs.WalkPaths.{grouped, grouped_with, path_grouped, SameAt, folded_same}
use Rattle.frame_core.specs.Damage.{Parts, is_damaged}
use Rattle.desk_core.specs.UpToDate.{AreCached, cached_at, LeavesPoint, UpToDate, IsUpToDate, IsTracked}
use Rattle.desk_core.specs.Events.{is_quiet}
use Rattle.machine_model.proofs.WalkEndCaches.{firsts, on_path_cached, paint_off_path}
use Rattle.desk_core.proofs.Values.{start_cached, value_cached, still_cached}

-- a layer that is the same at the point leaves the children of each group so
same_children : (caches : FinMap nat_cmp Layer) (q : ℕ) (x y : Layer) (doc : Doc) (g : ℕ) (p : Point) → IsTree doc → content q doc ≡ Some x → at x p ≡ at y p → SameAt (with_pixels caches (nodes_in g doc)) (with_pixels caches (nodes_in g (with_content q y doc))) p
same_children caches q x y doc g p t there same = elim (moved_from caches q x y doc g p false t there (λ e. same)) [ inl e ↦ e | inr e ↦ absurd (let f : false ≡ true = e.0 in cc) ]

-- a job publishes a tile
publish_up_to_date : (old new : State) (place : ℕ) (key : Key) (p : Point) → IsSound old → PublishStep old place key new → IsUpToDate old p → IsUpToDate new p
publish_up_to_date old new place key p sound step up_to_date = record {
  folds = λ g is. subst (λ caches. cached_at caches p g ≡ folded (with_pixels caches (nodes_in g new.present)) p clear) (ap (λ (s : State). s.caches) (sym step.new_is))
      (subst (λ doc. cached_at old.caches p g ≡ folded (with_pixels old.caches (nodes_in g doc)) p clear) (sym told.is) (folds g (sym (grouped_with g told.stroke.layer told.after old.present) ∙ ap (grouped g) (sym told.is) ∙ is)));
  leaves = subst (λ caches. AllByRecursion (LeavesPoint caches p) new.slots) (ap (λ (s : State). s.caches) (sym step.new_is))
      (subst (AllByRecursion (LeavesPoint old.caches p)) (ap (λ (s : State). s.slots) (sym step.new_is)) (all_set (LeavesPoint old.caches p) old.slots place _ up_to_date.leaves (all_get (LeavesPoint old.caches p) old.slots place (Paints step.painter) up_to_date.leaves step.runs)));
}
  where
    told : PublishesTile old new place key
    told = publish_stays_in_tile old new place key sound.orderly step

    same : at told.before p ≡ at told.after p
    same = sym (told.out_of_writes p (all_get (LeavesPoint old.caches p) old.slots place (Paints told.painter) up_to_date.leaves told.at_work))

    folds : (g : ℕ) → grouped g old.present ≡ true → cached_at old.caches p g ≡ folded (with_pixels old.caches (nodes_in g (with_content told.stroke.layer told.after old.present))) p clear
    folds g is = up_to_date.folds g is ∙ folded_same _ _ p clear clear (same_children old.caches told.stroke.layer told.before told.after old.present g p (present_tree old sound.orderly) told.was same) refl

-- a walk starts
walk_start_up_to_date : (old new : State) (place : ℕ) (patch : Patch) (p : Point) → IsSound old → WalkStartStep old place patch new → IsUpToDate old p → IsUpToDate new p
walk_start_up_to_date old new place patch p sound step up_to_date = subst (λ s. IsUpToDate s p) (sym step.new_is) (record {
  folds = up_to_date.folds;
  leaves = all_set (LeavesPoint old.caches p) old.slots place (Walks (record { serial = old.next; patch = patch; shot = walk_shot old patch; published = [] })) up_to_date.leaves values;
})
  where
    tree : IsTree old.present
    tree = present_tree old sound.orderly

    is : IsGroupOf old.present patch.walk
    is = all_get (λ (q : Patch). IsGroupOf old.present q.walk) old.updates step.i patch sound.orderly.walking.groups step.waits

    values : holds patch.rect p ≡ true → AreCached (cached_at old.caches p) (walk_values (walk_shot old patch) [] p)
    values h = start_cached old patch.rect (path_of patch.walk old.present) (path_of patch.walk old.present) [] p h
        (λ g. on_path_cached (path_of patch.walk old.present) old.caches (nodes_in g old.present) p (λ c child. paint_off_path c g patch.walk old.present tree is child))
        (λ g e. up_to_date.folds g (path_grouped patch.walk g old.present (tree_distinct old.present tree) is e))
        tt (λ i e. absurd (let t : false ≡ true = e in cc)) (λ i e. e)

-- children with the same pixels at the point
cached_same : (caches caches' : FinMap nat_cmp Layer) (f : Doc) (p : Point) → ((c : ℕ) → cached_at caches p c ≡ cached_at caches' p c) → SameAt (with_pixels caches f) (with_pixels caches' f) p
cached_same caches caches' none p same = tt
cached_same caches caches' (paint id look x rest) p same = (refl, refl, refl, cached_same caches caches' rest p same)
cached_same caches caches' (group id look nodes rest) p same = (refl, refl, same id, cached_same caches caches' rest p same)

-- what is at work, beside other caches with the same pixels at the point
leaves_same : (caches caches' : FinMap nat_cmp Layer) (p : Point) → ((c : ℕ) → cached_at caches p c ≡ cached_at caches' p c) → (slot : Slot) → LeavesPoint caches p slot → LeavesPoint caches' p slot
leaves_same caches caches' p same Free h = tt
leaves_same caches caches' p same (Paints w) h = h
leaves_same caches caches' p same (Walks w) h = λ e. still_cached (cached_at caches p) (cached_at caches' p) (walk_values w.shot [] p) same (h e)

-- a walk publishes a tile
walk_publish_up_to_date : (old new : State) (place g : ℕ) (key : Key) (p : Point) → WalkPublishStep old place g key new → IsUpToDate old p → IsUpToDate new p
unfolding walk_value
walk_publish_up_to_date old new place g key p step up_to_date = record {
  folds = λ c is. sym (same c) ∙ up_to_date.folds c (ap (λ (s : State). grouped c s.present) (sym step.new_is) ∙ is)
      ∙ folded_same _ _ p clear clear (cached_same old.caches new.caches (nodes_in c old.present) p same) refl
      ∙ ap (λ (s : State). folded (with_pixels new.caches (nodes_in c s.present)) p clear) (sym step.new_is);
  leaves = subst (AllByRecursion (LeavesPoint new.caches p)) (ap (λ (s : State). s.slots) (sym step.new_is))
      (all_set (LeavesPoint new.caches p) old.slots place (Walks (record step.walker { published = (g, key) ∷ step.walker.published })) (all_map (LeavesPoint old.caches p) (LeavesPoint new.caches p) old.slots (leaves_same old.caches new.caches p same) up_to_date.leaves)
      (leaves_same old.caches new.caches p same (Walks step.walker) (all_get (LeavesPoint old.caches p) old.slots place (Walks step.walker) up_to_date.leaves step.runs)));
}
  where
    told : ComposesTile old new place g key
    told = walk_stays_in_tile old new place g key step

    own : holds told.walker.patch.rect p ≡ true → AreCached (cached_at old.caches p) (walk_values told.walker.shot [] p)
    own = all_get (LeavesPoint old.caches p) old.slots place (Walks told.walker) up_to_date.leaves told.at_work

    one : step.walker ≡ told.walker
    one = let both : Some (Walks step.walker) ≡ Some (Walks told.walker) = sym step.runs ∙ told.at_work in cc

    here : cached_at old.caches p g ≡ cached_at new.caches p g
    here = inside (holds told.walker.patch.rect p) refl (in_tile key p) refl
      where
        inside : (a : Bool) → holds told.walker.patch.rect p ≡ a → (b : Bool) → in_tile key p ≡ b → cached_at old.caches p g ≡ cached_at new.caches p g
        inside false e b f = sym (told.out_of_patch p e)
        inside true e false f = sym (told.out_of_tile p f)
        inside true e true f = sym (told.inside p e f ∙ value_cached (cached_at old.caches p) told.walker.shot g p (own e) (ap (λ (w : Walker). on g (firsts w.shot)) (sym one) ∙ step.on_path))

    same : (c : ℕ) → cached_at old.caches p c ≡ cached_at new.caches p c
    same c = go (eqb c g) refl
      where
        go : (b : Bool) → eqb c g ≡ b → cached_at old.caches p c ≡ cached_at new.caches p c
        go true e = let is : g ≡ c = grind (arith, nat_tests) in subst (λ n. cached_at old.caches p n ≡ cached_at new.caches p n) is here
        go false e = sym (told.others c p (grind (arith, nat_tests)))

-- a stroke ends
finish_up_to_date : (old new : State) (stroke : Stroke) (b : Bool) (p : Point) → new ≡ after_finish old stroke b → IsUpToDate old p → IsUpToDate new p
finish_up_to_date old new stroke true p e up_to_date = subst (λ s. IsUpToDate s p) (sym e) up_to_date
finish_up_to_date old new stroke false p e up_to_date = subst (λ s. IsUpToDate s p) (sym e) up_to_date

-- a slot is free again
free_up_to_date : (s : State) (place : ℕ) (p : Point) → IsUpToDate s p → UpToDate s.present s.caches (slice_set s.slots place Free) p
free_up_to_date s place p up_to_date = record { folds = up_to_date.folds; leaves = all_set (LeavesPoint s.caches p) s.slots place Free up_to_date.leaves tt }

-- a quiet event keeps a point up to date
pub quiet_up_to_date : (old new : State) (e : Event) (p : Point) → IsSound old → Step old e new → is_quiet e ≡ true → IsUpToDate old p → IsUpToDate new p
quiet_up_to_date old new (Feed c) p sound step quiet up_to_date = subst (λ s. IsUpToDate s p) (sym step.1) up_to_date
quiet_up_to_date old new Init p sound step quiet up_to_date = subst (λ s. IsUpToDate s p) (sym step.new_is) up_to_date
quiet_up_to_date old new (Start place) p sound step quiet up_to_date = absurd (let t : false ≡ true = quiet in cc)
quiet_up_to_date old new (Publish place key) p sound step quiet up_to_date = publish_up_to_date old new place key p sound step up_to_date
quiet_up_to_date old new (End place) p sound step quiet up_to_date = subst (λ s. IsUpToDate s p) (sym step.new_is) (free_up_to_date old place p up_to_date)
quiet_up_to_date old new Finish p sound step quiet up_to_date = finish_up_to_date old new step.stroke (is_paint step.stroke.layer old.base) p step.new_is up_to_date
quiet_up_to_date old new Cancel p sound step quiet up_to_date = absurd (let t : false ≡ true = quiet in cc)
quiet_up_to_date old new Act p sound step quiet up_to_date = absurd (let t : false ≡ true = quiet in cc)
quiet_up_to_date old new (WalkStart place patch) p sound step quiet up_to_date = walk_start_up_to_date old new place patch p sound step up_to_date
quiet_up_to_date old new (WalkPublish place g key) p sound step quiet up_to_date = walk_publish_up_to_date old new place g key p step up_to_date
quiet_up_to_date old new (WalkEnd place) p sound step quiet up_to_date = subst (λ s. IsUpToDate s p) (sym step.new_is) (free_up_to_date old place p up_to_date)

-- the canvas stays
step_canvas : (old new : State) (e : Event) → Step old e new → new.canvas ≡ old.canvas
step_canvas old new e step = (runs_continue (e ∷ []) old new (new, step, refl)).canvas

-- a quiet event damages nothing
pub quiet_step : (old new : State) (e : Event) (d : Parts) → IsSound old → Step old e new → is_quiet e ≡ true → IsTracked old d → IsTracked new d
quiet_step old new e d sound step quiet tracked p inside whole = quiet_up_to_date old new e p sound step quiet (tracked p (ap (λ c. holds (canvas_area c) p) (sym (step_canvas old new e step)) ∙ inside) whole)

-- a job starts that doesn't write at the point
start_up_to_date : (old new : State) (place : ℕ) (p : Point) (step : StartStep old place new) → any_holds (writes step.job.1) p ≡ false → IsUpToDate old p → IsUpToDate new p
start_up_to_date old new place p step off up_to_date = subst (λ s. IsUpToDate s p) (sym step.new_is) (record { folds = up_to_date.folds; leaves = all_set (LeavesPoint old.caches p) old.slots place _ up_to_date.leaves off })

-- so the damage grows by what it writes
pub start_step : (old new : State) (place : ℕ) (d d' : Parts) (step : StartStep old place new) → ((p : Point) → holds (canvas_area new.canvas) p ≡ true → is_damaged d' p ≡ false → (is_damaged d p ≡ false) × (any_holds (writes step.job.1) p ≡ false)) → IsTracked old d → IsTracked new d'
start_step old new place d d' step grows tracked p inside whole =
    start_up_to_date old new place p step (grows p inside whole).1 (tracked p (ap (λ c. holds (canvas_area c) p) (sym (step_canvas old new (Start place) step)) ∙ inside) (grows p inside whole).0)

-- where nothing is at work and nothing waits, each point is up to date
pub still_up_to_date : (s : State) → IsSound s → s.updates ≡ [] → no_painter s ≡ true → no_walker s ≡ true → (p : Point) → holds (canvas_area s.canvas) p ≡ true → IsUpToDate s p
still_up_to_date s sound updates painters walkers p inside = record {
  folds = λ g is. elim (sound.caches g p is inside) [
    | inl e ↦ e
    | inr e ↦ absurd (let f : covered s g p ≡ false = still_is_clean s updates painters walkers g p in cc)
  ];
  leaves = free s.slots (not_true _ painters) (not_true _ walkers);
}
  where
    free : (slots : List Slot) → list_any is_painter slots ≡ false → list_any is_walker slots ≡ false → AllByRecursion (LeavesPoint s.caches p) slots
    free [] a b = tt
    free (Free ∷ slots) a b = (tt, free slots a b)
    free (Paints w ∷ slots) a b = absurd (let t : true ≡ false = a in cc)
    free (Walks w ∷ slots) a b = absurd (let t : true ≡ false = b in cc)
