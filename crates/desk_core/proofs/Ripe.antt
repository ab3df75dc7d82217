-- What composes what is there goes on to do so, and leaves points that are up to date.
use Rattle.std.proofs.Common.{Option, None, is_some, ◌≡◌, ◌≢◌, ℕ, suc, zero, Bool, true, false, ◌||◌, ◌&&◌, cond, List, [], ◌∷◌, map, Some, refl, sym, ap, ◌∙◌, arith, eqb, subst, inl, inr}
use Rattle.std.specs.Prelude.{IfNone, slice_get, slice_set, not}
use Rattle.std.specs.Ordering.{nat_cmp}
use Rattle.std.specs.FinMap.{FinMap}
use Rattle.std.specs.List.{list_any, list_all, AllByRecursion}
use Rattle.std.proofs.lemmas.Bool.Decides.{nat_tests}
use Rattle.pixel_core.specs.Rgba.{clear}
use Rattle.geom_core.specs.Areas.{Area, holds, meets, Point}
use Rattle.geom_core.specs.Grid.{Key, key_of, keys_of, same_key}
use Rattle.geom_core.proofs.Common.{meets_held}
use Rattle.geom_core.proofs.Keys.{key_of_held}
use Rattle.geom_core.proofs.Tests.{not_true, and_left, and_right, or_cases, or_left, or_right}
use Rattle.doc_model.specs.declared.canvas.Patch.{Patch}
use Rattle.doc_model.specs.declared.canvas.Walk.TheVariants.{All}
use Rattle.doc_model.specs.Layers.{Layer, at}
use Rattle.doc_model.specs.Picture.{Doc}
use Rattle.doc_model.specs.Forest.{none, paint, group}
use Rattle.doc_model.specs.Ids.{IsTree}
use Rattle.doc_model.specs.Strokes.{Stroke}
use Rattle.doc_model.proofs.Paths.{Orderly}
use Rattle.doc_model.proofs.Shots.{at-shot_of}
use Rattle.machine_model.specs.State.{Child, Walker, Slot, Free, Paints, Walks, State, is_free}
use Rattle.machine_model.specs.Event.{Event, Feed, Init, Start, Publish, End, Finish, Cancel, Act, WalkStart, WalkPublish, WalkEnd}
use Rattle.machine_model.specs.Step.{Step, WalkPublishStep, WalkEndStep}
use Rattle.machine_model.specs.Slots.{is_painter, no_painter}
use Rattle.machine_model.specs.Groups.{with_pixels, nodes_in, children_of, on, path_of}
use Rattle.machine_model.specs.Covers.{folded}
use Rattle.machine_model.specs.Guards.{same_pair, is_paint}
use Rattle.machine_model.specs.Caches.{SamePixels}
use Rattle.machine_model.specs.Effects.{after_finish}
use Rattle.machine_model.specs.EffectLaws.{ComposesTile}
use Rattle.machine_model.specs.Sound.{IsSound}
use Rattle.machine_model.specs.Walking.{SameChildren, WalkStands}
use Rattle.machine_model.specs.Walks.{walk_value, walk_values, looked_up, walk_shot, cut_child, shots_of}
use Rattle.machine_model.proofs.Covers.{any_found, any_set_same}
use Rattle.machine_model.proofs.EffectsHold.{walk_stays_in_tile}
use Rattle.machine_model.proofs.Lists.{all_set, all_get, set_cases}
use Rattle.machine_model.proofs.Sharing.{walks_never_meet}
use Rattle.machine_model.proofs.StateTrees.{present_tree}
use Rattle.machine_model.proofs.WalkEndCaches.{firsts, ordered_from, distinct_from, on_path_cached, paint_off_path}
use Rattle.machine_model.proofs.WalkFolds.{walk_settles, OnPathCached}
use Rattle.machine_model.proofs.WalkPaths.{grouped, path_all, path_orderly_of}
use Rattle.desk_core.specs.UpToDate.{cached_at, LeavesPoint, IsUpToDate}
use Rattle.desk_core.specs.Calm.{ReadsNow, IsRipe, IsCalm}
use Rattle.desk_core.specs.Events.{is_quiet}

-- what holds of the item at each place holds of each
pub all_by : {A : Type 0} (P : A → Type 0) (xs : List A) → ((i : ℕ) (x : A) → slice_get xs i ≡ Some x → P x) → AllByRecursion P xs
all_by P [] f = tt
all_by P (x ∷ xs) f = (f 0 x refl, all_by P xs (λ i y e. f (suc i) y e))

-- no job is at work at any place
pub no_job : {B : Type 0} (s : State) (i : ℕ) (slot : Slot) → no_painter s ≡ true → slice_get s.slots i ≡ Some slot → is_painter slot ≡ true → B
no_job s i slot idle k is = absurd (let t : list_any is_painter s.slots ≡ true = any_found is_painter s.slots i slot k is in let f : list_any is_painter s.slots ≡ false = not_true _ idle in cc)

-- another slot doesn't bring one
still_none : (s : State) (i : ℕ) (old new : Slot) → no_painter s ≡ true → slice_get s.slots i ≡ Some old → is_painter old ≡ false → is_painter new ≡ false → not (list_any is_painter (slice_set s.slots i new)) ≡ true
still_none s i old new idle k a b = ap not (any_set_same is_painter s.slots i old new k (b ∙ sym a)) ∙ idle

-- what holds where an option is None
pub where_none : {A : Type 0} (o : Option A) (P : Type 0) → IfNone o P → is_some o ≡ false → P
where_none None P h e = h
where_none (Some x) P h e = absurd (let t : true ≡ false = e in cc)

-- where all slots are free
pub free_calm : (s : State) → list_all is_free s.slots ≡ true → IsCalm s
free_calm s free = record { painters = ap not (idle s.slots free); ripe = all_by (IsRipe s.present s.caches) s.slots (λ i slot k. ripe slot (all_free s.slots i slot free k)) }
  where
    idle : (slots : List Slot) → list_all is_free slots ≡ true → list_any is_painter slots ≡ false
    idle [] h = refl
    idle (Free ∷ slots) h = idle slots h
    idle (Paints w ∷ slots) h = absurd (let t : false ≡ true = h in cc)
    idle (Walks w ∷ slots) h = absurd (let t : false ≡ true = h in cc)

    all_free : (slots : List Slot) (i : ℕ) (slot : Slot) → list_all is_free slots ≡ true → slice_get slots i ≡ Some slot → is_free slot ≡ true
    all_free [] i slot h e = cc
    all_free (x ∷ xs) zero slot h e = let same : x ≡ slot = cc in ap is_free (sym same) ∙ and_left (is_free x) _ h
    all_free (x ∷ xs) (suc i) slot h e = all_free xs i slot (and_right (is_free x) _ h) e

    ripe : (slot : Slot) → is_free slot ≡ true → IsRipe s.present s.caches slot
    ripe Free h = tt
    ripe (Paints w) h = tt
    ripe (Walks w) h = absurd (let t : false ≡ true = h in cc)

-- children as a walk reads them that starts now
pub cut_same : (path : List ℕ) (rect : Area) (cs : List Child) (p : Point) → holds rect p ≡ true → SamePixels path (map (cut_child rect) cs) cs p
cut_same path rect [] p h = tt
cut_same path rect (c ∷ cs) p h = ((λ e. at-shot_of (rect ∷ []) c.pixels p ∙ ap (λ b. cond b (at c.pixels p) c.pixels.default_pixel) (or_left (holds rect p) _ h)), cut_same path rect cs p h)

-- a walk that starts composes what is there
start_ripe : (old : State) (patch : Patch) (serial : ℕ) → IsRipe old.present old.caches (Walks (record { serial = serial; patch = patch; shot = walk_shot old patch; published = [] }))
start_ripe old patch serial p h = each (path_of patch.walk old.present)
  where
    each : (gs : List ℕ) → AllByRecursion (λ (e : ℕ × List Child). ReadsNow old.present old.caches (record { serial = serial; patch = patch; shot = walk_shot old patch; published = [] }) e.0 e.1 p) (shots_of old patch.rect gs)
    each [] = tt
    each (g ∷ gs) = (record { published = λ e. absurd (let t : false ≡ true = e in cc); current = cut_same _ patch.rect (children_of old g) p h }, each gs)

-- what was read stays as it is where the caches of the groups off the path do
pub pixels_off : (path : List ℕ) (caches caches' : FinMap nat_cmp Layer) (read : List Child) (f : Doc) (p : Point) → SameChildren read (with_pixels caches f) → ((c : ℕ) → on c path ≡ false → cached_at caches p c ≡ cached_at caches' p c)
    → SamePixels path read (with_pixels caches f) p → SamePixels path read (with_pixels caches' f) p
pixels_off path caches caches' [] none p same off reads = tt
pixels_off path caches caches' (r ∷ read) none p same off reads = absurd same
pixels_off path caches caches' [] (paint id look x rest) p same off reads = absurd same
pixels_off path caches caches' [] (group id look nodes rest) p same off reads = absurd same
pixels_off path caches caches' (r ∷ read) (paint id look x rest) p same off reads = (reads.0, pixels_off path caches caches' read rest p same.2 off reads.1)
pixels_off path caches caches' (r ∷ read) (group id look nodes rest) p same off reads = ((λ e. reads.0 e ∙ off id (ap (λ n. on n path) (sym same.0) ∙ e)), pixels_off path caches caches' read rest p same.2 off reads.1)

-- each entry of a list with two facts
pub all_both : {A : Type 0} (P Q R : A → Type 0) (xs : List A) → ((x : A) → P x → Q x → R x) → AllByRecursion P xs → AllByRecursion Q xs → AllByRecursion R xs
all_both P Q R [] f a b = tt
all_both P Q R (x ∷ xs) f a b = (f x a.0 b.0, all_both P Q R xs f a.1 b.1)

-- the walk that publishes is the one that is told of
told_one : (old new : State) (place g : ℕ) (key : Key) (step : WalkPublishStep old place g key new) → (walk_stays_in_tile old new place g key step).walker ≡ step.walker
told_one old new place g key step = let both : Some (Walks (walk_stays_in_tile old new place g key step).walker) ≡ Some (Walks step.walker) = sym (walk_stays_in_tile old new place g key step).at_work ∙ step.runs in cc

-- it leaves the cache of another group
pub other_cache : (old new : State) (place g : ℕ) (key : Key) (step : WalkPublishStep old place g key new) (c : ℕ) (p : Point) → eqb c g ≡ false → cached_at old.caches p c ≡ cached_at new.caches p c
other_cache old new place g key step c p e = sym ((walk_stays_in_tile old new place g key step).others c p (grind (arith, nat_tests)))

-- and every cache outside of its patch
pub cache_outside : (old new : State) (place g : ℕ) (key : Key) (step : WalkPublishStep old place g key new) (c : ℕ) (p : Point) → holds step.walker.patch.rect p ≡ false → cached_at old.caches p c ≡ cached_at new.caches p c
cache_outside old new place g key step c p out = go (eqb c g) refl
  where
    go : (b : Bool) → eqb c g ≡ b → cached_at old.caches p c ≡ cached_at new.caches p c
    go false e = other_cache old new place g key step c p e
    go true e = let is : g ≡ c = grind (arith, nat_tests) in subst (λ n. cached_at old.caches p n ≡ cached_at new.caches p n) is (sym ((walk_stays_in_tile old new place g key step).out_of_patch p (ap (λ (v : Walker). holds v.patch.rect p) (told_one old new place g key step) ∙ out)))

-- a point of one walk's patch lies in no other's
pub patch_outside : (s : State) (i place : ℕ) (v w : Walker) (p : Point) → IsSound s → slice_get s.slots i ≡ Some (Walks v) → slice_get s.slots place ≡ Some (Walks w) → i ≢ place → holds v.patch.rect p ≡ true → holds w.patch.rect p ≡ false
patch_outside s i place v w p sound k runs apart h = go (holds w.patch.rect p) refl
  where
    go : (b : Bool) → holds w.patch.rect p ≡ b → b ≡ false
    go false e = refl
    go true e = absurd (let m : meets v.patch.rect w.patch.rect ≡ true = meets_held v.patch.rect w.patch.rect p h e in let f : meets v.patch.rect w.patch.rect ≡ false = walks_never_meet s i place v w sound.orderly k runs apart in cc)

module _ (old new : State) (place g : ℕ) (key : Key) (sound : IsSound old) (step : WalkPublishStep old place g key new) (calm : IsCalm old) where
  told : ComposesTile old new place g key
  told = walk_stays_in_tile old new place g key step

  -- the walk that publishes
  abbrev w : Walker
  w = step.walker

  one : told.walker ≡ w
  unfolding told
  one = told_one old new place g key step

  stands : (i : ℕ) (v : Walker) → slice_get old.slots i ≡ Some (Walks v) → WalkStands old (Walks v)
  stands i v k = all_get (WalkStands old) old.slots i (Walks v) sound.orderly.walking.walks k

  -- the cache of another group
  other : (c : ℕ) (p : Point) → eqb c g ≡ false → cached_at old.caches p c ≡ cached_at new.caches p c
  other = other_cache old new place g key step

  -- outside of the walk's patch every cache is as it was
  outside : (c : ℕ) (p : Point) → holds w.patch.rect p ≡ false → cached_at old.caches p c ≡ cached_at new.caches p c
  outside = cache_outside old new place g key step

  -- another walk
  other_ripe : (i : ℕ) (v : Walker) → i ≢ place → slice_get old.slots i ≡ Some (Walks v) → IsRipe old.present new.caches (Walks v)
  other_ripe i v apart k p h = all_both (λ (e : ℕ × List Child). SameChildren e.1 (children_of old e.0)) (λ (e : ℕ × List Child). ReadsNow old.present old.caches v e.0 e.1 p) (λ (e : ℕ × List Child). ReadsNow old.present new.caches v e.0 e.1 p) v.shot
      (λ e same reads. record {
        published = λ is. sym (outside e.0 p out) ∙ reads.published is;
        current = pixels_off (firsts v.shot) old.caches new.caches e.1 (nodes_in e.0 old.present) p same (λ c off. outside c p out) reads.current;
      })
      (stands i v k).2 (all_get (IsRipe old.present old.caches) old.slots i (Walks v) calm.ripe k p h)
    where
      out : holds w.patch.rect p ≡ false
      out = patch_outside old i place v w p sound k step.runs apart h

  -- the walk itself
  own_ripe : IsRipe old.present new.caches (Walks (record w { published = (g, key) ∷ w.published }))
  own_ripe p h = all_both (λ (e : ℕ × List Child). SameChildren e.1 (children_of old e.0)) (λ (e : ℕ × List Child). ReadsNow old.present old.caches w e.0 e.1 p) (λ (e : ℕ × List Child). ReadsNow old.present new.caches (record w { published = (g, key) ∷ w.published }) e.0 e.1 p) w.shot
      (λ e same reads. record {
        published = λ is. shown e.0 reads.published (eqb g e.0 && same_key (key_of p) key) refl is;
        current = pixels_off (firsts w.shot) old.caches new.caches e.1 (nodes_in e.0 old.present) p same (λ c off. other c p (not_here c off (eqb c g) refl)) reads.current;
      })
      (stands place w step.runs).2 (all_get (IsRipe old.present old.caches) old.slots place (Walks w) calm.ripe step.runs p h)
    where
      not_here : (c : ℕ) → on c (firsts w.shot) ≡ false → (b : Bool) → eqb c g ≡ b → b ≡ false
      not_here c off false e = refl
      not_here c off true e = let is : c ≡ g = grind (arith, nat_tests) in absurd (let t : on c (firsts w.shot) ≡ true = ap (λ n. on n (firsts w.shot)) is ∙ step.on_path in cc)

      shown : (c : ℕ) → (list_any (same_pair c (key_of p)) w.published ≡ true → cached_at old.caches p c ≡ walk_value w.shot c p) → (b : Bool) → (eqb g c && same_key (key_of p) key) ≡ b → (b || list_any (same_pair c (key_of p)) w.published) ≡ true
          → cached_at new.caches p c ≡ walk_value w.shot c p
      shown c before true e is =
          let here : g ≡ c = grind (arith, nat_tests, and_left (eqb g c) _ e) in
          subst (λ n. cached_at new.caches p n ≡ walk_value w.shot n p) here (told.inside p (ap (λ (v : Walker). holds v.patch.rect p) one ∙ h) (and_right (eqb g c) _ e) ∙ ap (λ (v : Walker). walk_value v.shot g p) one)
      shown c before false e is = go (eqb g c) refl
        where
          turned : (b : Bool) → eqb g c ≡ b → eqb c g ≡ b
          turned b f = grind (arith, nat_tests)

          go : (b : Bool) → eqb g c ≡ b → cached_at new.caches p c ≡ walk_value w.shot c p
          go false f = sym (other c p (turned false f)) ∙ before is
          go true f =
              let here : g ≡ c = grind (arith, nat_tests) in
              sym (subst (λ n. cached_at old.caches p n ≡ cached_at new.caches p n) here (sym (told.out_of_tile p (sym (ap (λ b. b && same_key (key_of p) key) f) ∙ e)))) ∙ before is

  publish_calm : IsCalm new
  publish_calm = subst IsCalm (sym step.new_is) (record {
    painters = still_none old place (Walks w) (Walks (record w { published = (g, key) ∷ w.published })) calm.painters step.runs refl refl;
    ripe = subst (λ caches. AllByRecursion (IsRipe old.present caches) (slice_set old.slots place (Walks (record w { published = (g, key) ∷ w.published })))) (ap (λ (s : State). s.caches) step.new_is) all;
  })
    where
      each : (i : ℕ) (slot : Slot) → (i ≢ place) → slice_get old.slots i ≡ Some slot → IsRipe old.present new.caches slot
      each i Free apart k = tt
      each i (Paints v) apart k = tt
      each i (Walks v) apart k = other_ripe i v apart k

      all : AllByRecursion (IsRipe old.present new.caches) (slice_set old.slots place (Walks (record w { published = (g, key) ∷ w.published })))
      all = all_by (IsRipe old.present new.caches) (slice_set old.slots place (Walks (record w { published = (g, key) ∷ w.published }))) (λ i slot k. elim (set_cases old.slots place _ i slot k) [
        | inl e ↦ subst (IsRipe old.present new.caches) (sym e.1) own_ripe
        | inr e ↦ each i slot e.0 e.1
      ])

-- a stroke ends
finish_calm : (old new : State) (stroke : Stroke) (b : Bool) → new ≡ after_finish old stroke b → IsCalm old → IsCalm new
finish_calm old new stroke true e calm = subst IsCalm (sym e) (record { painters = calm.painters; ripe = calm.ripe })
finish_calm old new stroke false e calm = subst IsCalm (sym e) (record { painters = calm.painters; ripe = calm.ripe })

-- a quiet event keeps the calm
pub quiet_calm : (old new : State) (e : Event) → IsSound old → Step old e new → is_quiet e ≡ true → IsCalm old → IsCalm new
quiet_calm old new (Feed c) sound step quiet calm = subst IsCalm (sym step.1) (record { painters = calm.painters; ripe = calm.ripe })
quiet_calm old new Init sound step quiet calm = subst IsCalm (sym step.new_is) (record { painters = calm.painters; ripe = calm.ripe })
quiet_calm old new (Start place) sound step quiet calm = absurd (let t : false ≡ true = quiet in cc)
quiet_calm old new (Publish place key) sound step quiet calm = no_job old place (Paints step.painter) calm.painters step.runs refl
quiet_calm old new (End place) sound step quiet calm = no_job old place (Paints step.painter) calm.painters step.runs refl
quiet_calm old new Finish sound step quiet calm = finish_calm old new step.stroke (is_paint step.stroke.layer old.base) step.new_is calm
quiet_calm old new Cancel sound step quiet calm = absurd (let t : false ≡ true = quiet in cc)
quiet_calm old new Act sound step quiet calm = absurd (let t : false ≡ true = quiet in cc)
quiet_calm old new (WalkStart place patch) sound step quiet calm = subst IsCalm (sym step.new_is) (record {
  painters = still_none old place Free _ calm.painters step.free refl refl;
  ripe = all_set (IsRipe old.present old.caches) old.slots place _ calm.ripe (start_ripe old patch old.next);
})
quiet_calm old new (WalkPublish place g key) sound step quiet calm = publish_calm old new place g key sound step calm
quiet_calm old new (WalkEnd place) sound step quiet calm = subst IsCalm (sym step.new_is) (record {
  painters = still_none old place (Walks step.walker) Free calm.painters step.runs refl refl;
  ripe = all_set (IsRipe old.present old.caches) old.slots place Free calm.ripe tt;
})

-- what holds of each entry holds of the one of a group
all_pick : (R : ℕ → Type 0) (xs : List (ℕ × List Child)) (g : ℕ) → AllByRecursion (λ (e : ℕ × List Child). R e.0) xs → on g (firsts xs) ≡ true → R g
all_pick R [] g all h = absurd (let t : false ≡ true = h in cc)
all_pick R (e ∷ xs) g all h = elim (or_cases (eqb e.0 g) (on g (firsts xs)) h) [
  | inl f ↦ (let is : e.0 ≡ g = grind (arith, nat_tests) in subst R is all.0)
  | inr f ↦ all_pick R xs g all.1 f
]

-- each entry with what stands of its group on the path
all_on : (P : ℕ × List Child → Type 0) (xs : List (ℕ × List Child)) → ((e : ℕ × List Child) → on e.0 (firsts xs) ≡ true → P e) → AllByRecursion P xs
all_on P [] f = tt
all_on P (x ∷ xs) f = (f x (or_left (eqb x.0 x.0) _ (grind (arith, nat_tests))), all_on P xs (λ e h. f e (or_right (eqb x.0 e.0) _ h)))

looked : (shot : List (ℕ × List Child)) (g : ℕ) (p : Point) → walk_value shot g p ≡ looked_up (walk_values shot [] p) g
unfolding walk_value
looked shot g p = refl

-- a walk of all groups that ends leaves points that are up to date, where no job is at work and it composed what is there
pub end_up_to_date : (old new : State) (place : ℕ) (w : Walker) (p : Point) → IsSound old → WalkEndStep old place new → IsCalm old → slice_get old.slots place ≡ Some (Walks w) → w.patch.walk ≡ All → holds w.patch.rect p ≡ true → IsUpToDate new p
end_up_to_date old new place w p sound step calm here whole h = subst (λ s. IsUpToDate s p) (sym step.new_is) (record { folds = folds; leaves = all_by (LeavesPoint old.caches p) (slice_set old.slots place Free) leaves })
  where
    one : step.walker ≡ w
    one = let both : Some (Walks step.walker) ≡ Some (Walks w) = sym step.runs ∙ here in cc

    stands : WalkStands old (Walks w)
    stands = all_get (WalkStands old) old.slots place (Walks w) sound.orderly.walking.walks here

    tree : IsTree old.present
    tree = present_tree old sound.orderly

    orderly : Orderly (λ g. nodes_in g old.present) (firsts w.shot)
    orderly = subst (Orderly (λ g. nodes_in g old.present)) (sym stands.1) (path_orderly_of w.patch.walk old.present tree)

    reads : AllByRecursion (λ (e : ℕ × List Child). ReadsNow old.present old.caches w e.0 e.1 p) w.shot
    reads = all_get (IsRipe old.present old.caches) old.slots place (Walks w) calm.ripe here p h

    done : (g : ℕ) → on g (firsts w.shot) ≡ true → list_any (same_pair g (key_of p)) w.published ≡ true
    done g on' = subst (λ (v : Walker). on g (firsts v.shot) ≡ true → list_any (same_key (key_of p)) (keys_of v.patch.rect) ≡ true → list_any (same_pair g (key_of p)) v.published ≡ true) one (step.all g (key_of p)) on' (key_of_held w.patch.rect p h)

    settles : AllByRecursion (λ (e : ℕ × List Child). SamePixels (firsts w.shot) e.1 (children_of old e.0) p → cached_at old.caches p e.0 ≡ folded (children_of old e.0) p clear) w.shot
    settles = walk_settles (cached_at old.caches p) (children_of old) (firsts w.shot) p w.shot [] tt
        (ordered_from (firsts w.shot) [] old w.shot (λ c. refl) orderly stands.2) (distinct_from old w.shot orderly) stands.2
        (all_on (λ (e : ℕ × List Child). OnPathCached (firsts w.shot) (cached_at old.caches p) (children_of old e.0) p) w.shot (λ e on'. on_path_cached (firsts w.shot) old.caches (nodes_in e.0 old.present) p
        (λ c child. ap (on c) stands.1 ∙ paint_off_path c e.0 w.patch.walk old.present tree stands.0 child)))
        (all_both (λ (e : ℕ × List Child). on e.0 (firsts w.shot) ≡ true) (λ (e : ℕ × List Child). ReadsNow old.present old.caches w e.0 e.1 p) (λ (e : ℕ × List Child). cached_at old.caches p e.0 ≡ looked_up (walk_values w.shot [] p) e.0) w.shot
        (λ e on' r. r.published (done e.0 on') ∙ looked w.shot e.0 p) (all_on (λ (e : ℕ × List Child). on e.0 (firsts w.shot) ≡ true) w.shot (λ e on'. on')) reads)

    folds : (g : ℕ) → grouped g old.present ≡ true → cached_at old.caches p g ≡ folded (children_of old g) p clear
    folds g is = all_pick (λ c. cached_at old.caches p c ≡ folded (children_of old c) p clear) w.shot g
        (all_both (λ (e : ℕ × List Child). SamePixels (firsts w.shot) e.1 (children_of old e.0) p → cached_at old.caches p e.0 ≡ folded (children_of old e.0) p clear) (λ (e : ℕ × List Child). ReadsNow old.present old.caches w e.0 e.1 p)
        (λ (e : ℕ × List Child). cached_at old.caches p e.0 ≡ folded (children_of old e.0) p clear) w.shot (λ e f r. f r.current) settles reads)
        (ap (on g) (stands.1 ∙ ap (λ k. path_of k old.present) whole) ∙ path_all g old.present is)

    other : (i : ℕ) (slot : Slot) → (i ≢ place) → slice_get old.slots i ≡ Some slot → LeavesPoint old.caches p slot
    other i Free apart k = tt
    other i (Paints v) apart k = no_job old i (Paints v) calm.painters k refl
    other i (Walks v) apart k = λ held. absurd (let m : meets v.patch.rect w.patch.rect ≡ true = meets_held v.patch.rect w.patch.rect p held h in let f : meets v.patch.rect w.patch.rect ≡ false = walks_never_meet old i place v w sound.orderly k here apart in cc)

    leaves : (i : ℕ) (slot : Slot) → slice_get (slice_set old.slots place Free) i ≡ Some slot → LeavesPoint old.caches p slot
    leaves i slot k = elim (set_cases old.slots place Free i slot k) [
      | inl e ↦ subst (LeavesPoint old.caches p) (sym e.1) tt
      | inr e ↦ other i slot e.0 e.1
    ]
