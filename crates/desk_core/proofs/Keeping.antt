-- What a desk keeps of lower children goes on to stand.
use Rattle.std.proofs.Common.{◌≡◌, ◌≢◌, ℕ, ◌≤◌, Bool, true, false, List, [], ◌∷◌, ◌++◌, Option, Some, None, is_some, Result, Ok, Err, refl, sym, ap, ◌∙◌, arith, eqb, subst, ◌⊎◌, inl, inr}
use Rattle.std.specs.Prelude.{slice_get, slice_set}
use Rattle.std.specs.List.{All, AllByRecursion}
use Rattle.std.proofs.lemmas.Bool.Decides.{nat_tests}
use Rattle.std.proofs.lemmas.List.Elements.{All-nil, All-weaker}
use Rattle.pixel_core.specs.Rgba.{clear}
use Rattle.geom_core.specs.Areas.{holds, lies_in, Point}
use Rattle.geom_core.specs.Grid.{Key}
use Rattle.geom_core.proofs.Bounds.{lies_held}
use Rattle.geom_core.proofs.Tests.{never, none_right}
use Rattle.doc_model.specs.declared.canvas.Patch.{Patch}
use Rattle.doc_model.specs.declared.command.Command.{Command}
use Rattle.doc_model.specs.declared.command.Outcome.TheVariants as outcome
use Rattle.doc_model.specs.Changes.{changed}
use Rattle.doc_model.specs.Forest.{content, with_content}
use Rattle.doc_model.specs.Jobs.{reads}
use Rattle.doc_model.specs.Layers.{Layer, plain}
use Rattle.doc_model.specs.Shots.{shot_of}
use Rattle.doc_model.specs.declared.tree.TreeFault.{TreeFault}
use Rattle.doc_model.specs.Picture.{Doc, canvas_area}
use Rattle.doc_model.specs.Strokes.{Stroke, Entry, Strokes, Changes, Undoes, Redoes, Purges, Exports}
use Rattle.machine_model.specs.State.{Child, Reach, Whole, Part, Painter, Walker, Slot, Free, Paints, Walks, State, head_stroke}
use Rattle.machine_model.specs.Event.{Event, Feed, Init, Start, Publish, End, Finish, Cancel, Act, WalkStart, WalkPublish, WalkEnd}
use Rattle.machine_model.specs.Step.{Step, InitStep, StartStep, PublishStep, CancelStep, ActStep, WalkStartStep, WalkPublishStep}
use Rattle.machine_model.specs.Caches.{SamePixels}
use Rattle.machine_model.specs.Counted.{SerialBelow}
use Rattle.machine_model.specs.Covers.{folded}
use Rattle.machine_model.specs.Effects.{after_finish, after_entry, after_change, after_undo, after_redo, moved_to, with_outcome, layer_in}
use Rattle.machine_model.specs.EffectLaws.{PublishesTile}
use Rattle.machine_model.specs.Groups.{with_pixels, nodes_in, children_of, on, path_of}
use Rattle.machine_model.specs.Guards.{is_paint}
use Rattle.machine_model.specs.Slots.{is_painter}
use Rattle.machine_model.specs.Sound.{IsSound}
use Rattle.machine_model.specs.SoundnessLaws.{IsNew}
use Rattle.machine_model.specs.UnderWay.{IsOnWay, UnderWay, AtRest}
use Rattle.machine_model.specs.Walking.{SameChildren, WalkStands, WalkInside}
use Rattle.machine_model.specs.Walks.{walk_shot}
use Rattle.machine_model.proofs.EffectsHold.{publish_stays_in_tile}
use Rattle.machine_model.proofs.FeedKeeps.{Grows, head_after}
use Rattle.machine_model.proofs.Lists.{all_set, all_get, all_map, get_set, set_cases}
use Rattle.machine_model.proofs.RunsSound.{new_sound}
use Rattle.machine_model.proofs.WalkPaths.{path_of_with}
use Rattle.walker_core.specs.declared.folds.Fold.{Fold}
use Rattle.walker_core.specs.declared.known.Footing.{Footing}
use Rattle.walker_core.specs.Folds.{lower, read_of, IsFoldOf, Joins, StandsOn}
use Rattle.walker_core.specs.Readings.{readings}
use Rattle.desk_events.specs.AtWork.{WalksAs}
use Rattle.desk_core.specs.declared.folds.Folds.{Folds}
use Rattle.desk_core.specs.Events.{spares_lower}
use Rattle.desk_core.specs.Keeping.{Lowers, lowers, Shows, groups_in, ReadsOthers, StandsSince, Stands, PaintsOn, Keeps, AreOfFolds, Turns}
use Rattle.desk_core.specs.UpToDate.{cached_at}
use Rattle.desk_core.proofs.LowerChildren.{read_lower, start_reads, lower_content, reads_content, reads_before, lower_off}
use Rattle.desk_core.proofs.Ripe.{all_by, all_both, no_job, pixels_off, other_cache, cache_outside, patch_outside}

-- ---- one fold

-- a fold shows other children that have the same lower ones
shows_moves : (x : Lowers) (children : ℕ → List Child) → ((g : ℕ) (p : Point) → on g x.path ≡ true → folded (lower (x.layer ∷ x.path) (x.children g)) p clear ≡ folded (lower (x.layer ∷ x.path) (children g)) p clear) → (f : Fold) → Shows x f → Shows (record x { children = children }) f
shows_moves x children same f is = record { spot = is.spot; of_layer = is.of_layer; on_path = is.on_path; values = λ p inside here. is.values p inside here ∙ same f.group p is.on_path }

-- two folds of the same children show what they make together
pub shows_joined : (x : Lowers) (a b c : Fold) → a.group ≡ b.group → Shows x a → Shows x b → Joins a b c → Shows x c
shows_joined x a b c same first second joins = record {
  spot = joins.spot;
  of_layer = joins.layer ∙ first.of_layer;
  on_path = ap (λ g. on g x.path) joins.group ∙ first.on_path;
  values = λ p inside here. elim (joins.values p here) [
    | inl h ↦ h.1 ∙ first.values p inside h.0 ∙ ap (λ g. folded (lower (x.layer ∷ x.path) (x.children g)) p clear) (sym joins.group)
    | inr h ↦ h.1 ∙ second.values p inside h.0 ∙ ap (λ g. folded (lower (x.layer ∷ x.path) (x.children g)) p clear) (sym same ∙ sym joins.group)
  ];
}

-- ---- slots

walks_set : (f : Folds) (slots : List Slot) (place : ℕ) (slot : Slot) → WalksAs f.walk slot → (f.folds.items ≡ []) ⊎ AllByRecursion (WalksAs f.walk) slots → (f.folds.items ≡ []) ⊎ AllByRecursion (WalksAs f.walk) (slice_set slots place slot)
walks_set f slots place slot is h = elim h [ inl e ↦ inl e | inr all ↦ inr (all_set (WalksAs f.walk) slots place slot all is) ]

-- ---- a job publishes a tile

way_painted : (s : State) (place : ℕ) (layer : ℕ) (slot : Slot) (stroke : Stroke) → IsSound s → slice_get s.slots place ≡ Some slot → is_painter slot ≡ true → head_stroke s ≡ Some stroke → PaintsOn s layer → stroke.layer ≡ layer
way_painted s place layer slot stroke sound runs is head paints = go s.way refl
  where
    go : (w : Option ℕ) → s.way ≡ w → stroke.layer ≡ layer
    go (Some n) e = paints n stroke e head
    go None e = let rest : AtRest s = subst (IsOnWay s) e sound.orderly.on_way in no_job s place slot rest.idle runs is

module _ (old new : State) (place : ℕ) (key : Key) (f : Folds) (sound : IsSound old) (step : PublishStep old place key new) (paints : PaintsOn old f.layer) (is : Stands old f) where
  told : PublishesTile old new place key
  told = publish_stays_in_tile old new place key sound.orderly step

  abbrev q : ℕ
  q = told.stroke.layer

  painted : q ≡ f.layer
  painted = way_painted old place f.layer (Paints step.painter) told.stroke sound step.runs refl told.at_head paints

  -- the children afterwards
  abbrev children : ℕ → List Child
  children g = with_pixels old.caches (nodes_in g (with_content q told.after old.present))

  abbrev slots : List Slot
  slots = slice_set old.slots place (Paints (record step.painter { published = key ∷ step.painter.published }))

  new_is : new ≡ record old { present = with_content q told.after old.present; slots = slots }
  new_is = step.new_is ∙ ap (λ (d : Doc). record old { present = d; slots = slots }) (ap (λ (s : State). s.present) (sym step.new_is) ∙ told.is)

  still : (g : ℕ) (path : List ℕ) → lower (f.layer ∷ path) (children_of old g) ≡ lower (f.layer ∷ path) (children g)
  still g path = subst (λ l. lower (l ∷ path) (children_of old g) ≡ lower (l ∷ path) (children g)) painted (sym (lower_content old.caches q told.after path g old.present))

  each : (slot : Slot) → WalkStands old slot → StandsSince (children_of old) f.layer f.since slot → StandsSince children f.layer f.since slot
  each Free stands since = tt
  each (Paints w) stands since = tt
  each (Walks w) stands since = λ late p h. all_both (λ (e : ℕ × List Child). SameChildren e.1 (children_of old e.0)) (λ (e : ℕ × List Child). SamePixels (f.layer ∷ groups_in w) e.1 (children_of old e.0) p) (λ (e : ℕ × List Child). SamePixels (f.layer ∷ groups_in w) e.1 (children e.0) p) w.shot
      (λ e same pixels. subst (λ l. SamePixels (l ∷ groups_in w) e.1 (children_of old e.0) p → SamePixels (l ∷ groups_in w) e.1 (children e.0) p) painted (reads_content old.caches q told.after (groups_in w) e.1 e.0 old.present p same) pixels)
      stands.2 (since late p h)

  publish_stands : Stands new f
  publish_stands = subst (λ s. Stands s f) (sym new_is) (record {
    walks = walks_set f old.slots place (Paints (record step.painter { published = key ∷ step.painter.published })) tt is.walks;
    folds = subst (λ gs. All (Shows (record { canvas = old.canvas; children = children; layer = f.layer; path = gs })) f.folds.items) (sym (path_of_with f.walk q told.after old.present))
        (All-weaker (Shows (lowers old f.layer f.walk)) (Shows (record (lowers old f.layer f.walk) { children = children })) (shows_moves (lowers old f.layer f.walk) children (λ g p on'. ap (λ cs. folded cs p clear) (still g (path_of f.walk old.present)))) f.folds.items is.folds);
    reads = all_set (StandsSince children f.layer f.since) old.slots place (Paints (record step.painter { published = key ∷ step.painter.published }))
        (all_both (WalkStands old) (StandsSince (children_of old) f.layer f.since) (StandsSince children f.layer f.since) old.slots each sound.orderly.walking.walks is.reads) tt;
  })

-- ---- a walk publishes a tile

-- what is off a path isn't a group on it
not_on : (path : List ℕ) (g c : ℕ) → on g path ≡ true → on c path ≡ false → eqb c g ≡ false
not_on path g c on' off = go (eqb c g) refl
  where
    go : (b : Bool) → eqb c g ≡ b → b ≡ false
    go false e = refl
    go true e = let is : c ≡ g = grind (arith, nat_tests) in absurd (never (sym off ∙ ap (λ n. on n path) is ∙ on'))

module _ (old new : State) (place g : ℕ) (key : Key) (f : Folds) (sound : IsSound old) (step : WalkPublishStep old place g key new) (is : Stands old f) where
  abbrev w : Walker
  w = step.walker

  -- the walk as it goes on
  abbrev goes : Walker
  goes = record w { published = (g, key) ∷ w.published }

  stands : (i : ℕ) (v : Walker) → slice_get old.slots i ≡ Some (Walks v) → WalkStands old (Walks v)
  stands i v k = all_get (WalkStands old) old.slots i (Walks v) sound.orderly.walking.walks k

  -- the children afterwards
  abbrev afterwards : ℕ → List Child
  afterwards n = with_pixels new.caches (nodes_in n old.present)

  now_is : new ≡ record old { caches = new.caches; slots = slice_set old.slots place (Walks goes) }
  now_is = step.new_is ∙ ap (λ c. record old { caches = c; slots = slice_set old.slots place (Walks goes) }) (sym (ap (λ (s : State). s.caches) step.new_is))

  -- the caches off a path on which the group is
  off_path : (path : List ℕ) (p : Point) → on g path ≡ true → (c : ℕ) → on c (f.layer ∷ path) ≡ false → cached_at old.caches p c ≡ cached_at new.caches p c
  off_path path p on' c off = other_cache old new place g key step c p (not_on path g c on' (none_right (eqb f.layer c) _ off))

  -- where caches stay, so does what was read
  stays : (v : Walker) (p : Point) → WalkStands old (Walks v) → ((c : ℕ) → on c (f.layer ∷ groups_in v) ≡ false → cached_at old.caches p c ≡ cached_at new.caches p c)
      → AllByRecursion (λ (e : ℕ × List Child). SamePixels (f.layer ∷ groups_in v) e.1 (children_of old e.0) p) v.shot → AllByRecursion (λ (e : ℕ × List Child). SamePixels (f.layer ∷ groups_in v) e.1 (afterwards e.0) p) v.shot
  stays v p stand off reads = all_both (λ (e : ℕ × List Child). SameChildren e.1 (children_of old e.0)) (λ (e : ℕ × List Child). SamePixels (f.layer ∷ groups_in v) e.1 (children_of old e.0) p) (λ (e : ℕ × List Child). SamePixels (f.layer ∷ groups_in v) e.1 (afterwards e.0) p) v.shot
      (λ e same pixels. pixels_off (f.layer ∷ groups_in v) old.caches new.caches e.1 (nodes_in e.0 old.present) p same off pixels) stand.2 reads

  own_reads : StandsSince afterwards f.layer f.since (Walks goes)
  own_reads late p h = stays w p (stands place w step.runs) (off_path (groups_in w) p step.on_path) (all_get (StandsSince (children_of old) f.layer f.since) old.slots place (Walks w) is.reads step.runs late p h)

  other_reads : (i : ℕ) (slot : Slot) → i ≢ place → slice_get old.slots i ≡ Some slot → StandsSince afterwards f.layer f.since slot
  other_reads i Free apart k = tt
  other_reads i (Paints v) apart k = tt
  other_reads i (Walks v) apart k = λ late p h. stays v p (stands i v k) (λ c off. cache_outside old new place g key step c p (patch_outside old i place v w p sound k step.runs apart h)) (all_get (StandsSince (children_of old) f.layer f.since) old.slots i (Walks v) is.reads k late p h)

  -- the group is on the path of all walks, where there is a fold
  on_path : AllByRecursion (WalksAs f.walk) old.slots → on g (path_of f.walk old.present) ≡ true
  on_path all = ap (on g) (sym ((stands place w step.runs).1 ∙ ap (λ k. path_of k old.present) (all_get (WalksAs f.walk) old.slots place (Walks w) all step.runs))) ∙ step.on_path

  walk_stands : Stands new f
  walk_stands = subst (λ s. Stands s f) (sym now_is) (record {
    walks = elim is.walks [ inl e ↦ inl e | inr all ↦ inr (all_set (WalksAs f.walk) old.slots place (Walks goes) all (all_get (WalksAs f.walk) old.slots place (Walks w) all step.runs)) ];
    folds = elim is.walks [
      | inl e ↦ subst (All (Shows (record (lowers old f.layer f.walk) { children = afterwards }))) (sym e) (All-nil (Shows (record (lowers old f.layer f.walk) { children = afterwards })))
      | inr all ↦ All-weaker (Shows (lowers old f.layer f.walk)) (Shows (record (lowers old f.layer f.walk) { children = afterwards })) (shows_moves (lowers old f.layer f.walk) afterwards (λ n p on'. lower_off (f.layer ∷ path_of f.walk old.present) old.caches new.caches (nodes_in n old.present) p clear (off_path (path_of f.walk old.present) p (on_path all)))) f.folds.items is.folds
    ];
    reads = all_by (StandsSince afterwards f.layer f.since) (slice_set old.slots place (Walks goes)) (λ i slot k. elim (set_cases old.slots place (Walks goes) i slot k) [
      | inl e ↦ subst (StandsSince afterwards f.layer f.since) (sym e.1) own_reads
      | inr e ↦ other_reads i slot e.0 e.1
    ]);
  })

-- ---- a stroke is taken back

-- the painted layer has other pixels again
module _ (s : State) (x : Layer) (base : Doc) (f : Folds) (was : s.present ≡ with_content f.layer x base) (sound : IsSound s) (is : Stands s f) where
  -- the children afterwards
  abbrev before : ℕ → List Child
  before g = with_pixels s.caches (nodes_in g base)

  painted_in : (g : ℕ) → children_of s g ≡ with_pixels s.caches (nodes_in g (with_content f.layer x base))
  painted_in g = ap (λ d. with_pixels s.caches (nodes_in g d)) was

  same_lower : (g : ℕ) (path : List ℕ) → lower (f.layer ∷ path) (children_of s g) ≡ lower (f.layer ∷ path) (before g)
  same_lower g path = ap (lower (f.layer ∷ path)) (painted_in g) ∙ lower_content s.caches f.layer x path g base

  each_back : (slot : Slot) → WalkStands s slot → StandsSince (children_of s) f.layer f.since slot → StandsSince before f.layer f.since slot
  each_back Free stands since = tt
  each_back (Paints w) stands since = tt
  each_back (Walks w) stands since = λ late p h. all_both (λ (e : ℕ × List Child). SameChildren e.1 (children_of s e.0)) (λ (e : ℕ × List Child). SamePixels (f.layer ∷ groups_in w) e.1 (children_of s e.0) p) (λ (e : ℕ × List Child). SamePixels (f.layer ∷ groups_in w) e.1 (before e.0) p) w.shot
      (λ e same pixels. reads_before s.caches f.layer x (groups_in w) e.1 e.0 base p (subst (SameChildren e.1) (painted_in e.0) same) (subst (λ cs. SamePixels (f.layer ∷ groups_in w) e.1 cs p) (painted_in e.0) pixels))
      stands.2 (since late p h)

  back_stands : Stands (record s { present = base }) f
  back_stands = record {
    walks = is.walks;
    folds = subst (λ gs. All (Shows (record { canvas = s.canvas; children = before; layer = f.layer; path = gs })) f.folds.items) (ap (path_of f.walk) was ∙ path_of_with f.walk f.layer x base)
        (All-weaker (Shows (lowers s f.layer f.walk)) (Shows (record (lowers s f.layer f.walk) { children = before })) (shows_moves (lowers s f.layer f.walk) before (λ g p on'. ap (λ cs. folded cs p clear) (same_lower g (path_of f.walk s.present)))) f.folds.items is.folds);
    reads = all_both (WalkStands s) (StandsSince (children_of s) f.layer f.since) (StandsSince before f.layer f.since) s.slots each_back sound.orderly.walking.walks is.reads;
  }

base_stands : (s : State) (f : Folds) → IsSound s → Keeps s f → Stands (record s { present = s.base }) f
base_stands s f sound is = go s.way refl
  where
    go : (w : Option ℕ) → s.way ≡ w → Stands (record s { present = s.base }) f
    go None e = let rest : AtRest s = subst (IsOnWay s) e sound.orderly.on_way in subst (λ d. Stands (record s { present = d }) f) rest.same is.stands
    go (Some n) e =
        let way : UnderWay s n = subst (IsOnWay s) e sound.orderly.on_way in
        back_stands s way.layer s.base f (subst (λ l. s.present ≡ with_content l way.layer s.base) (is.paints n way.stroke e way.at_head) way.is) sound is.stands

cancel_stands : (old new : State) (f : Folds) → IsSound old → CancelStep old new → Keeps old f → Stands new f
cancel_stands old new f sound step is = let stands : Stands (record old { present = old.base }) f = base_stands old f sound is in subst (λ s. Stands s f) (sym step.new_is) (record { walks = stands.walks; folds = stands.folds; reads = stands.reads })

-- ---- events that leave lower children as they are

finish_stands : (old new : State) (stroke : Stroke) (b : Bool) (f : Folds) → new ≡ after_finish old stroke b → Stands old f → Stands new f
finish_stands old new stroke true f e is = subst (λ s. Stands s f) (sym e) (record { walks = is.walks; folds = is.folds; reads = is.reads })
finish_stands old new stroke false f e is = subst (λ s. Stands s f) (sym e) (record { walks = is.walks; folds = is.folds; reads = is.reads })

-- a slot is free again
free_stands : (s : State) (place : ℕ) (f : Folds) → Stands s f → Stands (record s { slots = slice_set s.slots place Free }) f
free_stands s place f is = record {
  walks = walks_set f s.slots place Free tt is.walks;
  folds = is.folds;
  reads = all_set (StandsSince (children_of s) f.layer f.since) s.slots place Free is.reads tt;
}

-- a job as it starts
abbrev pub begun : (old : State) (place : ℕ) (new : State) → StartStep old place new → Painter
begun old place new step = record { serial = old.next; index = step.next; job = step.job.1; shot = shot_of (reads step.job.1) (layer_in step.stroke.layer old.present); published = [] }

step_stands : (old new : State) (e : Event) (f : Folds) → spares_lower e ≡ true → IsSound old → Step old e new → Keeps old f → Stands new f
step_stands old new (Feed c) f spares sound step is = subst (λ s. Stands s f) (sym step.1) (record { walks = is.stands.walks; folds = is.stands.folds; reads = is.stands.reads })
step_stands old new Init f spares sound step is = absurd (never spares)
step_stands old new (Start place) f spares sound step is = subst (λ s. Stands s f) (sym step.new_is) (record {
  walks = walks_set f old.slots place (Paints (begun old place new step)) tt is.stands.walks;
  folds = is.stands.folds;
  reads = all_set (StandsSince (children_of old) f.layer f.since) old.slots place (Paints (begun old place new step)) is.stands.reads tt;
})
step_stands old new (Publish place key) f spares sound step is = publish_stands old new place key f sound step is.paints is.stands
step_stands old new (End place) f spares sound step is = subst (λ s. Stands s f) (sym step.new_is) (record { walks = (free_stands old place f is.stands).walks; folds = is.stands.folds; reads = (free_stands old place f is.stands).reads })
step_stands old new Finish f spares sound step is = finish_stands old new step.stroke (is_paint step.stroke.layer old.base) f step.new_is is.stands
step_stands old new Cancel f spares sound step is = cancel_stands old new f sound step is
step_stands old new Act f spares sound step is = absurd (never spares)
step_stands old new (WalkStart place patch) f spares sound step is = absurd (never spares)
step_stands old new (WalkPublish place g key) f spares sound step is = walk_stands old new place g key f sound step is.stands
step_stands old new (WalkEnd place) f spares sound step is = subst (λ s. Stands s f) (sym step.new_is) (record { walks = (free_stands old place f is.stands).walks; folds = is.stands.folds; reads = (free_stands old place f is.stands).reads })

-- ---- the layer that is painted

-- a stroke at the head that is under way is on a paint layer
way_on_paint : (s : State) (n : ℕ) (stroke : Stroke) → IsSound s → s.way ≡ Some n → head_stroke s ≡ Some stroke → is_paint stroke.layer s.base ≡ true
way_on_paint s n stroke sound e head =
    let way : UnderWay s n = subst (IsOnWay s) e sound.orderly.on_way in
    let same : Some stroke ≡ Some way.stroke = sym head ∙ way.at_head in
    let one : stroke ≡ way.stroke = cc in
    ap is_some (ap (λ (t : Stroke). content t.layer s.base) one ∙ way.was)

finish_paints : (old new : State) (stroke : Stroke) (layer : ℕ) (b : Bool) → IsSound old → head_stroke old ≡ Some stroke → is_paint stroke.layer old.base ≡ b → new ≡ after_finish old stroke b → PaintsOn new layer
finish_paints old new stroke layer true sound head paint e n other way at = absurd (let f : None ≡ Some n = sym (ap (λ (s : State). s.way) e) ∙ way in cc)
finish_paints old new stroke layer false sound head paint e n other way at = absurd (never (sym paint ∙ way_on_paint old n stroke sound (sym (ap (λ (s : State). s.way) e) ∙ way) head))

feed_paints : (old new : State) (c : Command) (layer : ℕ) → IsSound old → Step old (Feed c) new → PaintsOn old layer → PaintsOn new layer
feed_paints old new c layer sound step paints n stroke way at =
    let begun : old.way ≡ Some n = sym (ap (λ (s : State). s.way) step.1) ∙ way in
    let under : UnderWay old n = subst (IsOnWay old) begun sound.orderly.on_way in
    let grown : (more : Stroke) × (head_stroke (record old { fed = old.fed ++ c ∷ [] }) ≡ Some more) × Grows under.stroke more = head_after old c under.stroke under.at_head in
    let same : Some stroke ≡ Some grown.0 = sym at ∙ ap head_stroke step.1 ∙ grown.1 in
    let one : stroke ≡ grown.0 = cc in
    ap (λ (t : Stroke). t.layer) one ∙ grown.2.layer ∙ paints n under.stroke begun under.at_head

step_paints : (old new : State) (e : Event) (layer : ℕ) → spares_lower e ≡ true → IsSound old → Step old e new → PaintsOn old layer → PaintsOn new layer
step_paints old new (Feed c) layer spares sound step paints = feed_paints old new c layer sound step paints
step_paints old new Init layer spares sound step paints = absurd (never spares)
step_paints old new (Start place) layer spares sound step paints = λ n stroke way at. paints step.next stroke step.begun (ap head_stroke (sym step.new_is) ∙ at)
step_paints old new (Publish place key) layer spares sound step paints = subst (λ s. PaintsOn s layer) (sym step.new_is) paints
step_paints old new (End place) layer spares sound step paints = subst (λ s. PaintsOn s layer) (sym step.new_is) paints
step_paints old new Finish layer spares sound step paints = finish_paints old new step.stroke layer (is_paint step.stroke.layer old.base) sound step.at_head refl step.new_is
step_paints old new Cancel layer spares sound step paints = λ n stroke way at. absurd (let e : None ≡ Some n = sym (ap (λ (s : State). s.way) step.new_is) ∙ way in cc)
step_paints old new Act layer spares sound step paints = absurd (never spares)
step_paints old new (WalkStart place patch) layer spares sound step paints = absurd (never spares)
step_paints old new (WalkPublish place g key) layer spares sound step paints = subst (λ s. PaintsOn s layer) (sym step.new_is) paints
step_paints old new (WalkEnd place) layer spares sound step paints = subst (λ s. PaintsOn s layer) (sym step.new_is) paints

-- what is kept goes on to stand
pub step_keeps : (old new : State) (e : Event) (f : Folds) → spares_lower e ≡ true → IsSound old → Step old e new → Keeps old f → Keeps new f
step_keeps old new e f spares sound step is = record { paints = step_paints old new e f.layer spares sound step is.paints; stands = step_stands old new e f spares sound step is }

-- ---- where nothing is kept

-- nothing is claimed of walks that are older than the next one
pub none_stands : (s : State) (f : Folds) → IsSound s → f.folds.items ≡ [] → f.since ≡ s.next → Stands s f
none_stands s f sound none since = record {
  walks = inl none;
  folds = subst (All (Shows (lowers s f.layer f.walk))) (sym none) (All-nil (Shows (lowers s f.layer f.walk)));
  reads = all_map (SerialBelow s.next) (StandsSince (children_of s) f.layer f.since) s.slots each sound.orderly.counted.below;
}
  where
    each : (slot : Slot) → SerialBelow s.next slot → StandsSince (children_of s) f.layer f.since slot
    each Free below = tt
    each (Paints w) below = tt
    each (Walks w) below = λ late. absurd (omega (arith, since, below, late))

pub new_keeps : (s : State) (f : Folds) → IsNew s → f.folds.items ≡ [] → f.since ≡ 0 → Keeps s f
new_keeps s f is none since = record {
  paints = λ n stroke way at. absurd (let e : None ≡ Some n = sym (ap (λ (t : State). t.way) is.is) ∙ way in cc);
  stands = none_stands s f (new_sound s is) none (since ∙ sym (ap (λ (t : State). t.next) is.is));
}

-- where no stroke is under way
rest_keeps : (s : State) (f : Folds) → IsSound s → s.way ≡ None → f.folds.items ≡ [] → f.since ≡ s.next → Keeps s f
rest_keeps s f sound rest none since = record {
  paints = λ n stroke way at. absurd (let e : None ≡ Some n = sym rest ∙ way in cc);
  stands = none_stands s f sound none since;
}

undo_way : (s : State) (past : List (Doc × Reach)) → (after_undo s past).way ≡ s.way
undo_way s [] = refl
undo_way s (e ∷ past) = go e.1
  where
    go : (r : Reach) → (moved_to (record (with_outcome s outcome.Done) { past = past; future = (s.base, r) ∷ s.future }) e.0 r).way ≡ s.way
    go Whole = refl
    go (Part layer keys) = refl

redo_way : (s : State) (future : List (Doc × Reach)) → (after_redo s future).way ≡ s.way
redo_way s [] = refl
redo_way s (e ∷ future) = go e.1
  where
    go : (r : Reach) → (moved_to (record (with_outcome s outcome.Done) { past = (s.base, r) ∷ s.past; future = future }) e.0 r).way ≡ s.way
    go Whole = refl
    go (Part layer keys) = refl

entry_way : (s : State) (e : Entry) → (after_entry s e).way ≡ s.way
entry_way s (Strokes stroke) = refl
entry_way s (Changes change) = go (changed plain change s.base)
  where
    go : (r : Result Doc TreeFault) → (after_change s r).way ≡ s.way
    go (Ok doc) = refl
    go (Err fault) = refl
entry_way s Undoes = undo_way s s.past
entry_way s Redoes = redo_way s s.future
entry_way s (Purges n) = refl
entry_way s Exports = refl

-- after an entry that is no stroke
pub act_keeps : (old new : State) (f : Folds) → IsSound old → IsSound new → ActStep old new → f.folds.items ≡ [] → f.since ≡ new.next → Keeps new f
act_keeps old new f sound after step none since = rest_keeps new f after (ap (λ (s : State). s.way) step.new_is ∙ entry_way old step.entry ∙ go old.way refl) none since
  where
    go : (w : Option ℕ) → old.way ≡ w → w ≡ None
    go None e = refl
    go (Some n) e = let way : UnderWay old n = subst (IsOnWay old) e sound.orderly.on_way in absurd (let f : None ≡ Some way.stroke = sym step.no_stroke ∙ way.at_head in cc)

-- ---- a stroke begins

pub begin_keeps : (old new : State) (f f' : Folds) → InitStep old new → IsSound new → ((s : Stroke) → head_stroke old ≡ Some s → f'.layer ≡ s.layer) → (f' ≡ f) ⊎ ((f'.folds.items ≡ []) × (f'.since ≡ new.next)) → Keeps old f → Keeps new f'
begin_keeps old new f f' step sound layer turned is = record {
  paints = λ n stroke way at. sym (layer stroke (ap head_stroke (sym step.new_is) ∙ at));
  stands = elim turned [
    | inl e ↦ subst (Stands new) (sym e) (subst (λ s. Stands s f) (sym step.new_is) (record { walks = is.stands.walks; folds = is.stands.folds; reads = is.stands.reads }))
    | inr e ↦ none_stands new f' sound e.0 e.1
  ];
}

-- ---- a walk starts

-- a walk as it starts
abbrev started : State → Patch → Walker
started s patch = record { serial = s.next; patch = patch; shot = walk_shot s patch; published = [] }

started_reads : (s : State) (patch : Patch) (layer : ℕ) → ReadsOthers (children_of s) layer (started s patch)
started_reads s patch layer p h = start_reads s (layer ∷ groups_in (started s patch)) patch.rect (path_of patch.walk s.present) p h

pub started_keeps : (old new : State) (place : ℕ) (patch : Patch) (f f' : Folds) → WalkStartStep old place patch new → Turns f f' patch.walk → Keeps old f → Keeps new f'
started_keeps old new place patch f f' step turns is = subst (λ s. Keeps s f') (sym step.new_is) (record {
  paints = subst (PaintsOn old) (sym turns.layer) is.paints;
  stands = record {
    walks = elim turns.folds [
      | inl e ↦ inl e
      | inr e ↦ elim is.stands.walks [
        | inl none ↦ inl (e.1 ∙ none)
        | inr all ↦ inr (all_set (WalksAs f'.walk) old.slots place (Walks (started old patch)) (subst (λ k. AllByRecursion (WalksAs k) old.slots) (e.0 ∙ sym turns.walk) all) (sym turns.walk))
      ]
    ];
    folds = elim turns.folds [
      | inl e ↦ subst (All (Shows (lowers old f'.layer f'.walk))) (sym e) (All-nil (Shows (lowers old f'.layer f'.walk)))
      | inr e ↦ subst (All (Shows (lowers old f'.layer f'.walk))) (sym e.1) (subst (λ l. All (Shows (lowers old l f'.walk)) f.folds.items) (sym turns.layer) (subst (λ k. All (Shows (lowers old f.layer k)) f.folds.items) (e.0 ∙ sym turns.walk) is.stands.folds))
    ];
    reads = all_set (StandsSince (children_of old) f'.layer f'.since) old.slots place (Walks (started old patch))
        (subst (λ l. AllByRecursion (StandsSince (children_of old) l f'.since) old.slots) (sym turns.layer) (subst (λ n. AllByRecursion (StandsSince (children_of old) f.layer n) old.slots) (sym turns.since) is.stands.reads))
        (λ late. started_reads old patch f'.layer);
  };
})

-- ---- what a walk stands on, and what it made

-- a fold that shows what is there is one of the walk's own
own_fold : (s : State) (w : Walker) (place : ℕ) (layer : ℕ) (a : Fold) → IsSound s → slice_get s.slots place ≡ Some (Walks w) → ReadsOthers (children_of s) layer w → Shows (lowers s layer w.patch.walk) a → IsFoldOf (readings w.patch w.shot) a
own_fold s w place layer a sound at reads shows = record {
  spot = shows.spot;
  on_path = here;
  values = λ p held inside. shows.values p (all_get (WalkInside (canvas_area s.canvas)) s.slots place (Walks w) sound.inside at p held) inside
      ∙ ap (λ gs. folded (lower (layer ∷ gs) (children_of s a.group)) p clear) (sym stands.1)
      ∙ sym (read_lower s layer w a.group p stands reads here held)
      ∙ ap (λ l. folded (lower (l ∷ groups_in w) (read_of w.shot a.group)) p clear) (sym shows.of_layer);
}
  where
    stands : WalkStands s (Walks w)
    stands = all_get (WalkStands s) s.slots place (Walks w) sound.orderly.walking.walks at

    here : on a.group (groups_in w) ≡ true
    here = ap (on a.group) stands.1 ∙ shows.on_path

-- the walk that started is the one in the slot
one_walk : (a b : Walker) → Some (Walks a) ≡ Some (Walks b) → a ≡ b
one_walk a b e = cc

pub footing_stands : (old new : State) (place : ℕ) (patch : Patch) (f f' : Folds) (w : Walker) (x : Footing) → WalkStartStep old place patch new → IsSound new → Turns f f' patch.walk → Keeps old f → slice_get new.slots place ≡ Some (Walks w) → AreOfFolds f' x → StandsOn (readings w.patch w.shot) x
footing_stands old new place patch f f' w x step sound turns is at of = All-weaker (Shows (lowers new f'.layer w.patch.walk)) (IsFoldOf (readings w.patch w.shot)) (λ a shows. own_fold new w place f'.layer a sound at reads shows) x.folds.items
    (of.folds (lowers new f'.layer w.patch.walk) (subst (λ k. All (Shows (lowers new f'.layer k)) f'.folds.items) (turns.walk ∙ ap (λ (v : Walker). v.patch.walk) same) after.stands.folds))
  where
    after : Keeps new f'
    after = started_keeps old new place patch f f' step turns is

    same : started old patch ≡ w
    same = one_walk (started old patch) w (sym (get_set old.slots place Free (Walks (started old patch)) step.free) ∙ ap (λ (s : State). slice_get s.slots place) (sym step.new_is) ∙ at)

    reads : ReadsOthers (children_of new) f'.layer w
    reads = subst (ReadsOthers (children_of new) f'.layer) same (subst (λ s. ReadsOthers (children_of s) f'.layer (started old patch)) (sym step.new_is) (started_reads old patch f'.layer))

-- what a walk made of lower children is there, within its patch
pub made_shows : (s : State) (w : Walker) (place : ℕ) (f : Folds) (a : Fold) → IsSound s → slice_get s.slots place ≡ Some (Walks w) → Stands s f → f.since ≤ w.serial → f.walk ≡ w.patch.walk → IsFoldOf (readings w.patch w.shot) a → a.layer ≡ f.layer → lies_in a.spot.part w.patch.rect ≡ true → Shows (lowers s f.layer f.walk) a
made_shows s w place f a sound at is late walk made layer lies = record {
  spot = made.spot;
  of_layer = layer;
  on_path = ap (on a.group) (sym path) ∙ made.on_path;
  values = λ p inside here. let held : holds w.patch.rect p ≡ true = lies_held a.spot.part w.patch.rect lies p here in
      made.values p held here
      ∙ ap (λ l. folded (lower (l ∷ groups_in w) (read_of w.shot a.group)) p clear) layer
      ∙ read_lower s f.layer w a.group p stands (all_get (StandsSince (children_of s) f.layer f.since) s.slots place (Walks w) is.reads at late) made.on_path held
      ∙ ap (λ gs. folded (lower (f.layer ∷ gs) (children_of s a.group)) p clear) path;
}
  where
    stands : WalkStands s (Walks w)
    stands = all_get (WalkStands s) s.slots place (Walks w) sound.orderly.walking.walks at

    path : groups_in w ≡ path_of f.walk s.present
    path = stands.1 ∙ ap (λ k. path_of k s.present) (sym walk)
