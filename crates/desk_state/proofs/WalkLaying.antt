-- What is left when a walk's picture was laid, or wasn't for want of memory, and when a walk ends.
use Rattle.std.proofs.Common.{◌≡◌, ℕ, Bool, true, false, ◌&&◌, ◌||◌, cond, Option, Some, None, Result, Ok, Err, OnOk, OnErr, List, [], ◌∷◌, map, refl, sym, ap, ◌∙◌, subst}
use Rattle.std.specs.Prelude.{slice_set}
use Rattle.std.specs.Ordering.{nat_cmp}
use Rattle.std.specs.List.{list_any}
use Rattle.std.specs.FinMap as fin
use Rattle.std.specs.FinMap.{FinMap}
use Rattle.pixel_core.specs.Rgba.{Rgba}
use Rattle.geom_core.specs.Areas.{Area, Point, holds}
use Rattle.geom_core.specs.Rects.{any_holds}
use Rattle.geom_core.specs.Grid.{Key, same_key, keys_of}
use Rattle.doc_model.specs.Shots.{in_tile}
use Rattle.doc_model.specs.Layers.{Layer, at, painted}
use Rattle.doc_model.proofs.LayerLaws.{layer_ext, at-painted, default-painted}
use Rattle.geom_core.proofs.Tests.{and_left, and_right}
use Rattle.machine_model.specs.State.{Child}
use Rattle.machine_model.specs.Event.{WalkEnd}
use Rattle.machine_model.specs.Step.{WalkPublishStep}
use Rattle.machine_model.specs.Groups.{cache, on}
use Rattle.machine_model.specs.Guards.{same_pair}
use Rattle.machine_model.specs.Walks.{walk_value}
use Rattle.walker_core.specs.Readings.{Readings, path_in}
use Rattle.walker_core.specs.Sameness.{ReadTheSame}
use Rattle.walker_core.specs.Composing.{Composition}
use Rattle.walker_core.proofs.SameReadings.{same_values}
use Rattle.slot_core.specs.declared.Busy.{Busy}
use Rattle.slot_core.specs.Busy.{work_at}
use Rattle.desk_state.specs.declared.work.Walker.{Walker}
use Rattle.desk_state.specs.declared.work.Work.{Work}
use Rattle.desk_state.specs.declared.work.Work.TheVariants as work
use Rattle.desk_state.specs.Enabled.{Enabled, TakesWalk}
use Rattle.desk_state.specs.Parts.{Parts, state_of, walker_of}
use Rattle.desk_state.specs.Tied.{IsDesk}
use Rattle.desk_state.specs.After.{after_walk_publish, busy_walker}
use Rattle.desk_state.proofs.Places.{set_twice, set_same}
use Rattle.desk_state.proofs.WalkPlaces.{walking_at, IsWalkingAs, walking_as}
use Rattle.desk_state.proofs.Taking.{TakesWalkOf, walk_taken_of, walk_is}
use Rattle.desk_state.proofs.Walking.{MayWalkPublish, walk_publish_step, walk_publish_keeps, MayWalkEnd, walk_end_step, walk_end_keeps}
use Rattle.desk_state.proofs.Doing.{Does}

-- pixels that are the same at the points that are painted leave the same
pub painted_same : (rect : Area) (key : Key) (f g : Point → Rgba) (l : Layer) → ((p : Point) → holds rect p ≡ true → in_tile key p ≡ true → f p ≡ g p) → painted (rect ∷ []) (in_tile key) f l ≡ painted (rect ∷ []) (in_tile key) g l
painted_same rect key f g l same = layer_ext _ _ (default-painted (rect ∷ []) (in_tile key) f l ∙ sym (default-painted (rect ∷ []) (in_tile key) g l))
    (λ p. at-painted (rect ∷ []) (in_tile key) f l p ∙ go p (any_holds (rect ∷ []) p && in_tile key p) refl ∙ sym (at-painted (rect ∷ []) (in_tile key) g l p))
  where
    held : (a : Bool) → (a || false) ≡ true → a ≡ true
    held true e = refl
    held false e = cc

    go : (p : Point) (h : Bool) → (any_holds (rect ∷ []) p && in_tile key p) ≡ h → cond (any_holds (rect ∷ []) p && in_tile key p) (f p) (at l p) ≡ cond (any_holds (rect ∷ []) p && in_tile key p) (g p) (at l p)
    go p true e = ap (λ v. cond (any_holds (rect ∷ []) p && in_tile key p) v (at l p)) (same p (held _ (and_left (any_holds (rect ∷ []) p) _ e)) (and_right (any_holds (rect ∷ []) p) _ e))
    go p false e = ap (λ h. cond h (f p) (at l p)) e ∙ ap (λ h. cond h (g p) (at l p)) (sym e)

-- the caches with a walk's picture, as it was composed
abbrev pub with_composed : FinMap nat_cmp Layer → ℕ → Key → Readings → FinMap nat_cmp Layer
with_composed caches g key r = fin.insert caches g (painted (r.patch.rect ∷ []) (in_tile key) (walk_value r.groups g) (cache caches g))

-- what was composed of the same is the walk's own
pub composed_is : (caches : FinMap nat_cmp Layer) (g : ℕ) (key : Key) (own other : Readings) → ReadTheSame own other key → with_composed caches g key other ≡ with_composed caches g key own
composed_is caches g key own other same =
    (λ i. fin.insert caches g (painted ((sym same.patch i).rect ∷ []) (in_tile key) (walk_value other.groups g) (cache caches g)))
    ∙ ap (fin.insert caches g) (painted_same own.patch.rect key (walk_value other.groups g) (walk_value own.groups g) (cache caches g) (λ p h k. sym (same_values own other key same g p h k)))

-- the desk with these caches and slots, after a walk's picture was laid or wasn't
pub record IsWalkLaidAt {A E : Type 0} (d new : Parts) (place g : ℕ) (key : Key) (r : Result A E) : Type 0 where
  pub desk : IsDesk new
  pub ok : OnOk r (WalkPublishStep (state_of d) place g key (state_of new))
  pub err : OnErr r (state_of new ≡ state_of d)

pub walk_laid_at : {A E : Type 0} (d : Parts) (place serial g : ℕ) (key : Key) (w : Walker) (c : Composition) (r : Result A E) (caches : FinMap nat_cmp Layer) (pairs : List (ℕ × Key)) (slots : List (Option (Busy Work))) → IsDesk d
    → work_at place d.slots ≡ Some (work.Walk w) → TakesWalk (state_of d) place serial c g key
    → OnOk r (caches ≡ with_composed d.caches g key c.readings) → OnOk r (pairs ≡ (g, key) ∷ w.published) → OnErr r (caches ≡ d.caches) → OnErr r (pairs ≡ w.published)
    → slots ≡ slice_set (slice_set d.slots place None) place (Some (busy_walker (record w { published = pairs }))) → IsWalkLaidAt d (record d { caches = caches; slots = slots }) place g key r
walk_laid_at d place serial g key w c (Ok x) caches pairs slots desk h t put noted same kept filled = record {
  desk = subst IsDesk (sym is) (walk_publish_keeps d place g key w (record w { published = pairs }) caches desk may);
  ok = subst (λ n. WalkPublishStep (state_of d) place g key (state_of n)) (sym is) (walk_publish_step d place g key w (record w { published = pairs }) caches may);
  err = tt;
}
  where
    own : TakesWalkOf w serial c g key
    own = walk_taken_of d place serial w c g key h t

    may : MayWalkPublish d place g key w (record w { published = pairs }) caches
    may = record {
      runs = walking_at d.slots place w desk.slots h;
      on_path = own.on_path;
      in_patch = own.takes.in_patch;
      fresh = own.takes.fresh;
      new_is = λ i. record (walker_of w) { published = noted i };
      caches_are = put ∙ composed_is d.caches g key w.inputs c.readings own.takes.same;
    }

    is : (record d { caches = caches; slots = slots }) ≡ after_walk_publish d place (record w { published = pairs }) caches
    is = λ i. record d { caches = caches; slots = (filled ∙ set_twice d.slots place None _) i }
walk_laid_at d place serial g key w c (Err x) caches pairs slots desk h t put noted same kept filled = record { desk = subst IsDesk (sym is) desk; ok = tt; err = ap state_of is }
  where
    is : (record d { caches = caches; slots = slots }) ≡ d
    is = λ i. record d {
      caches = same i;
      slots = (filled ∙ set_twice d.slots place None _ ∙ ap (λ es. slice_set d.slots place (Some (busy_walker (record w { published = es })))) kept
          ∙ set_same d.slots place (Some (busy_walker w)) (walking_at d.slots place w desk.slots h)) i;
    }

-- a walk that has published all its pairs may end
pub walk_may_end : (d : Parts) (place : ℕ) (w : Walker) → IsDesk d → work_at place d.slots ≡ Some (work.Walk w) → ((g : ℕ) (key : Key) → on g (path_in w.inputs) ≡ true → list_any (same_key key) (keys_of w.inputs.patch.rect) ≡ true → list_any (same_pair g key) w.published ≡ true) → MayWalkEnd d place w
walk_may_end d place w desk h all = record { runs = walking_at d.slots place w desk.slots h; all = all }

-- the walk in the slot of which the machine's may end
pub walk_ends : (d : Parts) (place : ℕ) (w : Walker) → IsDesk d → work_at place d.slots ≡ Some (work.Walk w) → Enabled (state_of d) (WalkEnd place) → MayWalkEnd d place w
walk_ends d place w desk h can = walk_may_end d place w desk h
    (let e = walk_is d place w can.1.walker h can.1.runs in subst (λ v. (g : ℕ) (key : Key) → on g (map (λ (x : ℕ × List Child). x.0) v.shot) ≡ true → list_any (same_key key) (keys_of v.patch.rect) ≡ true → list_any (same_pair g key) v.published ≡ true) (sym e) can.1.all)

pub walk_end_does : (d : Parts) (place : ℕ) (w : Walker) (slots : List (Option (Busy Work))) → IsDesk d → work_at place d.slots ≡ Some (work.Walk w) → Enabled (state_of d) (WalkEnd place) → slots ≡ slice_set d.slots place None → Does d (WalkEnd place) (record d { slots = slots })
walk_end_does d place w slots desk h can freed =
    let may = walk_ends d place w desk h can in
    subst (Does d (WalkEnd place)) (λ i. record d { slots = sym freed i }) (record { desk = walk_end_keeps d place w desk may; step = walk_end_step d place w may })

-- so the slot of a walk that may end is freed
pub walk_freed_does : (d : Parts) (place : ℕ) (slots : List (Option (Busy Work))) → IsDesk d → Enabled (state_of d) (WalkEnd place) → slots ≡ slice_set d.slots place None → Does d (WalkEnd place) (record d { slots = slots })
walk_freed_does d place slots desk can freed = let x : IsWalkingAs d.slots place can.1.walker = walking_as d.slots place can.1.walker can.1.runs in walk_end_does d place x.walker slots desk x.at_work can freed
