-- Walks: what the desk does is the event of the machine.
use Rattle.std.proofs.Common.{◌≡◌, ℕ, true, false, Option, Some, None, List, [], ◌∷◌, map, refl, sym, ap, ◌∙◌, subst}
use Rattle.std.specs.Prelude.{slice_get, slice_set}
use Rattle.std.specs.Ordering.{nat_cmp}
use Rattle.std.specs.List.{list_any}
use Rattle.std.specs.FinMap as fin
use Rattle.std.specs.FinMap.{FinMap}
use Rattle.geom_core.specs.Grid.{Key, same_key, keys_of}
use Rattle.doc_model.specs.Shots.{in_tile}
use Rattle.doc_model.specs.Layers.{Layer, painted}
use Rattle.machine_model.specs.State.{State, Child, Walks, head_stroke}
use Rattle.machine_model.specs.Event.{WalkStart, WalkPublish, WalkEnd}
use Rattle.machine_model.specs.Step.{Step}
use Rattle.machine_model.specs.Slots.{is_painter}
use Rattle.machine_model.specs.Groups.{cache, on}
use Rattle.machine_model.specs.Guards.{kept_jobs, is_exclusive, meets_walker, same_pair}
use Rattle.machine_model.specs.Walks.{walk_shot, walk_value}
use Rattle.machine_model.proofs.Lists.{all_set}
use Rattle.machine_model.proofs.RunsSound.{step_keeps_sound}
use Rattle.desk_state.specs.declared.work.Walker.{Walker}
use Rattle.slot_core.specs.declared.Busy.{Busy}
use Rattle.desk_state.specs.declared.work.Work.{Work}
use Rattle.desk_state.specs.Noted.{noted}
use Rattle.desk_state.specs.Parts.{Parts, state_of, slot_of, walker_of}
use Rattle.desk_state.specs.Tied.{IsDesk, IsWay, IsBegun, IsKept}
use Rattle.desk_state.specs.After.{after_walk_start, after_walk_publish, after_walk_end, busy_walker}
use Rattle.desk_state.proofs.Keeping.{map_set, held}
use Rattle.desk_state.proofs.Noting.{noted_beside}

-- a slot in which no job is at work before and after is nothing to the stroke under way
way_beside : (d : Parts) (s : State) (place : ℕ) (x y : Option (Busy Work)) → IsDesk d → head_stroke s ≡ head_stroke (state_of d) → s.slots ≡ slice_set (state_of d).slots place (slot_of y) → slice_get d.slots place ≡ Some x
    → is_painter (slot_of x) ≡ false → is_painter (slot_of y) ≡ false → IsWay s d.store d.way
way_beside d s place x y desk same slots h nx ny = go d.way refl
  where
    go : (o : Option ℕ) → d.way ≡ o → IsWay s d.store o
    go None e = subst (IsWay (state_of d) d.store) e desk.way
    go (Some n) e = record {
      stroke = b.stroke;
      at_head = same ∙ b.at_head;
      keys = b.keys;
      way = b.way;
      notes = λ k. b.notes k ∙ sym (noted_beside (kept_jobs b.stroke) (state_of d).slots place (slot_of x) (slot_of y) n k (held d place x h) nx ny) ∙ ap (λ zs. noted (kept_jobs b.stroke) zs n k) (sym slots);
      room = b.room;
    }
      where
        b : IsBegun (state_of d) d.store n
        b = subst (IsWay (state_of d) d.store) e desk.way

-- a walk may start in a slot with the patch of an index
pub record MayWalk (d : Parts) (place i : ℕ) (w : Walker) : Type 0 where
  pub waits : slice_get d.updates.patches i ≡ Some w.inputs.patch
  pub free : slice_get d.slots place ≡ Some None
  pub not_exclusive : is_exclusive (head_stroke (state_of d)) d.way ≡ false
  pub avoids : list_any (meets_walker w.inputs.patch.rect) (state_of d).slots ≡ false
  pub serial : w.serial ≡ d.next
  pub inputs : w.inputs.groups ≡ walk_shot (state_of d) w.inputs.patch
  pub fresh : w.published ≡ []

pub walk_start_step : (d : Parts) (place i : ℕ) (w : Walker) → MayWalk d place i w → Step (state_of d) (WalkStart place w.inputs.patch) (state_of (after_walk_start d place i w))
walk_start_step d place i w may = record {
  i = i;
  waits = may.waits;
  free = held d place _ may.free;
  not_exclusive = may.not_exclusive;
  avoids = may.avoids;
  new_is = λ t. record (state_of (after_walk_start d place i w)) {
    slots = (map_set slot_of d.slots place (Some (busy_walker w))
        ∙ (λ u. slice_set (state_of d).slots place (Walks (record { serial = may.serial u; patch = w.inputs.patch; shot = may.inputs u; published = may.fresh u })))) t;
  };
}

pub walk_start_keeps : (d : Parts) (place i : ℕ) (w : Walker) → IsDesk d → MayWalk d place i w → IsDesk (after_walk_start d place i w)
walk_start_keeps d place i w desk may = record {
  sound = step_keeps_sound (state_of d) (state_of (after_walk_start d place i w)) (WalkStart place w.inputs.patch) desk.sound (walk_start_step d place i w may);
  queue = desk.queue;
  way = way_beside d (state_of (after_walk_start d place i w)) place None (Some (busy_walker w)) desk refl (map_set slot_of d.slots place (Some (busy_walker w))) may.free refl refl;
  slots = all_set IsKept d.slots place _ desk.slots refl;
  area = desk.area;
  few = desk.few;
  sides = desk.sides;
}

-- a tile of a group may be published by the walk in a slot, which is as new afterwards, and leaves these caches
pub record MayWalkPublish (d : Parts) (place g : ℕ) (key : Key) (w new : Walker) (caches : FinMap nat_cmp Layer) : Type 0 where
  pub runs : slice_get d.slots place ≡ Some (Some (busy_walker w))
  pub on_path : on g (map (λ (e : ℕ × List Child). e.0) w.inputs.groups) ≡ true
  pub in_patch : list_any (same_key key) (keys_of w.inputs.patch.rect) ≡ true
  pub fresh : list_any (same_pair g key) w.published ≡ false
  pub new_is : walker_of new ≡ record (walker_of w) { published = (g, key) ∷ w.published }
  pub caches_are : caches ≡ fin.insert d.caches g (painted (w.inputs.patch.rect ∷ []) (in_tile key) (walk_value w.inputs.groups g) (cache d.caches g))

pub walk_publish_step : (d : Parts) (place g : ℕ) (key : Key) (w new : Walker) (caches : FinMap nat_cmp Layer) → MayWalkPublish d place g key w new caches → Step (state_of d) (WalkPublish place g key) (state_of (after_walk_publish d place new caches))
walk_publish_step d place g key w new caches may = record {
  walker = walker_of w;
  runs = held d place _ may.runs;
  on_path = may.on_path;
  in_patch = may.in_patch;
  fresh = may.fresh;
  new_is = λ t. record (state_of d) { caches = may.caches_are t; slots = (map_set slot_of d.slots place (Some (busy_walker new)) ∙ ap (λ v. slice_set (state_of d).slots place (Walks v)) may.new_is) t };
}

pub walk_publish_keeps : (d : Parts) (place g : ℕ) (key : Key) (w new : Walker) (caches : FinMap nat_cmp Layer) → IsDesk d → MayWalkPublish d place g key w new caches → IsDesk (after_walk_publish d place new caches)
walk_publish_keeps d place g key w new caches desk may = record {
  sound = step_keeps_sound (state_of d) (state_of (after_walk_publish d place new caches)) (WalkPublish place g key) desk.sound (walk_publish_step d place g key w new caches may);
  queue = desk.queue;
  way = way_beside d (state_of (after_walk_publish d place new caches)) place (Some (busy_walker w)) (Some (busy_walker new)) desk refl (map_set slot_of d.slots place (Some (busy_walker new))) may.runs refl refl;
  slots = all_set IsKept d.slots place _ desk.slots refl;
  area = desk.area;
  few = desk.few;
  sides = desk.sides;
}

-- the walk in a slot may end: it has published all its tiles
pub record MayWalkEnd (d : Parts) (place : ℕ) (w : Walker) : Type 0 where
  pub runs : slice_get d.slots place ≡ Some (Some (busy_walker w))
  pub all : (g : ℕ) (key : Key) → on g (map (λ (e : ℕ × List Child). e.0) w.inputs.groups) ≡ true → list_any (same_key key) (keys_of w.inputs.patch.rect) ≡ true → list_any (same_pair g key) w.published ≡ true

pub walk_end_step : (d : Parts) (place : ℕ) (w : Walker) → MayWalkEnd d place w → Step (state_of d) (WalkEnd place) (state_of (after_walk_end d place))
walk_end_step d place w may = record {
  walker = walker_of w;
  runs = held d place _ may.runs;
  all = may.all;
  new_is = λ t. record (state_of d) { slots = map_set slot_of d.slots place None t };
}

pub walk_end_keeps : (d : Parts) (place : ℕ) (w : Walker) → IsDesk d → MayWalkEnd d place w → IsDesk (after_walk_end d place)
walk_end_keeps d place w desk may = record {
  sound = step_keeps_sound (state_of d) (state_of (after_walk_end d place)) (WalkEnd place) desk.sound (walk_end_step d place w may);
  queue = desk.queue;
  way = way_beside d (state_of (after_walk_end d place)) place (Some (busy_walker w)) None desk refl (map_set slot_of d.slots place None) may.runs refl refl;
  slots = all_set IsKept d.slots place None desk.slots tt;
  area = desk.area;
  few = desk.few;
  sides = desk.sides;
}
