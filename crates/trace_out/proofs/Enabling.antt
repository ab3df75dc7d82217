-- What is made of work at hand is taken, and where it goes.
use Rattle.std.proofs.Common.{◌≡◌, ℕ, Bool, true, false, ◌&&◌, List, [], ◌∷◌, map, Option, Some, None, refl, sym, ap, ◌∙◌, subst, arith, eqb}
use Rattle.std.specs.Prelude.{slice_get, slice_set}
use Rattle.std.specs.List.{list_any, list_all}
use Rattle.std.proofs.lemmas.Bool.Decides.{nat_tests}
use Rattle.script_lines.proofs.FieldLemmas.{both}
use Rattle.geom_core.specs.Areas.{lies_in}
use Rattle.geom_core.specs.Grid.{Key, same_key, keys_of, all_keys_of}
use Rattle.doc_model.specs.Jobs.{reads, writes}
use Rattle.doc_model.specs.Laws.{SameOn}
use Rattle.tile_core.specs.Shots.{Sight}
use Rattle.job_core.specs.Paints.{Paint, layer_of}
use Rattle.machine_model.specs.State as state
use Rattle.machine_model.specs.State.{State, Child, Slot, Free, Paints, Walks}
use Rattle.machine_model.specs.Event as event
use Rattle.machine_model.specs.Step.{Step, StartStep, WalkStartStep, PublishStep, WalkPublishStep}
use Rattle.machine_model.specs.Groups.{on}
use Rattle.machine_model.specs.Guards.{same_pair}
use Rattle.machine_model.specs.Sound.{IsOrderly}
use Rattle.machine_model.proofs.Lists.{all_get, get_set}
use Rattle.machine_model.proofs.JobKeeps.{painting}
use Rattle.walker_core.specs.Readings.{Readings, path_in}
use Rattle.walker_core.specs.Composing.{Composition, has_pair}
use Rattle.walker_core.specs.Sameness.{groups_at}
use Rattle.whole_tiles.proofs.Seen.{own_seen}
use Rattle.slot_core.specs.declared.Busy.{Busy}
use Rattle.desk_state.specs.declared.work.Painter.{Painter}
use Rattle.desk_state.specs.declared.work.Walker.{Walker}
use Rattle.desk_state.specs.declared.work.Work.{Work}
use Rattle.desk_state.specs.Parts.{slot_of, painter_of, walker_of}
use Rattle.desk_state.specs.Tied.{IsKept}
use Rattle.desk_state.specs.After.{busy_painter, busy_walker}
use Rattle.desk_state.specs.Enabled.{Takes, TakesWalk, MayEnd}
use Rattle.machine_model.proofs.Found.{keys_pass, groups_pass}
use Rattle.trace_out.specs.Writing.{IsTied}
use Rattle.trace_out.specs.Lent.{IsLent, LacksTile, LacksPair}
use Rattle.trace_out.proofs.Ties.{lent_runs}
use Rattle.geom_core.proofs.Tests.{equal_test}

same_painter : (a b : state.Painter) → Some (Paints a) ≡ Some (Paints b) → a ≡ b
same_painter a b e = cc

same_walker : (a b : state.Walker) → Some (Walks a) ≡ Some (Walks b) → a ≡ b
same_walker a b e = cc

-- what was lent was kept
pub lent_kept : (held : List (Option (Busy Work))) (place : ℕ) (b : Busy Work) (s : State) → IsLent held place b s → IsKept (Some b)
lent_kept held place b s lent = all_get IsKept (slice_set held place (Some b)) place (Some b) lent.tied.kept (get_set held place None (Some b) lent.empty)

-- a job that has published all its tiles may end
pub job_may_end : (s : State) (place : ℕ) (w : state.Painter) → IsOrderly s → slice_get s.slots place ≡ Some (Paints w) → list_all (λ k. list_any (same_key k) w.published) (all_keys_of (writes w.job)) ≡ true → MayEnd s place w.serial
job_may_end s place w orderly h all =
    let u = painting s place w h s.way orderly.on_way in
    record {
      slot = Paints w;
      here = h;
      drawn = refl;
      event = event.End place;
      is_end = equal_test place;
      enabled = (_, record { painter = w; runs = h; all = λ key k. keys_pass (λ q. list_any (same_key q) w.published) (all_keys_of (writes w.job)) key all k; stroke = u.2.stroke; at_head = u.2.at_head; new_is = refl });
    }

-- so may a walk that has published all its pairs
pub walk_may_end : (s : State) (place : ℕ) (w : state.Walker) → slice_get s.slots place ≡ Some (Walks w) → list_all (λ key. list_all (λ g. list_any (same_pair g key) w.published) (map (λ (e : ℕ × List Child). e.0) w.shot)) (keys_of w.patch.rect) ≡ true → MayEnd s place w.serial
walk_may_end s place w h all = record {
  slot = Walks w;
  here = h;
  drawn = refl;
  event = event.WalkEnd place;
  is_end = equal_test place;
  enabled = (_, record { walker = w; runs = h; all = λ g key i k. groups_pass (λ q. list_any (same_pair q key) w.published) groups g (keys_pass (λ q. list_all (λ o. list_any (same_pair o q) w.published) groups) (keys_of w.patch.rect) key all k) i; new_is = refl });
}
  where
    groups : List ℕ
    groups = map (λ (e : ℕ × List Child). e.0) w.shot

-- a tile that was painted from what the job was started with is taken
pub job_takes : (s : State) (place : ℕ) (w : Painter) (key : Key) (p : Paint) → slice_get s.slots place ≡ Some (Paints (painter_of w)) → w.shot.rects ≡ reads w.job → LacksTile w key → p.job ≡ w.job → p.shot ≡ w.shot → p.key ≡ key → Takes s place w.serial p
job_takes s place w key p h seen lacks job shot is_key = record {
  painter = painter_of w;
  runs = h;
  drawn = refl;
  in_job = ap (λ k. list_any (same_key k) (all_keys_of (writes w.job))) is_key ∙ lacks.in_job;
  fresh = ap (λ k. list_any (same_key k) w.published) is_key ∙ lacks.fresh;
  job = job;
  covers = ap (λ (v : Sight). list_all (λ a. list_any (lies_in a) v.rects) (reads w.job)) shot ∙ own_seen w.shot.rects (reads w.job) seen;
  same = subst (λ v. SameOn (reads w.job) (layer_of v) (layer_of w.shot)) (sym shot) (record { default_pixel = refl; pixels = λ q k. refl });
}

key_itself : (key : Key) → list_any (same_key key) (key ∷ []) ≡ true
key_itself key = grind (arith, nat_tests)

-- a pair that was composed of what the walk reads is taken
pub walk_takes : (s : State) (place : ℕ) (w : Walker) (c : Composition) (group : ℕ) (key : Key) → slice_get s.slots place ≡ Some (Walks (walker_of w)) → c.readings ≡ w.inputs → c.keys ≡ key ∷ [] → LacksPair w group key → TakesWalk s place w.serial c group key
walk_takes s place w c group key h reads keys lacks = record {
  walker = walker_of w;
  runs = h;
  drawn = refl;
  on_path = lacks.on_path;
  in_patch = lacks.in_patch;
  fresh = lacks.fresh;
  composed = both (on group (path_in c.readings)) (list_any (same_key key) c.keys) (ap (λ (r : Readings). on group (path_in r)) reads ∙ lacks.on_path) (ap (list_any (same_key key)) keys ∙ key_itself key);
  same = record { patch = ap (λ (r : Readings). r.patch) (sym reads); groups = λ p a b. ap (λ (r : Readings). groups_at p r.groups) (sym reads) };
}

-- the slots after a tile was published
pub published_slots : (s t : State) (place : ℕ) (w : Painter) (key : Key) → slice_get s.slots place ≡ Some (Paints (painter_of w)) → Step s (event.Publish place key) t → t.slots ≡ slice_set s.slots place (slot_of (Some (busy_painter (record w { published = key ∷ w.published }))))
published_slots s t place w key h step =
    ap (λ (u : State). u.slots) step.new_is
    ∙ ap (λ (q : state.Painter). slice_set s.slots place (Paints (record q { published = key ∷ q.published }))) (same_painter step.painter (painter_of w) (sym step.runs ∙ h))

-- and after a pair was
pub put_slots : (s t : State) (place : ℕ) (w : Walker) (group : ℕ) (key : Key) → slice_get s.slots place ≡ Some (Walks (walker_of w)) → Step s (event.WalkPublish place group key) t → t.slots ≡ slice_set s.slots place (slot_of (Some (busy_walker (record w { published = (group, key) ∷ w.published }))))
put_slots s t place w group key h step =
    ap (λ (u : State). u.slots) step.new_is
    ∙ ap (λ (q : state.Walker). slice_set s.slots place (Walks (record q { published = (group, key) ∷ q.published }))) (same_walker step.walker (walker_of w) (sym step.runs ∙ h))
