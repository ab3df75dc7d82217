-- The job or the walk in a slot, beside what the machine has there.
use Rattle.std.proofs.Common.{◌≡◌, ◌≤◌, ℕ, Option, Some, None, List, refl, sym, ap, ◌∙◌, subst}
use Rattle.std.specs.Prelude.{slice_get, slice_set}
use Rattle.std.specs.List.{AllByRecursion, list_any, list_all}
use Rattle.std.specs.Option.{unwrap_or}
use Rattle.geom_core.specs.Areas.{lies_in}
use Rattle.geom_core.specs.Grid.{Key, same_key, keys_of, all_keys_of}
use Rattle.geom_core.proofs.Tests.{and_left}
use Rattle.doc_model.specs.Jobs.{reads, writes}
use Rattle.doc_model.specs.Laws.{SameOn}
use Rattle.job_core.specs.Paints.{Paint, layer_of}
use Rattle.machine_model.specs.State as state
use Rattle.machine_model.specs.State.{State, Paints, Walks}
use Rattle.machine_model.specs.Groups.{on}
use Rattle.machine_model.specs.Guards.{same_pair}
use Rattle.walker_core.specs.Readings.{readings, path_in}
use Rattle.walker_core.specs.Sameness.{ReadTheSame}
use Rattle.walker_core.specs.Composing.{Composition}
use Rattle.slot_core.specs.declared.Busy.{Busy}
use Rattle.slot_core.specs.Busy.{busy_at, work_at, work_in}
use Rattle.desk_state.specs.declared.work.Painter.{Painter}
use Rattle.desk_state.specs.declared.work.Walker.{Walker}
use Rattle.desk_state.specs.declared.work.Work.{Work}
use Rattle.desk_state.specs.declared.work.Work.TheVariants as work
use Rattle.desk_state.specs.After.{busy_painter, busy_walker}
use Rattle.desk_state.specs.Enabled.{Takes, TakesWalk}
use Rattle.desk_state.specs.Painted.{TakesPainted, TakesComposed}
use Rattle.desk_state.specs.Parts.{Parts, state_of, painter_of, walker_of}
use Rattle.desk_state.specs.Tied.{IsDesk, IsKept}
use Rattle.desk_state.proofs.Keeping.{held, IsGoing, going_at_work}
use Rattle.desk_state.proofs.Places.{IsPainting, painting_at, set_twice}
use Rattle.desk_state.proofs.WalkPlaces.{walking_at}
use Rattle.desk_state.proofs.Taking.{job_is, walk_is, same_path, job_at_walk, job_at_none, walk_at_job, walk_at_none}
use Rattle.desk_events.specs.AtWork.{HasJob, HasNoJob, HasWalk, HasNoWalk}

-- ---- what the desk keeps

pub walk_runs : (d : Parts) (place : ℕ) (w : Walker) → IsDesk d → work_at place d.slots ≡ Some (work.Walk w) → slice_get (state_of d).slots place ≡ Some (Walks (walker_of w))
walk_runs d place w desk h = held d place _ (walking_at d.slots place w desk.slots h)

module _ (d : Parts) (place serial : ℕ) where
  pub has_job : (w : Painter) → IsDesk d → work_at place d.slots ≡ Some (work.Paint w) → w.serial ≡ serial → HasJob (state_of d) place serial w
  has_job w desk h drawn =
      let x : IsPainting d.slots place w = painting_at d.slots place w desk.slots h in
      let g : IsGoing d = going_at_work d place (painter_of w) desk (held d place _ x.there) in
      record {
        runs = held d place _ x.there;
        drawn = drawn;
        stroke = g.begun.stroke;
        at_head = g.begun.at_head;
        checked = x.kept.2;
        limits = x.kept.3;
        seen = x.kept.1;
      }

  pub other_job : (w : Painter) → work_at place d.slots ≡ Some (work.Paint w) → (w.serial ≡ serial → ⊥) → HasNoJob (state_of d) place serial
  other_job w h other p runs drawn = other (ap (λ (q : state.Painter). q.serial) (job_is d place w p h runs) ∙ drawn)

  pub walk_no_job : (w : Walker) → work_at place d.slots ≡ Some (work.Walk w) → HasNoJob (state_of d) place serial
  walk_no_job w h p runs drawn = job_at_walk d place w p h runs

  pub none_no_job : work_at place d.slots ≡ None → HasNoJob (state_of d) place serial
  none_no_job h p runs drawn = job_at_none d place p h runs

  pub has_walk : (w : Walker) → IsDesk d → work_at place d.slots ≡ Some (work.Walk w) → w.serial ≡ serial → HasWalk (state_of d) place serial w
  has_walk w desk h drawn = record { runs = walk_runs d place w desk h; drawn = drawn }

  pub other_walk : (w : Walker) → work_at place d.slots ≡ Some (work.Walk w) → (w.serial ≡ serial → ⊥) → HasNoWalk (state_of d) place serial
  other_walk w h other p runs drawn = other (ap (λ (q : state.Walker). q.serial) (walk_is d place w p h runs) ∙ drawn)

  pub job_no_walk : (w : Painter) → work_at place d.slots ≡ Some (work.Paint w) → HasNoWalk (state_of d) place serial
  job_no_walk w h p runs drawn = walk_at_job d place w p h runs

  pub none_no_walk : work_at place d.slots ≡ None → HasNoWalk (state_of d) place serial
  none_no_walk h p runs drawn = walk_at_none d place p h runs

-- ---- the work that is lent

module _ (slots : List (Option (Busy Work))) (place : ℕ) (b : Busy Work) where
  pub lent_at : (x : Work) → busy_at place slots ≡ Some b → b.work ≡ x → work_at place slots ≡ Some x
  lent_at x h is = go (slice_get slots place) h ∙ ap Some is
    where
      go : (o : Option (Option (Busy Work))) → unwrap_or o None ≡ Some b → work_in o ≡ Some b.work
      go None h = cc
      go (Some None) h = cc
      go (Some (Some a)) h = ap (λ (o : Option (Busy Work)). work_in (Some o)) h

  one_busy : (x : Busy Work) → Some x ≡ Some b → b ≡ x
  one_busy x e = cc

  -- the job that is given back with these tiles stands where it stood
  pub lent_job : (w w' : Painter) → AllByRecursion IsKept slots → busy_at place slots ≡ Some b → b.work ≡ work.Paint w
      → slice_set slots place (Some (record { work = work.Paint w'; walker = b.walker })) ≡ slice_set (slice_set slots place None) place (Some (busy_painter w'))
  lent_job w w' kept h is =
      let x : IsPainting slots place w = painting_at slots place w kept (lent_at (work.Paint w) h is) in
      let e : b ≡ busy_painter w = one_busy (busy_painter w) (sym (ap (λ o. unwrap_or o None) x.there) ∙ h) in
      ap (λ a. slice_set slots place (Some (record { work = work.Paint w'; walker = a }))) (ap (λ (q : Busy Work). q.walker) e) ∙ sym (set_twice slots place None (Some (busy_painter w')))

  -- and so does the walk
  pub lent_walk : (w w' : Walker) → AllByRecursion IsKept slots → busy_at place slots ≡ Some b → b.work ≡ work.Walk w
      → slice_set slots place (Some (record { work = work.Walk w'; walker = b.walker })) ≡ slice_set (slice_set slots place None) place (Some (record { work = work.Walk w'; walker = Some w.inputs.patch.rect }))
  lent_walk w w' kept h is =
      let e : b ≡ busy_walker w = one_busy (busy_walker w) (sym (ap (λ o. unwrap_or o None) (walking_at slots place w kept (lent_at (work.Walk w) h is))) ∙ h) in
      ap (λ a. slice_set slots place (Some (record { work = work.Walk w'; walker = a }))) (ap (λ (q : Busy Work). q.walker) e) ∙ sym (set_twice slots place None (Some (record { work = work.Walk w'; walker = Some w.inputs.patch.rect })))

pub none_at : (slots : List (Option (Busy Work))) (place : ℕ) → busy_at place slots ≡ None → work_at place slots ≡ None
none_at slots place h = go (slice_get slots place) h
  where
    go : (o : Option (Option (Busy Work))) → unwrap_or o None ≡ None → work_in o ≡ None
    go None h = refl
    go (Some None) h = refl
    go (Some (Some a)) h = cc

-- ---- what stands there alone

one_job : (a b : state.Painter) → Some (Paints a) ≡ Some (Paints b) → a ≡ b
one_job a b e = cc

one_walk : (a b : state.Walker) → Some (Walks a) ≡ Some (Walks b) → a ≡ b
one_walk a b e = cc

pub same_job : (s : State) (place : ℕ) (a b : state.Painter) → slice_get s.slots place ≡ Some (Paints a) → slice_get s.slots place ≡ Some (Paints b) → a ≡ b
same_job s place a b h k = one_job a b (sym h ∙ k)

pub same_walk : (s : State) (place : ℕ) (a b : state.Walker) → slice_get s.slots place ≡ Some (Walks a) → slice_get s.slots place ≡ Some (Walks b) → a ≡ b
same_walk s place a b h k = one_walk a b (sym h ∙ k)

-- ---- what was painted of the job, or composed of the walk

module _ (s : State) (place serial : ℕ) where
  pub job_takes : (w : Painter) (p : Paint) → HasJob s place serial w → TakesPainted w p → Takes s place serial p
  job_takes w p has t = record {
    painter = painter_of w;
    runs = has.runs;
    drawn = has.drawn;
    job = t.job;
    covers = t.covers;
    same = t.same;
    in_job = t.in_job;
    fresh = t.fresh;
  }

  pub job_taken : (w : Painter) (p : Paint) → HasJob s place serial w → Takes s place serial p → TakesPainted w p
  job_taken w p has t =
      let e : painter_of w ≡ t.painter = same_job s place (painter_of w) t.painter has.runs t.runs in
      record {
        in_job = ap (λ (q : state.Painter). list_any (same_key p.key) (all_keys_of (writes q.job))) e ∙ t.in_job;
        fresh = ap (λ (q : state.Painter). list_any (same_key p.key) q.published) e ∙ t.fresh;
        job = t.job ∙ ap (λ (q : state.Painter). q.job) (sym e);
        covers = ap (λ (q : state.Painter). list_all (λ a. list_any (lies_in a) p.shot.rects) (reads q.job)) e ∙ t.covers;
        same = subst (λ (q : state.Painter). SameOn (reads q.job) (layer_of p.shot) q.shot) (sym e) t.same;
      }

  pub walk_takes : (w : Walker) (c : Composition) (group : ℕ) (key : Key) → 1 ≤ w.inputs.patch.rect.w → 1 ≤ w.inputs.patch.rect.h → HasWalk s place serial w → TakesComposed w c group key → TakesWalk s place serial c group key
  walk_takes w c group key wide high has t = record {
    walker = walker_of w;
    runs = has.runs;
    drawn = has.drawn;
    on_path = ap (on group) (same_path w.inputs c.readings key wide high t.in_patch t.same) ∙ and_left (on group (path_in c.readings)) _ t.composed;
    in_patch = t.in_patch;
    fresh = t.fresh;
    composed = t.composed;
    same = t.same;
  }

  pub walk_taken : (w : Walker) (c : Composition) (group : ℕ) (key : Key) → HasWalk s place serial w → TakesWalk s place serial c group key → TakesComposed w c group key
  walk_taken w c group key has t =
      let e : walker_of w ≡ t.walker = same_walk s place (walker_of w) t.walker has.runs t.runs in
      record {
        in_patch = ap (λ (q : state.Walker). list_any (same_key key) (keys_of q.patch.rect)) e ∙ t.in_patch;
        fresh = ap (λ (q : state.Walker). list_any (same_pair group key) q.published) e ∙ t.fresh;
        composed = t.composed;
        same = subst (λ (q : state.Walker). ReadTheSame (readings q.patch q.shot) c.readings key) (sym e) t.same;
      }
