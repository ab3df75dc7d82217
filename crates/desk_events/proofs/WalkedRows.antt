-- A tile of a walk comes to the desk, of all its groups.
use Rattle.std.proofs.Common.{◌≡◌, ℕ, ◌<◌, ◌≤◌, true, Option, Some, None, Result, Ok, Err, OnOk, OnErr, List, [], ◌∷◌, ◌++◌, length, take, refl, sym, ap, ◌∙◌, arith, subst}
use Rattle.std.specs.Prelude.{slice_get, slice_set}
use Rattle.std.specs.Ordering.{nat_cmp}
use Rattle.std.specs.List.{list_any}
use Rattle.std.specs.FinMap.{FinMap}
use Rattle.geom_core.specs.Grid.{Key, same_key, keys_of}
use Rattle.doc_model.specs.Layers.{Layer}
use Rattle.machine_model.specs.State as state
use Rattle.machine_model.specs.State.{State, Walks}
use Rattle.machine_model.specs.Event.{WalkPublish}
use Rattle.machine_model.specs.Step.{Run}
use Rattle.walker_core.specs.Readings.{readings, path_in}
use Rattle.walker_core.specs.Composing.{Composition}
use Rattle.slot_core.specs.declared.Busy.{Busy}
use Rattle.slot_core.specs.Busy.{work_at}
use Rattle.desk_steps.proofs.Devices.{more_err}
use Rattle.desk_state.specs.declared.work.Walker.{Walker}
use Rattle.desk_state.specs.declared.work.Work.{Work}
use Rattle.desk_state.specs.declared.work.Work.TheVariants as work
use Rattle.desk_state.specs.Parts.{Parts, state_of, walker_of}
use Rattle.desk_state.specs.Tied.{IsDesk}
use Rattle.desk_state.specs.After.{busy_walker}
use Rattle.desk_state.proofs.Keeping.{held}
use Rattle.desk_state.proofs.WalkPlaces.{walking_at}
use Rattle.slot_work.specs.LaidTiles.{laid_as, lacking, pairs_at, Lays, LaysFront, LaysSome}
use Rattle.slot_work.specs.OfWalk.{IsRowOfWalk, ReadsAlike}
use Rattle.walker_core.specs.Sameness.{ReadTheSame}
use Rattle.desk_events.specs.Commits.{HasRead, MayPublishRow, ReadsAsWork, RunsFront, lacking_at, pair_events, row_events}
use Rattle.desk_events.proofs.AtWork.{same_walk}
use Rattle.desk_events.proofs.PairRuns.{IsRun, own_at, next_lacking, front_next, walk_run}

-- ---- the walk in the slot

module _ (s : State) (place serial : ℕ) (w : Walker) (c : Composition) (key : Key) (there : slice_get s.slots place ≡ Some (Walks (walker_of w))) where
  pub row_may : w.serial ≡ serial → IsRowOfWalk w.inputs c key → MayPublishRow s place serial c key
  row_may drawn of = record { walker = walker_of w; runs = there; drawn = drawn; of = of }

  pub read_is : w.serial ≡ serial → ReadsAlike w.inputs c key → HasRead s place serial c key
  read_is drawn alike = record { walker = walker_of w; runs = there; drawn = drawn; alike = alike }

  pub read_own : HasRead s place serial c key → ReadsAlike w.inputs c key
  read_own m = subst (λ (q : state.Walker). ReadsAlike (readings q.patch q.shot) c key) (sym (same_walk s place (walker_of w) m.walker there m.runs)) m.alike

  pub row_of : MayPublishRow s place serial c key → IsRowOfWalk w.inputs c key
  row_of m = subst (λ (q : state.Walker). IsRowOfWalk (readings q.patch q.shot) c key) (sym (same_walk s place (walker_of w) m.walker there m.runs)) m.of

module _ (s : State) (place serial : ℕ) (c : Composition) (key : Key) where
  -- what the walk at work has read is read as it reads, if it is at work
  pub read_as_work : HasRead s place serial c key → ReadsAsWork s place serial c key
  read_as_work m q runs drawn = subst (λ (q : state.Walker). ReadTheSame (readings q.patch q.shot) c.readings key) (same_walk s place m.walker q m.runs runs) m.alike.same

  -- what it may publish it has read
  pub row_read : MayPublishRow s place serial c key → HasRead s place serial c key
  row_read m = record { walker = m.walker; runs = m.runs; drawn = m.drawn; alike = record { in_patch = m.of.in_patch; same = m.of.of.same } }

-- ---- the events

first_events : (place : ℕ) (front rest : List (ℕ × Key)) → take (length front) (pair_events place (front ++ rest)) ≡ pair_events place front
first_events place [] rest = refl
first_events place (p ∷ front) rest = ap (λ fs. WalkPublish place p.0 p.1 ∷ fs) (first_events place front rest)

first_less : (place : ℕ) (front rest : List (ℕ × Key)) → 1 ≤ length rest → length front < length (pair_events place (front ++ rest))
first_less place [] [] some = omega (arith, some)
first_less place [] (p ∷ rest) some = omega arith
first_less place (p ∷ front) rest some = let h = first_less place front rest some in omega (arith, h)

-- the desk after a walk laid a tile of the groups of which it lacked it, or of some of them
pub record IsRowAt {A E : Type 0} (d new : Parts) (place : ℕ) (key : Key) (r : Result A E) : Type 0 where
  pub desk : IsDesk new
  pub all : OnOk r (Run (state_of d) (row_events (state_of d) place key) (state_of new))
  pub front : OnErr r (RunsFront (state_of d) (row_events (state_of d) place key) (state_of new))

pub row_at : {A E : Type 0} (d : Parts) (place : ℕ) (w : Walker) (key : Key) (pairs : List (ℕ × Key)) (r : Result A E) (caches : FinMap nat_cmp Layer) (slots : List (Option (Busy Work))) → IsDesk d → work_at place d.slots ≡ Some (work.Walk w)
    → list_any (same_key key) (keys_of w.inputs.patch.rect) ≡ true
    → OnOk r (Lays w.inputs (pairs_at (path_in w.inputs) key) (laid_as d.caches w.published) (laid_as caches pairs)) → LaysFront w.inputs (pairs_at (path_in w.inputs) key) (laid_as d.caches w.published) (laid_as caches pairs)
    → OnErr r (LaysSome w.inputs (pairs_at (path_in w.inputs) key) (laid_as d.caches w.published) (laid_as caches pairs))
    → slots ≡ slice_set (slice_set d.slots place None) place (Some (busy_walker (record w { published = pairs }))) → IsRowAt d (record d { caches = caches; slots = slots }) place key r
row_at {A = A} {E = E} d place w key pairs r caches slots desk h in_patch laid_ok front some filled = record {
  desk = (run_of front).desk;
  all = go r laid_ok;
  front = more_err r first some;
}
  where
    own : List (ℕ × Key)
    own = pairs_at (path_in w.inputs) key

    new : Parts
    new = record d { caches = caches; slots = slots }

    lacks : lacking_at (slice_get (state_of d).slots place) key ≡ lacking w.published own
    lacks = ap (λ s. lacking_at s key) (held d place _ (walking_at d.slots place w desk.slots h))

    run_of : (f : LaysFront w.inputs own (laid_as d.caches w.published) (laid_as caches pairs)) → IsRun d new (pair_events place f.front)
    run_of f = walk_run d place w (record w { published = pairs }) f.front caches slots desk h (front_next w.inputs w.published own f.front f.rest (own_at w.inputs key in_patch) f.are) f.lays refl filled

    first : LaysSome w.inputs own (laid_as d.caches w.published) (laid_as caches pairs) → RunsFront (state_of d) (row_events (state_of d) place key) (state_of new)
    first f = record {
      count = length f.part.front;
      short = subst (λ ps. length f.part.front < length (pair_events place ps)) (f.part.are ∙ sym lacks) (first_less place f.part.front f.part.rest f.left);
      run = subst (λ es. Run (state_of d) es (state_of new)) (sym (first_events place f.part.front f.part.rest) ∙ ap (λ ps. take (length f.part.front) (pair_events place ps)) (f.part.are ∙ sym lacks)) (run_of f.part).run;
    }

    go : (o : Result A E) → OnOk o (Lays w.inputs own (laid_as d.caches w.published) (laid_as caches pairs)) → OnOk o (Run (state_of d) (row_events (state_of d) place key) (state_of new))
    go (Err x) told = tt
    go (Ok x) told = subst (λ ps. Run (state_of d) (pair_events place ps) (state_of new)) (sym lacks)
        (walk_run d place w (record w { published = pairs }) (lacking w.published own) caches slots desk h (next_lacking w.inputs w.published own (own_at w.inputs key in_patch)) told refl filled).run
