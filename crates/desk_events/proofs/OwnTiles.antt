-- The work in a slot may publish a tile, and what it leaves is the events of the machine.
use Rattle.std.proofs.Common.{◌≡◌, ℕ, true, false, Option, Some, None, Result, Ok, Err, OnOk, OnErr, List, [], ◌∷◌, map, refl, ap, ◌∙◌}
use Rattle.std.specs.Prelude.{slice_get, slice_set}
use Rattle.std.specs.Ordering.{nat_cmp}
use Rattle.std.specs.List.{list_any, list_all}
use Rattle.std.specs.FinMap.{FinMap}
use Rattle.geom_core.specs.Grid.{Key, same_key, keys_of, all_keys_of}
use Rattle.geom_core.specs.Keys.{IsWorldKey}
use Rattle.doc_model.specs.Jobs.{reads, writes}
use Rattle.doc_model.specs.Layers.{Layer}
use Rattle.job_core.specs.Paints.{paint}
use Rattle.machine_model.specs.State as state
use Rattle.machine_model.specs.State.{State, Child, Paints, Walks}
use Rattle.machine_model.specs.Event.{Publish}
use Rattle.machine_model.specs.Step.{Step}
use Rattle.machine_model.specs.Groups.{on}
use Rattle.machine_model.specs.Guards.{same_pair}
use Rattle.walker_core.specs.Readings.{path_in}
use Rattle.desk_steps.specs.Archives.{Archive, with_put}
use Rattle.slot_core.specs.Busy.{work_at}
use Rattle.slot_core.specs.declared.Busy.{Busy}
use Rattle.desk_state.specs.declared.work.Painter.{Painter}
use Rattle.desk_state.specs.declared.work.Walker.{Walker}
use Rattle.desk_state.specs.declared.work.Work.{Work}
use Rattle.desk_state.specs.declared.work.Work.TheVariants as work
use Rattle.desk_state.specs.Enabled.{Enabled, Takes}
use Rattle.desk_state.specs.Parts.{Parts, state_of, painter_of, walker_of}
use Rattle.desk_state.specs.Tied.{IsDesk}
use Rattle.desk_state.specs.After.{busy_painter}
use Rattle.desk_state.specs.Settles.{Settles, GoesOn}
use Rattle.desk_state.proofs.Keeping.{held, IsGoing, going_at_work}
use Rattle.desk_state.proofs.Places.{painting_at}
use Rattle.desk_state.proofs.WalkPlaces.{walking_at}
use Rattle.desk_state.proofs.Taking.{job_is, walk_is}
use Rattle.desk_state.proofs.Laying.{IsLaidAt, laid_at}
use Rattle.slot_work.specs.LaidTiles.{laid_as, laid_all, lacking, pairs_at, Lays, LaysFront}
use Rattle.whole_tiles.proofs.Seen.{own_seen}
use Rattle.desk_events.specs.Commits.{pair_events}
use Rattle.desk_events.specs.OwnWork.{WalkLacks, WalksOn, is_walk_publish}
use Rattle.desk_events.proofs.AtWork.{has_job, job_takes}
use Rattle.desk_events.proofs.PairRuns.{AreNext, IsRun, next_lacking, front_next, own_at, some_lacking, none_fed, walk_run}
use Rattle.desk_state.proofs.SettlingRuns.{goes_on}

-- a job may publish a tile that isn't published
pub tile_may : (d : Parts) (place : ℕ) (w : Painter) (key : Key) → IsDesk d → work_at place d.slots ≡ Some (work.Paint w) → list_any (same_key key) (all_keys_of (writes w.job)) ≡ true → list_any (same_key key) w.published ≡ false → Enabled (state_of d) (Publish place key)
tile_may d place w key desk h in_job fresh =
    let runs : slice_get (state_of d).slots place ≡ Some (Paints (painter_of w)) = held d place _ (painting_at d.slots place w desk.slots h).there in
    let g : IsGoing d = going_at_work d place (painter_of w) desk runs in
    (_, record { painter = painter_of w; runs = runs; in_job = in_job; fresh = fresh; stroke = g.begun.stroke; at_head = g.begun.at_head; new_is = refl })

-- so may a walk
pub pair_may : (d : Parts) (place : ℕ) (w : Walker) (group : ℕ) (key : Key) → IsDesk d → work_at place d.slots ≡ Some (work.Walk w) → IsWorldKey key → on group (path_in w.inputs) ≡ true → list_any (same_key key) (keys_of w.inputs.patch.rect) ≡ true → list_any (same_pair group key) w.published ≡ false → WalkLacks (state_of d) place key
pair_may d place w group key desk h world on_path in_patch fresh =
    let runs : slice_get (state_of d).slots place ≡ Some (Walks (walker_of w)) = held d place _ (walking_at d.slots place w desk.slots h) in
    record { world = world; group = group; enabled = (_, record { walker = walker_of w; runs = runs; on_path = on_path; in_patch = in_patch; fresh = fresh; new_is = refl }) }

-- what a job was started with is taken of what is painted from it
pub own_takes : (d : Parts) (place : ℕ) (w : Painter) (key : Key) → IsDesk d → work_at place d.slots ≡ Some (work.Paint w) → Enabled (state_of d) (Publish place key) → Takes (state_of d) place w.serial (paint w.job w.shot key [])
own_takes d place w key desk h can =
    let same : painter_of w ≡ can.1.painter = job_is d place w can.1.painter h can.1.runs in
    job_takes (state_of d) place w.serial w (paint w.job w.shot key []) (has_job d place w.serial w desk h refl) (record {
      in_job = ap (λ (q : state.Painter). list_any (same_key key) (all_keys_of (writes q.job))) same ∙ can.1.in_job;
      fresh = ap (λ (q : state.Painter). list_any (same_key key) q.published) same ∙ can.1.fresh;
      job = refl;
      covers = own_seen w.shot.rects (reads w.job) (painting_at d.slots place w desk.slots h).kept.1;
      same = record { default_pixel = refl; pixels = λ p k. refl };
    })

-- the desk after a job's tile was painted from what the job was started with, and laid or not
pub painted_at : {A E : Type 0} (d : Parts) (place : ℕ) (w w' : Painter) (key : Key) (r : Result A E) (store : Archive) (slots : List (Option (Busy Work))) → IsDesk d → work_at place d.slots ≡ Some (work.Paint w) → Enabled (state_of d) (Publish place key)
    → OnOk r (store ≡ with_put d.store.way (paint w.job w.shot key []) d.store) → OnOk r (w' ≡ record w { published = key ∷ w.published }) → OnErr r (store ≡ d.store) → OnErr r (w' ≡ w)
    → slots ≡ slice_set (slice_set d.slots place None) place (Some (busy_painter w')) → IsLaidAt d (record d { store = store; slots = slots }) place (paint w.job w.shot key []) r
painted_at d place w w' key (Ok x) store slots desk h can put noted same kept filled =
    laid_at d place w.serial w (paint w.job w.shot key []) (Ok x) store (key ∷ w.published) slots desk h (own_takes d place w key desk h can) put refl tt tt (filled ∙ ap (λ v. slice_set (slice_set d.slots place None) place (Some (busy_painter v))) noted)
painted_at d place w w' key (Err x) store slots desk h can put noted same kept filled =
    laid_at d place w.serial w (paint w.job w.shot key []) (Err x) store w.published slots desk h (own_takes d place w key desk h can) tt tt same refl (filled ∙ ap (λ v. slice_set (slice_set d.slots place None) place (Some (busy_painter v))) kept)

-- where a tile of a job is published, the desk goes on
pub tile_goes : {A E : Type 0} (r : Result A E) (a b : State) (place : ℕ) (key : Key) → OnOk r (Step a (Publish place key) b) → OnOk r (GoesOn a b)
tile_goes (Ok x) a b place key step = goes_on a b (Publish place key) refl step
tile_goes (Err x) a b place key step = tt

-- the desk after a tile of a walk was laid of some groups, and of all where there was memory
pub record IsComposedAt {A E : Type 0} (d new : Parts) (r : Result A E) : Type 0 where
  pub desk : IsDesk new
  pub ok : OnOk r (GoesOn (state_of d) (state_of new))
  pub err : OnErr r (Settles (state_of d) (state_of new))
  pub walks : WalksOn (state_of d) (state_of new)

all_walks : (place : ℕ) (ps : List (ℕ × Key)) → list_all is_walk_publish (pair_events place ps) ≡ true
all_walks place [] = refl
all_walks place (p ∷ ps) = all_walks place ps

in_err : {A E P : Type 0} (r : Result A E) → P → OnErr r P
in_err (Ok x) p = tt
in_err (Err x) p = p

pub composed_at : {A E : Type 0} (d : Parts) (place : ℕ) (w w' : Walker) (key : Key) (r : Result A E) (caches : FinMap nat_cmp Layer) (slots : List (Option (Busy Work))) → IsDesk d → work_at place d.slots ≡ Some (work.Walk w) → WalkLacks (state_of d) place key
    → OnOk r (Lays w.inputs (pairs_at (path_in w.inputs) key) (laid_as d.caches w.published) (laid_as caches w'.published)) → LaysFront w.inputs (pairs_at (path_in w.inputs) key) (laid_as d.caches w.published) (laid_as caches w'.published) → w'.inputs ≡ w.inputs → w'.serial ≡ w.serial
    → slots ≡ slice_set (slice_set d.slots place None) place (Some (record { work = work.Walk w'; walker = Some w.inputs.patch.rect })) → IsComposedAt d (record d { caches = caches; slots = slots }) r
composed_at {A = A} {E = E} d place w w' key r caches slots desk h lacks all front inputs serial filled = record {
  desk = (run front.front (front_next w.inputs w.published (pairs_at (path_in w.inputs) key) front.front front.rest (own_at w.inputs key in_patch) front.are) front.lays).desk;
  ok = go r all;
  err = in_err r (settles front.front (front_next w.inputs w.published (pairs_at (path_in w.inputs) key) front.front front.rest (own_at w.inputs key in_patch) front.are) front.lays);
  walks = record {
    events = pair_events place front.front;
    walks = all_walks place front.front;
    run = (run front.front (front_next w.inputs w.published (pairs_at (path_in w.inputs) key) front.front front.rest (own_at w.inputs key in_patch) front.are) front.lays).run;
  };
}
  where
    same : walker_of w ≡ lacks.enabled.1.walker
    same = walk_is d place w lacks.enabled.1.walker h lacks.enabled.1.runs

    in_patch : list_any (same_key key) (keys_of w.inputs.patch.rect) ≡ true
    in_patch = ap (λ (q : state.Walker). list_any (same_key key) (keys_of q.patch.rect)) same ∙ lacks.enabled.1.in_patch

    on_path : on lacks.group (path_in w.inputs) ≡ true
    on_path = ap (λ (q : state.Walker). on lacks.group (map (λ (e : ℕ × List Child). e.0) q.shot)) same ∙ lacks.enabled.1.on_path

    fresh : list_any (same_pair lacks.group key) w.published ≡ false
    fresh = ap (λ (q : state.Walker). list_any (same_pair lacks.group key) q.published) same ∙ lacks.enabled.1.fresh

    now : w' ≡ record w { published = w'.published }
    now = λ i. record { serial = serial i; inputs = inputs i; published = w'.published }

    run : (ps : List (ℕ × Key)) → AreNext w.inputs w.published ps → laid_as caches w'.published ≡ laid_all w.inputs ps (laid_as d.caches w.published) → IsRun d (record d { caches = caches; slots = slots }) (pair_events place ps)
    run ps next lays = walk_run d place w w' ps caches slots desk h next lays now filled

    settles : (ps : List (ℕ × Key)) → AreNext w.inputs w.published ps → laid_as caches w'.published ≡ laid_all w.inputs ps (laid_as d.caches w.published) → Settles (state_of d) (state_of (record d { caches = caches; slots = slots }))
    settles ps next lays = record { events = pair_events place ps; no_feed = none_fed place ps; run = (run ps next lays).run }

    go : (o : Result A E) → OnOk o (Lays w.inputs (pairs_at (path_in w.inputs) key) (laid_as d.caches w.published) (laid_as caches w'.published)) → OnOk o (GoesOn (state_of d) (state_of (record d { caches = caches; slots = slots })))
    go (Err x) told = tt
    go (Ok x) told = record {
      settles = settles (lacking w.published (pairs_at (path_in w.inputs) key)) (next_lacking w.inputs w.published (pairs_at (path_in w.inputs) key) (own_at w.inputs key in_patch)) told;
      some = some_lacking place w.published (path_in w.inputs) key lacks.group on_path fresh;
    }
