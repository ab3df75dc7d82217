-- Whole jobs, and tiles of walks, come to the desk.
use Rattle.std.proofs.Common.{◌≡◌, ℕ, suc, zero, ◌+◌, ◌≤◌, true, not, Some, List, [], ◌∷◌, ◌++◌, length, take, drop, refl, sym, ap, ◌∙◌, subst, arith, Result, Ok, Err, OnOk, OnErr, IsErr}
use Rattle.std.specs.Prelude.{slice_get}
use Rattle.std.specs.List.{All, list_all}
use Rattle.std.proofs.lemmas.List.{drop_all}
use Rattle.geom_core.specs.Grid.{Key}
use Rattle.geom_core.proofs.Tests.{and_left, and_right, both_true, add_one}
use Rattle.doc_model.specs.Forest.{content}
use Rattle.whole_tiles.specs.Wholes.{Entire}
use Rattle.machine_model.specs.State as state
use Rattle.machine_model.specs.State.{State, Paints, head_stroke}
use Rattle.machine_model.specs.Guards.{kept_jobs}
use Rattle.machine_model.specs.Event.{Event, Publish, End}
use Rattle.machine_model.specs.Step.{Step, PublishStep, Run}
use Rattle.machine_model.specs.MeaningLaws.{is_feed}
use Rattle.machine_model.proofs.Lists.{get_set}
use Rattle.update_queue.proofs.Elements.{drop_here}
use Rattle.desk_state.specs.Settles.{Settles}
use Rattle.desk_events.specs.Commits.{MayCommit, TakesWhole, RunsFront, lacking_at, pair_events, row_events}
use Rattle.desk_events.specs.Sparing.{ArePrior, IsPrior, IsPriorAt}
use Rattle.slot_work.proofs.Lackings.{all_at}
use Rattle.desk_core.specs.declared.answers.Published.{Published}
use Rattle.desk_core.specs.declared.answers.Published.TheVariants as answers
use Rattle.desk_core.specs.Commits.{Brings, Commits, commit_events}
use Rattle.desk_state.proofs.SettlingRuns.{run_then, settles_none}

-- ---- the events

next_event : (place : ℕ) (tiles : List Entire) (i : ℕ) (x : Entire) → slice_get tiles i ≡ Some x → take (suc i) (commit_events place tiles) ≡ take i (commit_events place tiles) ++ Publish place x.key ∷ []
next_event place [] i x e = cc
next_event place (y ∷ tiles) zero x e = let same : y ≡ x = cc in ap (λ (z : Entire). Publish place z.key ∷ []) same
next_event place (y ∷ tiles) (suc i) x e = ap (λ es. Publish place y.key ∷ es) (next_event place tiles i x e)

all_events : (place : ℕ) (tiles : List Entire) → commit_events place tiles ≡ take (length tiles) (commit_events place tiles) ++ End place ∷ []
all_events place [] = refl
all_events place (y ∷ tiles) = ap (λ es. Publish place y.key ∷ es) (all_events place tiles)

fed_none : (place : ℕ) (tiles : List Entire) → list_all (λ e. not (is_feed e)) (commit_events place tiles) ≡ true
fed_none place [] = refl
fed_none place (y ∷ tiles) = fed_none place tiles

-- one tile more
pub next_run : (place : ℕ) (tiles : List Entire) (i : ℕ) (x : Entire) (a b c : State) → slice_get tiles i ≡ Some x → Run a (take i (commit_events place tiles)) b → Step b (Publish place x.key) c → Run a (take (i + 1) (commit_events place tiles)) c
next_run place tiles i x a b c at run step = subst (λ es. Run a es c) (sym (ap (λ n. take n (commit_events place tiles)) (add_one i) ∙ next_event place tiles i x at))
    (run_then (take i (commit_events place tiles)) (Publish place x.key ∷ []) a b c run (c, step, refl))

-- all tiles, and the end
pub whole_run : (place : ℕ) (tiles : List Entire) (i : ℕ) (a b c : State) → i ≡ length tiles → Run a (take i (commit_events place tiles)) b → Step b (End place) c → Run a (commit_events place tiles) c
whole_run place tiles i a b c n run step = subst (λ es. Run a es c) (sym (all_events place tiles ∙ ap (λ m. take m (commit_events place tiles) ++ End place ∷ []) (sym n)))
    (run_then (take i (commit_events place tiles)) (End place ∷ []) a b c run (c, step, refl))

events_count : (place : ℕ) (tiles : List Entire) → length (commit_events place tiles) ≡ suc (length tiles)
events_count place [] = refl
events_count place (y ∷ tiles) = ap suc (events_count place tiles)

-- a front of the tiles is one of the events
pub tiles_front : (place : ℕ) (tiles : List Entire) (i : ℕ) (a b : State) → i ≤ length tiles → Run a (take i (commit_events place tiles)) b → RunsFront a (commit_events place tiles) b
tiles_front place tiles i a b low run = record { count = i; short = (let n = events_count place tiles in omega (arith, low, n)); run = run }

-- ---- the answers

pub brings_err : {E : Type 0} (May : Type 0) (events : List Event) (a b : State) (r : Result Published E) → IsErr r → RunsFront a events b → Brings May events a r b
brings_err May events a b (Ok x) is front = cc
brings_err May events a b (Err e) is front = front

taken_none_fed : (es : List Event) (n : ℕ) → list_all (λ e. not (is_feed e)) es ≡ true → list_all (λ e. not (is_feed e)) (take n es) ≡ true
taken_none_fed es zero h = refl
taken_none_fed [] (suc n) h = refl
taken_none_fed (e ∷ es) (suc n) h = both_true _ _ (and_left (not (is_feed e)) _ h) (taken_none_fed es n (and_right (not (is_feed e)) _ h))

-- whatever the answer is, events other than feeding led to the state behind it
brings_settles : {E : Type 0} (May : Type 0) (events : List Event) (a b : State) (r : Result Published E) → list_all (λ e. not (is_feed e)) events ≡ true → Brings May events a r b → Settles a b
brings_settles May events a b (Ok answers.Stored) unfed brings = record { events = events; no_feed = unfed; run = brings.1 }
brings_settles May events a b (Ok answers.Nothing) unfed brings = settles_none a b brings.1
brings_settles May events a b (Err e) unfed front = record { events = take front.count events; no_feed = taken_none_fed events front.count unfed; run = front.run }

pub commit_settles : {E : Type 0} (place serial : ℕ) (tiles : List Entire) (a b : State) (r : Result Published E) → Commits a place serial tiles r b → Settles a b
commit_settles place serial tiles a b r commits = brings_settles (MayCommit a place serial tiles) (commit_events place tiles) a b r (fed_none place tiles) commits

row_none_fed : (place : ℕ) (ps : List (ℕ × Key)) → list_all (λ e. not (is_feed e)) (pair_events place ps) ≡ true
row_none_fed place [] = refl
row_none_fed place (p ∷ ps) = row_none_fed place ps

-- a tile of a walk
pub row_settles : {A E : Type 0} (place : ℕ) (key : Key) (a b : State) (r : Result A E) → OnOk r (Run a (row_events a place key) b) → OnErr r (RunsFront a (row_events a place key) b) → Settles a b
row_settles place key a b (Ok x) all front = record { events = row_events a place key; no_feed = row_none_fed place (lacking_at (slice_get a.slots place) key); run = all }
row_settles place key a b (Err e) all front = record { events = take front.count (row_events a place key); no_feed = taken_none_fed (row_events a place key) front.count (row_none_fed place (lacking_at (slice_get a.slots place) key)); run = front.run }

-- before the first tile
pub no_tile : (place : ℕ) (tiles : List Entire) (a : State) → RunsFront a (commit_events place tiles) a
no_tile place tiles a = tiles_front place tiles 0 a a (omega arith) refl

-- ---- what is still lacking

pub takes_first : (s : State) (place serial : ℕ) (x : Entire) (xs : List Entire) → MayCommit s place serial (x ∷ xs) → TakesWhole s place x
takes_first s place serial x xs m = record { painter = m.painter; runs = m.runs; of = m.lacking.0; in_job = m.lacking.1; fresh = m.lacking.2 }

one_painter : (a b : state.Painter) → Some (Paints a) ≡ Some (Paints b) → a ≡ b
one_painter a b e = cc

pub commits_rest : (s t : State) (place serial : ℕ) (x : Entire) (xs : List Entire) → MayCommit s place serial (x ∷ xs) → PublishStep s place x.key t → MayCommit t place serial xs
commits_rest s t place serial x xs m step = record {
  painter = record m.painter { published = x.key ∷ m.painter.published };
  runs = ap (λ (n : State). slice_get n.slots place) step.new_is ∙ get_set s.slots place (Paints m.painter) _ m.runs
      ∙ ap (λ (p : state.Painter). Some (Paints (record p { published = x.key ∷ p.published }))) (one_painter step.painter m.painter (sym step.runs ∙ m.runs));
  drawn = m.drawn;
  lacking = m.lacking.3;
}

-- the tile at an index, and those after it
pub at_index : (s : State) (place serial : ℕ) (tiles : List Entire) (i : ℕ) (x : Entire) → slice_get tiles i ≡ Some x → MayCommit s place serial (drop i tiles) → MayCommit s place serial (x ∷ drop (i + 1) tiles)
at_index s place serial tiles i x at = subst (MayCommit s place serial) (drop_here tiles i x at)

pub none_left : (s : State) (place serial : ℕ) (tiles : List Entire) (i : ℕ) → length tiles ≤ i → MayCommit s place serial (drop i tiles) → MayCommit s place serial []
none_left s place serial tiles i low = subst (MayCommit s place serial) (drop_all i tiles low)

-- ---- what the tiles were made from

-- a tile that is published leaves the others made from what they were
pub prior_stays : (s t : State) (place serial since : ℕ) (key : Key) (tiles : List Entire) → PublishStep s place key t → ArePrior s place serial since tiles → ArePrior t place serial since tiles
prior_stays s t place serial since key tiles step prior w runs drawn stroke at_head base was =
    let e : record step.painter { published = key ∷ step.painter.published } ≡ w = one_painter _ _ (sym (get_set s.slots place (Paints step.painter) _ step.runs) ∙ sym (ap (λ (n : State). slice_get n.slots place) step.new_is) ∙ runs) in
    subst (λ (q : state.Painter). All (IsPrior (kept_jobs stroke) base since q.index q.job) tiles) e
    (prior step.painter step.runs (ap (λ (q : state.Painter). q.serial) e ∙ drawn) stroke (sym (ap head_stroke step.new_is) ∙ at_head) base (sym (ap (λ (n : State). content stroke.layer n.base) step.new_is) ∙ was))

-- what holds of the tiles of the job in a slot holds of each
pub prior_at : (s : State) (place serial since i : ℕ) (x : Entire) (tiles left : List Entire) → slice_get tiles i ≡ Some x → MayCommit s place serial left → ArePrior s place serial since tiles → IsPriorAt s place since x
prior_at s place serial since i x tiles left at m prior w runs stroke at_head base was =
    all_at (IsPrior (kept_jobs stroke) base since w.index w.job) tiles i x at (prior w runs (ap (λ (q : state.Painter). q.serial) (one_painter w m.painter (sym runs ∙ m.runs)) ∙ m.drawn) stroke at_head base was)
