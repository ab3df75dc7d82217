-- What a walk lays of the pairs that it lacks is the events of the machine.
use Rattle.std.proofs.Common.{◌≡◌, ℕ, ◌≤◌, Bool, true, false, ◌&&◌, cond, Option, Some, None, List, [], ◌∷◌, ◌++◌, length, refl, sym, ap, ◌∙◌, arith, subst, inl, inr}
use Rattle.std.specs.Prelude.{slice_get, slice_set, not}
use Rattle.std.specs.Ordering.{nat_cmp}
use Rattle.std.specs.List.{list_any, list_all}
use Rattle.std.specs.FinMap.{FinMap}
use Rattle.std.proofs.lemmas.List.Folds.{list_all-map}
use Rattle.geom_core.specs.Grid.{Key, same_key, keys_of}
use Rattle.geom_core.proofs.Tests.{and_left, and_right, both_true, or_cases}
use Rattle.doc_model.specs.Layers.{Layer}
use Rattle.machine_model.specs.Event.{Event}
use Rattle.machine_model.specs.Step.{Run}
use Rattle.machine_model.specs.Groups.{on}
use Rattle.machine_model.specs.Guards.{same_pair}
use Rattle.machine_model.specs.MeaningLaws.{is_feed}
use Rattle.machine_model.proofs.Lists.{get_set}
use Rattle.walker_core.specs.Readings.{Readings, path_in}
use Rattle.slot_core.specs.declared.Busy.{Busy}
use Rattle.slot_core.specs.Busy.{work_at}
use Rattle.desk_state.specs.declared.work.Walker.{Walker}
use Rattle.desk_state.specs.declared.work.Work.{Work}
use Rattle.desk_state.specs.declared.work.Work.TheVariants as work
use Rattle.desk_state.specs.Parts.{Parts, state_of}
use Rattle.desk_state.specs.Tied.{IsDesk}
use Rattle.desk_state.specs.After.{after_walk_publish, busy_walker}
use Rattle.desk_state.proofs.KeyTests.{same_place, on_all}
use Rattle.desk_state.proofs.Places.{set_twice, set_same}
use Rattle.desk_state.proofs.WalkPlaces.{walking_at}
use Rattle.desk_state.proofs.Walking.{MayWalkPublish, walk_publish_step, walk_publish_keeps}
use Rattle.slot_work.specs.LaidTiles.{Laid, laid, laid_as, laid_all, lacking, pairs_at}
use Rattle.desk_events.specs.Commits.{pair_events}

-- ---- the pairs of a walk

-- whether the pair is one of the walk
abbrev pub is_pair : Readings → ℕ × Key → Bool
is_pair r p = on p.0 (path_in r) && list_any (same_key p.1) (keys_of r.patch.rect)

-- each of the pairs is one of the walk, and isn't published when its turn comes
abbrev pub AreNext : Readings → List (ℕ × Key) → List (ℕ × Key) → Type 0
AreNext r published [] = Unit {0}
AreNext r published (p ∷ ps) = (is_pair r p ≡ true) × (list_any (same_pair p.0 p.1) published ≡ false) × AreNext r (p ∷ published) ps

pub own_at : (r : Readings) (key : Key) → list_any (same_key key) (keys_of r.patch.rect) ≡ true → list_all (is_pair r) (pairs_at (path_in r) key) ≡ true
own_at r key in_patch = list_all-map (is_pair r) (λ g. (g, key)) (path_in r) ∙ on_all (λ g. is_pair r (g, key)) (path_in r) (λ g on_path. both_true _ _ on_path in_patch)

pub next_lacking : (r : Readings) (published pairs : List (ℕ × Key)) → list_all (is_pair r) pairs ≡ true → AreNext r published (lacking published pairs)
next_lacking r published [] h = tt
next_lacking r published (p ∷ ps) h = go (list_any (same_pair p.0 p.1) published) refl (λ qs. next_lacking r qs ps (and_right (is_pair r p) _ h))
  where
    go : (b : Bool) → list_any (same_pair p.0 p.1) published ≡ b → ((qs : List (ℕ × Key)) → AreNext r qs (lacking qs ps)) → AreNext r published (cond b (lacking published ps) (p ∷ lacking (p ∷ published) ps))
    go true e rest = rest published
    go false e rest = (and_left (is_pair r p) _ h, e, rest (p ∷ published))

next_front : (r : Readings) (published front rest : List (ℕ × Key)) → AreNext r published (front ++ rest) → AreNext r published front
next_front r published [] rest h = tt
next_front r published (p ∷ front) rest h = (h.0, h.1, next_front r (p ∷ published) front rest h.2)

pub front_next : (r : Readings) (published pairs front rest : List (ℕ × Key)) → list_all (is_pair r) pairs ≡ true → front ++ rest ≡ lacking published pairs → AreNext r published front
front_next r published pairs front rest all are = next_front r published front rest (subst (AreNext r published) (sym are) (next_lacking r published pairs all))

-- a pair that isn't published is lacking
pub some_lacking : (place : ℕ) (published : List (ℕ × Key)) (path : List ℕ) (key : Key) (g : ℕ) → on g path ≡ true → list_any (same_pair g key) published ≡ false → 1 ≤ length (pair_events place (lacking published (pairs_at path key)))
some_lacking place published [] key g h fresh = cc
some_lacking place published (q ∷ path) key g h fresh = go (list_any (same_pair q key) published) refl (λ later. some_lacking place published path key g later fresh)
  where
    clash : list_any (same_pair q key) published ≡ true → q ≡ g → ⊥
    clash e same = let f : true ≡ false = sym e ∙ ap (λ x. list_any (same_pair x key) published) same ∙ fresh in cc

    go : (b : Bool) → list_any (same_pair q key) published ≡ b → (on g path ≡ true → 1 ≤ length (pair_events place (lacking published (pairs_at path key))))
        → 1 ≤ length (pair_events place (cond b (lacking published (pairs_at path key)) ((q, key) ∷ lacking ((q, key) ∷ published) (pairs_at path key))))
    go false e rest = omega arith
    go true e rest = elim (or_cases _ (on g path) h) [
      | inl is ↦ absurd (clash e (same_place q g is))
      | inr later ↦ rest later
    ]

-- ---- the events

pub none_fed : (place : ℕ) (ps : List (ℕ × Key)) → list_all (λ e. not (is_feed e)) (pair_events place ps) ≡ true
none_fed place [] = refl
none_fed place (p ∷ ps) = none_fed place ps

-- the desk with what was laid of a walk
abbrev pub after_laid : Parts → ℕ → Walker → Laid → Parts
after_laid d place w l = record d { caches = l.caches; slots = slice_set d.slots place (Some (busy_walker (record w { published = l.published }))) }

-- after these events
pub record IsRun (d new : Parts) (events : List Event) : Type 0 where
  pub desk : IsDesk new
  pub run : Run (state_of d) events (state_of new)

-- the walk with one more pair published
abbrev walker_more : Walker → ℕ × Key → Walker
walker_more w p = record w { published = p ∷ w.published }

-- the caches with that pair laid
abbrev caches_more : Parts → Walker → ℕ × Key → FinMap nat_cmp Layer
caches_more d w p = (laid w.inputs p (laid_as d.caches w.published)).caches

-- the desk after that pair
abbrev parts_more : Parts → ℕ → Walker → ℕ × Key → Parts
parts_more d place w p = after_walk_publish d place (walker_more w p) (caches_more d w p)

-- that pair, and then the others
run_more : (d : Parts) (place : ℕ) (w : Walker) (p : ℕ × Key) (ps : List (ℕ × Key)) (l : Laid) → MayWalkPublish d place p.0 p.1 w (walker_more w p) (caches_more d w p) → IsRun (parts_more d place w p) (after_laid (parts_more d place w p) place (walker_more w p) l) (pair_events place ps) → IsRun d (after_laid d place w l) (pair_events place (p ∷ ps))
run_more d place w p ps l may rest = record {
  desk = subst IsDesk is rest.desk;
  run = (state_of (parts_more d place w p), walk_publish_step d place p.0 p.1 w (walker_more w p) (caches_more d w p) may, subst (λ n. Run (state_of (parts_more d place w p)) (pair_events place ps) (state_of n)) is rest.run);
}
  where
    is : after_laid (parts_more d place w p) place (walker_more w p) l ≡ after_laid d place w l
    is = λ i. record d { caches = l.caches; slots = set_twice d.slots place (Some (busy_walker (walker_more w p))) (Some (busy_walker (record w { published = l.published }))) i }

-- pairs that are next are published by the machine's events
pub pairs_run : (d : Parts) (place : ℕ) (w : Walker) (ps : List (ℕ × Key)) (l : Laid) → IsDesk d → slice_get d.slots place ≡ Some (Some (busy_walker w)) → AreNext w.inputs w.published ps
    → l ≡ laid_all w.inputs ps (laid_as d.caches w.published) → IsRun d (after_laid d place w l) (pair_events place ps)
pairs_run d place w [] l desk there next lays = record { desk = subst IsDesk (sym is) desk; run = ap state_of is }
  where
    is : after_laid d place w l ≡ d
    is = λ i. record d { caches = (lays i).caches; slots = (ap (λ (m : Laid). slice_set d.slots place (Some (busy_walker (record w { published = m.published })))) lays ∙ set_same d.slots place (Some (busy_walker w)) there) i }
pairs_run d place w (p ∷ ps) l desk there next lays =
    let may : MayWalkPublish d place p.0 p.1 w (walker_more w p) (caches_more d w p) = record { runs = there; on_path = and_left (on p.0 (path_in w.inputs)) _ next.0; in_patch = and_right (on p.0 (path_in w.inputs)) _ next.0; fresh = next.1; new_is = refl; caches_are = refl } in
    run_more d place w p ps l may
    (pairs_run (parts_more d place w p) place (walker_more w p) ps l (walk_publish_keeps d place p.0 p.1 w (walker_more w p) (caches_more d w p) desk may) (get_set d.slots place _ _ there) next.2 lays)

-- so is what stands in the slot afterwards
pub walk_run : (d : Parts) (place : ℕ) (w w' : Walker) (ps : List (ℕ × Key)) (caches : FinMap nat_cmp Layer) (slots : List (Option (Busy Work))) → IsDesk d → work_at place d.slots ≡ Some (work.Walk w) → AreNext w.inputs w.published ps
    → laid_as caches w'.published ≡ laid_all w.inputs ps (laid_as d.caches w.published) → w' ≡ record w { published = w'.published }
    → slots ≡ slice_set (slice_set d.slots place None) place (Some (record { work = work.Walk w'; walker = Some w.inputs.patch.rect })) → IsRun d (record d { caches = caches; slots = slots }) (pair_events place ps)
walk_run d place w w' ps caches slots desk h next lays now filled = record { desk = subst IsDesk is run.desk; run = subst (λ n. Run (state_of d) (pair_events place ps) (state_of n)) is run.run }
  where
    run : IsRun d (after_laid d place w (laid_as caches w'.published)) (pair_events place ps)
    run = pairs_run d place w ps (laid_as caches w'.published) desk (walking_at d.slots place w desk.slots h) next lays

    is : after_laid d place w (laid_as caches w'.published) ≡ record d { caches = caches; slots = slots }
    is = λ i. record d { caches = caches; slots = sym (filled ∙ set_twice d.slots place None _ ∙ ap (λ v. slice_set d.slots place (Some (record { work = work.Walk v; walker = Some w.inputs.patch.rect }))) now) i }
