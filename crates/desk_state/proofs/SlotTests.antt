-- What stands in the slots, one by one.
use Rattle.std.proofs.Common.{◌≡◌, ℕ, suc, zero, Bool, true, false, ◌||◌, ◌&&◌, Option, Some, None, List, [], ◌∷◌, map, length, drop, get_or, ◌<◌, ◌≤◌, ◌+◌, refl, sym, ap, ◌∙◌, arith}
use Rattle.std.specs.Prelude.{slice_get, is_none, option_map, IfSome, IfNone, not}
use Rattle.std.specs.List.{list_any, position}
use Rattle.doc_model.specs.declared.job.Kind.{Kind}
use Rattle.doc_model.specs.declared.job.Job.{Job}
use Rattle.doc_model.specs.Strokes.{Jobs}
use Rattle.machine_model.specs.State.{State, Slot, Free, Paints}
use Rattle.machine_model.specs.Guards.{blocks, excludes, kind_at}
use Rattle.desk_state.specs.Choices.{runs_at, runs_beside, clear_for}
use Rattle.machine_model.specs.Slots.{is_painter, is_walker}
use Rattle.slot_core.specs.declared.Busy.{Busy}
use Rattle.slot_core.specs.Busy.{work_at}
use Rattle.desk_state.specs.declared.work.Painter.{Painter}
use Rattle.desk_state.specs.declared.work.Walker.{Walker}
use Rattle.desk_state.specs.declared.work.Work.{Work}
use Rattle.desk_state.specs.declared.work.Work.TheVariants.{Paint, Walk}
use Rattle.desk_state.specs.Parts.{slot_of, painter_of}
use Rattle.desk_state.proofs.Places.{free_as}
use Rattle.update_queue.proofs.Elements.{position_none, position-None}
use Rattle.std.proofs.lemmas.List.Quantifiers.{position-Some}
use Rattle.std.proofs.lemmas.Option.{slice_get-map}
use Rattle.geom_core.proofs.Tests.{or_right, or_left, add_one}

-- the slot of a work that is at hand
pub slot_is : (b : Busy Work) (x : Work) → Some b.work ≡ Some x → slot_of (Some b) ≡ slot_of (Some (record { work = x; walker = b.walker }))
slot_is b x e = let same : b.work ≡ x = cc in ap (λ w. slot_of (Some (record { work = w; walker = b.walker }))) same

pub some_at : (f : Slot → Bool) (slots : List (Option (Busy Work))) (place : ℕ) (x : Work) → work_at place slots ≡ Some x → ((b : Busy Work) → f (slot_of (Some (record { work = x; walker = b.walker }))) ≡ true) → list_any f (map slot_of slots) ≡ true
some_at f [] place x h fits = cc
some_at f (None ∷ slots) zero x h fits = cc
some_at f (Some b ∷ slots) zero x h fits = or_left (f (slot_of (Some b))) (list_any f (map slot_of slots)) (ap f (slot_is b x h) ∙ fits b)
some_at f (o ∷ slots) (suc place) x h fits = or_right (f (slot_of o)) (list_any f (map slot_of slots)) (some_at f slots place x h fits)

pub painter_there : (slots : List (Option (Busy Work))) (place : ℕ) (w : Painter) → work_at place slots ≡ Some (Paint w) → list_any is_painter (map slot_of slots) ≡ true
painter_there slots place w h = some_at is_painter slots place (Paint w) h (λ b. refl)

pub walker_there : (slots : List (Option (Busy Work))) (place : ℕ) (w : Walker) → work_at place slots ≡ Some (Walk w) → list_any is_walker (map slot_of slots) ≡ true
walker_there slots place w h = some_at is_walker slots place (Walk w) h (λ b. refl)

get_there : {A : Type 0} (xs : List A) (i : ℕ) (d : A) → i < length xs → slice_get xs i ≡ Some (get_or xs i d)
get_there [] i d h = absurd (omega arith)
get_there (x ∷ xs) zero d h = refl
get_there (x ∷ xs) (suc i) d h = get_there xs i d (omega arith)

none_is : {A : Type 0} (o : Option A) → is_none o ≡ true → o ≡ None
none_is None e = refl
none_is (Some x) e = cc

-- the first free slot
pub free_first : (slots : List (Option (Busy Work))) (i : ℕ) → position is_none slots ≡ Some i → slice_get (map slot_of slots) i ≡ Some Free
free_first slots i h =
    let k = position-Some is_none slots i None h in
    slice_get-map slot_of slots i ∙ ap (option_map slot_of) (get_there slots i None k.0 ∙ ap Some (none_is (get_or slots i None) k.1))

any_at : {A : Type 0} (p : A → Bool) (xs : List A) (i : ℕ) (x : A) → slice_get xs i ≡ Some x → p x ≡ true → list_any p xs ≡ true
any_at p [] i x h e = cc
any_at p (y ∷ xs) zero x h e = let same : y ≡ x = cc in or_left (p y) (list_any p xs) (ap p same ∙ e)
any_at p (y ∷ xs) (suc i) x h e = or_right (p y) (list_any p xs) (any_at p xs i x h e)

clash : (b : Bool) → b ≡ true → b ≡ false → ⊥
clash b t f = let e : true ≡ false = sym t ∙ f in cc

pub free_none : (slots : List (Option (Busy Work))) (i : ℕ) → position is_none slots ≡ None → slice_get (map slot_of slots) i ≡ Some Free → ⊥
free_none slots i h e = clash (list_any is_none slots) (any_at is_none slots i None (free_as slots i e) refl) (position_none is_none slots (position-None is_none slots h))

-- the same of what a search of the slots answers
pub free_some : (slots : List (Option (Busy Work))) (r : Option ℕ) → r ≡ position is_none slots → IfSome r (λ place. slice_get (map slot_of slots) place ≡ Some Free)
free_some slots None e = tt
free_some slots (Some i) e = free_first slots i (sym e)

pub free_nowhere : (slots : List (Option (Busy Work))) (r : Option ℕ) → r ≡ position is_none slots → IfNone r ((place : ℕ) → slice_get (map slot_of slots) place ≡ Some Free → ⊥)
free_nowhere slots None e = λ place h. free_none slots place (sym e) h
free_nowhere slots (Some i) e = tt

first_of : (f : Slot → Bool) (ys : List Slot) (i : ℕ) (b : Bool) → i < length ys → ((slot : Slot) → slice_get ys i ≡ Some slot → b ≡ f slot) → list_any f (drop i ys) ≡ (b || list_any f (drop (suc i) ys))
first_of f [] i b h is = absurd (omega arith)
first_of f (y ∷ ys) zero b h is = ap (λ c. c || list_any f ys) (sym (is y refl))
first_of f (y ∷ ys) (suc i) b h is = first_of f ys i b (omega arith) is

mapped : (slots : List (Option (Busy Work))) → length (map slot_of slots) ≡ length slots
mapped [] = refl
mapped (o ∷ slots) = ap suc (mapped slots)

below : (slots : List (Option (Busy Work))) (i : ℕ) → i < length slots → i < length (map slot_of slots)
below slots i h = let same : length (map slot_of slots) ≡ length slots = mapped slots in omega arith

-- a pass over the slots for one that fits
pub any_next : (f : Slot → Bool) (slots : List (Option (Busy Work))) (i : ℕ) → i < length slots → ((slot : Slot) → slice_get (map slot_of slots) i ≡ Some slot → false ≡ f slot) → list_any f (drop i (map slot_of slots)) ≡ list_any f (map slot_of slots) → list_any f (drop (i + 1) (map slot_of slots)) ≡ list_any f (map slot_of slots)
any_next f slots i h is so_far = ap (λ k. list_any f (drop k (map slot_of slots))) (add_one i) ∙ sym (first_of f (map slot_of slots) i false (below slots i h) is) ∙ so_far

pub any_stops : (f : Slot → Bool) (slots : List (Option (Busy Work))) (i : ℕ) → i < length slots → ((slot : Slot) → slice_get (map slot_of slots) i ≡ Some slot → true ≡ f slot) → list_any f (drop i (map slot_of slots)) ≡ list_any f (map slot_of slots) → true ≡ list_any f (map slot_of slots)
any_stops f slots i h is so_far = sym (first_of f (map slot_of slots) i true (below slots i h) is) ∙ so_far

none_past : (f : Slot → Bool) (ys : List Slot) (i : ℕ) → length ys ≤ i → list_any f (drop i ys) ≡ false
none_past f [] zero h = refl
none_past f [] (suc i) h = refl
none_past f (y ∷ ys) zero h = absurd (omega arith)
none_past f (y ∷ ys) (suc i) h = none_past f ys i (omega arith)

pub any_ends : (f : Slot → Bool) (slots : List (Option (Busy Work))) (i : ℕ) → length slots ≤ i → list_any f (drop i (map slot_of slots)) ≡ list_any f (map slot_of slots) → false ≡ list_any f (map slot_of slots)
any_ends f slots i h so_far = let same : length (map slot_of slots) ≡ length slots = mapped slots in sym (none_past f (map slot_of slots) i (omega arith)) ∙ so_far

kind_some : (jobs : Jobs) (i : ℕ) (j : Kind × Job) → slice_get jobs i ≡ Some j → Some j.0 ≡ kind_at jobs i
kind_some [] i j h = cc
kind_some (x ∷ jobs) zero j h = let same : x ≡ j = cc in ap (λ (k : Kind × Job). Some k.0) (sym same)
kind_some (x ∷ jobs) (suc i) j h = kind_some jobs i j h

kind_none : (jobs : Jobs) (i : ℕ) → slice_get jobs i ≡ None → None ≡ kind_at jobs i
kind_none [] i h = refl
kind_none (x ∷ jobs) zero h = cc
kind_none (x ∷ jobs) (suc i) h = kind_none jobs i h

slot_there : (slots : List (Option (Busy Work))) (place : ℕ) (w : Painter) (slot : Slot) → work_at place slots ≡ Some (Paint w) → slice_get (map slot_of slots) place ≡ Some slot → Paints (painter_of w) ≡ slot
slot_there [] place w slot h e = cc
slot_there (None ∷ slots) zero w slot h e = cc
slot_there (Some b ∷ slots) zero w slot h e = let is : slot_of (Some b) ≡ slot = cc in sym (slot_is b (Paint w) h) ∙ is
slot_there (o ∷ slots) (suc place) w slot h e = slot_there slots place w slot h e

-- what a job at work blocks, by its kind in its stroke's list
pub blocks_some : (slots : List (Option (Busy Work))) (place : ℕ) (w : Painter) (jobs : Jobs) (kind : Kind) (j : Kind × Job) (slot : Slot) → work_at place slots ≡ Some (Paint w) → slice_get jobs w.index ≡ Some j → slice_get (map slot_of slots) place ≡ Some slot → excludes kind (Some j.0) ≡ blocks jobs kind slot
blocks_some slots place w jobs kind j slot h at e = ap (excludes kind) (kind_some jobs w.index j at) ∙ ap (blocks jobs kind) (slot_there slots place w slot h e)

pub blocks_none : (slots : List (Option (Busy Work))) (place : ℕ) (w : Painter) (jobs : Jobs) (kind : Kind) (slot : Slot) → work_at place slots ≡ Some (Paint w) → slice_get jobs w.index ≡ None → slice_get (map slot_of slots) place ≡ Some slot → excludes kind None ≡ blocks jobs kind slot
blocks_none slots place w jobs kind slot h at e = ap (excludes kind) (kind_none jobs w.index at) ∙ ap (blocks jobs kind) (slot_there slots place w slot h e)

-- whether the next job may run, by its kind
pub run_then : (s : State) (jobs kept : Jobs) (x : Bool) (i : ℕ) (j : Kind × Job) (r : Bool) → jobs ≡ kept → slice_get jobs i ≡ Some j → list_any (blocks jobs j.0) s.slots ≡ false → r ≡ clear_for s j.0 x → r ≡ runs_at s kept x i
run_then s jobs kept x i j r same at free is = is ∙ sym (ap (λ ks. runs_at s ks x i) (sym same) ∙ ap (runs_beside s jobs x) at ∙ ap (λ b. not b && clear_for s j.0 x) free)

pub run_else : (s : State) (jobs kept : Jobs) (x : Bool) (i : ℕ) (j : Kind × Job) (r : Bool) → jobs ≡ kept → slice_get jobs i ≡ Some j → list_any (blocks jobs j.0) s.slots ≡ true → r ≡ true → not r ≡ runs_at s kept x i
run_else s jobs kept x i j r same at blocked is = ap not is ∙ sym (ap (λ ks. runs_at s ks x i) (sym same) ∙ ap (runs_beside s jobs x) at ∙ ap (λ b. not b && clear_for s j.0 x) blocked)

pub run_none : (s : State) (jobs kept : Jobs) (x : Bool) (i : ℕ) → jobs ≡ kept → slice_get jobs i ≡ None → false ≡ runs_at s kept x i
run_none s jobs kept x i same at = sym (ap (λ ks. runs_at s ks x i) (sym same) ∙ ap (runs_beside s jobs x) at)
