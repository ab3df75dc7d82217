-- What one slot set to something else changes for walks, serials and counts.
use Rattle.std.proofs.Common.{◌≡◌, ◌≢◌, ℕ, suc, zero, ◌+◌, ◌<◌, ◌≤◌, Bool, true, false, ◌&&◌, ◌||◌, not, cond, List, [], ◌∷◌, Option, Some, None, length, refl, sym, ap, ◌∙◌, arith, eqb, subst}
use Rattle.std.specs.Prelude.{slice_get, slice_set, int_lt}
use Rattle.std.specs.List.{list_any, list_all, AllByRecursion}
use Rattle.std.proofs.lemmas.Bool.Decides.{nat_tests}
use Rattle.geom_core.proofs.Tests.{taken, kept, and_left, and_right, both_true, none_left, none_right}
use Rattle.geom_core.specs.Areas.{Area, meets, right, bottom}
use Rattle.machine_model.specs.State.{Walker, Slot, Free, Paints, Walks}
use Rattle.machine_model.specs.Slots.{is_painter, is_walker}
use Rattle.machine_model.specs.Painters.{runs_in}
use Rattle.machine_model.specs.Guards.{meets_walker}
use Rattle.machine_model.specs.Walking.{walks_apart, all_apart}
use Rattle.machine_model.specs.Counted.{serial_of, SerialBelow, HasNot, SerialsDiffer, painters, ended}
use Rattle.doc_model.specs.declared.canvas.Patch.{Patch}

-- there are as many slots
pub length_set : {A : Type 0} (xs : List A) (s : ℕ) (x : A) → length (slice_set xs s x) ≡ length xs
length_set [] s x = refl
length_set (y ∷ xs) zero x = refl
length_set (y ∷ xs) (suc s) x = ap suc (length_set xs s x)

-- a slot that doesn't pass set to another that doesn't
pub any_beside : (test : Slot → Bool) (slots : List Slot) (s : ℕ) (x y : Slot) → slice_get slots s ≡ Some x → test x ≡ false → test y ≡ false → list_any test (slice_set slots s y) ≡ list_any test slots
any_beside test [] s x y h nx ny = refl
any_beside test (z ∷ slots) zero x y h nx ny = let e : z ≡ x = cc in ap (λ b. b || list_any test slots) (ny ∙ sym (ap test e ∙ nx))
any_beside test (z ∷ slots) (suc s) x y h nx ny = ap (λ b. test z || b) (any_beside test slots s x y h nx ny)

-- no walk is at work in a slot that is freed
pub no_walkers_freed : (slots : List Slot) (s : ℕ) → list_any is_walker slots ≡ false → list_any is_walker (slice_set slots s Free) ≡ false
no_walkers_freed [] s h = refl
no_walkers_freed (z ∷ slots) zero h = none_right (is_walker z) _ h
no_walkers_freed (z ∷ slots) (suc s) h = ap (λ b. b || list_any is_walker (slice_set slots s Free)) (none_left _ _ h) ∙ no_walkers_freed slots s (none_right (is_walker z) _ h)

-- where no walk is at work, none is in a slot
pub nobody_walks : (slots : List Slot) (s : ℕ) (w : Walker) → list_any is_walker slots ≡ false → slice_get slots s ≡ Some (Walks w) → ⊥
nobody_walks [] s w h e = cc
nobody_walks (z ∷ slots) zero w h e = let same : z ≡ Walks w = cc in let t : is_walker z ≡ true = ap is_walker same in let f : is_walker z ≡ false = none_left _ _ h in cc
nobody_walks (z ∷ slots) (suc s) w h e = nobody_walks slots s w (none_right (is_walker z) _ h) e

-- a slot that stands apart from all others
abbrev clear_of : Slot → Slot → Bool
clear_of y z = walks_apart z y && walks_apart y z

apart_in : (z y : Slot) (slots : List Slot) (s : ℕ) → walks_apart z y ≡ true → list_all (walks_apart z) slots ≡ true → list_all (walks_apart z) (slice_set slots s y) ≡ true
apart_in z y [] s h all = refl
apart_in z y (x ∷ slots) zero h all = both_true _ _ h (and_right (walks_apart z x) _ all)
apart_in z y (x ∷ slots) (suc s) h all = both_true _ _ (and_left (walks_apart z x) _ all) (apart_in z y slots s h (and_right (walks_apart z x) _ all))

apart_from : (y : Slot) (slots : List Slot) → list_all (clear_of y) slots ≡ true → list_all (walks_apart y) slots ≡ true
apart_from y [] h = refl
apart_from y (z ∷ slots) h = both_true _ _ (and_right (walks_apart z y) _ (and_left (clear_of y z) _ h)) (apart_from y slots (and_right (clear_of y z) _ h))

-- a slot that stands apart from all may be set
pub apart_set : (slots : List Slot) (s : ℕ) (y : Slot) → list_all (clear_of y) slots ≡ true → all_apart slots ≡ true → all_apart (slice_set slots s y) ≡ true
apart_set [] s y h all = refl
apart_set (z ∷ slots) zero y h all = both_true _ _ (apart_from y slots (and_right (clear_of y z) _ h)) (and_right (list_all (walks_apart z) slots) _ all)
apart_set (z ∷ slots) (suc s) y h all = both_true _ _
    (apart_in z y slots s (and_left (walks_apart z y) _ (and_left (clear_of y z) _ h)) (and_left (list_all (walks_apart z) slots) _ all))
    (apart_set slots s y (and_right (clear_of y z) _ h) (and_right (list_all (walks_apart z) slots) _ all))

-- what doesn't walk is apart from all
pub clear_unless_walks : (y : Slot) (slots : List Slot) → is_walker y ≡ false → list_all (clear_of y) slots ≡ true
clear_unless_walks y [] h = refl
clear_unless_walks y (z ∷ slots) h = both_true _ _ (one y z h) (clear_unless_walks y slots h)
  where
    one : (y z : Slot) → is_walker y ≡ false → clear_of y z ≡ true
    one Free Free h = refl
    one Free (Paints v) h = refl
    one Free (Walks v) h = refl
    one (Paints w) Free h = refl
    one (Paints w) (Paints v) h = refl
    one (Paints w) (Walks v) h = refl
    one (Walks w) z h = cc

-- to meet is mutual
pub meets_swapped : (a b : Area) → meets a b ≡ meets b a
meets_swapped a b = (λ i. swap (int_lt a.x (right b)) (int_lt b.x (right a)) i && swap (int_lt a.y (bottom b)) (int_lt b.y (bottom a)) i)
  where
    swap : (s t : Bool) → (s && t) ≡ (t && s)
    swap true true = refl
    swap true false = refl
    swap false true = refl
    swap false false = refl

-- a walk that meets no running one is apart from all
pub clear_where_avoids : (w : Walker) (slots : List Slot) → list_any (meets_walker w.patch.rect) slots ≡ false → list_all (clear_of (Walks w)) slots ≡ true
clear_where_avoids w [] h = refl
clear_where_avoids w (Free ∷ slots) h = clear_where_avoids w slots h
clear_where_avoids w (Paints v ∷ slots) h = clear_where_avoids w slots h
clear_where_avoids w (Walks v ∷ slots) h = both_true _ _
    (both_true _ _ (ap not (meets_swapped v.patch.rect w.patch.rect ∙ none_left _ _ h)) (ap not (none_left _ _ h)))
    (clear_where_avoids w slots (none_right (meets w.patch.rect v.patch.rect) _ h))

-- a walk with the same patch in its place
apart_like : (z y x : Slot) (slots : List Slot) (s : ℕ) → slice_get slots s ≡ Some x → walks_apart z y ≡ walks_apart z x → list_all (walks_apart z) (slice_set slots s y) ≡ list_all (walks_apart z) slots
apart_like z y x [] s h e = refl
apart_like z y x (u ∷ slots) zero h e = let same : u ≡ x = cc in ap (λ b. b && list_all (walks_apart z) slots) (e ∙ ap (walks_apart z) (sym same))
apart_like z y x (u ∷ slots) (suc s) h e = ap (λ b. walks_apart z u && b) (apart_like z y x slots s h e)

-- so may the same patch again
pub apart_same : (slots : List Slot) (s : ℕ) (w v : Walker) → slice_get slots s ≡ Some (Walks w) → v.patch ≡ w.patch → all_apart (slice_set slots s (Walks v)) ≡ all_apart slots
apart_same [] s w v h e = refl
apart_same (z ∷ slots) zero w v h e =
    let same : z ≡ Walks w = cc in
    ap (λ b. b && all_apart slots) (after slots ∙ ap (λ u. list_all (walks_apart u) slots) (sym same))
  where
    after : (us : List Slot) → list_all (walks_apart (Walks v)) us ≡ list_all (walks_apart (Walks w)) us
    after [] = refl
    after (Free ∷ us) = after us
    after (Paints u ∷ us) = after us
    after (Walks u ∷ us) = λ i. not (meets (e i).rect u.patch.rect) && after us i
apart_same (z ∷ slots) (suc s) w v h e = (λ i. apart_like z (Walks v) (Walks w) slots s h (from z) i && apart_same slots s w v h e i)
  where
    from : (u : Slot) → walks_apart u (Walks v) ≡ walks_apart u (Walks w)
    from Free = refl
    from (Paints u) = refl
    from (Walks u) = ap (λ (p : Patch). not (meets u.patch.rect p.rect)) e

-- serials
abbrev Other : Slot → Slot → Type 0
Other y z = HasNot (serial_of y) z × HasNot (serial_of z) y

set_has_not : (o : Option ℕ) (y : Slot) (slots : List Slot) (s : ℕ) → HasNot o y → AllByRecursion (HasNot o) slots → AllByRecursion (HasNot o) (slice_set slots s y)
set_has_not o y [] s h all = tt
set_has_not o y (z ∷ slots) zero h all = (h, all.1)
set_has_not o y (z ∷ slots) (suc s) h all = (all.0, set_has_not o y slots s h all.1)

has_not_each : (y : Slot) (slots : List Slot) → AllByRecursion (Other y) slots → AllByRecursion (HasNot (serial_of y)) slots
has_not_each y [] h = tt
has_not_each y (z ∷ slots) h = (h.0.0, has_not_each y slots h.1)

-- a serial that no other slot has may be set
pub differ_set : (slots : List Slot) (s : ℕ) (y : Slot) → AllByRecursion (Other y) slots → SerialsDiffer slots → SerialsDiffer (slice_set slots s y)
differ_set [] s y h d = tt
differ_set (z ∷ slots) zero y h d = (has_not_each y slots h.1, d.1)
differ_set (z ∷ slots) (suc s) y h d = (set_has_not (serial_of z) y slots s h.0.1 d.0, differ_set slots s y h.1 d.1)

-- a free slot has none
pub other_free : (slots : List Slot) → AllByRecursion (Other Free) slots
other_free [] = tt
other_free (z ∷ slots) = ((tt, one (serial_of z)), other_free slots)
  where
    one : (o : Option ℕ) → HasNot o Free
    one None = tt
    one (Some n) = λ e. cc

-- the next serial is in no slot
pub other_new : (n : ℕ) (y : Slot) (slots : List Slot) → serial_of y ≡ Some n → AllByRecursion (SerialBelow n) slots → AllByRecursion (Other y) slots
other_new n y [] e all = tt
other_new n y (z ∷ slots) e all = (one z all.0, other_new n y slots e all.1)
  where
    apart : (m : ℕ) (z : Slot) → serial_of z ≡ Some m → m < n → Other y z
    apart m z f l = (go (serial_of y) e, back (serial_of z) f)
      where
        go : (o : Option ℕ) → o ≡ Some n → HasNot o z
        go None g = cc
        go (Some k) g = λ h. (let same : k ≡ n = cc in let same' : m ≡ k = cc in absurd (omega arith))

        back : (o : Option ℕ) → o ≡ Some m → HasNot o y
        back None g = cc
        back (Some k) g = λ h. (let same : k ≡ m = cc in let same' : n ≡ k = cc in absurd (omega arith))

    one : (z : Slot) → SerialBelow n z → Other y z
    one Free l = (nothing (serial_of y), tt)
      where
        nothing : (o : Option ℕ) → HasNot o Free
        nothing None = tt
        nothing (Some k) = λ h. cc
    one (Paints w) l = apart w.serial (Paints w) refl l
    one (Walks w) l = apart w.serial (Walks w) refl l

-- the same serial in its place
has_not_same : (o : Option ℕ) (x y : Slot) (slots : List Slot) (s : ℕ) → slice_get slots s ≡ Some x → serial_of y ≡ serial_of x → AllByRecursion (HasNot o) slots → AllByRecursion (HasNot o) (slice_set slots s y)
has_not_same o x y [] s h e all = tt
has_not_same o x y (z ∷ slots) zero h e all = let same : z ≡ x = cc in (go o all.0 (e ∙ ap serial_of (sym same)), all.1)
  where
    go : (o : Option ℕ) → HasNot o z → serial_of y ≡ serial_of z → HasNot o y
    go None a f = tt
    go (Some n) a f = λ g. a (sym f ∙ g)
has_not_same o x y (z ∷ slots) (suc s) h e all = (all.0, has_not_same o x y slots s h e all.1)

-- so may the same serial again
pub differ_same : (slots : List Slot) (s : ℕ) (x y : Slot) → slice_get slots s ≡ Some x → serial_of y ≡ serial_of x → SerialsDiffer slots → SerialsDiffer (slice_set slots s y)
differ_same [] s x y h e d = tt
differ_same (z ∷ slots) zero x y h e d = let same : z ≡ x = cc in (subst (λ o. AllByRecursion (HasNot o) slots) (ap serial_of same ∙ sym e) d.0, d.1)
differ_same (z ∷ slots) (suc s) x y h e d = (has_not_same (serial_of z) x y slots s h e d.0, differ_same slots s x y h e d.1)

-- serials stay below the next one
pub below_more : (n : ℕ) (slots : List Slot) → AllByRecursion (SerialBelow n) slots → AllByRecursion (SerialBelow (suc n)) slots
below_more n [] all = tt
below_more n (Free ∷ slots) all = (tt, below_more n slots all.1)
below_more n (Paints w ∷ slots) all = ((omega arith), below_more n slots all.1)
below_more n (Walks w ∷ slots) all = ((omega arith), below_more n slots all.1)

-- how many jobs run
abbrev pub share : Slot → ℕ
share Free = 0
share (Paints w) = 1
share (Walks w) = 0

painters_more : (z : Slot) (slots : List Slot) → painters (z ∷ slots) ≡ share z + painters slots
painters_more Free slots = omega arith
painters_more (Paints w) slots = omega arith
painters_more (Walks w) slots = omega arith

-- the number of jobs at work
pub painters_set : (slots : List Slot) (s : ℕ) (x y : Slot) → slice_get slots s ≡ Some x → painters (slice_set slots s y) + share x ≡ painters slots + share y
painters_set [] s x y h = cc
painters_set (z ∷ slots) zero x y h =
    let same : share z ≡ share x = ap share (let e : z ≡ x = cc in e) in
    let a : painters (z ∷ slots) ≡ share z + painters slots = painters_more z slots in
    let b : painters (y ∷ slots) ≡ share y + painters slots = painters_more y slots in
    omega arith
painters_set (z ∷ slots) (suc s) x y h =
    let rest : painters (slice_set slots s y) + share x ≡ painters slots + share y = painters_set slots s x y h in
    let a : painters (z ∷ slots) ≡ share z + painters slots = painters_more z slots in
    let b : painters (z ∷ slice_set slots s y) ≡ share z + painters (slice_set slots s y) = painters_more z (slice_set slots s y) in
    omega arith

-- as many jobs have ended where the same are at work
pub ended_same : (slots slots' : List Slot) (n : ℕ) → ((i : ℕ) → i < n → runs_in i slots' ≡ runs_in i slots) → ended slots' n ≡ ended slots n
ended_same slots slots' zero same = refl
ended_same slots slots' (suc n) same = λ i. cond (same n (omega arith) i) 0 1 + ended_same slots slots' n (λ j l. same j (omega arith)) i

-- one of the first n ran and doesn't any more
pub ended_more : (slots slots' : List Slot) (n k : ℕ) → k < n → runs_in k slots ≡ true → runs_in k slots' ≡ false → ((i : ℕ) → i ≢ k → runs_in i slots' ≡ runs_in i slots) → ended slots' n ≡ suc (ended slots n)
ended_more slots slots' zero k l ran gone same = absurd (omega arith)
ended_more slots slots' (suc n) k l ran gone same = go (eqb k n) refl (λ h. ended_more slots slots' n k h ran gone same)
  where
    apart : (m : ℕ) → k < m → m ≢ k
    apart m l e = absurd (omega arith)

    go : (b : Bool) → eqb k n ≡ b → (k < n → ended slots' n ≡ suc (ended slots n)) → cond (runs_in n slots') 0 1 + ended slots' n ≡ suc (cond (runs_in n slots) 0 1 + ended slots n)
    go true e more =
        let here : k ≡ n = grind (arith, nat_tests) in
        let rest : ended slots' n ≡ ended slots n = ended_same slots slots' n (λ i h. same i (λ f. absurd (omega arith))) in
        let a : cond {A = ℕ} (runs_in n slots') 0 1 ≡ 1 = kept (runs_in n slots') 0 1 (ap (λ i. runs_in i slots') (sym here) ∙ gone) in
        let b : cond {A = ℕ} (runs_in n slots) 0 1 ≡ 0 = taken (runs_in n slots) 0 1 (ap (λ i. runs_in i slots) (sym here) ∙ ran) in
        omega arith
    go false e more =
        let below : k < n = grind (arith, nat_tests) in
        let rest : ended slots' n ≡ suc (ended slots n) = more below in
        let a : cond {A = ℕ} (runs_in n slots') 0 1 ≡ cond {A = ℕ} (runs_in n slots) 0 1 = ap (λ (b : Bool). cond {A = ℕ} b 0 1) (same n (apart n below)) in
        omega arith

-- at the most all have ended
pub ended_few : (slots : List Slot) (n : ℕ) → ended slots n ≤ n
ended_few slots zero = omega arith
ended_few slots (suc n) = go (runs_in n slots) (ended_few slots n)
  where
    go : (b : Bool) → ended slots n ≤ n → cond b 0 1 + ended slots n ≤ suc n
    go true h = omega arith
    go false h = omega arith

-- nobody paints
none_paint : (slots : List Slot) → list_any is_painter slots ≡ false → painters slots ≡ 0
none_paint [] h = refl
none_paint (Free ∷ slots) h = none_paint slots h
none_paint (Walks w ∷ slots) h = none_paint slots h
none_paint (Paints w ∷ slots) h = cc
