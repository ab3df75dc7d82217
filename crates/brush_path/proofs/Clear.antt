-- The jobs of a track don't conflict.
use Rattle.std.proofs.Common.{◌≡◌, ℕ, ◌+◌, ◌<◌, Bool, true, false, ◌&&◌, ◌||◌, not, List, [], ◌∷◌, map, length, get_or, Option, Some, None, is_some, refl, sym, ap, ◌∙◌, subst, arith, inl, inr}
use Rattle.std.specs.Prelude.{ℤ, pos, ◌+ℤ◌, ◌*ℤ◌, int_lt, slice_get}
use Rattle.std.specs.List.{IsDistinct}
use Rattle.std.specs.Option.{option_map}
use Rattle.std.proofs.lemmas.Option.{slice_get-map, slice_get_within, slice_get-get_or}
use Rattle.std.proofs.lemmas.Map.Keys.{apart_from_distinct}
use borrow.Author.Differences.{ints}
use Rattle.geom_core.specs.Areas.{Area, meets}
use Rattle.geom_core.specs.Grid.{Key, key, same_key, tile}
use Rattle.geom_core.proofs.Tests.{true_or_false, and_left, and_right, no_second}
use Rattle.geom_core.proofs.Tiles.{key_is}
use Rattle.doc_model.specs.declared.job.Job.{Job}
use Rattle.doc_model.specs.declared.job.Job.TheVariants as job
use Rattle.doc_model.specs.declared.job.Kind.{Kind}
use Rattle.doc_model.specs.declared.job.Kind.TheVariants.{Con}
use Rattle.doc_model.specs.Trails.{Trail}
use Rattle.doc_model.specs.Strokes.{Jobs, clash, some_both, one_run, conflicting, conflict}
use Rattle.doc_model.specs.Searches.{least, first_conflicting, second_of, pair_at, pair_of}
use Rattle.doc_model.proofs.Conflicts.{conflict_by, IsLeastFrom, least_from_is}
use Rattle.brush_path.specs.Cells.{cells, jobs, jobs_in}
use Rattle.brush_path.specs.Laws.{concurrent, NoneConflict}
use Rattle.brush_path.proofs.Tiled.{tiles_are_met}

same_axis : (a b : ℤ) → (int_lt (pos 64 *ℤ a) ((pos 64 *ℤ b) +ℤ pos 64) && int_lt (pos 64 *ℤ b) ((pos 64 *ℤ a) +ℤ pos 64)) ≡ true → a ≡ b
same_axis a b h = grind (arith, ints)

never : true ≡ false → ⊥
never e = cc

-- tiles that meet are one
tiles_apart : (k m : Key) → same_key k m ≡ false → meets (tile k) (tile m) ≡ false
tiles_apart k m e = elim (true_or_false (meets (tile k) (tile m))) [
  | inl h ↦ (
      let x : k.col ≡ m.col = same_axis k.col m.col (and_left _ _ h) in
      let y : k.row ≡ m.row = same_axis k.row m.row (and_right (int_lt (pos 64 *ℤ k.col) ((pos 64 *ℤ m.col) +ℤ pos 64) && int_lt (pos 64 *ℤ m.col) ((pos 64 *ℤ k.col) +ℤ pos 64)) _ h) in
      absurd (never (sym (key_is k m (λ i. key (x i) (y i))) ∙ e)))
  | inr h ↦ h
]

flipped : (k m : Key) → meets (tile k) (tile m) ≡ false → meets (tile m) (tile k) ≡ false
flipped k m e = swapped (int_lt (pos 64 *ℤ k.col) ((pos 64 *ℤ m.col) +ℤ pos 64)) (int_lt (pos 64 *ℤ m.col) ((pos 64 *ℤ k.col) +ℤ pos 64)) (int_lt (pos 64 *ℤ k.row) ((pos 64 *ℤ m.row) +ℤ pos 64)) (int_lt (pos 64 *ℤ m.row) ((pos 64 *ℤ k.row) +ℤ pos 64)) ∙ e
  where
    swapped : (a b c d : Bool) → ((b && a) && (d && c)) ≡ ((a && b) && (c && d))
    swapped true true true true = refl
    swapped true true true false = refl
    swapped true true false true = refl
    swapped true true false false = refl
    swapped true false c d = refl
    swapped false true c d = refl
    swapped false false c d = refl

no_clash : (t : Trail) (k m : Key) → same_key k m ≡ false → clash (Con, job.Track t k) (Con, job.Track t m) ≡ false
no_clash t k m e = λ i. ((tiles_apart k m e i || false) || false || ((flipped k m (tiles_apart k m e) i || false) || false)) && true

no_clash_at : (t : Trail) (ks : List Key) (i j : ℕ) → IsDistinct same_key ks → i < j → some_both (slice_get (concurrent (jobs_in t ks)) i) (slice_get (concurrent (jobs_in t ks)) j) clash ≡ false
no_clash_at t ks i j d h = (λ z. some_both (there i z) (there j z) clash) ∙ go (slice_get ks i) (slice_get ks j) refl refl
  where
    there : (n : ℕ) → slice_get (concurrent (jobs_in t ks)) n ≡ option_map (λ (c : Job). (Con, c)) (option_map (job.Track t) (slice_get ks n))
    there n = slice_get-map (λ (c : Job). (Con, c)) (jobs_in t ks) n ∙ ap (option_map (λ (c : Job). (Con, c))) (slice_get-map (job.Track t) ks n)

    go : (a b : Option Key) → slice_get ks i ≡ a → slice_get ks j ≡ b → some_both (option_map (λ (c : Job). (Con, c)) (option_map (job.Track t) a)) (option_map (λ (c : Job). (Con, c)) (option_map (job.Track t) b)) clash ≡ false
    go None b e f = refl
    go (Some k) None e f = refl
    go (Some k) (Some m) e f =
        let in_j : j < length ks = slice_get_within ks j m f in
        let in_i : i < length ks = slice_get_within ks i k e in
        let a : Some (get_or ks i k) ≡ Some k = sym (slice_get-get_or ks i k in_i) ∙ e in
        let b : Some (get_or ks j k) ≡ Some m = sym (slice_get-get_or ks j k in_j) ∙ f in
        let x : get_or ks i k ≡ k = cc in
        let y : get_or ks j k ≡ m = cc in
        no_clash t k m ((λ z. same_key (sym x z) (sym y z)) ∙ apart_from_distinct same_key ks i j k d h in_j)

-- no conflict where no two jobs conflict
none_of : (js : Jobs) → ((i j : ℕ) → i < j → conflicting js i j ≡ false) → conflict js ≡ None
none_of js clear = conflict_by js ∙ go (second_of js) (least_from_is 0 (length js) (λ j. is_some (first_conflicting js j)))
  where
    pick : (m : ℕ) (o : Option ℕ) → IsLeastFrom 0 m (λ i. conflicting js i m) o → is_some o ≡ true → pair_of o m ≡ None
    pick m None told s = refl
    pick m (Some q) told s = absurd (never (sym told.2 ∙ clear q m (omega (arith, told.1))))

    go : (o : Option ℕ) → IsLeastFrom 0 (length js) (λ j. is_some (first_conflicting js j)) o → pair_at js o ≡ None
    go None told = refl
    go (Some m) told = pick m (first_conflicting js m) (least_from_is 0 m (λ i. conflicting js i m)) told.2

pub none_conflict : NoneConflict
none_conflict t = none_of (concurrent (jobs t)) (λ i j h. no_second (one_run (concurrent (jobs t)) i j) _ (no_clash_at t (cells t) i j (tiles_are_met t).distinct h))
