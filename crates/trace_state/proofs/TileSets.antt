-- Tiles of rectangles, one after another.
use Rattle.std.proofs.Common.{◌≡◌, ℕ, ◌+◌, ◌&&◌, ◌||◌, List, [], ◌∷◌, ◌++◌, drop, Option, Some, None, refl, sym, ap, ◌∙◌}
use Rattle.std.specs.Prelude.{slice_get}
use Rattle.std.specs.List.{list_any, list_all}
use Rattle.std.specs.FinSet as set
use Rattle.std.specs.FinSet.{FinSet}
use Rattle.std.proofs.lemmas.List.{append_assoc}
use Rattle.std.proofs.lemmas.List.Folds.{list_all-append, list_any-append}
use Rattle.geom_core.specs.Areas.{Area}
use Rattle.geom_core.specs.Grid.{Key, key_cmp, same_key, keys_of, all_keys_of, tile}
use Rattle.geom_core.specs.Exchanged.{widened}
use Rattle.geom_core.proofs.Rounds.{IsRound, RoundSoFar, none_round, one_round, all_round, set_round}
use Rattle.doc_model.specs.declared.job.Kind.{Kind}
use Rattle.doc_model.specs.declared.job.Job.{Job}
use Rattle.doc_model.specs.Jobs.{writes}
use Rattle.doc_model.specs.Strokes.{Jobs}
use Rattle.machine_model.specs.Effects.{writes_of}
use Rattle.update_queue.proofs.Elements.{drop_here}
use Rattle.trace_state.specs.Tiles.{has_all, rounded, round}

rounded_more : (xs ys : List Key) (o : Option Area) → rounded (xs ++ ys) o ≡ rounded ys (rounded xs o)
rounded_more [] ys o = refl
rounded_more (x ∷ xs) ys o = rounded_more xs ys (Some (widened o (tile x)))

-- one tile more
pub tile_round : (ks : List Key) (i : ℕ) (k : Key) (old new whole : Option Area) → slice_get ks i ≡ Some k → new ≡ Some (widened old (tile k)) → rounded (drop i ks) old ≡ whole → rounded (drop (i + 1) ks) new ≡ whole
tile_round ks i k old new whole at is so_far = ap (rounded (drop (i + 1) ks)) is ∙ ap (λ t. rounded t old) (sym (drop_here ks i k at)) ∙ so_far

-- the tiles of one rectangle more
pub rect_round : (rects : List Area) (i : ℕ) (r : Area) (old new whole : Option Area) → slice_get rects i ≡ Some r → new ≡ rounded (keys_of r) old → rounded (all_keys_of (drop i rects)) old ≡ whole → rounded (all_keys_of (drop (i + 1) rects)) new ≡ whole
rect_round rects i r old new whole at is so_far =
    ap (rounded (all_keys_of (drop (i + 1) rects))) is
    ∙ sym (rounded_more (keys_of r) (all_keys_of (drop (i + 1) rects)) old)
    ∙ ap (λ rs. rounded (all_keys_of rs) old) (sym (drop_here rects i r at))
    ∙ so_far

keys_append : (a b : List Area) → all_keys_of (a ++ b) ≡ all_keys_of a ++ all_keys_of b
keys_append [] b = refl
keys_append (r ∷ a) b = ap (λ t. keys_of r ++ t) (keys_append a b) ∙ sym (append_assoc (keys_of r) (all_keys_of a) (all_keys_of b))

-- the tiles of one job more
pub job_round : (jobs : Jobs) (i : ℕ) (j : Kind × Job) (old new whole : Option Area) → slice_get jobs i ≡ Some j → new ≡ rounded (all_keys_of (writes j.1)) old → rounded (all_keys_of (writes_of (drop i jobs))) old ≡ whole → rounded (all_keys_of (writes_of (drop (i + 1) jobs))) new ≡ whole
job_round jobs i j old new whole at is so_far =
    ap (rounded (all_keys_of (writes_of (drop (i + 1) jobs)))) is
    ∙ sym (rounded_more (all_keys_of (writes j.1)) (all_keys_of (writes_of (drop (i + 1) jobs))) old)
    ∙ ap (λ ks. rounded ks old) (sym (keys_append (writes j.1) (writes_of (drop (i + 1) jobs))))
    ∙ ap (λ js. rounded (all_keys_of (writes_of js)) old) (sym (drop_here jobs i j at))
    ∙ so_far

so_far_round : (all rest : List Key) (o : Option Area) → RoundSoFar all o rest → IsRound (rounded rest o) all
so_far_round all [] o so = all_round all [] o refl so
so_far_round all (k ∷ rest) o so = so_far_round all rest (Some (widened o (tile k))) (one_round all rest o k (tile k) refl so)

-- the rectangle round all of them
pub round_is : (jobs : Jobs) → rounded (all_keys_of (writes_of jobs)) None ≡ round jobs
round_is jobs = let ks = all_keys_of (writes_of jobs) in set_round (rounded ks None) ks (so_far_round ks ks None (none_round ks ks refl))

-- tests of the tiles of rectangles, one after another
pub all_of : (s : FinSet key_cmp) (rects : List Area) → list_all (λ r. has_all s (keys_of r)) rects ≡ has_all s (all_keys_of rects)
all_of s [] = refl
all_of s (r ∷ rects) = ap (λ b. has_all s (keys_of r) && b) (all_of s rects) ∙ sym (list_all-append (set.contains s) (keys_of r) (all_keys_of rects))

pub some_of : (key : Key) (rects : List Area) → list_any (λ r. list_any (same_key key) (keys_of r)) rects ≡ list_any (same_key key) (all_keys_of rects)
some_of key [] = refl
some_of key (r ∷ rects) = ap (λ b. list_any (same_key key) (keys_of r) || b) (some_of key rects) ∙ sym (list_any-append (same_key key) (keys_of r) (all_keys_of rects))
