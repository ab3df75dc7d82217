-- The entry at the head, as the queue has it.
use Rattle.std.proofs.Common.{◌≡◌, ℕ, suc, zero, false, Option, Some, None, is_some, List, [], ◌∷◌, ◌++◌, length, map, drop, refl, ap, ◌∙◌}
use Rattle.doc_model.specs.Strokes as doc
use Rattle.doc_model.specs.Strokes.{Stroke, Fate, Open, Ended, Cancelled, Strokes, conflict}
use Rattle.doc_model.specs.Kept.{up_to}
use Rattle.entry_queue.specs.declared.entry.Entry.{Entry}
use Rattle.entry_queue.specs.Pushed.{queued}
use Rattle.machine_model.specs.Guards.{overlaps, kept_jobs}
use Rattle.trace_state.specs.Waits.{other_in}
use Rattle.geom_core.proofs.Tests.{length_more}

fates_other : (f : Fate) (t : Stroke) (es : List Entry) → other_in (queued (Strokes (record t { fate = f })) ∷ es) ≡ None
fates_other Open t es = refl
fates_other Ended t es = refl
fates_other Cancelled t es = refl

pub other_stroke : (t : Stroke) (es : List Entry) → other_in (queued (Strokes t) ∷ es) ≡ None
other_stroke t es = fates_other t.fate t es

-- a list without its first items, and one more
pub drop_one_more : {A : Type 0} (n : ℕ) (xs : List A) → drop (suc n) xs ≡ drop 1 (drop n xs)
drop_one_more zero xs = refl
drop_one_more (suc n) [] = refl
drop_one_more (suc n) (x ∷ xs) = drop_one_more n xs

pub map_drop_one : {A B : Type 0} (f : A → B) (xs : List A) → map f (drop 1 xs) ≡ drop 1 (map f xs)
map_drop_one f [] = refl
map_drop_one f (x ∷ xs) = refl

-- the entries that are left after one more outcome
pub left_popped : {A : Type 0} (outcomes : List A) (o : A) (es : List doc.Entry) → map queued (drop (length (outcomes ++ o ∷ [])) es) ≡ drop 1 (map queued (drop (length outcomes) es))
left_popped outcomes o es = ap (λ n. map queued (drop n es)) (length_more outcomes o) ∙ ap (map queued) (drop_one_more (length outcomes) es) ∙ map_drop_one queued (drop (length outcomes) es)

-- where no jobs conflict all are kept
pub all_kept : (t : Stroke) → overlaps t ≡ false → kept_jobs t ≡ t.jobs
all_kept t e = go (conflict t.jobs) e
  where
    go : (o : Option (ℕ × ℕ)) → is_some o ≡ false → up_to t.jobs o ≡ t.jobs
    go None e = refl
    go (Some pair) e = cc
