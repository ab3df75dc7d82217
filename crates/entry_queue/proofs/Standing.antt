-- The queue keeps the entries of all commands but for those with an outcome.
use Rattle.std.proofs.Common.{◌≡◌, ℕ, suc, zero, ◌≤◌, Bool, true, false, ◌&&◌, ◌||◌, List, [], ◌∷◌, ◌++◌, map, not, length, drop, take, Option, Some, None, refl, sym, ap, ◌∙◌, arith, subst, eqb, inl, inr}
use Rattle.std.specs.List.{AllByRecursion, list_any, list_all}
use Rattle.geom_core.proofs.Tests.{and_left, and_right, both_true, or_cases, or_left, or_right, true_or_false, taken, kept, length_more}
use Rattle.doc_model.specs.declared.job.Job.{Job}
use Rattle.doc_model.specs.declared.job.Kind.{Kind}
use Rattle.doc_model.specs.declared.command.Command.{Command}
use Rattle.doc_model.specs.declared.command.Command.TheVariants as command
use Rattle.doc_model.specs.declared.command.Outcome.{Outcome}
use Rattle.doc_model.specs.Strokes as doc
use Rattle.doc_model.specs.Kept as doc_kept
use Rattle.doc_model.specs.Strokes.{Fate, Open, Ended, Cancelled, Stroke, entries, all_fed, fed, conflict, is_stroke, is_open, is_open_stroke}
use Rattle.doc_model.specs.Lawful.{may_follow, within_limits}
use Rattle.doc_model.specs.Feeding.{is_closed_entry, lawful_after, lawful}
use Rattle.doc_model.specs.Jobs.{checks}
use Rattle.doc_model.proofs.Feeding.{NumbersDiffer, lawful_differ, entries_last, length_fed, take_fed}
use Rattle.stroke_core.specs.Fed as stroke
use Rattle.stroke_core.specs.Fed.{Fed, found}
use Rattle.stroke_core.proofs.MoreJobs.{conflict_nil, found_stands, stands_added, stands_refused}
use Rattle.entry_queue.specs.declared.entry.Entry.{Entry}
use Rattle.entry_queue.specs.declared.entry.Entry.TheVariants.{Waiting, Whole}
use Rattle.entry_queue.specs.Pushed.{Pending, StandsFor, begun, closed, grown, kept_of, may_leave, pushed, queued, stroke_of, with_job, with_last}

drop_last : {A : Type 0} (k : ℕ) (xs : List A) (x : A) → k ≤ length xs → drop k (xs ++ x ∷ []) ≡ drop k xs ++ x ∷ []
drop_last zero xs x h = refl
drop_last (suc k) [] x h = absurd (omega arith)
drop_last (suc k) (y ∷ xs) x h = drop_last k xs x (omega arith)

map_last : {A B : Type 0} (f : A → B) (xs : List A) (x : A) → map f (xs ++ x ∷ []) ≡ map f xs ++ f x ∷ []
map_last f [] x = refl
map_last f (y ∷ xs) x = ap (λ ys. f y ∷ ys) (map_last f xs x)

drop_map : {A B : Type 0} (f : A → B) (k : ℕ) (xs : List A) → drop k (map f xs) ≡ map f (drop k xs)
drop_map f zero xs = refl
drop_map f (suc k) [] = refl
drop_map f (suc k) (x ∷ xs) = drop_map f k xs

drop_one : {A : Type 0} (k : ℕ) (xs : List A) → drop 1 (drop k xs) ≡ drop (suc k) xs
drop_one zero xs = refl
drop_one (suc k) [] = refl
drop_one (suc k) (x ∷ xs) = drop_one k xs

all_drop : {A : Type 0} (P : A → Type 0) (k : ℕ) (xs : List A) → AllByRecursion P xs → AllByRecursion P (drop k xs)
all_drop P zero xs all = all
all_drop P (suc k) [] all = tt
all_drop P (suc k) (x ∷ xs) all = all_drop P k xs all.1

-- what may be fed last, and what was fed before
pub lawful_split : (es : List doc.Entry) (cs : List Command) (c : Command) → lawful_after es (cs ++ c ∷ []) ≡ true → (lawful_after es cs ≡ true) × (may_follow (all_fed es cs) c ≡ true)
lawful_split es [] c h = (refl, and_left (may_follow es c) _ h)
lawful_split es (d ∷ cs) c h =
    let rest : (lawful_after (fed es d) cs ≡ true) × (may_follow (all_fed (fed es d) cs) c ≡ true) = lawful_split (fed es d) cs c (and_right (may_follow es d) _ h) in
    ((λ i. and_left (may_follow es d) _ h i && rest.0 i), rest.1)

pub open_is_stroke : (n : ℕ) (e : doc.Entry) → is_open_stroke n e ≡ true → is_stroke n e ≡ true
open_is_stroke n (doc.Strokes s) h = and_left (eqb s.no n) _ h
open_is_stroke n (doc.Changes c) h = h
open_is_stroke n doc.Undoes h = h
open_is_stroke n doc.Redoes h = h
open_is_stroke n (doc.Purges k) h = h
open_is_stroke n doc.Exports h = h

pub any_open_is_stroke : (n : ℕ) (es : List doc.Entry) → list_any (is_open_stroke n) es ≡ true → list_any (is_stroke n) es ≡ true
any_open_is_stroke n [] h = h
any_open_is_stroke n (e ∷ es) h = elim (or_cases (is_open_stroke n e) _ h) [
  | inl k ↦ or_left _ _ (open_is_stroke n e k)
  | inr k ↦ or_right _ _ (any_open_is_stroke n es k)
]

-- the strokes with that number are open
abbrev IsOpenAt : ℕ → doc.Entry → Type 0
IsOpenAt n e = is_stroke n e ≡ true → is_open_stroke n e ≡ true

none_at : (n : ℕ) (es : List doc.Entry) → list_any (is_stroke n) es ≡ false → AllByRecursion (IsOpenAt n) es
none_at n [] h = tt
none_at n (e ∷ es) h = ((λ k. let t : (is_stroke n e || list_any (is_stroke n) es) ≡ true = or_left _ _ k in cc), none_at n es (elim (true_or_false (list_any (is_stroke n) es)) [ inl k ↦ (let t : (is_stroke n e || list_any (is_stroke n) es) ≡ true = or_right _ _ k in cc) | inr k ↦ k ]))

open_at : (n : ℕ) (es : List doc.Entry) → NumbersDiffer es → list_any (is_open_stroke n) es ≡ true → AllByRecursion (IsOpenAt n) es
open_at n [] d h = tt
open_at n (e ∷ es) d h = elim (or_cases (is_open_stroke n e) _ h) [
  | inl k ↦ ((λ _. k), none_at n es (d.0 n (open_is_stroke n e k)))
  | inr k ↦ ((λ s. let f : list_any (is_stroke n) es ≡ false = d.0 n s in let t : list_any (is_stroke n) es ≡ true = any_open_is_stroke n es k in cc), open_at n es d.1 k)
]

-- a change of the one stroke is the same change here
changed_same : (n : ℕ) (here : Entry → Entry) (there : doc.Entry → doc.Entry) (es : List doc.Entry) → ((e : doc.Entry) → IsOpenAt n e → here (queued e) ≡ queued (there e)) → AllByRecursion (IsOpenAt n) es → map here (map queued es) ≡ map queued (map there es)
changed_same n here there [] same all = refl
changed_same n here there (e ∷ es) same all = (λ i. same e all.0 i ∷ changed_same n here there es same all.1 i)

fate_open : (fate : Fate) → is_open fate ≡ true → fate ≡ Open
fate_open Open h = refl
fate_open Ended h = cc
fate_open Cancelled h = cc

grown_kept : (s : Stroke) (job : Kind × Job) → grown (kept_of s) job ≡ kept_of (record s { jobs = s.jobs ++ job ∷ [] })
grown_kept s job = go (found (kept_of s) job) refl
  where
    stands : stroke.StandsFor s.jobs (kept_of s)
    stands = record { kept_is = refl; conflict_is = refl }

    kept_now : (o : Option (ℕ × ℕ)) → found (kept_of s) job ≡ o → with_last (doc_kept.kept s.jobs) job o ≡ doc_kept.kept (s.jobs ++ job ∷ [])
    kept_now None e = let t : stroke.StandsFor (s.jobs ++ job ∷ []) (record (kept_of s) { jobs = doc_kept.kept s.jobs ++ job ∷ [] }) = stands_added s.jobs job (kept_of s) stands e in t.kept_is
    kept_now (Some pair) e = let t : stroke.StandsFor (s.jobs ++ job ∷ []) (record (kept_of s) { overlap = Some pair }) = stands_refused s.jobs job (kept_of s) pair stands e in t.kept_is

    go : (o : Option (ℕ × ℕ)) → found (kept_of s) job ≡ o → grown (kept_of s) job ≡ kept_of (record s { jobs = s.jobs ++ job ∷ [] })
    go o e i = record { no = s.no; layer = s.layer; exclusive = s.exclusive; jobs = (ap (with_last (doc_kept.kept s.jobs) job) e ∙ kept_now o e) i; overlap = found_stands s.jobs job (kept_of s) stands i }

job_same : (n : ℕ) (kind : Kind) (job : Job) (e : doc.Entry) → IsOpenAt n e → with_job n (kind, job) (queued e) ≡ queued (doc.with_job n kind job e)
job_same n kind job (doc.Strokes s) o = elim (true_or_false (eqb s.no n)) [
  | inl h ↦ (let fate : s.fate ≡ Open = fate_open s.fate (and_right (eqb s.no n) _ (o h)) in
      ap (λ f. with_job n (kind, job) (stroke_of f (kept_of s))) fate
      ∙ taken (eqb s.no n) (Waiting (grown (kept_of s) (kind, job))) (Waiting (kept_of s)) h
      ∙ ap Waiting (grown_kept s (kind, job))
      ∙ sym (ap (λ f. stroke_of f (kept_of (record s { jobs = s.jobs ++ (kind, job) ∷ [] }))) fate)
      ∙ sym (ap queued (taken (eqb s.no n) (doc.Strokes (record s { jobs = s.jobs ++ (kind, job) ∷ [] })) (doc.Strokes s) h)))
  | inr h ↦ stays s.fate h ∙ sym (ap queued (kept (eqb s.no n) (doc.Strokes (record s { jobs = s.jobs ++ (kind, job) ∷ [] })) (doc.Strokes s) h))
]
  where
    stays : (fate : Fate) → eqb s.no n ≡ false → with_job n (kind, job) (stroke_of fate (kept_of s)) ≡ stroke_of fate (kept_of s)
    stays Open h = kept (eqb s.no n) (Waiting (grown (kept_of s) (kind, job))) (Waiting (kept_of s)) h
    stays Ended h = refl
    stays Cancelled h = refl
job_same n kind job (doc.Changes c) o = refl
job_same n kind job doc.Undoes o = refl
job_same n kind job doc.Redoes o = refl
job_same n kind job (doc.Purges k) o = refl
job_same n kind job doc.Exports o = refl

closed_same : (n : ℕ) (cancelled : Bool) (fate : Fate) → ((s : Fed) → stroke_of fate s ≡ Whole (record { stroke = s; cancelled = cancelled })) → (e : doc.Entry) → IsOpenAt n e → closed n cancelled (queued e) ≡ queued (doc.with_fate n fate e)
closed_same n cancelled fate is (doc.Strokes s) o = elim (true_or_false (eqb s.no n)) [
  | inl h ↦ (let open_now : s.fate ≡ Open = fate_open s.fate (and_right (eqb s.no n) _ (o h)) in
      ap (λ f. closed n cancelled (stroke_of f (kept_of s))) open_now
      ∙ taken (eqb s.no n) (Whole (record { stroke = kept_of s; cancelled = cancelled })) (Waiting (kept_of s)) h
      ∙ sym (is (kept_of s))
      ∙ sym (ap queued (taken (eqb s.no n) (doc.Strokes (record s { fate = fate })) (doc.Strokes s) h)))
  | inr h ↦ stays s.fate h ∙ sym (ap queued (kept (eqb s.no n) (doc.Strokes (record s { fate = fate })) (doc.Strokes s) h))
]
  where
    stays : (f : Fate) → eqb s.no n ≡ false → closed n cancelled (stroke_of f (kept_of s)) ≡ stroke_of f (kept_of s)
    stays Open h = kept (eqb s.no n) (Whole (record { stroke = kept_of s; cancelled = cancelled })) (Waiting (kept_of s)) h
    stays Ended h = refl
    stays Cancelled h = refl
closed_same n cancelled fate is (doc.Changes c) o = refl
closed_same n cancelled fate is doc.Undoes o = refl
closed_same n cancelled fate is doc.Redoes o = refl
closed_same n cancelled fate is (doc.Purges k) o = refl
closed_same n cancelled fate is doc.Exports o = refl

-- a new entry at the end
left_last : (k : ℕ) (es : List doc.Entry) (e : doc.Entry) (left : List Entry) → k ≤ length es → left ≡ map queued (drop k es) → left ++ queued e ∷ [] ≡ map queued (drop k (es ++ e ∷ []))
left_last k es e left l h = ap (λ xs. xs ++ queued e ∷ []) h ∙ sym (map_last queued (drop k es) e) ∙ sym (ap (map queued) (drop_last k es e l))

-- a change of one stroke
left_changed : (n k : ℕ) (here : Entry → Entry) (there : doc.Entry → doc.Entry) (es : List doc.Entry) (left : List Entry) → ((e : doc.Entry) → IsOpenAt n e → here (queued e) ≡ queued (there e)) → AllByRecursion (IsOpenAt n) es → left ≡ map queued (drop k es) → map here left ≡ map queued (drop k (map there es))
left_changed n k here there es left same all h = ap (map here) h ∙ changed_same n here there (drop k es) same (all_drop (IsOpenAt n) k es all) ∙ sym (ap (map queued) (drop_map there k es))

begun_kept : (n layer : ℕ) (exclusive : Bool) → begun n layer exclusive ≡ kept_of (record { no = n; layer = layer; exclusive = exclusive; jobs = []; fate = Open })
begun_kept n layer exclusive = sym (λ i. record { no = n; layer = layer; exclusive = exclusive; jobs = doc_kept.up_to [] (conflict_nil i); overlap = conflict_nil i })

left_pushed : (k : ℕ) (es : List doc.Entry) (c : Command) (left : List Entry) → NumbersDiffer es → may_follow es c ≡ true → k ≤ length es → left ≡ map queued (drop k es) → pushed left c ≡ map queued (drop k (fed es c))
left_pushed k es (command.Change change) left d m l h = left_last k es _ left l h
left_pushed k es (command.Stroke n layer exclusive) left d m l h = ap (λ s. left ++ Waiting s ∷ []) (begun_kept n layer exclusive) ∙ left_last k es (doc.Strokes (record { no = n; layer = layer; exclusive = exclusive; jobs = []; fate = Open })) left l h
left_pushed k es (command.Add n kind job) left d m l h = left_changed n k _ _ es left (job_same n kind job) (open_at n es d (and_left (list_any (is_open_stroke n) es) _ (and_right (checks job && within_limits job) _ m))) h
left_pushed k es (command.End n) left d m l h = left_changed n k _ _ es left (closed_same n false Ended (λ s. refl)) (open_at n es d m) h
left_pushed k es (command.Cancel n) left d m l h = left_changed n k _ _ es left (closed_same n true Cancelled (λ s. refl)) (open_at n es d m) h
left_pushed k es command.Undo left d m l h = left_last k es _ left l h
left_pushed k es command.Redo left d m l h = left_last k es _ left l h
left_pushed k es (command.Purge keep) left d m l h = left_last k es _ left l h
left_pushed k es command.Export left d m l h = left_last k es _ left l h

-- one more command
pub stands_pushed : (before : List Command) (c : Command) (q : Pending) → lawful (before ++ c ∷ []) ≡ true → StandsFor before q → StandsFor (before ++ c ∷ []) (record q { left = pushed q.left c })
stands_pushed before c q l h =
    let both : (lawful before ≡ true) × (may_follow (entries before) c ≡ true) = lawful_split [] before c l in
    let longer : length (entries before) ≤ length (fed (entries before) c) = length_fed (entries before) c in
    let few : length q.outcomes ≤ length (entries before) = h.few in
    let all : length q.outcomes ≤ length (fed (entries before) c) = omega arith in
    record {
      left_is = left_pushed (length q.outcomes) (entries before) c q.left (lawful_differ before both.0) both.1 h.few h.left_is ∙ sym (ap (λ es. map queued (drop (length q.outcomes) es)) (entries_last before c));
      few = subst (λ es. length q.outcomes ≤ length es) (sym (entries_last before c)) all;
      closed = rw (entries_last before c, take_fed (entries before) c (length q.outcomes) both.1 (lawful_differ before both.0) h.few h.closed) h.closed;
    }

some_left : (k : ℕ) (es : List doc.Entry) → may_leave (map queued (drop k es)) ≡ true → suc k ≤ length es
some_left zero [] h = cc
some_left zero (e ∷ es) h = omega arith
some_left (suc k) [] h = cc
some_left (suc k) (e ∷ es) h = let r : suc k ≤ length es = some_left k es h in omega arith

pub leaves_closed : (e : doc.Entry) (es : List Entry) → may_leave (queued e ∷ es) ≡ true → is_closed_entry e ≡ true
leaves_closed (doc.Strokes s) es h = go s.fate h
  where
    go : (f : Fate) → may_leave (stroke_of f (kept_of s) ∷ es) ≡ true → not (is_open f) ≡ true
    go Open h = h
    go Ended h = refl
    go Cancelled h = refl
leaves_closed (doc.Changes c) es h = refl
leaves_closed doc.Undoes es h = refl
leaves_closed doc.Redoes es h = refl
leaves_closed (doc.Purges k) es h = refl
leaves_closed doc.Exports es h = refl

-- the entry that may leave is closed, as those that left before it
closed_more : (k : ℕ) (es : List doc.Entry) → may_leave (map queued (drop k es)) ≡ true → list_all is_closed_entry (take k es) ≡ true → list_all is_closed_entry (take (suc k) es) ≡ true
closed_more zero [] m h = refl
closed_more zero (e ∷ es) m h = both_true _ _ (leaves_closed e (map queued es) m) refl
closed_more (suc k) [] m h = refl
closed_more (suc k) (e ∷ es) m h = both_true _ _ (and_left (is_closed_entry e) _ h) (closed_more k es m (and_right (is_closed_entry e) _ h))

-- one more outcome
pub stands_popped : (before : List Command) (q : Pending) (o : Outcome) → may_leave q.left ≡ true → StandsFor before q → StandsFor before (record { left = drop 1 q.left; outcomes = q.outcomes ++ o ∷ [] })
stands_popped before q o m h = record {
  left_is = ap (drop 1) h.left_is ∙ drop_map queued 1 (drop (length q.outcomes) (entries before)) ∙ ap (map queued) (drop_one (length q.outcomes) (entries before)) ∙ sym (ap (λ n. map queued (drop n (entries before))) (length_more q.outcomes o));
  few = subst (λ n. n ≤ length (entries before)) (sym (length_more q.outcomes o)) (some_left (length q.outcomes) (entries before) (subst (λ es. may_leave es ≡ true) h.left_is m));
  closed = ap (λ n. list_all is_closed_entry (take n (entries before))) (length_more q.outcomes o) ∙ closed_more (length q.outcomes) (entries before) (subst (λ es. may_leave es ≡ true) h.left_is m) h.closed;
}
