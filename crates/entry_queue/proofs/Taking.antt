-- The queue takes each command that may follow those that it was fed, and its jobs are within the limits.
use Rattle.std.proofs.Common.{◌≡◌, ℕ, suc, zero, ◌≤◌, Bool, true, false, ◌&&◌, not, List, [], ◌∷◌, ◌++◌, map, length, drop, take, Option, Some, None, refl, sym, ap, ◌∙◌, arith, subst, eqb, inl, inr, cond}
use Rattle.std.specs.Prelude.{nat_lt}
use Rattle.std.specs.List.{AllByRecursion, list_any, list_all}
use Rattle.std.proofs.lemmas.Bool.Decides.{nat_tests}
use Rattle.geom_core.proofs.Tests.{and_left, and_right, both_true, or_cases, or_left, or_right, true_or_false, not_true, and-false, and-true}
use Rattle.doc_model.specs.declared.job.Job.{Job}
use Rattle.doc_model.specs.declared.job.Kind.{Kind}
use Rattle.doc_model.specs.declared.command.Command.{Command}
use Rattle.doc_model.specs.declared.command.Command.TheVariants as command
use Rattle.doc_model.specs.Strokes as doc
use Rattle.doc_model.specs.Kept as doc_kept
use Rattle.doc_model.specs.Kept.{up_to}
use Rattle.doc_model.specs.Feeding as feeding
use Rattle.doc_model.specs.Lawful.{may_follow, within_limits}
use Rattle.doc_model.specs.Feeding.{is_closed_entry, lawful_after}
use Rattle.doc_model.specs.Strokes.{is_stroke, is_open, is_open_stroke, Fate, Open, Ended, Cancelled, Stroke, Jobs, entries, all_fed, fed, conflict}
use Rattle.doc_model.specs.Jobs.{checks}
use Rattle.doc_model.proofs.Feeding.{NumbersDiffer, lawful_differ}
use Rattle.entry_queue.specs.declared.entry.Entry.{Entry}
use Rattle.entry_queue.specs.Pushed.{Pending, StandsFor, has_room, is_numbered, is_waiting, kept_of, queued, stroke_of, takes}
use Rattle.entry_queue.proofs.Standing.{any_open_is_stroke, lawful_split, open_is_stroke}

numbered_same : (n : ℕ) (e : doc.Entry) → is_numbered n (queued e) ≡ is_stroke n e
numbered_same n (doc.Strokes s) = go s.fate
  where
    go : (f : Fate) → is_numbered n (stroke_of f (kept_of s)) ≡ eqb s.no n
    go Open = refl
    go Ended = refl
    go Cancelled = refl
numbered_same n (doc.Changes c) = refl
numbered_same n doc.Undoes = refl
numbered_same n doc.Redoes = refl
numbered_same n (doc.Purges k) = refl
numbered_same n doc.Exports = refl

waiting_same : (n : ℕ) (e : doc.Entry) → is_waiting n (queued e) ≡ is_open_stroke n e
waiting_same n (doc.Strokes s) = go s.fate
  where
    go : (f : Fate) → is_waiting n (stroke_of f (kept_of s)) ≡ (eqb s.no n && is_open f)
    go Open = sym (and-true (eqb s.no n))
    go Ended = sym (and-false (eqb s.no n))
    go Cancelled = sym (and-false (eqb s.no n))
waiting_same n (doc.Changes c) = refl
waiting_same n doc.Undoes = refl
waiting_same n doc.Redoes = refl
waiting_same n (doc.Purges k) = refl
waiting_same n doc.Exports = refl

length_taken : {A : Type 0} (k : ℕ) (xs : List A) → length (take k xs) ≤ length xs
length_taken zero xs = omega arith
length_taken (suc k) [] = omega arith
length_taken (suc k) (x ∷ xs) = let h : length (take k xs) ≤ length xs = length_taken k xs in omega arith

-- no more jobs are kept than there are
few_kept : (jobs : Jobs) → length (doc_kept.kept jobs) ≤ length jobs
few_kept jobs = go (conflict jobs)
  where
    go : (o : Option (ℕ × ℕ)) → length (up_to jobs o) ≤ length jobs
    go None = omega arith
    go (Some pair) = length_taken _ jobs

room_same : (n : ℕ) (e : doc.Entry) → (is_open_stroke n e && doc.has_room n e) ≡ true → has_room n (queued e) ≡ true
room_same n (doc.Strokes s) h = go s.fate (and_right (eqb s.no n) _ (and_left _ _ h))
  where
    less : (a b : ℕ) → a ≤ b → nat_lt b 4096 ≡ true → nat_lt a 4096 ≡ true
    less a b l k = grind (arith, nat_tests)

    go : (f : Fate) → is_open f ≡ true → has_room n (stroke_of f (kept_of s)) ≡ true
    go Open o =
        let both : (eqb s.no n && nat_lt (length s.jobs) 4096) ≡ true = and_right (eqb s.no n && is_open s.fate) _ h in
        both_true _ _ (and_left (eqb s.no n) _ both) (less (length (doc_kept.kept s.jobs)) (length s.jobs) (few_kept s.jobs) (and_right (eqb s.no n) _ both))
    go Ended o = cc
    go Cancelled o = cc
room_same n (doc.Changes c) h = cc
room_same n doc.Undoes h = cc
room_same n doc.Redoes h = cc
room_same n (doc.Purges k) h = cc
room_same n doc.Exports h = cc

-- an entry of the document's that passes is one of the queue's that does
any_queued : (P : doc.Entry → Bool) (Q : Entry → Bool) (es : List doc.Entry) → ((e : doc.Entry) → P e ≡ true → Q (queued e) ≡ true) → list_any P es ≡ true → list_any Q (map queued es) ≡ true
any_queued P Q [] f h = h
any_queued P Q (e ∷ es) f h = elim (or_cases (P e) _ h) [
  | inl k ↦ or_left _ _ (f e k)
  | inr k ↦ or_right _ _ (any_queued P Q es f k)
]

any_unqueued : (P : doc.Entry → Bool) (Q : Entry → Bool) (es : List doc.Entry) → ((e : doc.Entry) → Q (queued e) ≡ true → P e ≡ true) → list_any Q (map queued es) ≡ true → list_any P es ≡ true
any_unqueued P Q [] f h = h
any_unqueued P Q (e ∷ es) f h = elim (or_cases (Q (queued e)) _ h) [
  | inl k ↦ or_left _ _ (f e k)
  | inr k ↦ or_right _ _ (any_unqueued P Q es f k)
]

-- what no entry of the front is stands behind it
any_behind : (P : doc.Entry → Bool) (k : ℕ) (es : List doc.Entry) → ((e : doc.Entry) → P e ≡ true → is_closed_entry e ≡ true → ⊥) → list_all is_closed_entry (take k es) ≡ true → list_any P es ≡ true → list_any P (drop k es) ≡ true
any_behind P zero es not_closed all h = h
any_behind P (suc k) [] not_closed all h = h
any_behind P (suc k) (e ∷ es) not_closed all h = elim (or_cases (P e) _ h) [
  | inl p ↦ absurd (not_closed e p (and_left (is_closed_entry e) _ all))
  | inr p ↦ any_behind P k es not_closed (and_right (is_closed_entry e) _ all) p
]

any_dropped : (P : doc.Entry → Bool) (k : ℕ) (es : List doc.Entry) → list_any P (drop k es) ≡ true → list_any P es ≡ true
any_dropped P zero es h = h
any_dropped P (suc k) [] h = h
any_dropped P (suc k) (e ∷ es) h = or_right _ _ (any_dropped P k es h)

open_not_closed : (n : ℕ) (e : doc.Entry) → is_open_stroke n e ≡ true → is_closed_entry e ≡ true → ⊥
open_not_closed n (doc.Strokes s) h k = let o : is_open s.fate ≡ true = and_right (eqb s.no n) _ h in let c : is_open s.fate ≡ false = not_true _ k in cc
open_not_closed n (doc.Changes c) h k = cc
open_not_closed n doc.Undoes h k = cc
open_not_closed n doc.Redoes h k = cc
open_not_closed n (doc.Purges j) h k = cc
open_not_closed n doc.Exports h k = cc

room_is_stroke : (n : ℕ) (e : doc.Entry) → doc.has_room n e ≡ true → is_stroke n e ≡ true
room_is_stroke n (doc.Strokes s) h = and_left (eqb s.no n) _ h
room_is_stroke n (doc.Changes c) h = h
room_is_stroke n doc.Undoes h = h
room_is_stroke n doc.Redoes h = h
room_is_stroke n (doc.Purges k) h = h
room_is_stroke n doc.Exports h = h

any_room_is_stroke : (n : ℕ) (es : List doc.Entry) → list_any (doc.has_room n) es ≡ true → list_any (is_stroke n) es ≡ true
any_room_is_stroke n [] h = h
any_room_is_stroke n (e ∷ es) h = elim (or_cases (doc.has_room n e) _ h) [
  | inl k ↦ or_left _ _ (room_is_stroke n e k)
  | inr k ↦ or_right _ _ (any_room_is_stroke n es k)
]

-- the stroke that is open is the one that has room
open_with_room : (n : ℕ) (es : List doc.Entry) → NumbersDiffer es → list_any (is_open_stroke n) es ≡ true → list_any (doc.has_room n) es ≡ true → list_any (λ e. is_open_stroke n e && doc.has_room n e) es ≡ true
open_with_room n [] d o r = o
open_with_room n (e ∷ es) d o r = elim (or_cases (is_open_stroke n e) _ o) [
  | inl h ↦ elim (or_cases (doc.has_room n e) _ r) [
    | inl k ↦ or_left _ _ (both_true _ _ h k)
    | inr k ↦ (let f : list_any (is_stroke n) es ≡ false = d.0 n (open_is_stroke n e h) in let t : list_any (is_stroke n) es ≡ true = any_room_is_stroke n es k in cc)
  ]
  | inr h ↦ elim (or_cases (doc.has_room n e) _ r) [
    | inl k ↦ (let f : list_any (is_stroke n) es ≡ false = d.0 n (room_is_stroke n e k) in let t : list_any (is_stroke n) es ≡ true = any_open_is_stroke n es h in cc)
    | inr k ↦ or_right _ _ (open_with_room n es d.1 h k)
  ]
]

waits : (n k : ℕ) (es : List doc.Entry) → list_all is_closed_entry (take k es) ≡ true → list_any (is_open_stroke n) es ≡ true → list_any (is_waiting n) (map queued (drop k es)) ≡ true
waits n k es all h = any_queued (is_open_stroke n) (is_waiting n) (drop k es) (λ e o. waiting_same n e ∙ o) (any_behind (is_open_stroke n) k es (open_not_closed n) all h)

takes_following : (k : ℕ) (es : List doc.Entry) (c : Command) → NumbersDiffer es → may_follow es c ≡ true → list_all is_closed_entry (take k es) ≡ true → takes (map queued (drop k es)) c ≡ true
takes_following k es (command.Change change) d m all = refl
takes_following k es (command.Stroke n layer exclusive) d m all = elim (true_or_false (list_any (is_numbered n) (map queued (drop k es)))) [
  | inl h ↦ (let t : list_any (is_stroke n) es ≡ true = any_dropped (is_stroke n) k es (any_unqueued (is_stroke n) (is_numbered n) (drop k es) (λ e p. sym (numbered_same n e) ∙ p) h) in let f : list_any (is_stroke n) es ≡ false = not_true _ m in cc)
  | inr h ↦ ap not h
]
takes_following k es (command.Add n kind job) d m all =
    let stroke : (list_any (is_open_stroke n) es && list_any (doc.has_room n) es) ≡ true = and_right (checks job && within_limits job) _ m in
    both_true _ _ (and_left (checks job) _ (and_left (checks job && within_limits job) _ m))
    (any_queued (λ e. is_open_stroke n e && doc.has_room n e) (has_room n) (drop k es) (room_same n)
    (any_behind (λ e. is_open_stroke n e && doc.has_room n e) k es (λ e h. open_not_closed n e (and_left (is_open_stroke n e) _ h)) all
    (open_with_room n es d (and_left (list_any (is_open_stroke n) es) _ stroke) (and_right (list_any (is_open_stroke n) es) _ stroke))))
takes_following k es (command.End n) d m all = waits n k es all m
takes_following k es (command.Cancel n) d m all = waits n k es all m
takes_following k es command.Undo d m all = refl
takes_following k es command.Redo d m all = refl
takes_following k es (command.Purge keep) d m all = refl
takes_following k es command.Export d m all = refl

-- what may be fed next the queue takes
pub takes_lawful : (before : List Command) (c : Command) (q : Pending) → feeding.lawful (before ++ c ∷ []) ≡ true → StandsFor before q → takes q.left c ≡ true
takes_lawful before c q l h =
    let both : (feeding.lawful before ≡ true) × (may_follow (entries before) c ≡ true) = lawful_split [] before c l in
    subst (λ left. takes left c ≡ true) (sym h.left_is) (takes_following (length q.outcomes) (entries before) c (lawful_differ before both.0) both.1 h.closed)

-- whether all jobs are within the limits
abbrev pub all_fit : Jobs → Bool
all_fit jobs = list_all (λ (j : Kind × Job). within_limits j.1) jobs

-- the jobs of an entry are within the limits
abbrev pub Fits : doc.Entry → Type 0
Fits (doc.Strokes s) = all_fit s.jobs ≡ true
Fits e = Unit {0}

all_last : (es : List doc.Entry) (e : doc.Entry) → Fits e → AllByRecursion Fits es → AllByRecursion Fits (es ++ e ∷ [])
all_last [] e h all = (h, tt)
all_last (x ∷ es) e h all = (all.0, all_last es e h all.1)

all_changed : (change : doc.Entry → doc.Entry) (es : List doc.Entry) → ((e : doc.Entry) → Fits e → Fits (change e)) → AllByRecursion Fits es → AllByRecursion Fits (map change es)
all_changed change [] f all = tt
all_changed change (e ∷ es) f all = (f e all.0, all_changed change es f all.1)

fit_last : (jobs : Jobs) (j : Kind × Job) → all_fit jobs ≡ true → within_limits j.1 ≡ true → all_fit (jobs ++ j ∷ []) ≡ true
fit_last [] j all h = both_true _ _ h refl
fit_last (i ∷ jobs) j all h = both_true _ _ (and_left (within_limits i.1) _ all) (fit_last jobs j (and_right (within_limits i.1) _ all) h)

either_fits : (b : Bool) (x y : doc.Entry) → Fits x → Fits y → Fits (cond b x y)
either_fits true x y f g = f
either_fits false x y f g = g

fits_job : (n : ℕ) (kind : Kind) (job : Job) → within_limits job ≡ true → (e : doc.Entry) → Fits e → Fits (doc.with_job n kind job e)
fits_job n kind job h (doc.Strokes s) f = either_fits (eqb s.no n) (doc.Strokes (record s { jobs = s.jobs ++ (kind, job) ∷ [] })) (doc.Strokes s) (fit_last s.jobs (kind, job) f h) f
fits_job n kind job h (doc.Changes c) f = tt
fits_job n kind job h doc.Undoes f = tt
fits_job n kind job h doc.Redoes f = tt
fits_job n kind job h (doc.Purges k) f = tt
fits_job n kind job h doc.Exports f = tt

fits_fate : (n : ℕ) (fate : Fate) (e : doc.Entry) → Fits e → Fits (doc.with_fate n fate e)
fits_fate n fate (doc.Strokes s) f = either_fits (eqb s.no n) (doc.Strokes (record s { fate = fate })) (doc.Strokes s) f f
fits_fate n fate (doc.Changes c) f = tt
fits_fate n fate doc.Undoes f = tt
fits_fate n fate doc.Redoes f = tt
fits_fate n fate (doc.Purges k) f = tt
fits_fate n fate doc.Exports f = tt

fits_fed : (es : List doc.Entry) (c : Command) → may_follow es c ≡ true → AllByRecursion Fits es → AllByRecursion Fits (fed es c)
fits_fed es (command.Change change) m all = all_last es _ tt all
fits_fed es (command.Stroke n layer exclusive) m all = all_last es _ refl all
fits_fed es (command.Add n kind job) m all = all_changed _ es (fits_job n kind job (and_right (checks job) _ (and_left (checks job && within_limits job) _ m))) all
fits_fed es (command.End n) m all = all_changed _ es (fits_fate n Ended) all
fits_fed es (command.Cancel n) m all = all_changed _ es (fits_fate n Cancelled) all
fits_fed es command.Undo m all = all_last es _ tt all
fits_fed es command.Redo m all = all_last es _ tt all
fits_fed es (command.Purge keep) m all = all_last es _ tt all
fits_fed es command.Export m all = all_last es _ tt all

fits_after : (es : List doc.Entry) (cs : List Command) → lawful_after es cs ≡ true → AllByRecursion Fits es → AllByRecursion Fits (all_fed es cs)
fits_after es [] h all = all
fits_after es (c ∷ cs) h all = fits_after (fed es c) cs (and_right (may_follow es c) _ h) (fits_fed es c (and_left (may_follow es c) _ h) all)

-- the jobs of lawful commands are within the limits
pub lawful_fits : (cs : List Command) → feeding.lawful cs ≡ true → AllByRecursion Fits (entries cs)
lawful_fits cs h = fits_after [] cs h tt

fit_taken : (k : ℕ) (jobs : Jobs) → all_fit jobs ≡ true → all_fit (take k jobs) ≡ true
fit_taken zero jobs h = refl
fit_taken (suc k) [] h = refl
fit_taken (suc k) (j ∷ jobs) h = both_true _ _ (and_left (within_limits j.1) _ h) (fit_taken k jobs (and_right (within_limits j.1) _ h))

-- and so are those that are kept
pub kept_fit : (jobs : Jobs) → all_fit jobs ≡ true → all_fit (doc_kept.kept jobs) ≡ true
kept_fit jobs h = go (conflict jobs)
  where
    go : (o : Option (ℕ × ℕ)) → all_fit (up_to jobs o) ≡ true
    go None = h
    go (Some pair) = fit_taken _ jobs h
