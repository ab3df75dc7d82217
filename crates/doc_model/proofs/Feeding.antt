-- What one more command does to the entries: the closed ones stay, and a stroke at most grows.
use Rattle.std.proofs.Common.{◌≡◌, ℕ, suc, zero, ◌≤◌, Bool, true, false, ◌&&◌, ◌||◌, cond, List, [], ◌∷◌, ◌++◌, map, length, take, refl, sym, ap, ◌∙◌, arith, eqb, inl, inr}
use Rattle.std.specs.List.{list_any, list_all}
use Rattle.std.proofs.lemmas.Bool.Decides.{nat_tests}
use Rattle.geom_core.proofs.Tests.{and_left, and_right, both_true, or_left, or_right, neither, or_cases, none_left, none_right, true_or_false, not_true, kept}
use Rattle.doc_model.specs.declared.job.Job.{Job}
use Rattle.doc_model.specs.declared.job.Kind.{Kind}
use Rattle.doc_model.specs.declared.command.Command.{Command}
use Rattle.doc_model.specs.declared.command.Command.TheVariants as command
use Rattle.doc_model.specs.Strokes.{Fate, Ended, Cancelled, Entry, Strokes, Changes, Undoes, Redoes, Purges, Exports, with_job, with_fate, fed, all_fed, entries, is_stroke, is_open, is_open_stroke}
use Rattle.doc_model.specs.Lawful.{may_follow, within_limits}
use Rattle.doc_model.specs.Feeding.{is_closed_entry, lawful_after, lawful}
use Rattle.doc_model.specs.Jobs.{checks}
use Rattle.std.proofs.lemmas.Bool.{eqb-true}

-- stroke numbers differ
abbrev pub NumbersDiffer : List Entry → Type 0
NumbersDiffer [] = Unit {0}
NumbersDiffer (e ∷ es) = ((n : ℕ) → is_stroke n e ≡ true → list_any (is_stroke n) es ≡ false) × NumbersDiffer es

-- a function of entries that keeps numbers, and each entry that isn't the stroke with that number
pub record Touches (n : ℕ) (change : Entry → Entry) : Type 0 where
  pub others : (e : Entry) → is_stroke n e ≡ false → change e ≡ e
  pub numbers : (m : ℕ) (e : Entry) → is_stroke m (change e) ≡ is_stroke m e

pub with_job_touches : (n : ℕ) (kind : Kind) (job : Job) → Touches n (with_job n kind job)
with_job_touches n kind job = record { others = others; numbers = numbers }
  where
    others : (e : Entry) → is_stroke n e ≡ false → with_job n kind job e ≡ e
    others (Strokes s) h = kept (eqb s.no n) _ _ h
    others (Changes c) h = refl
    others Undoes h = refl
    others Redoes h = refl
    others (Purges k) h = refl
    others Exports h = refl

    numbers : (m : ℕ) (e : Entry) → is_stroke m (with_job n kind job e) ≡ is_stroke m e
    numbers m (Strokes s) = go (eqb s.no n)
      where
        go : (b : Bool) → is_stroke m (cond b (Strokes (record s { jobs = s.jobs ++ (kind, job) ∷ [] })) (Strokes s)) ≡ is_stroke m (Strokes s)
        go true = refl
        go false = refl
    numbers m (Changes c) = refl
    numbers m Undoes = refl
    numbers m Redoes = refl
    numbers m (Purges k) = refl
    numbers m Exports = refl

pub with_fate_touches : (n : ℕ) (fate : Fate) → Touches n (with_fate n fate)
with_fate_touches n fate = record { others = others; numbers = numbers }
  where
    others : (e : Entry) → is_stroke n e ≡ false → with_fate n fate e ≡ e
    others (Strokes s) h = kept (eqb s.no n) _ _ h
    others (Changes c) h = refl
    others Undoes h = refl
    others Redoes h = refl
    others (Purges k) h = refl
    others Exports h = refl

    numbers : (m : ℕ) (e : Entry) → is_stroke m (with_fate n fate e) ≡ is_stroke m e
    numbers m (Strokes s) = go (eqb s.no n)
      where
        go : (b : Bool) → is_stroke m (cond b (Strokes (record s { fate = fate })) (Strokes s)) ≡ is_stroke m (Strokes s)
        go true = refl
        go false = refl
    numbers m (Changes c) = refl
    numbers m Undoes = refl
    numbers m Redoes = refl
    numbers m (Purges k) = refl
    numbers m Exports = refl

any_touched : (n m : ℕ) (change : Entry → Entry) → Touches n change → (es : List Entry) → list_any (is_stroke m) (map change es) ≡ list_any (is_stroke m) es
any_touched n m change t [] = refl
any_touched n m change t (e ∷ es) = (λ i. t.numbers m e i || any_touched n m change t es i)

differ_touched : (n : ℕ) (change : Entry → Entry) → Touches n change → (es : List Entry) → NumbersDiffer es → NumbersDiffer (map change es)
differ_touched n change t [] d = tt
differ_touched n change t (e ∷ es) d = ((λ m h. any_touched n m change t es ∙ d.0 m (sym (t.numbers m e) ∙ h)), differ_touched n change t es d.1)

any_last : (m : ℕ) (es : List Entry) (e : Entry) → list_any (is_stroke m) (es ++ e ∷ []) ≡ (list_any (is_stroke m) es || is_stroke m e)
any_last m [] e = or_none (is_stroke m e)
  where
    or_none : (b : Bool) → (b || false) ≡ b
    or_none true = refl
    or_none false = refl
any_last m (x ∷ es) e = ap (λ b. is_stroke m x || b) (any_last m es e) ∙ or_assoc (is_stroke m x) (list_any (is_stroke m) es) (is_stroke m e)
  where
    or_assoc : (a b c : Bool) → (a || (b || c)) ≡ ((a || b) || c)
    or_assoc true b c = refl
    or_assoc false b c = refl

-- a new entry with a number of its own
differ_last : (es : List Entry) (e : Entry) → ((n : ℕ) → is_stroke n e ≡ true → list_any (is_stroke n) es ≡ false) → NumbersDiffer es → NumbersDiffer (es ++ e ∷ [])
differ_last [] e new d = ((λ n h. refl), tt)
differ_last (x ∷ es) e new d = (
  (λ n h. any_last n es e ∙ neither _ _ (d.0 n h) (other n h)),
  differ_last es e (λ n h. none_right (is_stroke n x) _ (new n h)) d.1,
)
  where
    other : (n : ℕ) → is_stroke n x ≡ true → is_stroke n e ≡ false
    other n h = elim (true_or_false (is_stroke n e)) [ inl k ↦ (let f : is_stroke n x ≡ false = none_left (is_stroke n x) _ (new n k) in cc) | inr k ↦ k ]

differ_fed : (es : List Entry) (c : Command) → may_follow es c ≡ true → NumbersDiffer es → NumbersDiffer (fed es c)
differ_fed es (command.Change change) h d = differ_last es (Changes change) (λ n k. absurd (let t : false ≡ true = k in cc)) d
differ_fed es (command.Stroke number layer exclusive) h d = differ_last es _ (λ n k. ap (λ m. list_any (is_stroke m) es) (sym (eqb-true number n k)) ∙ not_true _ h) d
differ_fed es (command.Add n kind job) h d = differ_touched n _ (with_job_touches n kind job) es d
differ_fed es (command.End n) h d = differ_touched n _ (with_fate_touches n Ended) es d
differ_fed es (command.Cancel n) h d = differ_touched n _ (with_fate_touches n Cancelled) es d
differ_fed es command.Undo h d = differ_last es Undoes (λ n k. absurd (let t : false ≡ true = k in cc)) d
differ_fed es command.Redo h d = differ_last es Redoes (λ n k. absurd (let t : false ≡ true = k in cc)) d
differ_fed es (command.Purge keep) h d = differ_last es (Purges keep) (λ n k. absurd (let t : false ≡ true = k in cc)) d
differ_fed es command.Export h d = differ_last es Exports (λ n k. absurd (let t : false ≡ true = k in cc)) d

differ_after : (es : List Entry) (cs : List Command) → lawful_after es cs ≡ true → NumbersDiffer es → NumbersDiffer (all_fed es cs)
differ_after es [] h d = d
differ_after es (c ∷ cs) h d = differ_after (fed es c) cs (and_right (may_follow es c) _ h) (differ_fed es c (and_left (may_follow es c) _ h) d)

-- the strokes of lawful commands have different numbers
pub lawful_differ : (cs : List Command) → lawful cs ≡ true → NumbersDiffer (entries cs)
lawful_differ cs h = differ_after [] cs h tt

-- one more command
all_fed_last : (es : List Entry) (cs : List Command) (c : Command) → all_fed es (cs ++ c ∷ []) ≡ fed (all_fed es cs) c
all_fed_last es [] c = refl
all_fed_last es (d ∷ cs) c = all_fed_last (fed es d) cs c

pub entries_last : (cs : List Command) (c : Command) → entries (cs ++ c ∷ []) ≡ fed (entries cs) c
entries_last cs c = all_fed_last [] cs c

lawful_after_last : (es : List Entry) (cs : List Command) (c : Command) → lawful_after es cs ≡ true → may_follow (all_fed es cs) c ≡ true → lawful_after es (cs ++ c ∷ []) ≡ true
lawful_after_last es [] c h k = both_true _ _ k refl
lawful_after_last es (d ∷ cs) c h k = both_true _ _ (and_left (may_follow es d) _ h) (lawful_after_last (fed es d) cs c (and_right (may_follow es d) _ h) k)

pub lawful_last : (cs : List Command) (c : Command) → lawful cs ≡ true → may_follow (entries cs) c ≡ true → lawful (cs ++ c ∷ []) ≡ true
lawful_last cs c h k = lawful_after_last [] cs c h k

open_is_stroke : (n : ℕ) (e : Entry) → is_open_stroke n e ≡ true → is_stroke n e ≡ true
open_is_stroke n (Strokes s) h = and_left (eqb s.no n) _ h
open_is_stroke n (Changes c) h = h
open_is_stroke n Undoes h = h
open_is_stroke n Redoes h = h
open_is_stroke n (Purges k) h = h
open_is_stroke n Exports h = h

open_not_closed : (n : ℕ) (e : Entry) → is_open_stroke n e ≡ true → is_closed_entry e ≡ true → ⊥
open_not_closed n (Strokes s) h k = let o : is_open s.fate ≡ true = and_right (eqb s.no n) _ h in let c : is_open s.fate ≡ false = not_true _ k in cc
open_not_closed n (Changes c) h k = cc
open_not_closed n Undoes h k = cc
open_not_closed n Redoes h k = cc
open_not_closed n (Purges j) h k = cc
open_not_closed n Exports h k = cc

any_open_is_stroke : (n : ℕ) (es : List Entry) → list_any (is_open_stroke n) es ≡ true → list_any (is_stroke n) es ≡ true
any_open_is_stroke n [] h = h
any_open_is_stroke n (e ∷ es) h = elim (or_cases (is_open_stroke n e) _ h) [
  | inl k ↦ or_left _ _ (open_is_stroke n e k)
  | inr k ↦ or_right _ _ (any_open_is_stroke n es k)
]

-- what touches one open stroke leaves the closed entries before it
take_touched : (n k : ℕ) (change : Entry → Entry) (es : List Entry) → Touches n change → NumbersDiffer es → list_any (is_open_stroke n) es ≡ true → list_all is_closed_entry (take k es) ≡ true → take k (map change es) ≡ take k es
take_touched n zero change es t d o all = refl
take_touched n (suc k) change [] t d o all = refl
take_touched n (suc k) change (e ∷ es) t d o all = cons (t.others e other) (take_touched n k change es t d.1 later (and_right (is_closed_entry e) _ all))
  where
    cons : {x y : Entry} {xs ys : List Entry} → x ≡ y → xs ≡ ys → (x ∷ xs) ≡ (y ∷ ys)
    cons p q i = p i ∷ q i

    later : list_any (is_open_stroke n) es ≡ true
    later = elim (or_cases (is_open_stroke n e) _ o) [ inl h ↦ absurd (open_not_closed n e h (and_left (is_closed_entry e) _ all)) | inr h ↦ h ]

    other : is_stroke n e ≡ false
    other = elim (true_or_false (is_stroke n e)) [ inl h ↦ (let f : list_any (is_stroke n) es ≡ false = d.0 n h in let g : list_any (is_stroke n) es ≡ true = any_open_is_stroke n es later in cc) | inr h ↦ h ]

take_last : (k : ℕ) (es : List Entry) (e : Entry) → k ≤ length es → take k (es ++ e ∷ []) ≡ take k es
take_last zero es e h = refl
take_last (suc k) [] e h = absurd (omega arith)
take_last (suc k) (x ∷ es) e h = ap (λ ys. x ∷ ys) (take_last k es e (omega arith))

-- the first entries, all closed, are the same after one more command
pub take_fed : (es : List Entry) (c : Command) (k : ℕ) → may_follow es c ≡ true → NumbersDiffer es → k ≤ length es → list_all is_closed_entry (take k es) ≡ true → take k (fed es c) ≡ take k es
take_fed es (command.Change change) k h d l all = take_last k es _ l
take_fed es (command.Stroke number layer exclusive) k h d l all = take_last k es _ l
take_fed es (command.Add n kind job) k h d l all = take_touched n k _ es (with_job_touches n kind job) d (and_left (list_any (is_open_stroke n) es) _ (and_right (checks job && within_limits job) _ h)) all
take_fed es (command.End n) k h d l all = take_touched n k _ es (with_fate_touches n Ended) d h all
take_fed es (command.Cancel n) k h d l all = take_touched n k _ es (with_fate_touches n Cancelled) d h all
take_fed es command.Undo k h d l all = take_last k es _ l
take_fed es command.Redo k h d l all = take_last k es _ l
take_fed es (command.Purge keep) k h d l all = take_last k es _ l
take_fed es command.Export k h d l all = take_last k es _ l

length_map' : (f : Entry → Entry) (es : List Entry) → length (map f es) ≡ length es
length_map' f [] = refl
length_map' f (e ∷ es) = ap suc (length_map' f es)

length_last' : (es : List Entry) (e : Entry) → length es ≤ length (es ++ e ∷ [])
length_last' [] e = omega arith
length_last' (x ∷ es) e = let h : length es ≤ length (es ++ e ∷ []) = length_last' es e in omega arith

pub length_fed : (es : List Entry) (c : Command) → length es ≤ length (fed es c)
length_fed es (command.Change change) = length_last' es _
length_fed es (command.Stroke number layer exclusive) = length_last' es _
length_fed es (command.Add n kind job) = let e : length (map (with_job n kind job) es) ≡ length es = length_map' _ es in omega arith
length_fed es (command.End n) = let e : length (map (with_fate n Ended) es) ≡ length es = length_map' _ es in omega arith
length_fed es (command.Cancel n) = let e : length (map (with_fate n Cancelled) es) ≡ length es = length_map' _ es in omega arith
length_fed es command.Undo = length_last' es _
length_fed es command.Redo = length_last' es _
length_fed es (command.Purge keep) = length_last' es _
length_fed es command.Export = length_last' es _
