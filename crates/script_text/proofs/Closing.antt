-- Strokes that are left open.
use Rattle.std.proofs.Common.{◌≡◌, ℕ, ◌+◌, ◌<◌, ◌≤◌, Bool, true, false, ◌&&◌, ◌||◌, not, if◌then◌else◌, Option, Some, None, List, [], ◌∷◌, ◌++◌, length, map, get_or, drop, add-one, refl, sym, ap, ◌∙◌, subst, append_assoc, arith}
use Rattle.std.specs.Prelude.{◌==◌}
use Rattle.std.specs.List.{list_any, list_all, filter_map}
use Rattle.std.specs.Option.{option_to_list}
use Rattle.std.proofs.lemmas.List.Folds.{list_any-append}
use Rattle.std.proofs.lemmas.List.Elements.{filter_map-append}
use Rattle.std.proofs.lemmas.List.{append-nil}
use Rattle.std.proofs.lemmas.Bool.Decides.{nat_tests}
use Rattle.std.proofs.Math.Seq.{drop-cons}
use Rattle.std.proofs.Math.ListN.{drop_of_length-le}
use Rattle.doc_model.specs.declared.job.Job.{Job}
use Rattle.doc_model.specs.declared.job.Kind.{Kind}
use Rattle.doc_model.specs.declared.command.Command.{Command}
use Rattle.doc_model.specs.declared.command.Command.TheVariants as command
use Rattle.doc_model.specs.Strokes.{Entry, Strokes, Changes, Undoes, Redoes, Purges, Exports, Fate, with_job, with_fate, fed, all_fed, entries, is_open_stroke, is_open as is_open_fate}
use Rattle.doc_model.specs.Feeding.{is_closed_entry}
use Rattle.script_text.specs.declared.reading.Start.{Start}
use Rattle.script_text.specs.Reading.{left_open}
use Rattle.script_text.specs.Read.{started_by, StartsAre}
use Rattle.geom_core.proofs.Tests.{and_left, and_right}

-- the number of an entry that is a stroke
abbrev pub number_of : Entry → Option ℕ
number_of (Strokes s) = Some s.no
number_of e = None

abbrev pub numbers : List Entry → List ℕ
numbers es = filter_map number_of es

same_numbers : (f : Entry → Entry) → ((e : Entry) → number_of (f e) ≡ number_of e) → (es : List Entry) → numbers (map f es) ≡ numbers es
same_numbers f h [] = refl
same_numbers f h (e ∷ es) = rw (h e, same_numbers f h es) refl

job_number : (n : ℕ) (k : Kind) (j : Job) (e : Entry) → number_of (with_job n k j e) ≡ number_of e
job_number n k j (Strokes s) = go (s.no == n)
  where
    go : (b : Bool) → number_of (if b then Strokes (record s { jobs = s.jobs ++ (k, j) ∷ [] }) else Strokes s) ≡ Some s.no
    go true = refl
    go false = refl
job_number n k j (Changes c) = refl
job_number n k j Undoes = refl
job_number n k j Redoes = refl
job_number n k j (Purges keep) = refl
job_number n k j Exports = refl

fate_number : (n : ℕ) (f : Fate) (e : Entry) → number_of (with_fate n f e) ≡ number_of e
fate_number n f (Strokes s) = go (s.no == n)
  where
    go : (b : Bool) → number_of (if b then Strokes (record s { fate = f }) else Strokes s) ≡ Some s.no
    go true = refl
    go false = refl
fate_number n f (Changes c) = refl
fate_number n f Undoes = refl
fate_number n f Redoes = refl
fate_number n f (Purges keep) = refl
fate_number n f Exports = refl

more : (es : List Entry) (e : Entry) → numbers (es ++ e ∷ []) ≡ numbers es ++ option_to_list (number_of e)
more es e = filter_map-append number_of es (e ∷ []) ∙ ap (λ l. numbers es ++ l) (one (number_of e))
  where
    one : (o : Option ℕ) → Rattle.std.specs.List.cons_option o [] ≡ option_to_list o
    one None = refl
    one (Some n) = refl

fed_numbers : (es : List Entry) (c : Command) → numbers (fed es c) ≡ numbers es ++ option_to_list (started_by c)
fed_numbers es (command.Change change) = more es (Changes change)
fed_numbers es (command.Stroke n layer x) = more es _
fed_numbers es (command.Add n k j) = same_numbers _ (job_number n k j) es ∙ sym (append-nil (numbers es))
fed_numbers es (command.End n) = same_numbers _ (fate_number n Rattle.doc_model.specs.Strokes.Ended) es ∙ sym (append-nil (numbers es))
fed_numbers es (command.Cancel n) = same_numbers _ (fate_number n Rattle.doc_model.specs.Strokes.Cancelled) es ∙ sym (append-nil (numbers es))
fed_numbers es command.Undo = more es Undoes
fed_numbers es command.Redo = more es Redoes
fed_numbers es (command.Purge keep) = more es (Purges keep)
fed_numbers es command.Export = more es Exports

cons_is : (o : Option ℕ) (xs : List ℕ) → option_to_list o ++ xs ≡ Rattle.std.specs.List.cons_option o xs
cons_is None xs = refl
cons_is (Some n) xs = refl

all_numbers : (es : List Entry) (cs : List Command) → numbers (all_fed es cs) ≡ numbers es ++ filter_map started_by cs
all_numbers es [] = sym (append-nil (numbers es))
all_numbers es (c ∷ cs) = all_numbers (fed es c) cs ∙ (ap (λ l. l ++ filter_map started_by cs) (fed_numbers es c) ∙ (append_assoc (numbers es) (option_to_list (started_by c)) (filter_map started_by cs) ∙ ap (λ l. numbers es ++ l) (cons_is (started_by c) (filter_map started_by cs))))

same : (n : ℕ) → (n == n) ≡ true
same n = grind (arith, nat_tests)

shut : (a b c : Bool) → not (a || (b || c)) ≡ true → b ≡ false
shut true b c h = absurd (cc (h))
shut false true c h = absurd (cc (h))
shut false false c h = refl

-- where no number names an open stroke, each entry is closed
closed_rest : (front xs : List Entry) → list_all (λ n. not (list_any (is_open_stroke n) (front ++ xs))) (numbers xs) ≡ true → list_all is_closed_entry xs ≡ true
closed_rest front [] h = refl
closed_rest front (Strokes s ∷ xs) h =
    let again : list_all (λ n. not (list_any (is_open_stroke n) ((front ++ Strokes s ∷ []) ++ xs))) (numbers xs) ≡ true = subst (λ l. list_all (λ n. not (list_any (is_open_stroke n) l)) (numbers xs) ≡ true) (sym (append_assoc front (Strokes s ∷ []) xs)) (and_right _ _ h) in
    let here : not (list_any (is_open_stroke s.no) (front ++ Strokes s ∷ xs)) ≡ true = and_left _ _ h in
    let this : is_open_fate s.fate ≡ false = shut (list_any (is_open_stroke s.no) front) (is_open_fate s.fate) (list_any (is_open_stroke s.no) xs) (rw (list_any-append (is_open_stroke s.no) front (Strokes s ∷ xs), same s.no) at here) in
    rw (this, closed_rest (front ++ Strokes s ∷ []) xs again) refl
closed_rest front (Changes c ∷ xs) h = closed_rest (front ++ Changes c ∷ []) xs (subst (λ l. list_all (λ n. not (list_any (is_open_stroke n) l)) (numbers xs) ≡ true) (sym (append_assoc front (Changes c ∷ []) xs)) h)
closed_rest front (Undoes ∷ xs) h = closed_rest (front ++ Undoes ∷ []) xs (subst (λ l. list_all (λ n. not (list_any (is_open_stroke n) l)) (numbers xs) ≡ true) (sym (append_assoc front (Undoes ∷ []) xs)) h)
closed_rest front (Redoes ∷ xs) h = closed_rest (front ++ Redoes ∷ []) xs (subst (λ l. list_all (λ n. not (list_any (is_open_stroke n) l)) (numbers xs) ≡ true) (sym (append_assoc front (Redoes ∷ []) xs)) h)
closed_rest front (Purges keep ∷ xs) h = closed_rest (front ++ Purges keep ∷ []) xs (subst (λ l. list_all (λ n. not (list_any (is_open_stroke n) l)) (numbers xs) ≡ true) (sym (append_assoc front (Purges keep ∷ []) xs)) h)
closed_rest front (Exports ∷ xs) h = closed_rest (front ++ Exports ∷ []) xs (subst (λ l. list_all (λ n. not (list_any (is_open_stroke n) l)) (numbers xs) ≡ true) (sym (append_assoc front (Exports ∷ []) xs)) h)

one_left : (es : List Entry) (s : Start) (starts : List Start) (b : Bool) → list_any (is_open_stroke s.no) es ≡ b → (left_open es starts ≡ None → list_all (λ n. not (list_any (is_open_stroke n) es)) (map (λ s. s.no) starts) ≡ true) → (if b then Some s.line else left_open es starts) ≡ None → (not (list_any (is_open_stroke s.no) es) && list_all (λ n. not (list_any (is_open_stroke n) es)) (map (λ s. s.no) starts)) ≡ true
one_left es s starts true e rest k = absurd (cc (k))
one_left es s starts false e rest k = rw (e, rest k) refl

none_left : (es : List Entry) (starts : List Start) → left_open es starts ≡ None → list_all (λ n. not (list_any (is_open_stroke n) es)) (map (λ s. s.no) starts) ≡ true
none_left es [] h = refl
none_left es (s ∷ starts) h = one_left es s starts (list_any (is_open_stroke s.no) es) refl (none_left es starts) h

-- where no start is left open, each stroke is closed
pub all_shut : (starts : List Start) (cs : List Command) → StartsAre starts cs → left_open (entries cs) starts ≡ None → list_all is_closed_entry (entries cs) ≡ true
all_shut starts cs e h = closed_rest [] (entries cs) (subst (λ l. list_all (λ n. not (list_any (is_open_stroke n) (entries cs))) l ≡ true) (e ∙ sym (all_numbers [] cs)) (none_left (entries cs) starts h))

left_here : (es : List Entry) (starts : List Start) (i : ℕ) (d : Start) → i < length starts → left_open es (drop i starts) ≡ (if list_any (is_open_stroke (get_or starts i d).no) es then Some (get_or starts i d).line else left_open es (drop (i + 1) starts))
left_here es starts i d h =
    let rest : drop i starts ≡ get_or starts i d ∷ drop (i + 1) starts = rw (add-one, drop-cons starts i d h) refl in
    rw rest refl

-- a stroke that is open, and one that is not
pub left_found : (es : List Entry) (starts : List Start) (i : ℕ) (s : Start) (total : Option ℕ) → i < length starts → s ≡ get_or starts i s → left_open es (drop i starts) ≡ total → list_any (is_open_stroke s.no) es ≡ true → Some s.line ≡ total
left_found es starts i s total h e so_far o =
    let here : left_open es (drop i starts) ≡ (if list_any (is_open_stroke s.no) es then Some s.line else left_open es (drop (i + 1) starts)) = left_here es starts i s h ∙ ap (λ (t : Start). if list_any (is_open_stroke t.no) es then Some t.line else left_open es (drop (i + 1) starts)) (sym e) in
    sym (sym so_far ∙ (here ∙ rw o refl))

pub left_next : (es : List Entry) (starts : List Start) (i : ℕ) (s : Start) (total : Option ℕ) → i < length starts → s ≡ get_or starts i s → left_open es (drop i starts) ≡ total → list_any (is_open_stroke s.no) es ≡ false → left_open es (drop (i + 1) starts) ≡ total
left_next es starts i s total h e so_far o =
    let here : left_open es (drop i starts) ≡ (if list_any (is_open_stroke s.no) es then Some s.line else left_open es (drop (i + 1) starts)) = left_here es starts i s h ∙ ap (λ (t : Start). if list_any (is_open_stroke t.no) es then Some t.line else left_open es (drop (i + 1) starts)) (sym e) in
    sym (sym so_far ∙ (here ∙ rw o refl))

-- the end of the list
pub left_end : (es : List Entry) (starts : List Start) (i : ℕ) → length starts ≤ i → left_open es (drop i starts) ≡ None
left_end es starts i h = ap (left_open es) (drop_of_length-le starts {i = i} h)
