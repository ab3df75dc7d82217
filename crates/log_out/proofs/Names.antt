-- The names of entries are those of the commands that make them.
use Rattle.std.proofs.Common.{◌≡◌, ℕ, suc, ◌+◌, ◌-◌, ◌<◌, ◌==◌, Bool, true, false, cond, List, [], ◌∷◌, ◌++◌, length, drop, map, get_or, Some, None, refl, sym, ap, ◌∙◌, append_assoc, append-nil, arith}
use Rattle.std.specs.Prelude.{slice_get}
use Rattle.std.specs.List.{filter_map, cons_option}
use Rattle.std.proofs.Math.Seq.{drop-cons}
use Rattle.std.proofs.lemmas.Option.{slice_get_within, get_or_from_slice_get}
use Rattle.std.proofs.lemmas.List.{map-append, length-map, length-drop}
use Rattle.doc_model.specs.declared.job.Job.{Job}
use Rattle.doc_model.specs.declared.job.Kind.{Kind}
use Rattle.doc_model.specs.declared.command.Command.{Command}
use Rattle.doc_model.specs.declared.command.Command.TheVariants as command
use Rattle.doc_model.specs.declared.command.Outcome.{Outcome}
use Rattle.doc_model.specs.Strokes.{Entry, Stroke, Fate, Strokes, Changes, Undoes, Redoes, Purges, Exports, with_job, with_fate, fed, all_fed, entries}
use Rattle.log_out.specs.Log.{entry_name, line, lines, outcome_text}
use Rattle.log_out.specs.Phrases.{name_of}

-- what stands from a place on
drop_at : {X : Type 0} (xs : List X) (i : ℕ) (x : X) → slice_get xs i ≡ Some x → drop i xs ≡ x ∷ drop (suc i) xs
drop_at xs i x e = drop-cons xs i x (slice_get_within xs i x e) ∙ ap (λ y. y ∷ drop (suc i) xs) (get_or_from_slice_get xs i x x e)

-- the names of the entries that commands make
abbrev pub names_in : List Command → List (List ℕ)
names_in commands = filter_map name_of commands

either_name : (b : Bool) (one other : Stroke) → one.no ≡ other.no → entry_name (cond b (Strokes one) (Strokes other)) ≡ entry_name (Strokes other)
either_name true one other e = ap (λ n. entry_name (Strokes (record other { no = n }))) e
either_name false one other e = refl

job_name : (n : ℕ) (kind : Kind) (job : Job) (e : Entry) → entry_name (with_job n kind job e) ≡ entry_name e
job_name n kind job (Strokes s) = either_name (s.no == n) (record s { jobs = s.jobs ++ (kind, job) ∷ [] }) s refl
job_name n kind job (Changes change) = refl
job_name n kind job Undoes = refl
job_name n kind job Redoes = refl
job_name n kind job (Purges keep) = refl
job_name n kind job Exports = refl

fate_name : (n : ℕ) (fate : Fate) (e : Entry) → entry_name (with_fate n fate e) ≡ entry_name e
fate_name n fate (Strokes s) = either_name (s.no == n) (record s { fate = fate }) s refl
fate_name n fate (Changes change) = refl
fate_name n fate Undoes = refl
fate_name n fate Redoes = refl
fate_name n fate (Purges keep) = refl
fate_name n fate Exports = refl

same_names : (f : Entry → Entry) → ((e : Entry) → entry_name (f e) ≡ entry_name e) → (es : List Entry) → map entry_name (map f es) ≡ map entry_name es
same_names f h [] = refl
same_names f h (e ∷ es) = ap (λ name. name ∷ map entry_name (map f es)) (h e) ∙ ap (λ names. entry_name e ∷ names) (same_names f h es)

one_more : (es : List Entry) (e : Entry) (names : List (List ℕ)) → map entry_name (es ++ e ∷ []) ++ names ≡ map entry_name es ++ (entry_name e ∷ names)
one_more es e names = ap (λ l. l ++ names) (map-append entry_name es (e ∷ [])) ∙ append_assoc (map entry_name es) (entry_name e ∷ []) names

fed_names : (es : List Entry) (c : Command) (cs : List Command) → map entry_name (fed es c) ++ names_in cs ≡ map entry_name es ++ names_in (c ∷ cs)
fed_names es (command.Change change) cs = one_more es (Changes change) (names_in cs)
fed_names es (command.Stroke n layer exclusive) cs = one_more es _ (names_in cs)
fed_names es (command.Add n kind job) cs = ap (λ l. l ++ names_in cs) (same_names (with_job n kind job) (job_name n kind job) es)
fed_names es (command.End n) cs = ap (λ l. l ++ names_in cs) (same_names (with_fate n Fate.Ended) (fate_name n Fate.Ended) es)
fed_names es (command.Cancel n) cs = ap (λ l. l ++ names_in cs) (same_names (with_fate n Fate.Cancelled) (fate_name n Fate.Cancelled) es)
fed_names es command.Undo cs = one_more es Undoes (names_in cs)
fed_names es command.Redo cs = one_more es Redoes (names_in cs)
fed_names es (command.Purge keep) cs = one_more es (Purges keep) (names_in cs)
fed_names es command.Export cs = one_more es Exports (names_in cs)

all_names : (es : List Entry) (cs : List Command) → map entry_name (all_fed es cs) ≡ map entry_name es ++ names_in cs
all_names es [] = sym (append-nil (map entry_name es))
all_names es (c ∷ cs) = all_names (fed es c) cs ∙ fed_names es c cs

-- the entries' names, in order
pub names_are : (cs : List Command) → map entry_name (entries cs) ≡ names_in cs
names_are cs = all_names [] cs

-- how many names there are
pub length_names : (cs : List Command) → length (entries cs) ≡ length (names_in cs)
length_names cs = sym (length-map (entries cs) entry_name) ∙ ap length (names_are cs)

-- the command at a place makes no entry
pub names_pass : (cs : List Command) (i : ℕ) (c : Command) → slice_get cs i ≡ Some c → None ≡ name_of c → names_in (drop i cs) ≡ names_in (drop (i + 1) cs)
names_pass cs i c e h =
    let next : suc i ≡ i + 1 = omega arith in
    ap names_in (drop_at cs i c e) ∙ ap (λ o. cons_option o (names_in (drop (suc i) cs))) (sym h) ∙ ap (λ k. names_in (drop k cs)) next

-- the command at a place makes an entry of that name
pub names_take : (cs : List Command) (i : ℕ) (c : Command) (name : List ℕ) → slice_get cs i ≡ Some c → Some name ≡ name_of c → names_in (drop i cs) ≡ name ∷ names_in (drop (i + 1) cs)
names_take cs i c name e h =
    let next : suc i ≡ i + 1 = omega arith in
    ap names_in (drop_at cs i c e) ∙ ap (λ o. cons_option o (names_in (drop (suc i) cs))) (sym h) ∙ ap (λ k. name ∷ names_in (drop k cs)) next

-- an outcome is left for a name that is left
pub outcome_left : (os : List Outcome) (k : ℕ) (all rest : List (List ℕ)) (name : List ℕ) → length (drop k os) ≡ length all → all ≡ name ∷ rest → k < length os
outcome_left os k all rest name h e =
    let left : length (drop k os) ≡ length os - k = length-drop k os in
    let some : length all ≡ suc (length rest) = ap length e in
    omega (arith, h, left, some)

-- one name and one outcome fewer are left
pub fewer_left : (os : List Outcome) (k : ℕ) (all rest : List (List ℕ)) (name : List ℕ) → length (drop k os) ≡ length all → all ≡ name ∷ rest → length (drop (k + 1) os) ≡ length rest
fewer_left os k all rest name h e =
    let left : length (drop k os) ≡ length os - k = length-drop k os in
    let less : length (drop (k + 1) os) ≡ length os - (k + 1) = length-drop (k + 1) os in
    let some : length all ≡ suc (length rest) = ap length e in
    omega (arith, h, left, less, some)

-- the next line
pub lines_at : (os : List Outcome) (k : ℕ) (all rest : List (List ℕ)) (name ending : List ℕ) (d : Outcome) → k < length os → all ≡ name ∷ rest → ending ≡ outcome_text (get_or os k d)
    → lines (k + 1) all (drop k os) ≡ line (k + 1) name ending ++ lines (k + 1 + 1) rest (drop (k + 1) os)
lines_at os k all rest name ending d h e t =
    let next : suc k ≡ k + 1 = omega arith in
    ap (λ l. lines (k + 1) l (drop k os)) e ∙ ap (λ l. lines (k + 1) (name ∷ rest) l) (drop-cons os k d h) ∙ ap (λ l. line (k + 1) name l ++ lines (k + 1 + 1) rest (drop (suc k) os)) (sym t)
    ∙ ap (λ j. line (k + 1) name ending ++ lines (k + 1 + 1) rest (drop j os)) next
