-- How many serials are used.
use Rattle.std.proofs.Common.{◌≡◌, ℕ, suc, zero, ◌+◌, ◌*◌, ◌≤◌, Bool, true, false, cond, List, [], ◌∷◌, ◌++◌, Option, Some, None, length, take, drop, map, refl, sym, ap, ◌∙◌, arith, eqb, ◌⊎◌, inl, inr, append_assoc, append-nil}
use Rattle.std.specs.List.{list_any}
use Rattle.geom_core.proofs.Tests.{and_left, and_right, both_true, none_left, none_right, true_or_false, length_map, length_more}
use Rattle.doc_model.specs.declared.job.Job.{Job}
use Rattle.doc_model.specs.declared.job.Kind.{Kind}
use Rattle.doc_model.specs.declared.command.Command.{Command}
use Rattle.doc_model.specs.declared.command.Command.TheVariants as command
use Rattle.doc_model.specs.Strokes.{Fate, Ended, Cancelled, Entry, Strokes, Changes, Undoes, Redoes, Purges, Exports, with_job, with_fate, fed, entries, is_stroke}
use Rattle.doc_model.specs.Lawful.{may_follow}
use Rattle.doc_model.specs.Feeding.{lawful_after, lawful}
use Rattle.doc_model.proofs.Feeding.{NumbersDiffer, Touches, with_job_touches, lawful_differ, entries_last}
use Rattle.machine_model.specs.State.{State, Slot, Free, Paints, Walks, head, first}
use Rattle.machine_model.specs.Guards.{kept_jobs}
use Rattle.machine_model.specs.UnderWay.{IsOnWay}
use Rattle.machine_model.specs.Counted.{jobs_in, painters, ended, ended_jobs}
use Rattle.machine_model.specs.CountLaws.{SerialsAreFew, SerialsFit}
use Rattle.machine_model.proofs.SlotChanges.{ended_few}
use Rattle.machine_model.proofs.FeedKeeps.{head_is}
use Rattle.machine_model.proofs.Stories.{take_one_more}
use Rattle.machine_model.proofs.LeavingCounts.{jobs_of, jobs_in_one, jobs_in_last, kept_few}

-- the number of entries and of their jobs
abbrev total : List Entry → ℕ
total es = jobs_in es + length es

-- where no entry is the stroke, nothing changes
none_touched : (n : ℕ) (change : Entry → Entry) → Touches n change → (es : List Entry) → list_any (is_stroke n) es ≡ false → map change es ≡ es
none_touched n change t [] h = refl
none_touched n change t (e ∷ es) h = λ i. t.others e (none_left _ _ h) i ∷ none_touched n change t es (none_right (is_stroke n e) _ h) i

-- one more job of one stroke
job_more : (n : ℕ) (kind : Kind) (job : Job) (e : Entry) → jobs_of (with_job n kind job e) ≤ suc (jobs_of e)
job_more n kind job (Strokes s) = go (eqb s.no n)
  where
    go : (b : Bool) → jobs_of (cond b (Strokes (record s { jobs = s.jobs ++ (kind, job) ∷ [] })) (Strokes s)) ≤ suc (length s.jobs)
    go true = let e : length (s.jobs ++ (kind, job) ∷ []) ≡ suc (length s.jobs) = length_more s.jobs (kind, job) in omega arith
    go false = omega arith
job_more n kind job (Changes c) = omega arith
job_more n kind job Undoes = omega arith
job_more n kind job Redoes = omega arith
job_more n kind job (Purges k) = omega arith
job_more n kind job Exports = omega arith

jobs_more : (n : ℕ) (kind : Kind) (job : Job) (es : List Entry) → NumbersDiffer es → jobs_in (map (with_job n kind job) es) ≤ suc (jobs_in es)
jobs_more n kind job [] d = omega arith
jobs_more n kind job (e ∷ es) d = go (true_or_false (is_stroke n e)) (jobs_more n kind job es d.1)
  where
    split : jobs_in (e ∷ es) ≡ jobs_of e + jobs_in es
    split = jobs_in_one e es

    split' : jobs_in (with_job n kind job e ∷ map (with_job n kind job) es) ≡ jobs_of (with_job n kind job e) + jobs_in (map (with_job n kind job) es)
    split' = jobs_in_one (with_job n kind job e) (map (with_job n kind job) es)

    go : (is_stroke n e ≡ true) ⊎ (is_stroke n e ≡ false) → jobs_in (map (with_job n kind job) es) ≤ suc (jobs_in es) → jobs_in (with_job n kind job e ∷ map (with_job n kind job) es) ≤ suc (jobs_in (e ∷ es))
    go (inl here) more =
        let rest : jobs_in (map (with_job n kind job) es) ≡ jobs_in es = ap jobs_in (none_touched n (with_job n kind job) (with_job_touches n kind job) es (d.0 n here)) in
        let one : jobs_of (with_job n kind job e) ≤ suc (jobs_of e) = job_more n kind job e in
        omega (arith, split, split')
    go (inr other) more =
        let one : jobs_of (with_job n kind job e) ≡ jobs_of e = ap jobs_of ((with_job_touches n kind job).others e other) in
        omega (arith, split, split')

-- a fate is no job
fate_same : (n : ℕ) (fate : Fate) (e : Entry) → jobs_of (with_fate n fate e) ≡ jobs_of e
fate_same n fate (Strokes s) = go (eqb s.no n)
  where
    go : (b : Bool) → jobs_of (cond b (Strokes (record s { fate = fate })) (Strokes s)) ≡ length s.jobs
    go true = refl
    go false = refl
fate_same n fate (Changes c) = refl
fate_same n fate Undoes = refl
fate_same n fate Redoes = refl
fate_same n fate (Purges k) = refl
fate_same n fate Exports = refl

fates_same : (n : ℕ) (fate : Fate) (es : List Entry) → jobs_in (map (with_fate n fate) es) ≡ jobs_in es
fates_same n fate [] = refl
fates_same n fate (e ∷ es) = jobs_in_one (with_fate n fate e) (map (with_fate n fate) es) ∙ (λ i. fate_same n fate e i + fates_same n fate es i) ∙ sym (jobs_in_one e es)

-- one more entry without jobs
entry_more : (es : List Entry) (e : Entry) → jobs_of e ≡ 0 → total (es ++ e ∷ []) ≤ suc (total es)
entry_more es e none =
    let a : jobs_in (es ++ e ∷ []) ≡ jobs_in es + jobs_of e = jobs_in_last es e in
    let b : length (es ++ e ∷ []) ≡ suc (length es) = length_more es e in
    omega arith

-- a command makes one more entry or one more job at most
fed_more : (es : List Entry) (c : Command) → NumbersDiffer es → total (fed es c) ≤ suc (total es)
fed_more es (command.Change change) d = entry_more es _ refl
fed_more es (command.Stroke number layer exclusive) d = entry_more es _ refl
fed_more es (command.Add n kind job) d =
    let a : jobs_in (map (with_job n kind job) es) ≤ suc (jobs_in es) = jobs_more n kind job es d in
    let b : length (map (with_job n kind job) es) ≡ length es = length_map (with_job n kind job) es in
    omega arith
fed_more es (command.End n) d =
    let a : jobs_in (map (with_fate n Ended) es) ≡ jobs_in es = fates_same n Ended es in
    let b : length (map (with_fate n Ended) es) ≡ length es = length_map (with_fate n Ended) es in
    omega arith
fed_more es (command.Cancel n) d =
    let a : jobs_in (map (with_fate n Cancelled) es) ≡ jobs_in es = fates_same n Cancelled es in
    let b : length (map (with_fate n Cancelled) es) ≡ length es = length_map (with_fate n Cancelled) es in
    omega arith
fed_more es command.Undo d = entry_more es _ refl
fed_more es command.Redo d = entry_more es _ refl
fed_more es (command.Purge keep) d = entry_more es _ refl
fed_more es command.Export d = entry_more es _ refl

-- what begins lawful commands is lawful
front_lawful : (es : List Entry) (cs more : List Command) → lawful_after es (cs ++ more) ≡ true → lawful_after es cs ≡ true
front_lawful es [] more h = refl
front_lawful es (c ∷ cs) more h = both_true _ _ (and_left (may_follow es c) _ h) (front_lawful (fed es c) cs more (and_right (may_follow es c) _ h))

counted_after : (before cs : List Command) → lawful (before ++ cs) ≡ true → total (entries (before ++ cs)) ≤ total (entries before) + length cs
counted_after before [] h = let e : total (entries (before ++ [])) ≡ total (entries before) = ap (λ l. total (entries l)) (append-nil before) in omega arith
counted_after before (c ∷ cs) h =
    let joins : (before ++ c ∷ []) ++ cs ≡ before ++ c ∷ cs = append_assoc before (c ∷ []) cs in
    let rest : total (entries ((before ++ c ∷ []) ++ cs)) ≤ total (entries (before ++ c ∷ [])) + length cs = counted_after (before ++ c ∷ []) cs (ap lawful joins ∙ h) in
    let same : total (entries ((before ++ c ∷ []) ++ cs)) ≡ total (entries (before ++ c ∷ cs)) = ap (λ l. total (entries l)) joins in
    let one : total (entries (before ++ c ∷ [])) ≡ total (fed (entries before) c) = ap total (entries_last before c) in
    let more : total (fed (entries before) c) ≤ suc (total (entries before)) = fed_more (entries before) c (lawful_differ before (front_lawful [] before (c ∷ cs) h)) in
    omega arith

-- entries and jobs are no more than the commands
entries_few : (cs : List Command) → lawful cs ≡ true → total (entries cs) ≤ length cs
entries_few cs h = let e : total (entries cs) ≤ 0 + length cs = counted_after [] cs h in omega arith

front_few : (k : ℕ) (es : List Entry) → jobs_in (take k es) ≤ jobs_in es
front_few zero es = omega arith
front_few (suc k) [] = omega arith
front_few (suc k) (e ∷ es) =
    let a : jobs_in (e ∷ take k es) ≡ jobs_of e + jobs_in (take k es) = jobs_in_one e (take k es) in
    let b : jobs_in (e ∷ es) ≡ jobs_of e + jobs_in es = jobs_in_one e es in
    let rest : jobs_in (take k es) ≤ jobs_in es = front_few k es in
    omega arith

-- with the jobs of the head
head_few : (k : ℕ) (es : List Entry) (e : Entry) → first (drop k es) ≡ Some e → jobs_in (take k es) + jobs_of e ≤ jobs_in es
head_few k es e h =
    let a : jobs_in (take (suc k) es) ≡ jobs_in (take k es) + jobs_of e = ap jobs_in (take_one_more k es e h) ∙ jobs_in_last (take k es) e in
    let b : jobs_in (take (suc k) es) ≤ jobs_in es = front_few (suc k) es in
    omega arith

-- no more jobs are at work than there are slots
painters_few : (slots : List Slot) → painters slots ≤ length slots
painters_few [] = omega arith
painters_few (Free ∷ slots) = let h : painters slots ≤ length slots = painters_few slots in omega arith
painters_few (Walks w ∷ slots) = let h : painters slots ≤ length slots = painters_few slots in omega arith
painters_few (Paints w ∷ slots) = let h : painters slots ≤ length slots = painters_few slots in omega arith

-- the jobs that have ended, with those of the entries that have left
ended_all : (s : State) (o : Option ℕ) → IsOnWay s o → jobs_in (take (length s.outcomes) (entries s.fed)) + ended_jobs s.slots o ≤ jobs_in (entries s.fed)
ended_all s None rest = let h : jobs_in (take (length s.outcomes) (entries s.fed)) ≤ jobs_in (entries s.fed) = front_few (length s.outcomes) (entries s.fed) in omega arith
ended_all s (Some n) way =
    let a : jobs_in (take (length s.outcomes) (entries s.fed)) + length way.stroke.jobs ≤ jobs_in (entries s.fed) = head_few (length s.outcomes) (entries s.fed) (Strokes way.stroke) (head_is (head s) way.stroke way.at_head) in
    let b : ended s.slots n ≤ n = ended_few s.slots n in
    let c : n ≤ length (kept_jobs way.stroke) = way.few in
    let d : length (kept_jobs way.stroke) ≤ length way.stroke.jobs = kept_few way.stroke.jobs in
    omega arith

few : (next updates gone ended painters outcomes jobs es cs : ℕ) → next + updates ≤ ((65 * gone + 65 * ended) + painters) + 64 * outcomes → gone + ended ≤ jobs → painters ≤ 17 → outcomes ≤ es → jobs + es ≤ cs → next + updates ≤ 65 * cs + 17
few next updates gone ended painters outcomes jobs es cs a b c d e = omega arith

pub serials_are_few : SerialsAreFew
serials_are_few s sound = few s.next (length s.updates) _ _ _ _ _ _ _ sound.counted.budget (ended_all s s.way sound.on_way) painters_17 sound.told.few (entries_few s.fed sound.told.lawful)
  where
    painters_17 : painters s.slots ≤ 17
    painters_17 = let a : painters s.slots ≤ length s.slots = painters_few s.slots in let b : length s.slots ≤ 17 = sound.counted.slots.1 in omega arith

pub serials_fit : SerialsFit
serials_fit s sound h = let a : s.next + length s.updates ≤ 65 * length s.fed + 17 = serials_are_few s sound in omega arith
