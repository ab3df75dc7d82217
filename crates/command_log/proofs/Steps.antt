-- What is known of commands after one more.
use Rattle.std.proofs.Common.{◌≡◌, ℕ, ◌+◌, ◌≤◌, suc, zero, Bool, true, false, ◌||◌, nat_lt, if◌then◌else◌, Option, Some, None, List, [], ◌∷◌, ◌++◌, length, map, filter, refl, sym, ap, ◌∙◌, subst, arith}
use Rattle.std.specs.Prelude.{◌==◌}
use Rattle.std.specs.List.{list_any}
use Rattle.std.proofs.lemmas.List.Folds.{list_any-append}
use Rattle.std.proofs.lemmas.List.Elements.{filter-append}
use Rattle.std.proofs.lemmas.List.{length-append}
use Rattle.std.proofs.lemmas.Bool.Decides.{nat_tests}
use Rattle.doc_model.specs.declared.job.Job.{Job}
use Rattle.doc_model.specs.declared.job.Kind.{Kind}
use Rattle.doc_model.specs.declared.command.Command.{Command}
use Rattle.doc_model.specs.declared.command.Command.TheVariants as command
use Rattle.doc_model.specs.Strokes.{Entry, Strokes, Changes, Undoes, Redoes, Purges, Exports, Fate, Open, Ended, Cancelled, fed, is_stroke, is_open_stroke, has_room, is_export, is_open as is_open_fate}
use Rattle.command_log.specs.declared.refusal.Misfit.{Misfit}
use Rattle.command_log.specs.declared.refusal.Misfit.TheVariants.{UsedAgain, ClosedStroke, TooManyJobs, TooManyExports}
use Rattle.command_log.specs.declared.table.Fed.{Fed}
use Rattle.command_log.specs.Misfits.{misfit_of, not_open}
use Rattle.std.specs.Option.{option_or}
use Rattle.command_log.specs.Table.{Tells, has_fewer, fewer, next_fed, one_more, closed, start_misfit, close_misfit, job_misfit, stroke_misfit, export_misfit, exports_after}
use Rattle.command_log.proofs.Tables.{same_any, none_any, same_filter, job_started, job_open, job_export, job_room, job_other, none_fewer, close_started, close_room, close_export, close_itself, close_other, same_number, lt_more}
use Rattle.geom_core.proofs.Tests.{or-false}

-- tests that agree
same_test : (p q : Entry → Bool) → ((e : Entry) → p e ≡ q e) → (es : List Entry) → list_any p es ≡ list_any q es
same_test p q h [] = refl
same_test p q h (e ∷ es) = rw (h e, same_test p q h es) refl

room_is : (n : ℕ) (e : Entry) → has_room n e ≡ fewer 4096 n e
room_is n (Strokes s) = refl
room_is n (Changes c) = refl
room_is n Undoes = refl
room_is n Redoes = refl
room_is n (Purges keep) = refl
room_is n Exports = refl

-- why a stroke can't be started
pub start_same : (es : List Entry) (n : ℕ) (found : Option Fed) → Tells es n found → start_misfit found ≡ (if list_any (is_stroke n) es then Some UsedAgain else None)
start_same es n None t = rw t.started refl
start_same es n (Some f) t = rw t.started refl

-- why it can't be closed
pub close_same : (es : List Entry) (n : ℕ) (found : Option Fed) → Tells es n found → close_misfit found ≡ not_open n es
close_same es n None t = rw (t.live, t.started) refl
close_same es n (Some f) t = rw (t.live, t.started) refl

-- whether it has room for a job
room_same : (es : List Entry) (n : ℕ) (found : Option Fed) → Tells es n found → list_any (has_room n) es ≡ has_fewer 4096 found
room_same es n found t = same_test (has_room n) (fewer 4096 n) (room_is n) es ∙ t.room 4096

-- why it can't be given a job
pub job_same : (es : List Entry) (n : ℕ) (found : Option Fed) → Tells es n found → job_misfit found ≡ option_or (not_open n es) (if list_any (has_room n) es then None else Some TooManyJobs)
job_same es n found t = go found (room_same es n found t) t
  where
    step : (f : Fed) (b r : Bool) → (if b then (if r then None else Some TooManyJobs) else Some ClosedStroke) ≡ option_or (if b then None else Some ClosedStroke) (if r then None else Some TooManyJobs)
    step f true r = refl
    step f false r = refl

    go : (found : Option Fed) → list_any (has_room n) es ≡ has_fewer 4096 found → Tells es n found → job_misfit found ≡ option_or (not_open n es) (if list_any (has_room n) es then None else Some TooManyJobs)
    go None r t = rw (t.live, t.started) refl
    go (Some f) r t = rw (t.live, t.started, r) (step f f.live (nat_lt f.jobs 4096))

or_true : (b : Bool) → (b || true) ≡ true
or_true true = refl
or_true false = refl

-- an entry more that fails the test
more_not : (p : Entry → Bool) (es : List Entry) (e : Entry) → p e ≡ false → list_any p (es ++ e ∷ []) ≡ list_any p es
more_not p es e h = list_any-append p es (e ∷ []) ∙ rw h (or-false (list_any p es))

-- an entry more that passes it
more_yes : (p : Entry → Bool) (es : List Entry) (e : Entry) → p e ≡ true → list_any p (es ++ e ∷ []) ≡ true
more_yes p es e h = list_any-append p es (e ∷ []) ∙ rw h (or_true (list_any p es))

-- an entry more for which nothing is kept
other_more : (es : List Entry) (m : ℕ) (old : Option Fed) (e : Entry) → is_stroke m e ≡ false → is_open_stroke m e ≡ false → ((k : ℕ) → fewer k m e ≡ false) → Tells es m old → Tells (es ++ e ∷ []) m old
other_more es m old e s o r t = record {
  started = more_not (is_stroke m) es e s ∙ t.started;
  live = more_not (is_open_stroke m) es e o ∙ t.live;
  room = λ k. more_not (fewer k m) es e (r k) ∙ t.room k;
}

-- nothing is kept of a stroke that wasn't started
not_kept : (es : List Entry) (m : ℕ) (old : Option Fed) → Tells es m old → list_any (is_stroke m) es ≡ false → (k : ℕ) → list_any (fewer k m) es ≡ false
not_kept es m None t h k = t.room k
not_kept es m (Some f) t h k = absurd (cc (t.started, h))

-- a stroke that was just started
abbrev fresh : ℕ → ℕ → Bool → Entry
fresh n layer x = Strokes (record { no = n; layer = layer; exclusive = x; jobs = []; fate = Open })

fresh_room : (es : List Entry) (n m layer : ℕ) (x : Bool) (k : ℕ) → (n == m) ≡ true → list_any (fewer k m) es ≡ false → list_any (fewer k m) (es ++ fresh n layer x ∷ []) ≡ nat_lt 0 k
fresh_room es n m layer x k h none = list_any-append (fewer k m) es (fresh n layer x ∷ []) ∙ rw (none, h) (or-false (nat_lt 0 k))

-- a stroke is started
start_step : (es : List Entry) (n m layer : ℕ) (x : Bool) (old : Option Fed) → list_any (is_stroke n) es ≡ false → Tells es m old → Tells (fed es (command.Stroke n layer x)) m (next_fed (command.Stroke n layer x) m old)
start_step es n m layer x old free t = go (n == m) refl
  where
    go : (b : Bool) → (n == m) ≡ b → Tells (es ++ fresh n layer x ∷ []) m (if b then Some (record { live = true; jobs = 0 }) else old)
    go true h = record {
      started = more_yes (is_stroke m) es (fresh n layer x) h;
      live = more_yes (is_open_stroke m) es (fresh n layer x) (rw h refl);
      room = λ k. fresh_room es n m layer x k h (not_kept es m old t (subst (λ a. list_any (is_stroke a) es ≡ false) (same_number n m h) free) k);
    }
    go false h = other_more es m old (fresh n layer x) h (rw h refl) (λ k. rw h refl) t

-- what is kept of a stroke with one job more
one_more_step : (es : List Entry) (n : ℕ) (kind : Kind) (j : Job) (old : Option Fed) → job_misfit old ≡ None → Tells es n old → Tells (fed es (command.Add n kind j)) n (one_more old)
one_more_step es n kind j None h t = absurd (cc (h))
one_more_step es n kind j (Some f) h t = record {
  started = same_any _ _ _ (job_started n n kind j) es ∙ t.started;
  live = same_any _ _ _ (job_open n n kind j) es ∙ t.live;
  room = room;
}
  where
    room : (k : ℕ) → list_any (fewer k n) (fed es (command.Add n kind j)) ≡ nat_lt (f.jobs + 1) k
    room zero = none_any (fewer 0 n) (none_fewer n) (fed es (command.Add n kind j)) ∙ grind (arith, nat_tests)
    room (suc k) = same_any _ _ _ (job_room n k kind j) es ∙ (t.room k ∙ sym (lt_more f.jobs (f.jobs + 1) k refl))

add_step : (es : List Entry) (n m : ℕ) (kind : Kind) (j : Job) (old : Option Fed) → (n ≡ m → job_misfit old ≡ None) → Tells es m old → Tells (fed es (command.Add n kind j)) m (next_fed (command.Add n kind j) m old)
add_step es n m kind j old fits t = go (n == m) refl
  where
    go : (b : Bool) → (n == m) ≡ b → Tells (fed es (command.Add n kind j)) m (if b then one_more old else old)
    go true h =
        let e = same_number n m h in
        subst (λ a. Tells (fed es (command.Add a kind j)) m (one_more old)) (sym e) (one_more_step es m kind j old (fits e) t)
    go false h = record {
      started = same_any _ _ _ (job_started n m kind j) es ∙ t.started;
      live = same_any _ _ _ (job_open n m kind j) es ∙ t.live;
      room = λ k. same_any _ _ _ (job_other n m k h kind j) es ∙ t.room k;
    }

-- a stroke is closed
close_step : (es : List Entry) (n m : ℕ) (f : Fate) → is_open_fate f ≡ false → (old : Option Fed) → Tells es m old → Tells (map (Rattle.doc_model.specs.Strokes.with_fate n f) es) m (if n == m then closed old else old)
close_step es n m f shut old t = go (n == m) refl
  where
    kept : (old : Option Fed) → Tells es m old → (n == m) ≡ true → Tells (map (Rattle.doc_model.specs.Strokes.with_fate n f) es) m (closed old)
    kept None t h = record {
      started = same_any _ _ _ (close_started n m f) es ∙ t.started;
      live = subst (λ a. list_any (is_open_stroke m) (map (Rattle.doc_model.specs.Strokes.with_fate a f) es) ≡ false) (sym (same_number n m h)) (same_any _ (λ _. false) _ (close_itself m f shut) es ∙ none_any (λ _. false) (λ _. refl) es);
      room = λ k. same_any _ _ _ (close_room n m k f) es ∙ t.room k;
    }
    kept (Some g) t h = record {
      started = same_any _ _ _ (close_started n m f) es ∙ t.started;
      live = subst (λ a. list_any (is_open_stroke m) (map (Rattle.doc_model.specs.Strokes.with_fate a f) es) ≡ false) (sym (same_number n m h)) (same_any _ (λ _. false) _ (close_itself m f shut) es ∙ none_any (λ _. false) (λ _. refl) es);
      room = λ k. same_any _ _ _ (close_room n m k f) es ∙ t.room k;
    }

    go : (b : Bool) → (n == m) ≡ b → Tells (map (Rattle.doc_model.specs.Strokes.with_fate n f) es) m (if b then closed old else old)
    go true h = kept old t h
    go false h = record {
      started = same_any _ _ _ (close_started n m f) es ∙ t.started;
      live = same_any _ _ _ (close_other n m f h) es ∙ t.live;
      room = λ k. same_any _ _ _ (close_room n m k f) es ∙ t.room k;
    }

-- why a command can't be added, by what is kept
misfit_is : (es : List Entry) (c : Command) (kept : ℕ → Option Fed) (x : ℕ) → ((n : ℕ) → Tells es n (kept n)) → x ≡ length (filter is_export es) → misfit_of es c ≡ option_or (export_misfit x c) (stroke_misfit kept c)
unfolding misfit_of
misfit_is es (command.Change change) kept x t h = refl
misfit_is es (command.Stroke n layer e) kept x t h = sym (start_same es n (kept n) (t n))
misfit_is es (command.Add n kind j) kept x t h = sym (job_same es n (kept n) (t n))
misfit_is es (command.End n) kept x t h = sym (close_same es n (kept n) (t n))
misfit_is es (command.Cancel n) kept x t h = sym (close_same es n (kept n) (t n))
misfit_is es command.Undo kept x t h = refl
misfit_is es command.Redo kept x t h = refl
misfit_is es (command.Purge keep) kept x t h = refl
misfit_is es command.Export kept x t h = rw h (last (nat_lt (length (filter is_export es)) 64))
  where
    last : (b : Bool) → (if b then None else Some TooManyExports) ≡ option_or (if b then None else Some TooManyExports) None
    last true = refl
    last false = refl

-- by the exports, and where they take it by the strokes
pub misfit_of_exports : (es : List Entry) (c : Command) (kept : ℕ → Option Fed) (x : ℕ) (o : Misfit) → ((n : ℕ) → Tells es n (kept n)) → x ≡ length (filter is_export es) → export_misfit x c ≡ Some o → misfit_of es c ≡ Some o
misfit_of_exports es c kept x o t h e = misfit_is es c kept x t h ∙ rw e refl

pub misfit_of_strokes : (es : List Entry) (c : Command) (kept : ℕ → Option Fed) (x : ℕ) → ((n : ℕ) → Tells es n (kept n)) → x ≡ length (filter is_export es) → export_misfit x c ≡ None → misfit_of es c ≡ stroke_misfit kept c
misfit_of_strokes es c kept x t h e = misfit_is es c kept x t h ∙ rw e refl

taken_free : (b : Bool) → (if b then Some UsedAgain else None) ≡ None → b ≡ false
taken_free true h = absurd (cc (h))
taken_free false h = refl

-- what is kept after a command that fits
pub step : (es : List Entry) (c : Command) (m : ℕ) (old : Option Fed) → misfit_of es c ≡ None → Tells es m old → Tells (fed es c) m (next_fed c m old)
unfolding misfit_of
step es (command.Change change) m old h t = other_more es m old (Changes change) refl refl (λ k. refl) t
step es (command.Stroke n layer x) m old h t = start_step es n m layer x old (taken_free (list_any (is_stroke n) es) h) t
step es (command.Add n kind j) m old h t = add_step es n m kind j old (λ e. job_same es m old t ∙ subst (λ a. option_or (not_open a es) (if list_any (has_room a) es then None else Some TooManyJobs) ≡ None) e h) t
step es (command.End n) m old h t = close_step es n m Ended refl old t
step es (command.Cancel n) m old h t = close_step es n m Cancelled refl old t
step es command.Undo m old h t = other_more es m old Undoes refl refl (λ k. refl) t
step es command.Redo m old h t = other_more es m old Redoes refl refl (λ k. refl) t
step es (command.Purge keep) m old h t = other_more es m old (Purges keep) refl refl (λ k. refl) t
step es command.Export m old h t = other_more es m old Exports refl refl (λ k. refl) t

count_more : (es : List Entry) (e : Entry) → length (filter is_export (es ++ e ∷ [])) ≡ length (filter is_export es) + length (filter is_export (e ∷ []))
count_more es e = ap length (filter-append is_export es (e ∷ [])) ∙ length-append (filter is_export es) (filter is_export (e ∷ []))

-- how many exports there are then
pub exports_step : (es : List Entry) (c : Command) (x : ℕ) → x ≡ length (filter is_export es) → exports_after x c ≡ length (filter is_export (fed es c))
exports_step es (command.Change change) x h = h ∙ sym (count_more es (Changes change) ∙ omega arith)
exports_step es (command.Stroke n layer e) x h = h ∙ sym (count_more es _ ∙ omega arith)
exports_step es (command.Add n kind j) x h = h ∙ sym (same_filter is_export _ (job_export n kind j) es)
exports_step es (command.End n) x h = h ∙ sym (same_filter is_export _ (close_export n Ended) es)
exports_step es (command.Cancel n) x h = h ∙ sym (same_filter is_export _ (close_export n Cancelled) es)
exports_step es command.Undo x h = h ∙ sym (count_more es Undoes ∙ omega arith)
exports_step es command.Redo x h = h ∙ sym (count_more es Redoes ∙ omega arith)
exports_step es (command.Purge keep) x h = h ∙ sym (count_more es (Purges keep) ∙ omega arith)
exports_step es command.Export x h = ap (λ n. n + 1) h ∙ sym (count_more es Exports)

few_step : (x : ℕ) (b : Bool) → nat_lt x 64 ≡ b → (if b then None else Some TooManyExports) ≡ None → x + 1 ≤ 64
few_step x true e h = grind (arith, nat_tests)
few_step x false e h = absurd (cc (h))

pub exports_few : (es : List Entry) (c : Command) (x : ℕ) → x ≡ length (filter is_export es) → x ≤ 64 → misfit_of es c ≡ None → exports_after x c ≤ 64
unfolding misfit_of
exports_few es (command.Change change) x e h f = h
exports_few es (command.Stroke n layer y) x e h f = h
exports_few es (command.Add n kind j) x e h f = h
exports_few es (command.End n) x e h f = h
exports_few es (command.Cancel n) x e h f = h
exports_few es command.Undo x e h f = h
exports_few es command.Redo x e h f = h
exports_few es (command.Purge keep) x e h f = h
exports_few es command.Export x e h f = few_step x (nat_lt x 64) refl (rw e f)
