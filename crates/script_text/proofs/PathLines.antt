-- What lines of paths say, and how they are added.
use Rattle.std.proofs.Common.{◌≡◌, ℕ, suc, map, take, drop, length, get_or, [], ◌∷◌, ◌++◌, append_assoc, append-nil, ◌+◌, ◌-◌, ◌≤◌, ◌<◌, min, true, false, nat_le, if◌then◌else◌, Option, Some, None, Ok, Err, List, refl, sym, subst, ap, ◌∙◌, arith}
use Rattle.std.specs.Prelude.{pos, is_some, Result, OnOk}
use Rattle.std.specs.Borrow.{Bor}
use Rattle.std.specs.Option.{option_map, option_or, option_to_list}
use Rattle.std.specs.Result.{result_ok}
use Rattle.std.specs.Str.{bytes_eq}
use Rattle.std.proofs.lemmas.Bool.Decides.{nat_tests}
use Rattle.std.proofs.lemmas.List.{get_or-map, length-map, map-append, take_all, take_more}
use Rattle.std.proofs.lemmas.Slice.Eq.{bytes_eq-Decides}
use Rattle.geom_core.specs.Grid.{key}
use Rattle.doc_model.specs.declared.canvas.Canvas.{Canvas}
use Rattle.doc_model.specs.declared.command.Command.{Command}
use Rattle.doc_model.specs.declared.command.Command.TheVariants as command
use Rattle.doc_model.specs.declared.job.Job.{Job}
use Rattle.doc_model.specs.declared.job.Job.TheVariants as job
use Rattle.doc_model.specs.declared.job.Kind.TheVariants.{Con}
use Rattle.doc_model.specs.Trails.{Trail}
use Rattle.doc_model.specs.Strokes.{Entry, entries}
use Rattle.doc_model.proofs.Feeding.{entries_last}
use Rattle.brush_path.specs.Cells.{cells, jobs}
use Rattle.command_log.specs.declared.refusal.Misfit.{Misfit}
use Rattle.command_log.specs.declared.refusal.Misfit.TheVariants.{TooManyJobs}
use Rattle.command_log.specs.Misfits.{jobs_misfit}
use Rattle.command_log.proofs.Rooms.{fits_after, first_fits}
use Rattle.script_lines.specs.declared.cause.Cause.{Cause}
use Rattle.script_lines.specs.declared.cause.Cause.TheVariants as cause
use Rattle.script_lines.specs.Fronts.{pointed}
use Rattle.script_forms.specs.Forms.{canvas_text, path_text, word_of}
use Rattle.script_forms.specs.Jobs.{Fields, path}
use Rattle.script_forms.specs.Ranges.{job_in_range, trail_in_range}
use Rattle.script_text.specs.declared.script.ReadRefusal.{ReadRefusal}
use Rattle.script_text.specs.declared.reading.Reading.{Reading}
use Rattle.script_text.specs.Paths.{adding, path_in, path_jobs, path_commands, path_misfit}
use Rattle.script_text.specs.Read.{Takes, TakesPath}
use Rattle.script_text.specs.Reading.{canvas_in, command_in, cause_of, misfit, path_cause, start_by, track_cause}

-- so many jobs are added, and there is room for the others
pub record JobsAdded (old now : List Command) (n : ℕ) (jobs : List Job) (i : ℕ) : Type 0 where
  pub all : now ≡ old ++ adding n (take i jobs)
  pub room : jobs_misfit (entries now) n (length jobs - i) ≡ None

pub job_added : (old now new : List Command) (n : ℕ) (jobs : List Job) (i : ℕ) (d : Job) → i < length jobs → new ≡ now ++ command.Add n Con (get_or jobs i d) ∷ [] → JobsAdded old now n jobs i → JobsAdded old new n jobs (i + 1)
job_added old now new n jobs i d h e so =
    let j : Job = get_or jobs i d in
    let left : length jobs - i ≡ suc (length jobs - (i + 1)) = omega arith in
    record {
      all = e ∙ ap (λ l. l ++ command.Add n Con j ∷ []) so.all ∙ append_assoc old (adding n (take i jobs)) (command.Add n Con j ∷ [])
          ∙ ap (λ l. old ++ l) (sym (ap (adding n) (take_more jobs i d h) ∙ map-append (command.Add n Con) (take i jobs) (j ∷ [])));
      room = ap (λ es. jobs_misfit es n (length jobs - (i + 1))) (ap entries e ∙ entries_last now (command.Add n Con j))
          ∙ fits_after (entries now) n (length jobs - (i + 1)) Con j (ap (jobs_misfit (entries now) n) (sym left) ∙ so.room);
    }

pub next_fits : (old now : List Command) (n : ℕ) (jobs : List Job) (i : ℕ) (j : Job) → i < length jobs → JobsAdded old now n jobs i → misfit (entries now) (command.Add n Con j) ≡ None
unfolding misfit
next_fits old now n jobs i j h so =
    let left : length jobs - i ≡ suc (length jobs - (i + 1)) = omega arith in
    ap (option_map cause_of) (first_fits (entries now) n (length jobs - (i + 1)) Con j (ap (jobs_misfit (entries now) n) (sym left) ∙ so.room))

-- the jobs of a path are in range
pub path_in_range : (t : Trail) (js : List Job) → js ≡ jobs t → trail_in_range t ≡ true → (k : ℕ) (d : Job) → k < length js → job_in_range (get_or js k d) ≡ true
path_in_range t js e h k d lt =
    let small : k < length (jobs t) = subst (λ (l : List Job). k < length l) e lt in
    let few : k < length (cells t) = omega (arith, length-map (cells t) (job.Track t)) in
    ap (λ l. job_in_range (get_or l k d)) e ∙ ap job_in_range (get_or-map (job.Track t) (cells t) k (key (pos 0) (pos 0)) d few) ∙ h

cells_fit : (a b s : ℕ) → b < 4294967296 → a < 18446744073709551616 → s ≡ min (a + b) 18446744073709551615 → s ≤ 65536 → nat_le (b + a) 65536 ≡ true
cells_fit a b s h k e l = let few : b + a ≤ 65536 = omega arith in at_most (b + a) few
  where
    at_most : (n : ℕ) → n ≤ 65536 → nat_le n 65536 ≡ true
    at_most n h = grind (arith, nat_tests)

-- a misfit that stays one behind others
misfit_first : (a b : Option Misfit) (c : Cause) → Some c ≡ option_map cause_of a → option_map cause_of (option_or a b) ≡ Some c
misfit_first None b c h = absurd (cc (h))
misfit_first (Some m) b c h = sym h

misfit_last : (a b : Option Misfit) → None ≡ option_map cause_of a → option_map cause_of (option_or a b) ≡ option_map cause_of b
misfit_last None b h = refl
misfit_last (Some m) b h = absurd (cc (h))

-- a path whose stroke can't take its jobs
pub path_unfit : (es : List Entry) (n cells : ℕ) (t : Trail) (len : ℕ) (c : Cause) → Some c ≡ option_map cause_of (jobs_misfit es n len) → len ≡ length (jobs t) → option_map cause_of (path_misfit es cells n t) ≡ Some c
path_unfit es n cells t len c h e = misfit_first (jobs_misfit es n (length (jobs t))) _ c (h ∙ ap (λ k. option_map cause_of (jobs_misfit es n k)) e)

-- jobs that fit their stroke
pub jobs_fit : (es : List Entry) (n len many : ℕ) → None ≡ option_map cause_of (jobs_misfit es n len) → len ≡ many → jobs_misfit es n many ≡ None
jobs_fit es n len many h e = ap (jobs_misfit es n) (sym e) ∙ none_told (jobs_misfit es n len) h
  where
    none_told : (o : Option Misfit) → None ≡ option_map cause_of o → o ≡ None
    none_told None h = refl
    none_told (Some m) h = absurd (cc (h))

-- a path that fits
pub path_fits : (es : List Entry) (n cells : ℕ) (t : Trail) (len other s : ℕ) → None ≡ option_map cause_of (jobs_misfit es n len) → len ≡ length (jobs t) → other ≡ length (jobs t) → cells < 4294967296 → other < 18446744073709551616 → s ≡ min (other + cells) 18446744073709551615 → s ≤ 65536
    → option_map cause_of (path_misfit es cells n t) ≡ None
path_fits es n cells t len other s none e f h k g few =
    misfit_last (jobs_misfit es n (length (jobs t))) _ (none ∙ ap (λ k. option_map cause_of (jobs_misfit es n k)) e)
    ∙ ap (λ b. option_map cause_of (if b then None else Some TooManyJobs)) (ap (λ l. nat_le (cells + l) 65536) (sym f) ∙ cells_fit other cells s h k g few)

pub path_cause_is : (o : Option Canvas) (cells : ℕ) (cs : List Command) (others : Fields) (n : ℕ) (t : Trail) → is_some o ≡ true → Ok (n, t) ≡ path others → option_map cause_of (path_misfit (entries cs) cells n t) ≡ path_cause o cells cs others
path_cause_is None cells cs others n t h e = absurd (cc (h))
path_cause_is (Some c) cells cs others n t h e = ap (track_cause cells cs) e

no_word : (w : List ℕ) → w ≡ path_text → word_of w ≡ None
unfolding word_of
no_word w e = ap word_of e

first_same : (o : Option Canvas) → o ≡ option_or o None
first_same None = refl
first_same (Some c) = refl

takes_by : (old new : Reading) (n : ℕ) (w : List ℕ) (others : Fields) → w ≡ path_text → TakesPath old new (result_ok (path others)) → Takes old new n (w ∷ others)
takes_by old new n w others e t =
    let no_canvas : bytes_eq w canvas_text ≡ false = ap (λ v. bytes_eq v canvas_text) e in
    let is_path : bytes_eq w path_text ≡ true = ap (λ v. bytes_eq v path_text) e in
    let canvas : canvas_in (w ∷ others) ≡ None = rw no_canvas refl in
    let command : command_in (w ∷ others) ≡ None = rw (no_canvas, no_word w e) refl in
    let said : path_in (w ∷ others) ≡ result_ok (path others) = rw is_path refl in
    record {
      canvas = t.canvas ∙ first_same old.canvas ∙ ap (option_or old.canvas) (sym canvas);
      draft = t.draft ∙ (λ i. old.draft ++ (option_to_list (sym command i) ++ path_commands (sym said i)));
      starts = t.starts ∙ sym (append-nil old.starts.items) ∙ ap (λ o. old.starts.items ++ option_to_list (start_by n o)) (sym command);
      cells = t.cells ∙ ap (λ o. old.cells + length (path_jobs o)) (sym said);
    }

pub path_taken : (r : Result (Unit {0}) ReadRefusal) (old new : Reading) (n : ℕ) (refs : List (Bor (List ℕ))) (d : Bor (List ℕ)) → 1 ≤ length refs → true ≡ bytes_eq (get_or refs 0 d).now path_text
    → OnOk r (TakesPath old new (result_ok (path (pointed (take (length refs - 1) (drop 1 refs)))))) → OnOk r (Takes old new n (pointed refs))
path_taken r old new n [] d h e t = absurd (omega arith)
path_taken r old new n (w ∷ ws) d h e t =
    let all : take (length (w ∷ ws) - 1) ws ≡ ws = take_all (length (w ∷ ws) - 1) ws (omega arith) in
    on_ok r (λ u. takes_by old new n w.now (pointed ws) (same_bytes w.now (sym e)) u) (subst (λ (l : List (Bor (List ℕ))). OnOk r (TakesPath old new (result_ok (path (pointed l))))) all t)
  where
    on_ok : {P Q : Type 0} (r : Result (Unit {0}) ReadRefusal) → (P → Q) → OnOk r P → OnOk r Q
    on_ok (Ok u) f p = f p
    on_ok (Err e) f p = p

    same_bytes : (w : List ℕ) → bytes_eq w path_text ≡ true → w ≡ path_text
    same_bytes w h = grind (arith, bytes_eq-Decides, nat_tests)
