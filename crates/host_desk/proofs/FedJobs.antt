-- Jobs of a stroke that are fed one after another.
use Rattle.std.proofs.Common.{◌≡◌, ℕ, suc, ◌+◌, ◌-◌, ◌<◌, true, List, [], ◌∷◌, ◌++◌, map, take, length, get_or, refl, sym, subst, ap, ◌∙◌, arith}
use Rattle.std.proofs.lemmas.List.{map-append, take-map, take_more}
use Rattle.geom_core.proofs.Tests.{length_map}
use Rattle.doc_model.specs.declared.command.Command.{Command}
use Rattle.doc_model.specs.declared.command.Command.TheVariants as command
use Rattle.doc_model.specs.declared.job.Job.{Job}
use Rattle.doc_model.specs.declared.job.Kind.TheVariants.{Con}
use Rattle.doc_model.specs.Lawful.{may_follow}
use Rattle.doc_model.specs.Strokes.{entries}
use Rattle.command_log.specs.Misfits.{jobs_misfit}
use Rattle.command_log.proofs.Rooms.{first_fits}
use Rattle.machine_model.specs.State.{State}
use Rattle.machine_model.specs.Event.{Event, Feed}
use Rattle.machine_model.specs.Step.{Run, Step}
use Rattle.desk_state.proofs.SettlingRuns.{run_then}
use Rattle.script_text.specs.Paths.{adding}
use Rattle.script_text.proofs.PathLines.{JobsAdded, job_added}
use Rattle.script_text.proofs.Legal.{follows}
use Rattle.script_forms.specs.Ranges.{is_sound}
use Rattle.host_desk.specs.Feeding.{Feeds, FeedsFront}

-- so many of the jobs are fed, and there is room for the others
pub record HasFed (old now : State) (n : ℕ) (jobs : List Job) (i : ℕ) : Type 0 where
  pub run : Feeds old (adding n (take i jobs)) now
  pub added : JobsAdded old.fed now.fed n jobs i
  pub count : length now.fed ≡ length old.fed + i

fed_by_step : (s t : State) (c : Command) → Step s (Feed c) t → t.fed ≡ s.fed ++ c ∷ []
fed_by_step s t c step = ap (λ (u : State). u.fed) step.1

pub fed_more : (old now new : State) (n : ℕ) (jobs : List Job) (i : ℕ) (d : Job) → i < length jobs → Step now (Feed (command.Add n Con (get_or jobs i d))) new → HasFed old now n jobs i → HasFed old new n jobs (i + 1)
fed_more old now new n jobs i d h step so =
    let c : Command = command.Add n Con (get_or jobs i d) in
    let all : adding n (take (i + 1) jobs) ≡ adding n (take i jobs) ++ c ∷ [] = ap (adding n) (take_more jobs i d h) ∙ map-append (command.Add n Con) (take i jobs) (get_or jobs i d ∷ []) in
    let events : map Feed (adding n (take (i + 1) jobs)) ≡ map Feed (adding n (take i jobs)) ++ Feed c ∷ [] = ap (map Feed) all ∙ map-append Feed (adding n (take i jobs)) (c ∷ []) in
    record {
      run = subst (λ (es : List Event). Run old es new) (sym events) (run_then (map Feed (adding n (take i jobs))) (Feed c ∷ []) old now new so.run (new, step, refl));
      added = job_added old.fed now.fed new.fed n jobs i d h (fed_by_step now new c step) so.added;
      count = ap (λ (l : List Command). length l) (fed_by_step now new c step) ∙ one_more now.fed c ∙ ap (λ k. k + 1) so.count ∙ over (length old.fed) i;
    }
  where
    one_more : (l : List Command) (c : Command) → length (l ++ c ∷ []) ≡ length l + 1
    one_more [] c = refl
    one_more (x ∷ l) c = let more : length (l ++ c ∷ []) ≡ length l + 1 = one_more l c in omega (arith, more)

    over : (a b : ℕ) → (a + b) + 1 ≡ a + (b + 1)
    over a b = omega arith

-- the next of them may follow
pub next_follows : (old now : State) (n : ℕ) (jobs : List Job) (i : ℕ) (j : Job) → i < length jobs → is_sound (command.Add n Con j) ≡ true → HasFed old now n jobs i → may_follow (entries now.fed) (command.Add n Con j) ≡ true
next_follows old now n jobs i j h sound so =
    let left : length jobs - i ≡ suc (length jobs - (i + 1)) = omega arith in
    follows (entries now.fed) (command.Add n Con j) (first_fits (entries now.fed) n (length jobs - (i + 1)) Con j (ap (jobs_misfit (entries now.fed) n) (sym left) ∙ so.added.room)) sound

-- one of them isn't fed
pub fed_front : (old now new : State) (n : ℕ) (jobs : List Job) (i : ℕ) → i < length jobs → new ≡ now → HasFed old now n jobs i → FeedsFront old (adding n jobs) new
fed_front old now new n jobs i h same so =
    let count : length (adding n jobs) ≡ length jobs = length_map (command.Add n Con) jobs in
    record {
      count = i;
      short = omega arith;
      run = subst (λ (s : State). Feeds old (take i (adding n jobs)) s) (sym same) (subst (λ (cs : List Command). Feeds old cs now) (sym (take-map (command.Add n Con) i jobs)) so.run);
    }
