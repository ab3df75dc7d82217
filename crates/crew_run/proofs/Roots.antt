-- What is done under a crew's lock leaves of the root, and of what is shown of it.
use Rattle.std.proofs.Common.{◌≡◌, ℕ, List, Option, Some, None, Ok, Err, OnErr, refl, sym, ap, ◌∙◌}
use Rattle.std.specs.Prelude.{Result, OnOk, IfOk, IfSome, slice_get}
use Rattle.pixel_core.specs.Rgba.{Rgba}
use Rattle.geom_core.specs.Areas.{Area}
use Rattle.geom_core.specs.Grid.{Key}
use Rattle.doc_model.specs.declared.command.Command.{Command}
use Rattle.whole_tiles.specs.Wholes.{Entire}
use Rattle.machine_model.specs.State.{State}
use Rattle.machine_model.specs.Event.{Feed}
use Rattle.machine_model.specs.Step.{Step}
use Rattle.walker_core.specs.Composing.{Composition}
use Rattle.desk_state.specs.Choices.{DoesAtOnce}
use Rattle.desk_state.specs.Enabled.{IsEnd}
use Rattle.desk_events.specs.Commits.{MayCommit, MayPublishRow, lacking_at, row_events}
use Rattle.desk_events.specs.SmallJobs.{PaintsSmall, small_events}
use Rattle.desk_core.specs.Commits.{Commits, PublishesRow, commit_events}
use Rattle.desk_core.specs.declared.answers.Published.{Published}
use Rattle.desk_core.proofs.KeptRoots.{root, step_root, run_root, brings_root, untouched_commit, untouched_small, untouched_pairs, untouched_end}
use Rattle.desk_core.proofs.KeptRoots.{untouched_at_once, row_of_key}
use Rattle.crew_run.specs.Watched.{Seen, SeesRoot, SeesRootBut, OwesAll, SeesTheSame, KeepsRoot}

-- ---- what is done under the lock

pub fed_root : {X E : Type 0} (r : Result X E) (old new : State) (c : Command) → OnOk r (Step old (Feed c) new) → OnErr r (new ≡ old) → KeepsRoot old new
fed_root (Ok x) old new c ok err = record { root = λ p. step_root p old new (Feed c) refl ok }
fed_root (Err e) old new c ok err = record { root = λ p. ap (root p) err }

pub commit_root : {E : Type 0} (old new : State) (place serial : ℕ) (tiles : List Entire) (r : Result Published E) → Commits old place serial tiles r new → KeepsRoot old new
commit_root old new place serial tiles r h = record { root = λ p. brings_root p (MayCommit old place serial tiles) (commit_events place tiles) old r new (untouched_commit p place tiles) h }

pub small_root : {old new : State} {bound : Area} → PaintsSmall old bound new → KeepsRoot old new
small_root {old = old} {new = new} small = record { root = λ p. run_root p (small_events small.place small.key small.count) old new (untouched_small p small.place small.key small.count) small.run }

pub end_root : (old new : State) (place : ℕ) → IsEnd old place new → KeepsRoot old new
end_root old new place h = record { root = λ p. step_root p old new h.0 (untouched_end p place h.0 h.1) h.2 }

pub at_once_root : {old new : State} {before now : ℕ} → DoesAtOnce old new before now → KeepsRoot old new
at_once_root {old = old} {new = new} did = record { root = λ p. step_root p old new did.event (untouched_at_once p did.event did.at_once) did.step }

pub same_root : {old new : State} → new ≡ old → KeepsRoot old new
same_root e = record { root = λ p. ap (root p) e }

-- small jobs may be painted, or none
pub smalls_root : {E : Type 0} (r : Result (Option Area) E) (old new : State) → IfOk r (λ o. IfSome o (λ bound. PaintsSmall old bound new)) → (r ≡ Ok None → new ≡ old) → OnErr r (new ≡ old) → KeepsRoot old new
smalls_root (Ok (Some bound)) old new some none err = small_root some
smalls_root (Ok None) old new some none err = same_root (none refl)
smalls_root (Err e) old new some none err = same_root err

-- ---- what is shown

-- the root stays
pub still_shown : {seen : Seen} {old new : State} → KeepsRoot old new → SeesRoot seen old → SeesRoot seen new
still_shown same seen = record { shows = λ p c e. seen.shows p c e ∙ sym (same.root p) }

-- a row of a walk is published
pub row_shown : {E : Type 0} {seen : Seen} (old new : State) (place serial : ℕ) (c : Composition) (key : Key) (r : Result Published E) → PublishesRow old place serial c key r new → SeesRoot seen old → SeesRootBut key seen new
row_shown old new place serial c key r row seen = record {
  shows = λ p d out e. seen.shows p d e
      ∙ sym (brings_root p (MayPublishRow old place serial c key) (row_events old place key) old r new (untouched_pairs p place key (lacking_at (slice_get old.slots place) key) out (row_of_key p (slice_get old.slots place) key)) row);
}

-- all is owed
pub owed_shown : {seen : Seen} {s : State} → OwesAll seen → SeesRoot seen s
owed_shown all = record { shows = λ p c e. absurd (none (sym (all.owes p) ∙ e)) }
  where
    none : {c : Rgba} → None ≡ Some c → ⊥
    none h = cc

-- the same is shown
pub same_shown : {old new : Seen} {s : State} → SeesTheSame old new → SeesRoot old s → SeesRoot new s
same_shown still seen = record { shows = λ p c e. seen.shows p c (sym (still.same p) ∙ e) }
