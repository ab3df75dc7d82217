-- Jobs that may be at work side by side commute.
use Rattle.std.proofs.Common.{◌≡◌, false}
use Rattle.geom_core.proofs.Tests.{none_left, none_right}
use Rattle.doc_model.specs.declared.job.Job.{Job}
use Rattle.doc_model.specs.declared.job.Kind.{Kind}
use Rattle.doc_model.specs.Jobs.{reads, writes}
use Rattle.doc_model.specs.Laws.{Apart}
use Rattle.doc_model.specs.Strokes.{Jobs, disturb, any_meet}
use Rattle.doc_model.specs.Kept.{kept}
use Rattle.doc_model.proofs.Conflicts.{apart_unless_meet, kept_clear}
use Rattle.doc_model.proofs.Commuting.{jobs_commute, tiles_commute}
use Rattle.machine_model.specs.UnderWay.{both_uni}
use Rattle.machine_model.specs.CommutingLaws.{AreOfOneRun, RunCommutes, RunTilesCommute}
use Rattle.machine_model.proofs.Lists.{length_above}
use Rattle.machine_model.proofs.RunsApart.{no_disturb}

-- neither writes what the other reads
no_clash : (jobs : Jobs) (a b : Kind × Job) → AreOfOneRun jobs a b → disturb a.1 b.1 ≡ false
no_clash jobs a b one = no_disturb (kept jobs) one.i one.j a b one.first one.second one.run not_both (kept_clear jobs one.i one.j one.before (length_above (kept jobs) one.j b one.second))
  where
    not_both : both_uni (kept jobs) one.i one.j ≡ false
    not_both = rw (one.first, one.second) one.not_both

apart_one : (jobs : Jobs) (a b : Kind × Job) → AreOfOneRun jobs a b → Apart (writes a.1) (reads b.1)
apart_one jobs a b one = apart_unless_meet (writes a.1) (reads b.1) (none_left _ _ (no_clash jobs a b one))

apart_other : (jobs : Jobs) (a b : Kind × Job) → AreOfOneRun jobs a b → Apart (writes b.1) (reads a.1)
apart_other jobs a b one = apart_unless_meet (writes b.1) (reads a.1) (none_right (any_meet (writes a.1) (reads b.1)) _ (no_clash jobs a b one))

pub run_commutes : RunCommutes
run_commutes jobs a b layer one = jobs_commute a.1 b.1 layer (apart_one jobs a b one) (apart_other jobs a b one)

pub run_tiles_commute : RunTilesCommute
run_tiles_commute jobs a b shot_a shot_b k l layer one = tiles_commute a.1 b.1 shot_a shot_b k l layer (apart_one jobs a b one) (apart_other jobs a b one)
