use Rattle.std.proofs.Common.{◌≡◌, true, ap, subst, ◌∙◌, sym}
use Rattle.std.specs.List.{list_any}
use Rattle.geom_core.specs.Grid.{same_key, all_keys_of}
use Rattle.doc_model.specs.declared.job.Job.{Job}
use Rattle.doc_model.specs.declared.job.Job.TheVariants as job
use Rattle.doc_model.specs.Jobs.{writes}
use Rattle.job_core.specs.Points.{LaysJob}
use Rattle.job_core.specs.Tasks.{job_of}
use Rattle.job_core.proofs.Tracked.{key_is_cell}
use Rattle.job_core.proofs.points.lay_job.Goals as goal

pub returns-in-Dab : goal.returns-in-Dab
returns-in-Dab c = subst (λ (j : Job). LaysJob c.args.key j c.args.tile.now c.dab_in.new.tile) (ap job_of (sym c.in-Dab.is) ∙ c.task_of.ensures) c.dab_in.ensures

pub returns-in-Track : goal.returns-in-Track
returns-in-Track c =
    let e : job.Track c.in-Track.track c.in-Track.cell ≡ c.args.job.now = ap job_of (sym c.in-Track.is) ∙ c.task_of.ensures in
    let met : list_any (same_key c.args.key) (all_keys_of (writes (job.Track c.in-Track.track c.in-Track.cell))) ≡ true = subst (λ (j : Job). list_any (same_key c.args.key) (all_keys_of (writes j)) ≡ true) (sym e) c.requires.work.met in
    subst (λ (j : Job). LaysJob c.args.key j c.args.tile.now c.lay_track.new.tile) (ap (job.Track c.in-Track.track) (key_is_cell c.in-Track.cell c.args.key met) ∙ e) c.lay_track.ensures
