use Rattle.std.proofs.Common.{◌∙◌, ap, subst}
use Rattle.tile_core.specs.Pixels.{Pixels}
use Rattle.tile_core.specs.Blocks.{piece}
use Rattle.doc_model.specs.declared.job.Job.TheVariants as job
use Rattle.job_core.specs.Points.{LaysJob}
use Rattle.job_core.proofs.Keys.{due_key}
use Rattle.job_core.proofs.Values.{refilled}
use Rattle.job_core.proofs.Tracked.{track_painted}
use Rattle.job_core.proofs.tracks.tracked.Goals as goal

pub rect-rect-requires : goal.rect-rect-requires
rect-rect-requires c = due_key _ _ _ c.requires

pub returns : goal.returns
returns c = track_painted c.args.track.now c.args.cell c.args.key c.args.shot.now c.rect-rect.result c.in_ok-pixels.pixels.items c.lay_track.new.tile c.from_pixels.result c.requires c.rect-rect.ensures c.in_ok-pixels.ensures.has
    (subst (λ (old : Pixels). LaysJob c.args.key (job.Track c.args.track.now c.args.key) old c.lay_track.new.tile) c.deref_mut.ensures.value c.lay_track.ensures)
    (c.from_pixels.ensures ∙ ap (λ ps. piece c.args.key c.rect-rect.result ps) (refilled c.in_ok-pixels.pixels.len c.lay_track.new.tile c.in_ok-pixels.pixels.items (c.lay_track.auto.tile ∙ c.deref_mut.ensures.len)))
