use Rattle.std.proofs.Common.{refl, sym, subst}
use Rattle.job_core.specs.Paints.{layer_of}
use Rattle.job_core.specs.Due.{IsDue}
use Rattle.tile_core.specs.Shots.{Sight}
use Rattle.whole_tiles.specs.Wholes.{IsEntire, Shows, entire}
use Rattle.whole_tiles.proofs.Hanging.{key_of_job}
use Rattle.whole_tiles.proofs.News.{is_entire, shows_shot}
use Rattle.whole_tiles.proofs.whole.whole_tile_like.Goals as goal

pub invariant_of-result : goal.invariant_of-result
invariant_of-result c =
    let due : IsDue c.args.job.now c.args.shot.now c.args.key = record { checked = c.requires.checked; limits = c.requires.limits; seen = c.requires.seen; met = c.requires.met } in
    subst (λ (base : Sight). IsEntire (entire c.args.job.now c.args.key c.needs_of-needs.result base c.in_ok-tile.tile)) (sym c.in_ok-base.ensures)
    (is_entire c.args.job.now c.args.shot.now c.args.key c.needs_of-needs.result c.in_ok-tile.tile due c.needs_of-needs.ensures (key_of_job c.args.job.now c.args.key c.requires.checked c.requires.limits c.requires.met) c.in_ok-tile.ensures)

pub returns-clause-of : goal.returns-clause-of
returns-clause-of c =
    let due : IsDue c.args.job.now c.args.shot.now c.args.key = record { checked = c.requires.checked; limits = c.requires.limits; seen = c.requires.seen; met = c.requires.met } in
    let shows : Shows c.needs_of-needs.result c.args.shot.now (layer_of c.args.shot.now) = shows_shot c.args.job.now c.args.shot.now c.args.key c.needs_of-needs.result c.in_ok-tile.tile due c.needs_of-needs.ensures in
    record { job = refl; key = refl; shows = subst (λ (base : Sight). Shows c.needs_of-needs.result base (layer_of c.args.shot.now)) (sym c.in_ok-base.ensures) shows }
