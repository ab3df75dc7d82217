use Rattle.doc_model.specs.Jobs.{reads}
use Rattle.whole_tiles.proofs.Seen.{own_seen}
use Rattle.whole_tiles.proofs.painting.Painting.new.Goals as goal

pub invariant_of-result : goal.invariant_of-result
invariant_of-result c = record {
  plan = record { checked = c.requires.checked; limits = c.requires.limits; seen = own_seen c.args.shot.rects (reads c.args.job) c.requires.kept };
  tiles = c.in_ok-keys.ensures;
}
