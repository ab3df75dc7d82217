use Rattle.host_pieces.proofs.PaintedJobs.{goes_then}
use Rattle.host_pieces.proofs.job_piece.JobPiece.work.Goals as goal

pub returns-clause-on : goal.returns-clause-on
returns-clause-on c = goes_then c.args.self.now c.begin.new.self c.paint.new.self c.begin.ensures.on c.paint.ensures.on
