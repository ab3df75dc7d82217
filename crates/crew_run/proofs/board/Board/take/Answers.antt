use Rattle.crew_run.proofs.Roots.{still_shown, smalls_root}
use Rattle.crew_run.proofs.board.Board.take.Goals as goal

pub invariant_of-self-then-self-eq1-clause-shows : goal.invariant_of-self-then-self-eq1-clause-shows
invariant_of-self-then-self-eq1-clause-shows g c =
    let small = c.paint_small.ensures in
    still_shown (smalls_root c.paint_small.result _ _ small.some small.none small.err) (still_shown c.feed_ahead.ensures.root c.args.self.now.shows)
