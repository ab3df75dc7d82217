use Rattle.std.proofs.Common.{List, refl, ap, subst}
use Rattle.whole_tiles.specs.Wholes.{Entire}
use Rattle.desk_events.specs.Commits.{RunsFront}
use Rattle.desk_core.specs.Commits.{commit_events}
use Rattle.host_pieces.specs.declared.job_piece.Stage.TheVariants.{Made}
use Rattle.host_pieces.specs.Jobs.{are_made}
use Rattle.host_pieces.proofs.GivenPieces.{kept_others}
use Rattle.host_pieces.proofs.KeptTiles.{goes_on}
use Rattle.host_pieces.proofs.job_piece.JobPiece.give_to.Goals as goal

pub returns-in-Err-clause-kept : goal.returns-in-Err-clause-kept
returns-in-Err-clause-kept c =
    kept_others c.args.desk.now c.commit.new.self c.args.self.now (record c.args.self.now { stage = Made c.keep_lacking.new.tiles }) refl (record {
      had = c.in-Made.tiles.items;
      was = ap are_made c.in-Made.is;
      has = c.keep_lacking.new.tiles.items;
      is = refl;
      lets_go = c.keep_lacking.ensures;
      goes_on = goes_on c.args.desk.now c.commit.new.self c.args.self.now.slot c.in-Made.tiles.items c.keep_lacking.new.tiles.items
          (subst (λ (xs : List Entire). RunsFront c.args.desk.now (commit_events c.args.self.now.slot.place xs) c.commit.new.self) c.deref.ensures.value c.in-Err.ensures.answer)
          c.keep_lacking.ensures;
    })
