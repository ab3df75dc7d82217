use Rattle.std.proofs.Common.{sym, subst}
use Rattle.host_pieces.specs.declared.piece.Piece.{Piece}
use Rattle.host_pieces.specs.declared.piece.Piece.TheVariants as piece
use Rattle.host_pieces.specs.Giving.{WorkKept}
use Rattle.host_pieces.proofs.GivenRows.{walk_kept}
use Rattle.host_pieces.proofs.piece.Piece.give_to.Goals as goal

pub returns-in-Walk-clause-kept : goal.returns-in-Walk-clause-kept
returns-in-Walk-clause-kept c =
    subst (λ (p : Piece). WorkKept c.args.desk.now c.give_to-in-Walk.new.desk p c.give_to-in-Walk.result (piece.Walk c.give_to-in-Walk.new.self)) (sym c.in-Walk.is)
    (walk_kept c.args.desk.now c.give_to-in-Walk.new.desk c.in-Walk.walk c.give_to-in-Walk.result c.give_to-in-Walk.new.self c.give_to-in-Walk.ensures.given c.give_to-in-Walk.ensures.kept)
