use Rattle.std.proofs.Common.{rules, ◌≡◌, Ok, ap, ◌∙◌, subst}
use Rattle.std.specs.Prelude.{Result}
use Rattle.geom_core.specs.declared.NoMemory.{NoMemory}
use Rattle.walker_core.specs.Composing.{Composition, composition, tiles_in}
use Rattle.walker_core.specs.declared.rows.Rows.{Rows}
use Rattle.desk_core.specs.declared.answers.Published.{Published}
use Rattle.desk_core.specs.declared.answers.Published.TheVariants as answers
use Rattle.desk_events.specs.declared.tickets.WalkTicket.{WalkTicket}
use Rattle.host_pieces.specs.Giving.{RowsAnswered}
use Rattle.host_pieces.proofs.GivenPieces.{walk_breaks, walk_stored}
use Rattle.host_pieces.proofs.walk_piece.WalkPiece.give_to.Goals as goal

pub returns-in-Ok-Stored-clause-given : goal.returns-in-Ok-Stored-clause-given
returns-in-Ok-Stored-clause-given c =
    let of : c.on-composed.result ≡ composition c.self.inside.held.inputs (tiles_in c.self.inside.rows) =
    c.on-composed.ensures ∙ ap (λ (k : WalkTicket). composition k.inputs (tiles_in c.replace-rows.result)) c.ticket-2.ensures ∙ ap (λ (x : Rows). composition c.self.inside.held.inputs (tiles_in x)) c.replace-rows.ensures.value in
    let stored : c.publish_rows-published.result ≡ Ok answers.Stored = search rules in
    walk_stored c.args.desk.now c.publish_rows-published.new.desk c.end.new.desk c.self.inside.held c.self.inside.part.keys (tiles_in c.self.inside.rows) c.self.inside.load c.ticket.result.now.slot c.on-composed.result c.args.self.now c.self.view_is
    (ap (λ (k : WalkTicket). k.slot) c.ticket.ensures) of (c.is_done.ensures.0 c.if-not-is_done.false)
    (tiles_in c.into_rows.result) c.end.result (c.into_rows.ensures.tiles ∙ ap (λ (d : Composition). d.keys) of)
    (subst (λ (r : Result Published NoMemory). RowsAnswered c.args.desk.now c.ticket.result.now.slot c.on-composed.result c.self.inside.part.keys r c.publish_rows-published.new.desk) stored c.publish_rows-published.ensures)
    c.end.ensures

pub returns-in-Err-clause-given : goal.returns-in-Err-clause-given
returns-in-Err-clause-given c =
    let of : c.on-composed.result ≡ composition c.self.inside.held.inputs (tiles_in c.self.inside.rows) =
    c.on-composed.ensures ∙ ap (λ (k : WalkTicket). composition k.inputs (tiles_in c.replace-rows.result)) c.ticket-2.ensures ∙ ap (λ (x : Rows). composition c.self.inside.held.inputs (tiles_in x)) c.replace-rows.ensures.value in
    walk_breaks c.args.desk.now c.args.desk.now c.publish_rows-published.new.desk c.self.inside.held c.self.inside.part.keys (tiles_in c.self.inside.rows) c.self.inside.load c.ticket.result.now.slot c.on-composed.result c.args.self.now c.self.view_is
    (ap (λ (k : WalkTicket). k.slot) c.ticket.ensures) of (c.is_done.ensures.0 c.if-not-is_done.false)
    (subst (λ (r : Result Published NoMemory). RowsAnswered c.args.desk.now c.ticket.result.now.slot c.on-composed.result c.self.inside.part.keys r c.publish_rows-published.new.desk) c.in-Err.is c.publish_rows-published.ensures)
