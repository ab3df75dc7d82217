-- Who may have a walk's ticket.
use Rattle.desk_events.specs.declared.tickets.WalkTicket.{WalkTicket}
use Rattle.host_pieces.specs.declared.held.Holding.{Holding}
use Rattle.host_pieces.specs.declared.held.Holding.TheVariants as holding

-- the ticket, whoever has it
abbrev pub ticket_in : Holding → WalkTicket
ticket_in (holding.One ticket) = ticket
ticket_in (holding.Parts ticket) = ticket.value
