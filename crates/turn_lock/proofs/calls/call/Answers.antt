use Rattle.turn_lock.proofs.Calling.{gives_back, calls_end}
use Rattle.turn_lock.proofs.calls.call.Goals as goal

pub end_turn-requires-clause-turn : goal.end_turn-requires-clause-turn
end_turn-requires-clause-turn g c =
    gives_back g.D.Board.artist g.D.Board.lawful g.D.Board.history g.D.Board.fixed c.args.seat.now.me c.take_turn-value.new.seat.me c.take_turn-value.result c.accept-answer.new.self c.args.entry.now c.accept-answer.result
    c.take_turn-value.ensures.view c.accept-answer.ensures.answer c.accept-answer.ensures.stays c.requires.own c.requires.few

pub returns-clause-turn : goal.returns-clause-turn
returns-clause-turn g c =
    (calls_end g.D.Board.artist g.D.Board.lawful g.D.Board.history g.D.Board.fixed c.args.seat.now.me c.take_turn-value.new.seat.me c.end_turn.new.seat.me c.take_turn-value.result c.accept-answer.new.self c.args.entry.now c.accept-answer.result
    c.take_turn-value.ensures.view c.take_turn-value.ensures.found c.accept-answer.ensures.answer c.end_turn.ensures.view).0

pub returns-clause-view : goal.returns-clause-view
returns-clause-view g c =
    (calls_end g.D.Board.artist g.D.Board.lawful g.D.Board.history g.D.Board.fixed c.args.seat.now.me c.take_turn-value.new.seat.me c.end_turn.new.seat.me c.take_turn-value.result c.accept-answer.new.self c.args.entry.now c.accept-answer.result
    c.take_turn-value.ensures.view c.take_turn-value.ensures.found c.accept-answer.ensures.answer c.end_turn.ensures.view).1
