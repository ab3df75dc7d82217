use Rattle.store_tests.proofs.Noted.{dropped_closed, rolled_back, rolled_forward}
use Rattle.store_tests.proofs.books.does.Goals as goal

pub returns-in_ok-paints-in-PaintAndDrop-clause-past : goal.returns-in_ok-paints-in-PaintAndDrop-clause-past
returns-in_ok-paints-in-PaintAndDrop-clause-past g c = (dropped_closed c.args.book.now c.paints-in-PaintAndDrop.new.book c.drop_open.new.self c.args.device.now.tiles c.paints-in-PaintAndDrop.new.device.tiles c.drop_open.new.plane.tiles (c.requires.closed, c.requires.past, c.requires.redo)
    c.in_ok-paints-in-PaintAndDrop.ensures.keys c.in_ok-paints-in-PaintAndDrop.ensures.open c.drop_open.ensures.back c.in_ok-paints-in-PaintAndDrop.ensures.past c.in_ok-paints-in-PaintAndDrop.ensures.redo c.drop_open.ensures.new).1

pub returns-in_ok-paints-in-PaintAndDrop-clause-redo : goal.returns-in_ok-paints-in-PaintAndDrop-clause-redo
returns-in_ok-paints-in-PaintAndDrop-clause-redo g c = (dropped_closed c.args.book.now c.paints-in-PaintAndDrop.new.book c.drop_open.new.self c.args.device.now.tiles c.paints-in-PaintAndDrop.new.device.tiles c.drop_open.new.plane.tiles (c.requires.closed, c.requires.past, c.requires.redo)
    c.in_ok-paints-in-PaintAndDrop.ensures.keys c.in_ok-paints-in-PaintAndDrop.ensures.open c.drop_open.ensures.back c.in_ok-paints-in-PaintAndDrop.ensures.past c.in_ok-paints-in-PaintAndDrop.ensures.redo c.drop_open.ensures.new).2

pub returns-in-Back-clause-past : goal.returns-in-Back-clause-past
returns-in-Back-clause-past g c = (rolled_back c.rollback.result c.args.book.now c.rollback.new.self c.args.device.now c.rollback.new.plane c.rollback.ensures.back c.rollback.ensures.kept (c.requires.closed, c.requires.past, c.requires.redo)).1

pub returns-in-Forth-clause-redo : goal.returns-in-Forth-clause-redo
returns-in-Forth-clause-redo g c = (rolled_forward c.rollforward.result c.args.book.now c.rollforward.new.self c.args.device.now c.rollforward.new.plane c.rollforward.ensures.forth c.rollforward.ensures.kept (c.requires.closed, c.requires.past, c.requires.redo)).2
