use Rattle.std.proofs.Common.{Ok, ap}
use Rattle.desk_steps.specs.Archives.{Archive}
use Rattle.store_tests.proofs.Puts.{put_keeps}
use Rattle.store_tests.proofs.clear_moves.moves.Goals as goal

pub finish-requires-clause-under_way : goal.finish-requires-clause-under_way
finish-requires-clause-under_way g c = (put_keeps _ c.prepare.new.self c.begin.new.self c.put_whole-in-Ready.new.self _ _ (c.in_ok-begin.ensures.ready (ap Ok c.in-Ready.is)).1 (ap (λ (s : Archive). s.room) c.in_ok-prepare.ensures.ok) (c.in_ok-put_whole-in-Ready.ensures.ok _ c.in_ok-paint_like-in-Ready.ensures.of)).0

pub finish-requires-clause-room : goal.finish-requires-clause-room
finish-requires-clause-room g c = (put_keeps _ c.prepare.new.self c.begin.new.self c.put_whole-in-Ready.new.self _ _ (c.in_ok-begin.ensures.ready (ap Ok c.in-Ready.is)).1 (ap (λ (s : Archive). s.room) c.in_ok-prepare.ensures.ok) (c.in_ok-put_whole-in-Ready.ensures.ok _ c.in_ok-paint_like-in-Ready.ensures.of)).1
