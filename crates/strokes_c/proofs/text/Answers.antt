use Rattle.strokes_c.proofs.CalledDesks.{text_refused}
use Rattle.strokes_c.proofs.text.Goals as goal

pub returns-in-Err : goal.returns-in-Err
returns-in-Err c = text_refused c.args.host.now c.args.next.now c.args.out.now c.args.written.now c.in-Err.answer c.text.new.out c.in-Err.ensures
