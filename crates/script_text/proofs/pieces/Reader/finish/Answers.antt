use Rattle.script_text.proofs.Scanning.{all_read}
use Rattle.script_text.proofs.pieces.Reader.finish.Goals as goal

pub returns : goal.returns
returns c = λ ls has. all_read c.finish.result ls c.args.self.number c.args.self.reading has c.finish.ensures
