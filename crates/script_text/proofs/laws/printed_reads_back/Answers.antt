use Rattle.script_text.proofs.PrintedScripts.{printed_reads_back}
use Rattle.script_text.proofs.laws.printed_reads_back.Goals as goal

pub returns : goal.returns
returns c = printed_reads_back
