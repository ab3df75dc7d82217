use Rattle.frame_core.proofs.OpenedRows.{root_clear}
use Rattle.frame_core.proofs.open_rows.OpenRows.new.Goals as goal

pub returns-clause-alone : goal.returns-clause-alone
returns-clause-alone c = root_clear
