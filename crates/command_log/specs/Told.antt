-- What is known of the commands beside them.
use Rattle.std.specs.Prelude.{◌≡◌, ℕ, ◌≤◌, length}
use Rattle.std.specs.List.{filter}
use Rattle.doc_model.specs.Strokes.{entries, is_export}
use Rattle.command_log.specs.Table.{Tells, kept}
use Rattle.command_log.specs.declared.log.CommandLog.TheInside.{Inside}

-- the table tells of each stroke of the commands, and the count of their exports
pub record IsTold (l : Inside) : Type 0 where
  pub tells : (n : ℕ) → Tells (entries l.commands.items) n (kept l.strokes n)
  pub exports : l.exports ≡ length (filter is_export (entries l.commands.items))
  pub few : l.exports ≤ 64
