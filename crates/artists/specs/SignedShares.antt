-- What an artist sends.
use Rattle.std.specs.Prelude.{ℕ, List, map}
use Rattle.doc_model.specs.declared.command.Command.{Command}
use Rattle.studio.specs.declared.signed.Signed.{Signed}
use Rattle.studio.specs.Histories.{signed}
use Rattle.artists.specs.Shares.{commands_by}

-- the commands of artist k, in their order and signed
abbrev pub share : ℕ → ℕ → List Command → List Signed
share n k commands = map (signed k) (commands_by n k commands)
