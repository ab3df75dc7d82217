-- Laws of scripts as text.
use Rattle.std.specs.Prelude.{◌≡◌, true, None, Some}
use Rattle.script_text.specs.Script.{Contents}
use Rattle.script_text.specs.Closed.{is_script}
use Rattle.script_text.specs.Reading.{fault, script}
use Rattle.script_text.specs.Text.{text}

-- the text of a script reads back as that script, without a fault
pub record PrintedReadsBack : Type 0 where
  pub no_fault : (s : Contents) → is_script s ≡ true → fault (text s) ≡ None
  pub same : (s : Contents) → is_script s ≡ true → script (text s) ≡ Some s
