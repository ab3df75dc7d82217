-- What holds of the commands of a draft.
use Rattle.std.specs.Prelude.{◌≡◌, true}
use Rattle.std.specs.List.{list_all}
use Rattle.doc_model.specs.Feeding.{lawful}
use Rattle.script_forms.specs.Ranges.{in_range}
use Rattle.script_text.specs.declared.draft.Draft.TheInside.{Inside}

-- each command may follow those before it, and its numbers are in their ranges
pub record IsDraft (d : Inside) : Type 0 where
  pub lawful : lawful d.log.items ≡ true
  pub ranges : list_all in_range d.log.items ≡ true
