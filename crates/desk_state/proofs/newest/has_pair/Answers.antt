use Rattle.std.proofs.Common.{sym, ap, ◌∙◌}
use Rattle.std.specs.List.{list_any}
use Rattle.machine_model.specs.Guards.{same_pair}
use Rattle.desk_state.proofs.NewestFirst.{any-newest}
use Rattle.desk_state.proofs.newest.has_pair.Goals as goal

pub returns : goal.returns
returns c = c.some_pair.ensures ∙ sym (any-newest (same_pair c.args.group c.args.key) c.as_slice.result.now) ∙ ap (list_any (same_pair c.args.group c.args.key)) c.as_slice.ensures
