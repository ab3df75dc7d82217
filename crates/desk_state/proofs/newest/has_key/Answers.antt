use Rattle.std.proofs.Common.{sym, ap, ◌∙◌}
use Rattle.std.specs.List.{list_any}
use Rattle.geom_core.specs.Grid.{same_key}
use Rattle.desk_state.proofs.NewestFirst.{any-newest}
use Rattle.desk_state.proofs.newest.has_key.Goals as goal

pub returns : goal.returns
returns c = c.some_key.ensures ∙ sym (any-newest (same_key c.args.key) c.as_slice.result.now) ∙ ap (list_any (same_key c.args.key)) c.as_slice.ensures
