use Rattle.std.proofs.Common.{subst, sym}
use Rattle.std.proofs.lemmas.List.{get_or-replicate}
use Rattle.pixel_core.specs.Rgba.{clear}
use Rattle.pixel_rows.specs.Rows.{Dims}
use Rattle.pixel_rows.proofs.rows.dimmed_all.Goals as goal

pub returns : goal.returns
returns c = λ k t. subst (λ x. Dims x c.args.colour c.args.strength) (sym (get_or-replicate 16 k c.dimmed.result clear t)) c.dimmed.ensures
