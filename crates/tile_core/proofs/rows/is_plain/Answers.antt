use Rattle.std.proofs.Common.{sym, ap, ◌∙◌, replicate}
use Rattle.tile_core.proofs.rows.is_plain.Goals as goal

pub returns-then-ends_are : goal.returns-then-ends_are
returns-then-ends_are c = (
  (λ t. c.all_are.ensures.0 t ∙ ap (λ n. replicate n c.args.p) c.requires),
  (λ e. c.all_are.ensures.1 (e ∙ ap (λ n. replicate n c.args.p) (sym c.requires))),
)
