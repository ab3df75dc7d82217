use Rattle.std.proofs.Common.{sym, ap, ◌∙◌, ◌||◌}
use Rattle.std.specs.FinSet as set
use Rattle.geom_core.specs.Grid.{key_cmp}
use Rattle.geom_core.specs.Keys.{key_cmp_total}
use Rattle.slot_work.proofs.wholes.is_there.Goals as goal

pub returns-then-has_key : goal.returns-then-has_key
returns-then-has_key c = c.if-has_key.true ∙ ap (λ b. b || set.contains (set.from_list {R = key_cmp} c.args.keys.now.keys) c.args.key) (sym (sym c.has_key.ensures ∙ c.if-has_key.true))

pub returns-else-has_key : goal.returns-else-has_key
returns-else-has_key c = c.contains.ensures ∙ sym (set.contains-from_list key_cmp_total c.args.keys.now.keys c.args.key)
    ∙ ap (λ b. b || set.contains (set.from_list {R = key_cmp} c.args.keys.now.keys) c.args.key) (sym (sym c.has_key.ensures ∙ c.if-has_key.false))
