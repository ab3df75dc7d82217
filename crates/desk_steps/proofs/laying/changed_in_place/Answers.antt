use Rattle.std.proofs.Common.{sym, ◌∙◌}
use Rattle.desk_steps.proofs.Patched.{alone_back}
use Rattle.desk_steps.proofs.laying.changed_in_place.Goals as goal

pub returns-then-has-clause-back : goal.returns-then-has-clause-back
returns-then-has-clause-back g c = alone_back (g.L.Lays.laid c.args.change.now) c.args.found.now c.args.device.now c.lay_alone.new.self c.args.key c.lay_alone.result c.requires (sym c.has.ensures ∙ c.if-has.true) c.lay_alone.ensures.laid c.lay_alone.ensures.kept
