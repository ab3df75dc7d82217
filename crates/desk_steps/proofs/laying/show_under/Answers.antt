use Rattle.std.proofs.Common.{sym, ap, ◌∙◌}
use Rattle.paint_device.specs.Seen.{layer_of}
use Rattle.desk_steps.proofs.Devices.{more_ok, on_err}
use Rattle.desk_steps.proofs.laying.show_under.Goals as goal

pub returns-then-adds_nothing-clause-ok : goal.returns-then-adds_nothing-clause-ok
returns-then-adds_nothing-clause-ok c = more_ok c.note_under.result (λ _. c.note_under.ensures.same ∙ sym (c.adds_nothing.ensures c.if-adds_nothing.true)) c.note_under.ensures.keys

pub returns-then-adds_nothing-clause-err : goal.returns-then-adds_nothing-clause-err
returns-then-adds_nothing-clause-err c = on_err c.note_under.result c.note_under.ensures.same

pub returns-else-adds_nothing-clause-ok : goal.returns-else-adds_nothing-clause-ok
returns-else-adds_nothing-clause-ok c = more_ok c.set_under.result (λ e. ap layer_of e) c.set_under.ensures.ok
