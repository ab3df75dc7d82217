use Rattle.std.proofs.Common.{sym, ap, ◌∙◌}
use Rattle.std.specs.Option.{option_copied}
use Rattle.update_queue.proofs.Elements.{read_at}
use Rattle.desk_events.proofs.Untouched.{not_met, not_there}
use Rattle.desk_events.proofs.sparing.may_change.Goals as goal

pub returns-in-Some : goal.returns-in-Some
returns-in-Some c h p t = not_met c.args.jobs.now c.args.index c.in-Some.field-0.now c.args.key p (sym (read_at c.get.result c.args.jobs.now c.args.index c.get.ensures.lookup.3) ∙ ap option_copied c.in-Some.is) (sym c.meets_writes.ensures ∙ h) t

pub returns-in-None : goal.returns-in-None
returns-in-None c h p t = not_there c.args.jobs.now c.args.index p (sym (read_at c.get.result c.args.jobs.now c.args.index c.get.ensures.lookup.3) ∙ ap option_copied c.in-None.is)
