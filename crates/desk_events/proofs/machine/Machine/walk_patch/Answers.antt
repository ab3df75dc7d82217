use Rattle.std.proofs.Common.{Some, None, sym, ap, ◌∙◌}
use Rattle.desk_state.specs.declared.work.Work.TheVariants.{Paint, Walk}
use Rattle.desk_events.proofs.SameWalks.{patch_there}
use Rattle.desk_events.proofs.machine.Machine.walk_patch.Goals as goal

pub returns-in-Some-Walk : goal.returns-in-Some-Walk
returns-in-Some-Walk c = rw (← c.self.view_is) (ap Some c.patch.ensures ∙ patch_there c.self.inside.slots c.args.place (Some (Walk c.in-Some-Walk.walker)) (ap Some (sym c.in-Some-Walk.field-0-is) ∙ c.in-Some-Walk.ensures))

pub returns-in-Some-Paint : goal.returns-in-Some-Paint
returns-in-Some-Paint c = rw (← c.self.view_is) (patch_there c.self.inside.slots c.args.place (Some (Paint c.in-Some-Paint.field-0-0)) (ap Some (sym c.in-Some-Paint.field-0-is) ∙ c.in-Some-Paint.ensures))

pub returns-in-None : goal.returns-in-None
returns-in-None c = rw (← c.self.view_is) (patch_there c.self.inside.slots c.args.place None c.in-None.ensures)
