use Rattle.std.proofs.Common.{◌≡◌, true, sym, ap, subst}
use Rattle.std.specs.List.{list_any}
use Rattle.geom_core.specs.Grid.{same_key, keys_of}
use Rattle.walker_core.specs.Readings.{Readings}
use Rattle.walker_core.specs.Composing.{Composition}
use Rattle.desk_state.specs.declared.work.Walker.{Walker}
use Rattle.desk_state.specs.After.{busy_walker}
use Rattle.trace_out.specs.Lent.{IsLent, LacksPair}
use Rattle.trace_out.proofs.Going.{put_then}
use Rattle.trace_out.proofs.scribe.Scribe.put_all.Goals as goal

pub compose_key-requires : goal.compose_key-requires
compose_key-requires c = c.requires.lacks.world

pub put-requires-clause-composed : goal.put-requires-clause-composed
put-requires-clause-composed c = ap (λ (d : Composition). d.keys) c.in_ok-composed.ensures

pub put-requires-clause-lent : goal.put-requires-clause-lent
put-requires-clause-lent c = subst (λ (r : Readings). IsLent c.args.self.now.held c.args.place (busy_walker (record c.args.walker.now { inputs = r })) c.args.self.now.desk) (sym (ap (λ (d : Composition). d.readings) c.in_ok-composed.ensures)) c.requires.lent

pub put-requires-clause-lacks : goal.put-requires-clause-lacks
put-requires-clause-lacks c = subst (λ (r : Readings). LacksPair (record c.args.walker.now { inputs = r }) c.args.group c.args.key) (sym (ap (λ (d : Composition). d.readings) c.in_ok-composed.ensures)) c.requires.lacks

pub put_others-requires-clause-composed : goal.put_others-requires-clause-composed
put_others-requires-clause-composed c = ap (λ (d : Composition). d.keys) c.in_ok-composed.ensures

pub put_others-requires-clause-world : goal.put_others-requires-clause-world
put_others-requires-clause-world c = c.requires.lacks.world

pub put_others-requires-clause-in_patch : goal.put_others-requires-clause-in_patch
put_others-requires-clause-in_patch c = subst (λ (r : Readings). list_any (same_key c.args.key) (keys_of r.patch.rect) ≡ true) (sym (ap (λ (d : Composition). d.readings) c.in_ok-composed.ensures)) c.requires.lacks.in_patch

pub returns-clause-goes : goal.returns-clause-goes
returns-clause-goes c = put_then c.in_ok-put.ensures.goes c.in_ok-put_others.ensures.goes

pub returns-clause-lent : goal.returns-clause-lent
returns-clause-lent c = subst (λ (r : Readings). IsLent c.put_others.new.self.held c.args.place (busy_walker (record c.args.walker.now { inputs = r; published = c.put_others.new.published })) c.put_others.new.self.desk) (ap (λ (d : Composition). d.readings) c.in_ok-composed.ensures) c.in_ok-put_others.ensures.lent
