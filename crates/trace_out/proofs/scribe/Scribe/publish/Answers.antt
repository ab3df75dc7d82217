use Rattle.std.proofs.Common.{Some, ap, ◌∙◌}
use Rattle.std.specs.Prelude.{slice_set}
use Rattle.desk_state.specs.After.{busy_painter}
use Rattle.trace_out.proofs.Ties.{lent_runs}
use Rattle.trace_out.proofs.Enabling.{lent_kept}
use Rattle.trace_out.proofs.Tiles.{tile_written}
use Rattle.trace_out.proofs.scribe.Scribe.publish.Goals as goal

pub publish_tile-requires-clause-runs : goal.publish_tile-requires-clause-runs
publish_tile-requires-clause-runs c = lent_runs c.args.self.now.held c.args.place (busy_painter c.args.painter) c.args.self.now.desk c.requires.lent

pub publish_tile-requires-clause-kept : goal.publish_tile-requires-clause-kept
publish_tile-requires-clause-kept c = lent_kept c.args.self.now.held c.args.place (busy_painter c.args.painter) c.args.self.now.desk c.requires.lent

pub put-requires : goal.put-requires
put-requires c = c.requires.lent.empty

pub returns : goal.returns
returns c =
    tile_written c.args.self.now.held c.args.self.now.desk c.args.place c.args.painter c.args.key c.args.self.now.out.items (record c.args.self.now { desk = c.publish_tile.new.desk; held = c.put.new.self; out = c.add_line.new.out }) c.requires.lent
    c.in_ok-publish_tile.ensures.world
    c.in_ok-publish_tile.ensures.step
    (c.put.ensures ∙ ap (λ ps. slice_set c.args.self.now.held c.args.place (Some (busy_painter (record c.args.painter { published = ps })))) c.in_ok-note.ensures.ok)
    c.in_ok-add_line.ensures
