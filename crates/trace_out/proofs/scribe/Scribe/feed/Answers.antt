use Rattle.script_lines.proofs.FieldLemmas.{both}
use Rattle.doc_model.specs.Strokes.{entries}
use Rattle.machine_model.specs.Event.{Feed}
use Rattle.trace_out.proofs.Events.{one_written}
use Rattle.trace_out.proofs.Ties.{tied_still}
use Rattle.trace_out.proofs.Going.{sound_of}
use Rattle.trace_out.proofs.Feeding.{fed_more, slots_stay}
use Rattle.trace_out.proofs.scribe.Scribe.feed.Goals as goal

pub returns-clause-fed : goal.returns-clause-fed
returns-clause-fed c = fed_more c.args.self.now.desk c.feed.new.self c.args.command.now c.in_ok-feed.ensures.ok

pub returns-clause-writes : goal.returns-clause-writes
returns-clause-writes c =
    one_written c.requires.tied.events c.args.self.now.desk c.feed.new.self (Feed c.args.command.now) c.args.self.now.out.items c.add_line.new.out.items c.requires.tied.reached c.in_ok-feed.ensures.ok
    (both _ _ c.requires.ranges (sound_of (entries c.args.self.now.desk.fed) c.args.command.now c.requires.lawful)) c.in_ok-add_line.ensures

pub returns-clause-tied : goal.returns-clause-tied
returns-clause-tied c = tied_still c.args.self.now.held c.args.self.now.desk c.feed.new.self (Feed c.args.command.now) c.requires.tied c.in_ok-feed.ensures.ok (slots_stay c.args.self.now.desk c.feed.new.self c.args.command.now c.in_ok-feed.ensures.ok)
