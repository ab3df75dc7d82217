use Rattle.std.proofs.Common.{◌≡◌, ◌<◌, ◌≤◌, take, length, Some, [], refl, sym, ap, ◌∙◌, arith}
use Rattle.std.specs.Prelude.{slice_get}
use Rattle.std.proofs.lemmas.Option.{slice_get_read}
use Rattle.machine_model.proofs.Lists.{each_get}
use Rattle.desk_state.proofs.SettlingRuns.{fed_stays}
use Rattle.script_forms.specs.Ranges.{in_range}
use Rattle.trace_out.proofs.Events.{none_written, written_then}
use Rattle.trace_out.proofs.Whole.{commands_fit}
use Rattle.trace_out.proofs.Feeding.{all_taken, fed_few, fed_next, next_follows}
use Rattle.trace_out.proofs.trace.feed_all.Goals as goal

pub feed-requires : goal.feed-requires
feed-requires g c =
    let same = c.loop-i.invariant.fed ∙ ap (take c.loop-i.i) c.commands-commands.ensures.value in
    let at : slice_get c.args.script.now.commands c.loop-i.i ≡ Some c.index-commands-i.result = sym (ap (λ cs. slice_get cs c.loop-i.i) c.commands-commands.ensures.value) ∙ slice_get_read c.commands-commands.result.now (length c.commands-commands.result.now) c.loop-i.i c.index-commands-i.result refl c.loop-i-test.true c.index-commands-i.is in
    record {
      lawful = next_follows c.args.script.now c.loop-i.scribe.desk.fed c.loop-i.i c.index-commands-i.result c.commands-commands.ensures.script same at;
      few = fed_few c.commands-commands.result.now c.args.script.now.commands c.loop-i.scribe.desk.fed c.loop-i.i c.loop-i.invariant.fed c.loop-i-test.true (ap length c.commands-commands.ensures.value) c.requires.few;
      ranges = each_get in_range c.args.script.now.commands c.loop-i.i c.index-commands-i.result at (commands_fit c.args.script.now c.commands-commands.ensures.script);
      tied = c.loop-i.invariant.tied;
    }

pub loop-i-init : goal.loop-i-init
loop-i-init g c = record {
  fed = c.requires.none;
  writes = none_written c.args.scribe.now.desk c.args.scribe.now.desk c.args.scribe.now.out.items c.args.scribe.now.out.items refl refl;
  tied = c.requires.tied;
}

pub loop-i-preserved : goal.loop-i-preserved
loop-i-preserved g c = record {
  fed = fed_next c.commands-commands.result.now c.loop-i.scribe.desk.fed c.go_on_some.new.scribe.desk.fed c.loop-i.i c.index-commands-i.result c.loop-i-test.true c.index-commands-i.is c.loop-i.invariant.fed (fed_stays c.in_ok-go_on_some.ensures.puts.settles ∙ c.in_ok-feed.ensures.fed);
  writes = written_then (written_then c.loop-i.invariant.writes c.in_ok-feed.ensures.writes) c.in_ok-go_on_some.ensures.puts.writes;
  tied = c.in_ok-go_on_some.ensures.tied;
}

pub returns : goal.returns
returns g c = record {
  fed = c.loop-i.invariant.fed ∙ all_taken c.commands-commands.result.now c.loop-i.i (omega (arith, c.loop-i-test.false, c.loop-i.auto.i-end)) ∙ c.commands-commands.ensures.value;
  writes = c.loop-i.invariant.writes;
  tied = c.loop-i.invariant.tied;
}
