use Rattle.std.proofs.Common.{[], arith}
use Rattle.script_lines.specs.Lines.{lines}
use Rattle.script_text.proofs.Scanning.{few_lines}
use Rattle.script_tests.proofs.scripts.read_two.Goals as goal

pub feed-requires : goal.feed-requires
feed-requires c = ([], c.in_ok-new.ensures, omega (arith, few_lines c.args.first.now))

pub feed-requires-2 : goal.feed-requires-2
feed-requires-2 c = (lines c.args.first.now, c.in_ok-feed.ensures.ok [] c.in_ok-new.ensures, omega (arith, few_lines c.args.first.now, few_lines c.args.second.now))
