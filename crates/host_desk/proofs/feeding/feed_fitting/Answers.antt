use Rattle.std.proofs.Common.{None, sym, subst}
use Rattle.script_text.specs.Paths.{adding}
use Rattle.host_lines.specs.declared.answer.Answer.{Answer}
use Rattle.host_desk.specs.Feeding.{Fed}
use Rattle.host_desk.proofs.FedLines.{some_fed}
use Rattle.host_desk.proofs.feeding.feed_fitting.Goals as goal

pub returns : goal.returns
returns c = subst (λ (a : Answer). Fed c.args.desk.now None (adding c.args.no c.args.jobs.now) a c.feed_all-done.new.desk) (sym c.answer_to.ensures) (some_fed c.args.desk.now c.feed_all-done.new.desk (adding c.args.no c.args.jobs.now) c.feed_all-done.result c.feed_all-done.ensures.ok c.feed_all-done.ensures.err)
