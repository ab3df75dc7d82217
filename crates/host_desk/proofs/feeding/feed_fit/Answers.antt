use Rattle.std.proofs.Common.{None, sym, subst, ◌∷◌, []}
use Rattle.host_lines.specs.declared.answer.Answer.{Answer}
use Rattle.host_desk.specs.Feeding.{Fed}
use Rattle.host_desk.proofs.FedLines.{one_fed}
use Rattle.host_desk.proofs.feeding.feed_fit.Goals as goal

pub returns : goal.returns
returns c = subst (λ (a : Answer). Fed c.args.desk.now None (c.args.command.now ∷ []) a c.feed-done.new.self) (sym c.answer_to.ensures) (one_fed c.args.desk.now c.feed-done.new.self c.args.command.now c.feed-done.result c.feed-done.ensures.ok c.feed-done.ensures.err)
