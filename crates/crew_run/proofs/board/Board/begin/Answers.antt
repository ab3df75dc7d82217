use Rattle.std.proofs.Common.{List, sym, ◌∙◌, subst}
use Rattle.doc_model.specs.declared.command.Command.{Command}
use Rattle.crew_run.specs.Front.{IsFront}
use Rattle.crew_run.proofs.Kept.{take_keeps}
use Rattle.crew_run.proofs.Roots.{still_shown}
use Rattle.crew_run.proofs.board.Board.begin.Goals as goal

pub invariant_of-self : goal.invariant_of-self
invariant_of-self g c =
    let keeps = take_keeps c.take.result (λ x. x.0) c.args.self.now.desk c.take.new.self _ _
    c.take.ensures.paint c.take.ensures.walk c.take.ensures.did c.take.ensures.idle c.take.ensures.settled c.take.ensures.err in
    record {
      canvas_is = keeps.canvas ∙ c.args.self.now.canvas_is;
      front = subst (λ (fed : List Command). IsFront fed g.J.Following.script.commands) (sym keeps.fed) c.args.self.now.front;
      shows = still_shown keeps.root c.args.self.now.shows;
    }

pub new-requires-clause-checked : goal.new-requires-clause-checked
new-requires-clause-checked g c = (c.in_ok-taken.ensures.paint c.in-Paint.ticket c.in-Paint.is).1.checked

pub new-requires-clause-limits : goal.new-requires-clause-limits
new-requires-clause-limits g c = (c.in_ok-taken.ensures.paint c.in-Paint.ticket c.in-Paint.is).1.limits

pub new-requires-clause-kept : goal.new-requires-clause-kept
new-requires-clause-kept g c = (c.in_ok-taken.ensures.paint c.in-Paint.ticket c.in-Paint.is).1.reads
