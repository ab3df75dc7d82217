use Rattle.std.proofs.Common.{sym, subst}
use Rattle.trace_out.specs.Lent.{IsLentWalk}
use Rattle.trace_out.specs.Goes.{SettlesPutting}
use Rattle.trace_out.specs.declared.scribe.Scribe.{Scribe}
use Rattle.trace_out.proofs.Going.{put_more}
use Rattle.trace_out.proofs.scribe.Scribe.put_others.Goals as goal
use Rattle.trace_out.proofs.scribe.Scribe.put_others.Goals.{then-not-has_pair+in_ok-put, else-not-has_pair}

pub loop-group-preserved : goal.loop-group-preserved
loop-group-preserved c =
    elim c.if-not-has_pair.branch [
      | then-not-has_pair+in_ok-put w ↦ record {
        goes = subst (λ (s : Scribe). SettlesPutting c.args.self.now.desk c.args.self.now.out.items s.desk s.out.items) (sym w.self-is) (put_more c.loop-group.invariant.goes w.in_ok-put.ensures.goes);
        lent = subst (λ ps. IsLentWalk c.if-not-has_pair.self.held c.args.slot c.args.composed.now ps c.if-not-has_pair.self.desk) (sym w.published-is) (subst (λ (s : Scribe). IsLentWalk s.held c.args.slot c.args.composed.now w.put.new.published s.desk) (sym w.self-is) w.in_ok-put.ensures.lent);
      }
      | else-not-has_pair w ↦ record {
        goes = subst (λ (s : Scribe). SettlesPutting c.args.self.now.desk c.args.self.now.out.items s.desk s.out.items) (sym w.self-is) c.loop-group.invariant.goes;
        lent = subst (λ ps. IsLentWalk c.if-not-has_pair.self.held c.args.slot c.args.composed.now ps c.if-not-has_pair.self.desk) (sym w.published-is) (subst (λ (s : Scribe). IsLentWalk s.held c.args.slot c.args.composed.now c.loop-group.published s.desk) (sym w.self-is) c.loop-group.invariant.lent);
      }
    ]
