use Rattle.std.proofs.Common.{ap, inl, inr, subst}
use Rattle.io_edge.specs.Told.{Rose}
use Rattle.strokes_top.specs.declared.status.Status.TheVariants as status
use Rattle.strokes_top.specs.Choice.{choice}
use Rattle.strokes_top.specs.Reading.{limit_for}
use Rattle.strokes_top.specs.Sources.{Takes}
use Rattle.strokes_top.specs.Ends.{Ends, read_end}
use Rattle.strokes_top.proofs.Endings.{was, ends_told, reads_told, ends_written, ends_taken, unasked, takes_few}
use Rattle.strokes_top.proofs.Ways.{painted_way, together_way, traced_way, replayed_way}
use Rattle.strokes_top.proofs.Completeness.{IsCaused, script_ends, trace_ends}
use Rattle.strokes_top.proofs.command.run.Goals as goal

pub returns-clause-painted : goal.returns-clause-painted
returns-clause-painted g c = λ may.
    let a = c.answer-status in
    let w = c.args.words.now in
    let l = g.S.Source.left c.args.source.now in
    let r = g.S.Source.left a.new.source in
    let o = g.K.Sink.taken c.args.out.now in
    let n = g.K.Sink.taken a.new.out in
    let ends : Ends c.report.result w l r o n = ends_told w l r o n c.report.result a.result c.report.ensures.same a.ensures.ends in
    painted_way c.report.result o n w l r (ends_written w l r o n c.report.result may ends)

pub returns-clause-drawn : goal.returns-clause-drawn
returns-clause-drawn g c = λ may.
    let a = c.answer-status in
    let w = c.args.words.now in
    let l = g.S.Source.left c.args.source.now in
    let r = g.S.Source.left a.new.source in
    let o = g.K.Sink.taken c.args.out.now in
    let n = g.K.Sink.taken a.new.out in
    let ends : Ends c.report.result w l r o n = ends_told w l r o n c.report.result a.result c.report.ensures.same a.ensures.ends in
    together_way c.report.result o n w l r (ends_written w l r o n c.report.result may ends)

pub returns-clause-traced : goal.returns-clause-traced
returns-clause-traced g c = λ may.
    let a = c.answer-status in
    let w = c.args.words.now in
    let l = g.S.Source.left c.args.source.now in
    let r = g.S.Source.left a.new.source in
    let o = g.K.Sink.taken c.args.out.now in
    let n = g.K.Sink.taken a.new.out in
    let ends : Ends c.report.result w l r o n = ends_told w l r o n c.report.result a.result c.report.ensures.same a.ensures.ends in
    traced_way c.report.result o n w l r (ends_written w l r o n c.report.result may ends)

pub returns-clause-replayed : goal.returns-clause-replayed
returns-clause-replayed g c = λ may.
    let a = c.answer-status in
    let w = c.args.words.now in
    let l = g.S.Source.left c.args.source.now in
    let r = g.S.Source.left a.new.source in
    let o = g.K.Sink.taken c.args.out.now in
    let n = g.K.Sink.taken a.new.out in
    let ends : Ends c.report.result w l r o n = ends_told w l r o n c.report.result a.result c.report.ensures.same a.ensures.ends in
    replayed_way c.report.result o n w l r (ends_written w l r o n c.report.result may ends)

pub returns-clause-complete : goal.returns-clause-complete
returns-clause-complete g c = λ given no_read no_write.
    let a = c.answer-status in
    let w = c.args.words.now in
    let l = g.S.Source.left c.args.source.now in
    let r = g.S.Source.left a.new.source in
    let o = g.K.Sink.taken c.args.out.now in
    let n = g.K.Sink.taken a.new.out in
    let ends : Ends c.report.result w l r o n = ends_told w l r o n c.report.result a.result c.report.ensures.same a.ensures.ends in
    let reads = reads_told w l r o n c.report.result a.result c.report.ensures.same (g.S.Source.faults c.args.source.now) (g.S.Source.faults a.new.source) c.report.ensures.others a.ensures.reads in
    let caused : IsCaused w l r o n (g.S.Source.faults c.args.source.now) (g.S.Source.faults a.new.source) (Rose (g.K.Sink.faults c.args.out.now) (g.K.Sink.faults a.new.out)) c.report.result = record {
      ends = ends;
      reads = reads;
      write_fault = λ e. a.ensures.write_fault (was c.report.result a.result status.WriteFault c.report.ensures.same (λ m. cc) e);
    } in
    script_ends w l r o n _ _ _ c.report.result caused given no_read no_write

pub returns-clause-complete_trace : goal.returns-clause-complete_trace
returns-clause-complete_trace g c = λ given no_read no_write.
    let a = c.answer-status in
    let w = c.args.words.now in
    let l = g.S.Source.left c.args.source.now in
    let r = g.S.Source.left a.new.source in
    let o = g.K.Sink.taken c.args.out.now in
    let n = g.K.Sink.taken a.new.out in
    let ends : Ends c.report.result w l r o n = ends_told w l r o n c.report.result a.result c.report.ensures.same a.ensures.ends in
    let reads = reads_told w l r o n c.report.result a.result c.report.ensures.same (g.S.Source.faults c.args.source.now) (g.S.Source.faults a.new.source) c.report.ensures.others a.ensures.reads in
    let caused : IsCaused w l r o n (g.S.Source.faults c.args.source.now) (g.S.Source.faults a.new.source) (Rose (g.K.Sink.faults c.args.out.now) (g.K.Sink.faults a.new.out)) c.report.result = record {
      ends = ends;
      reads = reads;
      write_fault = λ e. a.ensures.write_fault (was c.report.result a.result status.WriteFault c.report.ensures.same (λ m. cc) e);
    } in
    trace_ends w l r o n _ _ _ c.report.result caused given no_read no_write

pub returns-clause-usage : goal.returns-clause-usage
returns-clause-usage g c = λ e.
    let a = c.answer-status in
    let w = c.args.words.now in
    let l = g.S.Source.left c.args.source.now in
    let r = g.S.Source.left a.new.source in
    let o = g.K.Sink.taken c.args.out.now in
    let n = g.K.Sink.taken a.new.out in
    let ends : Ends c.report.result w l r o n = ends_told w l r o n c.report.result a.result c.report.ensures.same a.ensures.ends in
    subst (λ st. Ends st w l r o n) e ends

pub returns-clause-taken_words : goal.returns-clause-taken_words
returns-clause-taken_words g c = λ no_usage no_want.
    let a = c.answer-status in
    let w = c.args.words.now in
    let l = g.S.Source.left c.args.source.now in
    let r = g.S.Source.left a.new.source in
    let o = g.K.Sink.taken c.args.out.now in
    let n = g.K.Sink.taken a.new.out in
    let ends : Ends c.report.result w l r o n = ends_told w l r o n c.report.result a.result c.report.ensures.same a.ensures.ends in
    ends_taken w l r o n c.report.result no_usage no_want ends

pub returns-clause-script : goal.returns-clause-script
returns-clause-script g c = λ line cause e.
    let a = c.answer-status in
    let w = c.args.words.now in
    let l = g.S.Source.left c.args.source.now in
    let r = g.S.Source.left a.new.source in
    let o = g.K.Sink.taken c.args.out.now in
    let n = g.K.Sink.taken a.new.out in
    let ends : Ends c.report.result w l r o n = ends_told w l r o n c.report.result a.result c.report.ensures.same a.ensures.ends in
    subst (λ st. Ends st w l r o n) e ends

pub returns-clause-trace : goal.returns-clause-trace
returns-clause-trace g c = λ line cause e.
    let a = c.answer-status in
    let w = c.args.words.now in
    let l = g.S.Source.left c.args.source.now in
    let r = g.S.Source.left a.new.source in
    let o = g.K.Sink.taken c.args.out.now in
    let n = g.K.Sink.taken a.new.out in
    let ends : Ends c.report.result w l r o n = ends_told w l r o n c.report.result a.result c.report.ensures.same a.ensures.ends in
    subst (λ st. Ends st w l r o n) e ends

pub returns-clause-too_long_reads : goal.returns-clause-too_long_reads
returns-clause-too_long_reads g c = λ e.
    let a = c.answer-status in
    let w = c.args.words.now in
    let l = g.S.Source.left c.args.source.now in
    let r = g.S.Source.left a.new.source in
    let o = g.K.Sink.taken c.args.out.now in
    let n = g.K.Sink.taken a.new.out in
    let ends : Ends c.report.result w l r o n = ends_told w l r o n c.report.result a.result c.report.ensures.same a.ensures.ends in
    unasked (choice w) (subst (λ st. Ends st w l r o n) e ends)

pub returns-clause-too_long : goal.returns-clause-too_long
returns-clause-too_long g c = λ e.
    let a = c.answer-status in
    let w = c.args.words.now in
    let l = g.S.Source.left c.args.source.now in
    let r = g.S.Source.left a.new.source in
    let o = g.K.Sink.taken c.args.out.now in
    let n = g.K.Sink.taken a.new.out in
    let reads = reads_told w l r o n c.report.result a.result c.report.ensures.same (g.S.Source.faults c.args.source.now) (g.S.Source.faults a.new.source) c.report.ensures.others a.ensures.reads in
    subst (λ st. Takes (limit_for w) l r (read_end st)) e reads.taken

pub returns-clause-within_limit : goal.returns-clause-within_limit
returns-clause-within_limit g c = λ no.
    let a = c.answer-status in
    let w = c.args.words.now in
    let l = g.S.Source.left c.args.source.now in
    let r = g.S.Source.left a.new.source in
    let o = g.K.Sink.taken c.args.out.now in
    let n = g.K.Sink.taken a.new.out in
    let reads = reads_told w l r o n c.report.result a.result c.report.ensures.same (g.S.Source.faults c.args.source.now) (g.S.Source.faults a.new.source) c.report.ensures.others a.ensures.reads in
    takes_few (limit_for w) l r c.report.result no reads.taken

pub returns-clause-read_fault_reads : goal.returns-clause-read_fault_reads
returns-clause-read_fault_reads g c = λ e.
    let a = c.answer-status in
    let w = c.args.words.now in
    let l = g.S.Source.left c.args.source.now in
    let r = g.S.Source.left a.new.source in
    let o = g.K.Sink.taken c.args.out.now in
    let n = g.K.Sink.taken a.new.out in
    let ends : Ends c.report.result w l r o n = ends_told w l r o n c.report.result a.result c.report.ensures.same a.ensures.ends in
    unasked (choice w) (subst (λ st. Ends st w l r o n) e ends)

pub returns-clause-read_fault : goal.returns-clause-read_fault
returns-clause-read_fault g c = λ e.
    let a = c.answer-status in
    let w = c.args.words.now in
    let l = g.S.Source.left c.args.source.now in
    let r = g.S.Source.left a.new.source in
    let o = g.K.Sink.taken c.args.out.now in
    let n = g.K.Sink.taken a.new.out in
    let reads = reads_told w l r o n c.report.result a.result c.report.ensures.same (g.S.Source.faults c.args.source.now) (g.S.Source.faults a.new.source) c.report.ensures.others a.ensures.reads in
    reads.failed (ap read_end e)

pub returns-clause-usage_reads_nothing : goal.returns-clause-usage_reads_nothing
returns-clause-usage_reads_nothing g c = λ e.
    let a = c.answer-status in
    let stays = a.ensures.unread (inl (was c.report.result a.result status.Usage c.report.ensures.same (λ m. cc) e)) in
    (stays.left, stays.no_fault)

pub returns-clause-demo_reads_nothing : goal.returns-clause-demo_reads_nothing
returns-clause-demo_reads_nothing g c = λ asks.
    let stays = c.answer-status.ensures.unread (inr asks) in
    (stays.left, stays.no_fault)
