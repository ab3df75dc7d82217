use Rattle.std.proofs.Common.{rules, ◌≡◌, ◌≤◌, ◌∙◌, ◌+◌, Ok, Err, take, ap, sym, subst, arith, length-take-le}
use Rattle.strokes_top.specs.declared.source.SourceError.TheVariants.{Read, NoMemory}
use Rattle.strokes_top.specs.Traces.{Replays}
use Rattle.strokes_top.proofs.Takings.{read_gives, read_whole}
use Rattle.strokes_top.proofs.Transfers.{reads_in_all, reads_counted, more_counted, gathered_counted}
use Rattle.strokes_top.proofs.source.read_trace.Goals as goal

pub returns-in_err-n-clause-reads : goal.returns-in_err-n-clause-reads
returns-in_err-n-clause-reads g c =
    let told : c.from_residual.result ≡ Err (Read c.in_err-n.field-0.0) = search rules in
    rw told (reads_in_all 0 _ _ c.len.result (gathered_counted _ _ _ _ c.loop-bytes.invariant.gathered (c.len.ensures ∙ c.loop-bytes.bytes.ok.0)) _ 16777216 _ _ _ _
    (subst (λ n. n ≤ 16777216) (sym (c.len.ensures ∙ c.loop-bytes.bytes.ok.0)) c.loop-bytes.invariant.few) c.loop-bytes.invariant.later c.in_err-n.ensures.reads)

pub returns-in_err-extend_from_slice-clause-reads : goal.returns-in_err-extend_from_slice-clause-reads
returns-in_err-extend_from_slice-clause-reads g c =
    let told : c.from_residual-in_err-extend_from_slice.result ≡ Err NoMemory = search rules in
    rw told (reads_counted _ _ (c.len.result + c.in_ok-n.n) 16777216 (g.S.Source.faults c.args.source.now) (g.S.Source.faults c.next_piece.new.source)
    (more_counted 0 _ _ c.len.result (gathered_counted _ _ _ _ c.loop-bytes.invariant.gathered (c.len.ensures ∙ c.loop-bytes.bytes.ok.0)) _ (take c.in_ok-n.n c.next_piece.new.chunk) c.in_ok-n.n c.in_ok-n.ensures.bytes (length-take-le c.in_ok-n.n c.next_piece.new.chunk c.in_ok-n.ensures.bound))
    c.in_ok-n.ensures.short (omega (arith, c.loop-bytes.invariant.later, c.in_ok-n.ensures.reads.later)))

pub returns-then-n-eq0-clause-ok : goal.returns-then-n-eq0-clause-ok
returns-then-n-eq0-clause-ok g c =
    let r = c.in_ok-replayed.ensures in
    let whole = read_whole _ _ _ c.loop-bytes.bytes.items c.next_piece.new.chunk c.in_ok-n.n c.in_ok-n.ensures.bound c.if-n-eq0.true c.loop-bytes.invariant.gathered c.in_ok-n.ensures.bytes (c.in_ok-n.ensures.to_the_end (ap Ok c.if-n-eq0.true)) in
    read_gives _ _ c.loop-bytes.bytes.items (Replays (λ t. t ≡ c.into_script.result)) whole (subst (λ b. Replays (λ t. t ≡ c.into_script.result) b) c.deref.ensures.value (r.state, r.told_is, sym r.script_is ∙ sym c.into_script.ensures))
