use Rattle.std.proofs.Common.{rules, ◌≡◌, ◌+◌, ◌++◌, Err, take, ap, arith}
use Rattle.std.proofs.KnownBytes.{Consumes-trans}
use Rattle.script_text.specs.declared.script.ReadRefusal.TheVariants.{Fault}
use Rattle.strokes_top.specs.declared.source.SourceError.TheVariants.{Read}
use Rattle.strokes_top.proofs.Transfers.{reads_in_all, reads_counted, faulty_source}
use Rattle.strokes_top.proofs.Takings.{none_taking, more_taking, counted, counted_with}
use Rattle.strokes_top.proofs.source.read_script.Goals as goal

pub loop-intake-init : goal.loop-intake-init
loop-intake-init g c = record { later = search rules; few = search rules; taking = none_taking _ c.in_ok-intake.intake c.in_ok-intake.ensures }

pub returns-in_err-n-clause-reads : goal.returns-in_err-n-clause-reads
returns-in_err-n-clause-reads g c =
    let told : c.from_residual-in_err-n.result ≡ Err (Read c.in_err-n.field-0.0) = search rules in
    rw told (reads_in_all 0 _ _ c.loop-intake.count (counted _ _ _ _ c.loop-intake.invariant.taking) _ 1048576 _ _ _ _ c.loop-intake.invariant.few c.loop-intake.invariant.later c.in_err-n.ensures.reads)

pub returns-in-Err-NoMemory-clause-reads : goal.returns-in-Err-NoMemory-clause-reads
returns-in-Err-NoMemory-clause-reads g c =
    reads_counted _ _ (c.loop-intake.count + c.in_ok-n.n) 1048576 (g.S.Source.faults c.args.source.now) (g.S.Source.faults c.next_piece.new.source)
    (counted_with _ _ _ _ c.loop-intake.invariant.taking _ c.next_piece.new.chunk c.in_ok-n.n c.in_ok-n.ensures.bytes c.in_ok-n.ensures.bound)
    c.in_ok-n.ensures.short (omega (arith, c.loop-intake.invariant.later, c.in_ok-n.ensures.reads.later))

pub returns-in_err-skip_rest-in-Err-Fault-clause-reads :
    goal.returns-in_err-skip_rest-in-Err-Fault-clause-reads
returns-in_err-skip_rest-in-Err-Fault-clause-reads g c =
    let told : c.from_residual-in_err-skip_rest-in-Err-Fault.result ≡ Err (Read c.in_err-skip_rest-in-Err-Fault.field-0.0) = search rules in
    rw told (reads_in_all 0 _ _ (c.loop-intake.count + c.in_ok-n.n)
    (counted_with _ _ _ _ c.loop-intake.invariant.taking _ c.next_piece.new.chunk c.in_ok-n.n c.in_ok-n.ensures.bytes c.in_ok-n.ensures.bound)
    _ 1048576 (g.S.Source.faults c.args.source.now) (g.S.Source.faults c.next_piece.new.source) _ _ c.in_ok-n.ensures.short
    (omega (arith, c.loop-intake.invariant.later, c.in_ok-n.ensures.reads.later)) c.in_err-skip_rest-in-Err-Fault.ensures.reads)

pub returns-in-Err-Fault-clause-err : goal.returns-in-Err-Fault-clause-err
returns-in-Err-Fault-clause-err g c =
    let before = c.loop-intake.invariant.taking in
    let f = c.in-Err-Fault.fault in
    let piece = take c.in_ok-n.n c.next_piece.new.chunk in
    let is : c.in-Err-Fault.field-0 ≡ Fault f = search rules in
    faulty_source _ _ _ (before.got ++ piece) _ f
    (Consumes-trans _ _ _ before.got piece before.consumed c.in_ok-n.ensures.bytes)
    (λ more. c.in-Err-Fault.ensures.fault before.got more f before.taken (ap Err is)) c.in_ok-skip_rest-in-Err-Fault.ensures.reads.taken c.in_ok-skip_rest-in-Err-Fault.ensures.to_the_end

pub returns-in-Err-Fault-clause-reads : goal.returns-in-Err-Fault-clause-reads
returns-in-Err-Fault-clause-reads g c =
    reads_in_all 0 _ _ (c.loop-intake.count + c.in_ok-n.n)
    (counted_with _ _ _ _ c.loop-intake.invariant.taking _ c.next_piece.new.chunk c.in_ok-n.n c.in_ok-n.ensures.bytes c.in_ok-n.ensures.bound)
    _ 1048576 (g.S.Source.faults c.args.source.now) (g.S.Source.faults c.next_piece.new.source) _ _ c.in_ok-n.ensures.short
    (omega (arith, c.loop-intake.invariant.later, c.in_ok-n.ensures.reads.later)) c.in_ok-skip_rest-in-Err-Fault.ensures.reads

pub loop-intake-preserved : goal.loop-intake-preserved
loop-intake-preserved g c =
    let before = c.loop-intake.invariant.taking in
    record {
      later = search rules;
      few = c.in_ok-n.ensures.short;
      taking = more_taking _ _ _ _ before _ c.in-Ok.more c.next_piece.new.chunk c.in_ok-n.n c.in_ok-n.ensures.bytes c.in_ok-n.ensures.bound (c.in-Ok.ensures.ok before.got before.taken);
    }
