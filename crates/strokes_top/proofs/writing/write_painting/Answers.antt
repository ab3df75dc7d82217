use Rattle.std.proofs.Common.{◌≡◌, [], ◌++◌, List, ℕ, ap, subst, sym, OnErr, refl}
use Rattle.io_edge.specs.Told.{AppendsPrefix}
use Rattle.io_edge.proofs.Written.{on_err_any, prefix_behind}
use Rattle.std.proofs.KnownBytes.{Appends-nil}
use Rattle.ppm_out.proofs.Series.{err_behind}
use Rattle.strokes_top.specs.Output.{asked_as, output, written}
use Rattle.strokes_top.proofs.writing.write_painting.Goals as goal

pub returns-in_err-write_all-in-Shown-clause-err : goal.returns-in_err-write_all-in-Shown-clause-err
returns-in_err-write_all-in-Shown-clause-err g c =
    let p = c.args.painting.now in
    let lead = c.in-Shown.preface.items in
    on_err_any c.from_residual.result
    (prefix_behind _ _ _ [] lead (output (asked_as c.in-Shown.form) p.script) (written p.output p.script) (Appends-nil _)
    (rw (← c.deref.ensures.value) c.in_err-write_all-in-Shown.ensures.err) (ap (λ o. written o p.script) c.in-Shown.is))

pub returns-in_ok-write_all-in-Shown-clause-err : goal.returns-in_ok-write_all-in-Shown-clause-err
returns-in_ok-write_all-in-Shown-clause-err g c =
    let p = c.args.painting.now in
    let lead = c.in-Shown.preface.items in
    let shown : List ℕ = output (asked_as c.in-Shown.form) p.script in
    subst (λ l. OnErr c.write_output.result (AppendsPrefix (g.K.Sink.taken c.args.out.now) (g.K.Sink.taken c.write_output.new.out) l)) (sym (ap (λ o. written o p.script) c.in-Shown.is))
    (err_behind c.write_output.result _ _ _ lead _ shown (rw (← c.deref.ensures.value) c.in_ok-write_all-in-Shown.ensures.ok) c.write_output.ensures.err refl)
