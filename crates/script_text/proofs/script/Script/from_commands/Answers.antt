use Rattle.std.proofs.Common.{rules, ◌≡◌, sym, ap, subst, ◌∙◌, false, ◌&&◌, Some, Err}
use Rattle.std.specs.List.{list_all}
use Rattle.doc_model.specs.Feeding.{lawful}
use Rattle.script_text.specs.declared.script.MakeRefusal.TheVariants.{NotScript}
use Rattle.script_forms.specs.Ranges.{in_range, in_limits}
use Rattle.script_text.specs.Reading.{end_by}
use Rattle.script_text.specs.Read.{IsGathered}
use Rattle.script_text.proofs.Refusals.{no_limits, no_commands, left_bad}
use Rattle.script_text.proofs.script.Script.from_commands.Goals as goal

pub returns-then-not-canvas_fits-clause-refused : goal.returns-then-not-canvas_fits-clause-refused
returns-then-not-canvas_fits-clause-refused c _ =
    let h : in_limits c.args.canvas ≡ false = search rules in
    no_limits c.args.canvas c.args.commands.items h

pub returns-in_err-reading-clause-refused : goal.returns-in_err-reading-clause-refused
returns-in_err-reading-clause-refused c k =
    let e : c.from_residual.result ≡ Err c.in_err-reading.field-0.0 = search rules in
    let same : c.in_err-reading.field-0.0 ≡ NotScript = cc (sym e ∙ k) in
    let gone : c.gather.result ≡ Err NotScript = c.in_err-reading.was ∙ ap Err same in
    let bad : (list_all in_range c.deref.result.now && lawful c.deref.result.now) ≡ false = c.gather.ensures.refused gone in
    no_commands c.args.canvas c.args.commands.items (subst (λ l. (list_all in_range l && lawful l) ≡ false) c.deref.ensures.value bad)

pub returns-in-Err-Fault-clause-refused : goal.returns-in-Err-Fault-clause-refused
returns-in-Err-Fault-clause-refused c _ =
    let r = c.in_ok-reading.reading in
    let cs = c.args.commands.items in
    let f = c.in-Err-Fault.field-0-0 in
    let bad : end_by r.canvas r.draft r.starts.items ≡ Some f = search rules in
    let g : IsGathered r c.args.canvas c.deref.result.now = search rules in
    let draft : r.draft ≡ cs = g.draft ∙ c.deref.ensures.value in
    left_bad c.args.canvas cs r.starts.items f ((λ j. end_by (sym g.canvas j) (sym draft j) r.starts.items) ∙ bad)
