use Rattle.std.proofs.Common.{rules, ◌≡◌, sym, ap, ◌∙◌, false, Some, Err, take}
use Rattle.doc_model.specs.Strokes.{entries}
use Rattle.script_text.specs.declared.script.ReadRefusal.TheVariants.{Fault}
use Rattle.script_text.specs.Reading.{misfit}
use Rattle.script_forms.specs.Ranges.{is_sound}
use Rattle.script_text.specs.Read.{IsRefused, TakesCommand}
use Rattle.script_text.proofs.Refusals.{bad_place, unsound, misfits, gathered_more}
use Rattle.script_text.proofs.making.gather.Goals as goal

pub returns-then-not-is_sound-clause-refused : goal.returns-then-not-is_sound-clause-refused
returns-then-not-is_sound-clause-refused c _ =
    let cs = c.args.commands.now in
    let i = c.loop-i.i in
    let d = c.index-commands-i.result in
    let s : is_sound d ≡ false = search rules in
    bad_place cs i d c.loop-i-test.true c.index-commands-i.is (unsound (entries (take i cs)) d s)

pub returns-in-Err-Fault-clause-refused : goal.returns-in-Err-Fault-clause-refused
returns-in-Err-Fault-clause-refused c _ =
    let cs = c.args.commands.now in
    let i = c.loop-i.i in
    let d = c.index-commands-i.result in
    let bad : IsRefused {A = Unit {0}} (Err (Fault c.in-Err-Fault.field-0-0)) 1 (misfit (entries c.loop-i.reading.draft) d) = search rules in
    let here : misfit (entries (take i cs)) d ≡ Some c.in-Err-Fault.field-0-0.cause = ap (λ l. misfit (entries l) d) (sym c.loop-i.invariant.draft) ∙ bad.1 in
    bad_place cs i d c.loop-i-test.true c.index-commands-i.is (misfits (entries (take i cs)) d c.in-Err-Fault.field-0-0.cause here)

pub loop-i-preserved : goal.loop-i-preserved
loop-i-preserved c =
    let t : TakesCommand c.loop-i.reading c.add.new.self 1 (Some c.index-commands-i.result) = search rules in
    gathered_more c.loop-i.reading c.add.new.self c.args.canvas c.args.commands.now c.loop-i.i 1 c.index-commands-i.result c.loop-i-test.true c.index-commands-i.is c.loop-i.invariant t
