use Rattle.std.proofs.Common.{rules, arith, ap, sym, codes}
use Rattle.std.proofs.lemmas.Slice.Eq.{text_from_reads}
use Rattle.script_forms.specs.Jobs.{op_of}
use Rattle.script_forms.proofs.words.op_of.Goals as goal

pub returns-in-screen : goal.returns-in-screen
unfolding op_of
returns-in-screen c = ap op_of (sym (text_from_reads c.args.field.now (codes "screen") (omega (arith, c.in-screen.len_at_least, c.in-screen.len_below)) (search rules)))

pub returns-in-multiply : goal.returns-in-multiply
unfolding op_of
returns-in-multiply c = ap op_of (sym (text_from_reads c.args.field.now (codes "multiply") (omega (arith, c.in-multiply.len_at_least, c.in-multiply.len_below)) (search rules)))

pub returns-in-addition : goal.returns-in-addition
unfolding op_of
returns-in-addition c = ap op_of (sym (text_from_reads c.args.field.now (codes "addition") (omega (arith, c.in-addition.len_at_least, c.in-addition.len_below)) (search rules)))
