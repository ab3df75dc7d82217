use Rattle.std.proofs.Common.{rules, arith, ap, sym, codes}
use Rattle.std.proofs.lemmas.Slice.Eq.{text_from_reads}
use Rattle.script_forms.specs.Forms.{exclusive_of}
use Rattle.script_forms.proofs.words.exclusive_of.Goals as goal

pub returns-in-exclusive : goal.returns-in-exclusive
unfolding exclusive_of
returns-in-exclusive c = ap exclusive_of (sym (text_from_reads c.args.field.now (codes "exclusive") (omega (arith, c.in-exclusive.len_at_least, c.in-exclusive.len_below)) (search rules)))
