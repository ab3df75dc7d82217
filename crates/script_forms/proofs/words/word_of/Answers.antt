use Rattle.std.proofs.Common.{rules, arith, ap, sym, codes}
use Rattle.std.proofs.lemmas.Slice.Eq.{text_from_reads}
use Rattle.script_forms.specs.Forms.{word_of}
use Rattle.script_forms.proofs.words.word_of.Goals as goal

pub returns-in-purge : goal.returns-in-purge
unfolding word_of
returns-in-purge c = ap word_of (sym (text_from_reads c.args.field.now (codes "purge") (omega (arith, c.in-purge.len_at_least, c.in-purge.len_below)) (search rules)))

pub returns-in-remove : goal.returns-in-remove
unfolding word_of
returns-in-remove c = ap word_of (sym (text_from_reads c.args.field.now (codes "remove") (omega (arith, c.in-remove.len_at_least, c.in-remove.len_below)) (search rules)))

pub returns-in-stroke : goal.returns-in-stroke
unfolding word_of
returns-in-stroke c = ap word_of (sym (text_from_reads c.args.field.now (codes "stroke") (omega (arith, c.in-stroke.len_at_least, c.in-stroke.len_below)) (search rules)))

pub returns-in-cancel : goal.returns-in-cancel
unfolding word_of
returns-in-cancel c = ap word_of (sym (text_from_reads c.args.field.now (codes "cancel") (omega (arith, c.in-cancel.len_at_least, c.in-cancel.len_below)) (search rules)))

pub returns-in-export : goal.returns-in-export
unfolding word_of
returns-in-export c = ap word_of (sym (text_from_reads c.args.field.now (codes "export") (omega (arith, c.in-export.len_at_least, c.in-export.len_below)) (search rules)))
