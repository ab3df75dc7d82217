use Rattle.std.proofs.Common.{refl, codes}
use Rattle.doc_model.specs.declared.job.Kind.TheVariants.{Con, Seq, Bar, Uni}
use Rattle.script_forms.specs.Jobs.{kind_of}
use Rattle.script_forms.proofs.PlainLines.{word_first}
use Rattle.script_forms.proofs.plain.kind_before.Goals as goal

pub returns-in-Some : goal.returns-in-Some
unfolding kind_of
returns-in-Some c = word_first kind_of Con (codes "con") c.args.text.now c.in-Some.behind.now refl refl c.in-Some.ensures

pub returns-in-Some-behind_word : goal.returns-in-Some-behind_word
unfolding kind_of
returns-in-Some-behind_word c = word_first kind_of Seq (codes "seq") c.args.text.now c.in-Some-behind_word.behind.now refl refl c.in-Some-behind_word.ensures

pub returns-in-Some-behind_word-2 : goal.returns-in-Some-behind_word-2
unfolding kind_of
returns-in-Some-behind_word-2 c = word_first kind_of Bar (codes "bar") c.args.text.now c.in-Some-behind_word-2.behind.now refl refl c.in-Some-behind_word-2.ensures

pub returns : goal.returns
unfolding kind_of
returns c = word_first kind_of Uni (codes "uni") c.args.text.now c.in_ok-behind.behind.now refl refl c.in_ok-behind.ensures
