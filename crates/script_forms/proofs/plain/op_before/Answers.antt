use Rattle.std.proofs.Common.{refl, codes}
use Rattle.pixel_core.specs.declared.blending.Op.TheVariants.{Over, Erase, Multiply, Screen, Addition}
use Rattle.script_forms.specs.Jobs.{op_of}
use Rattle.script_forms.proofs.PlainLines.{word_first}
use Rattle.script_forms.proofs.plain.op_before.Goals as goal

pub returns-in-Some : goal.returns-in-Some
unfolding op_of
returns-in-Some c = word_first op_of Over (codes "over") c.args.text.now c.in-Some.behind.now refl refl c.in-Some.ensures

pub returns-in-Some-behind_word : goal.returns-in-Some-behind_word
unfolding op_of
returns-in-Some-behind_word c = word_first op_of Erase (codes "erase") c.args.text.now c.in-Some-behind_word.behind.now refl refl c.in-Some-behind_word.ensures

pub returns-in-Some-behind_word-2 : goal.returns-in-Some-behind_word-2
unfolding op_of
returns-in-Some-behind_word-2 c = word_first op_of Multiply (codes "multiply") c.args.text.now c.in-Some-behind_word-2.behind.now refl refl c.in-Some-behind_word-2.ensures

pub returns-in-Some-behind_word-3 : goal.returns-in-Some-behind_word-3
unfolding op_of
returns-in-Some-behind_word-3 c = word_first op_of Screen (codes "screen") c.args.text.now c.in-Some-behind_word-3.behind.now refl refl c.in-Some-behind_word-3.ensures

pub returns : goal.returns
unfolding op_of
returns c = word_first op_of Addition (codes "addition") c.args.text.now c.in_ok-behind.behind.now refl refl c.in_ok-behind.ensures
