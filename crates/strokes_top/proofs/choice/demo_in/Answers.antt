use Rattle.std.proofs.Common.{◌∙◌, ap, arith, codes, refl}
use Rattle.clap.proofs.WalkLemmas.{one_text-rows}
use Rattle.clap.specs.Matches.{found_of}
use Rattle.strokes_top.specs.Choice.{demo_of}
use Rattle.strokes_top.proofs.Choices.{number_told, number_untold}
use Rattle.strokes_top.proofs.choice.demo_in.Goals as goal

pub returns-in-Ok : goal.returns-in-Ok
returns-in-Ok c = number_told 32 4294967295 refl (omega arith) _ c.in-Ok.demo c.in-Ok.ensures.none c.in-Ok.ensures.value ∙ ap demo_of (one_text-rows (found_of c.args.matches.now) (codes "demo"))

pub returns-in-Err : goal.returns-in-Err
returns-in-Err c = number_untold 32 4294967295 refl (omega arith) _ c.in-Err.field-0 c.in-Err.ensures.none c.in-Err.ensures.value ∙ ap demo_of (one_text-rows (found_of c.args.matches.now) (codes "demo"))
