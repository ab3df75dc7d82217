use Rattle.std.proofs.Common.{◌∙◌, ap, arith, codes, refl}
use Rattle.clap.proofs.WalkLemmas.{one_text-rows}
use Rattle.clap.specs.Matches.{found_of}
use Rattle.strokes_top.specs.Choice.{artists_of}
use Rattle.strokes_top.proofs.Choices.{number_told, number_untold}
use Rattle.strokes_top.proofs.choice.artists_in.Goals as goal

pub returns-in-Ok : goal.returns-in-Ok
returns-in-Ok c = number_told 8 255 refl (omega arith) _ c.in-Ok.artists c.in-Ok.ensures.none c.in-Ok.ensures.value ∙ ap artists_of (one_text-rows (found_of c.args.matches.now) (codes "artists"))

pub returns-in-Err : goal.returns-in-Err
returns-in-Err c = number_untold 8 255 refl (omega arith) _ c.in-Err.field-0 c.in-Err.ensures.none c.in-Err.ensures.value ∙ ap artists_of (one_text-rows (found_of c.args.matches.now) (codes "artists"))
