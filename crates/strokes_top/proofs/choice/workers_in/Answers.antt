use Rattle.std.proofs.Common.{◌∙◌, Some, ap, arith, codes, refl, option_map, unwrap_or}
use Rattle.clap.proofs.WalkLemmas.{one_text-rows}
use Rattle.clap.specs.Matches.{found_of}
use Rattle.strokes_top.specs.Choice.{workers_of}
use Rattle.strokes_top.proofs.Choices.{number_told, number_untold}
use Rattle.strokes_top.proofs.choice.workers_in.Goals as goal

pub returns-in-Ok : goal.returns-in-Ok
returns-in-Ok c = ap Some c.unwrap_or.ensures ∙ ap (option_map (λ n. unwrap_or n 4)) (number_told 8 255 refl (omega arith) _ c.in-Ok.workers c.in-Ok.ensures.none c.in-Ok.ensures.value)
    ∙ ap workers_of (one_text-rows (found_of c.args.matches.now) (codes "workers"))

pub returns-in-Err : goal.returns-in-Err
returns-in-Err c = ap (option_map (λ n. unwrap_or n 4)) (number_untold 8 255 refl (omega arith) _ c.in-Err.field-0 c.in-Err.ensures.none c.in-Err.ensures.value)
    ∙ ap workers_of (one_text-rows (found_of c.args.matches.now) (codes "workers"))
