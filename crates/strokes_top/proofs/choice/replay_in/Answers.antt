use Rattle.std.proofs.Common.{◌∙◌, Some, ap, codes}
use Rattle.clap.proofs.WalkLemmas.{one_text-rows}
use Rattle.clap.specs.Matches.{found_of}
use Rattle.strokes_top.specs.Choice.{flag_of}
use Rattle.strokes_top.proofs.Choices.{flag_told, flag_untold}
use Rattle.strokes_top.proofs.choice.replay_in.Goals as goal

pub returns-in-Ok : goal.returns-in-Ok
returns-in-Ok c = ap Some c.unwrap_or.ensures ∙ flag_told _ c.in-Ok.replay c.in-Ok.ensures.none c.in-Ok.ensures.value ∙ ap flag_of (one_text-rows (found_of c.args.matches.now) (codes "replay"))

pub returns-in-Err : goal.returns-in-Err
returns-in-Err c = flag_untold _ c.in-Err.field-0 c.in-Err.ensures.none c.in-Err.ensures.value ∙ ap flag_of (one_text-rows (found_of c.args.matches.now) (codes "replay"))
