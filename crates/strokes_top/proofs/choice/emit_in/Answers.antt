use Rattle.std.proofs.Common.{◌∙◌, ap, codes}
use Rattle.clap.proofs.WalkLemmas.{one_text-rows}
use Rattle.clap.specs.Matches.{found_of}
use Rattle.strokes_top.specs.Choice.{emit_of}
use Rattle.strokes_top.proofs.Choices.{emit_some, emit_none, emit_unknown}
use Rattle.strokes_top.proofs.choice.emit_in.Goals as goal

pub returns-in-Ok-Some : goal.returns-in-Ok-Some
returns-in-Ok-Some c =
    let told = rw c.in-Ok-Some.field-0-is at c.in-Ok-Some.ensures in
    emit_some _ c.in-Ok-Some.emit told.none told.value ∙ ap emit_of (one_text-rows (found_of c.args.matches.now) (codes "emit"))

pub returns-in-Ok-None : goal.returns-in-Ok-None
returns-in-Ok-None c =
    let told = rw c.in-Ok-None.field-0-is at c.in-Ok-None.ensures in
    emit_none _ told.value ∙ ap emit_of (one_text-rows (found_of c.args.matches.now) (codes "emit"))

pub returns-in-Err : goal.returns-in-Err
returns-in-Err c = emit_unknown _ _ c.in-Err.ensures.none c.in-Err.ensures.value ∙ ap emit_of (one_text-rows (found_of c.args.matches.now) (codes "emit"))
