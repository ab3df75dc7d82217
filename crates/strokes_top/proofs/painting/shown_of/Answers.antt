use Rattle.crew_run.proofs.ShownScripts.{shown_is}
use Rattle.strokes_top.proofs.painting.shown_of.Goals as goal

pub returns : goal.returns
returns c = λ script canvas fed. shown_is c.args.desk script c.into_results-film.result.0 c.into_results-film.result.1.items
    (c.settled_has_meaning.ensures c.requires) canvas fed
    c.into_results-film.ensures.frames c.into_results-film.ensures.sides c.into_results-film.ensures.outcomes
