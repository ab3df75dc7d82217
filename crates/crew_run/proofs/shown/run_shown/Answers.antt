use Rattle.crew_run.proofs.ShownScripts.{shown_is}
use Rattle.crew_run.proofs.shown.run_shown.Goals as goal

pub returns : goal.returns
returns g c = shown_is c.in_ok-desk.desk c.args.script.now c.into_results-film.result.0 c.into_results-film.result.1.items
    (c.settled_has_meaning.ensures c.in_ok-desk.ensures.settled) c.in_ok-desk.ensures.canvas c.in_ok-desk.ensures.fed
    c.into_results-film.ensures.frames c.into_results-film.ensures.sides c.into_results-film.ensures.outcomes
