use Rattle.std.proofs.Common.{◌≡◌, IfOk, true, subst, sym}
use Rattle.strokes_top.specs.Choice.{is_of_artists}
use Rattle.strokes_top.specs.Output.{asked_as, written}
use Rattle.strokes_top.specs.Run.{IsDrawn, led}
use Rattle.strokes_top.proofs.Choices.{fit_draws, draws_some, draws_few, draws_of, fit_workers}
use Rattle.strokes_top.proofs.painting.painted_to_show.Goals as goal

pub workers_for-workers-requires : goal.workers_for-workers-requires
workers_for-workers-requires g c = fit_workers c.args.choice.now c.requires.fit

pub painted_by_artists-requires-clause-form : goal.painted_by_artists-requires-clause-form
painted_by_artists-requires-clause-form g c = λ κs lives.
    subst (λ e. is_of_artists e ≡ true) c.requires.form (draws_of c.args.choice.now c.in-Some.artists (fit_draws _ _ c.in-Some.is c.requires.fit))

pub painted_by_artists-requires-clause-some : goal.painted_by_artists-requires-clause-some
painted_by_artists-requires-clause-some g c = λ κs lives. draws_some c.args.choice.now c.in-Some.artists (fit_draws _ _ c.in-Some.is c.requires.fit)

pub painted_by_artists-requires-clause-artists : goal.painted_by_artists-requires-clause-artists
painted_by_artists-requires-clause-artists g c = λ κs lives. draws_few c.args.choice.now c.in-Some.artists (fit_draws _ _ c.in-Some.is c.requires.fit)

pub returns-in-Some-clause-drawn : goal.returns-in-Some-clause-drawn
returns-in-Some-clause-drawn g c = subst (λ a. IfOk c.painted_by_artists.result (λ p. IsDrawn a c.args.script p.script)) (sym c.in-Some.is) c.painted_by_artists.ensures.drawn

pub returns-in-Some-clause-whole : goal.returns-in-Some-clause-whole
returns-in-Some-clause-whole g c =
    subst (λ a. IfOk c.painted_by_artists.result (λ p. written p.output p.script ≡ led a (asked_as c.args.form) p.script)) (sym c.in-Some.is) c.painted_by_artists.ensures.whole

pub returns-in-None-clause-drawn : goal.returns-in-None-clause-drawn
returns-in-None-clause-drawn g c = subst (λ a. IfOk c.painted_by_crew.result (λ p. IsDrawn a c.args.script p.script)) (sym c.in-None.is) c.painted_by_crew.ensures.drawn

pub returns-in-None-clause-whole : goal.returns-in-None-clause-whole
returns-in-None-clause-whole g c =
    subst (λ a. IfOk c.painted_by_crew.result (λ p. written p.output p.script ≡ led a (asked_as c.args.form) p.script)) (sym c.in-None.is) c.painted_by_crew.ensures.whole

pub returns-in-Some-clause-shows : goal.returns-in-Some-clause-shows
returns-in-Some-clause-shows g c = c.painted_by_artists.ensures.shows

pub returns-in-None-clause-shows : goal.returns-in-None-clause-shows
returns-in-None-clause-shows g c = c.painted_by_crew.ensures.shows
