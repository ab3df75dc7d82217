use Rattle.std.proofs.Common.{IfOk, subst, sym}
use Rattle.strokes_top.specs.Room.{ShowsFor}
use Rattle.strokes_top.proofs.painting.shown_by_crew.Goals as goal

-- the live view is that of a reader
pub returns-in-Live-clause-shows : goal.returns-in-Live-clause-shows
returns-in-Live-clause-shows g c = subst (λ f. IfOk c.run_live_shown.result (λ s. ShowsFor f c.args.script.now s.film s.outcomes.items)) (sym c.in-Live.is) c.run_live_shown.ensures
