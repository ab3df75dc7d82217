use Rattle.std.proofs.Common.{List, sym, subst}
use Rattle.std.specs.Prelude.{OnOk}
use Rattle.geom_core.specs.Areas.{Area}
use Rattle.geom_core.specs.Grid.{keys_of}
use Rattle.crew_run.specs.Watched.{SeesRoot}
use Rattle.live_view.specs.declared.update.Update.{Update}
use Rattle.live_view.specs.Shown.{updates_of}
use Rattle.live_view.specs.Views.{published, all_updates}
use Rattle.live_run.specs.declared.owed.Owed.{Owed}
use Rattle.live_run.specs.Owing.{seen_in, LaysDown}
use Rattle.live_run.specs.Showing.{ShowsTiles}
use Rattle.live_run.proofs.Owing.{laid_published}
use Rattle.live_run.proofs.screen.Screen.lay_owed.Goals as goal

pub returns-clause-shows : goal.returns-clause-shows
returns-clause-shows g c =
    let owed : List Owed = c.args.self.now.owed.items in
    let old : List Update = all_updates c.publish.new.live in
    let seen : SeesRoot (seen_in c.args.self.now.tiles owed old) c.args.desk.now =
    subst (λ (us : List Update). SeesRoot (seen_in c.args.self.now.tiles owed us) c.args.desk.now) (sym c.publish.ensures.updates) c.requires in
    let lays : LaysDown owed old (all_updates c.put_owed.new.live) c.args.desk.now =
    subst (λ (xs : List Owed). LaysDown xs old (all_updates c.put_owed.new.live) c.args.desk.now) c.deref.ensures.0 c.in_ok-put_owed.ensures.laid in
    subst (λ (tiles : Area). OnOk c.publish-2.result (ShowsTiles (updates_of (published c.publish-2.new.live)) c.args.desk.now (keys_of tiles))) c.args.self.now.tiles_are
    (laid_published c.publish-2.result c.args.self.now.tiles owed old c.put_owed.new.live c.publish-2.new.live c.args.desk.now seen lays c.publish-2.ensures.updates c.publish-2.ensures.pending)
