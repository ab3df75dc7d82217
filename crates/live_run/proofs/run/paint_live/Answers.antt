use Rattle.std.proofs.Common.{rules, ◌≡◌, [], Result, Ok, IfOk, sym, subst}
use Rattle.machine_model.specs.State.{State}
use Rattle.crew_run.specs.Painted.{IsPaintedBy}
use Rattle.live_view.specs.Shown.{updates_of}
use Rattle.live_view.specs.Views.{Feed, published, pending}
use Rattle.live_run.specs.Painted.{IsShownBy}
use Rattle.live_run.specs.Showing.{ShowsRoot}
use Rattle.live_run.proofs.RootTiles.{picture_shown}
use Rattle.live_run.proofs.run.paint_live.Goals as goal

-- what is known of each value of Ok is known of that one
had : {X E : Type 0} (P : X → Type 0) (r : Result X E) (x : X) → r ≡ Ok x → IfOk r P → P x
had P r x is h = subst (λ (r : Result _ _). IfOk r P) is h

-- the writer that was lent is the caller's
pub returns-clause-ok : goal.returns-clause-ok
returns-clause-ok g c =
    let painted = had (λ (d : State). IsPaintedBy c.args.script.now d) c.paint_lent-desk.result.desk c.in_ok-desk.desk c.in_ok-desk.was c.paint_lent-desk.ensures.painted in
    let root = had (λ (d : State). ShowsRoot (updates_of (published c.paint_lent-desk.result.lent.writer.now)) d) c.paint_lent-desk.result.desk c.in_ok-desk.desk c.in_ok-desk.was c.paint_lent-desk.ensures.root in
    let none = had (λ (d : State). pending c.paint_lent-desk.result.lent.writer.now ≡ []) c.paint_lent-desk.result.desk c.in_ok-desk.desk c.in_ok-desk.was c.paint_lent-desk.ensures.pending in
    let shown : IsShownBy c.args.script.now c.new-lent.result.writer.now c.paint_lent-desk.result.lent.writer.now c.in_ok-desk.desk =
    record {
      painted = painted;
      goes_on = c.paint_lent-desk.ensures.goes_on;
      nothing_pending = none;
      root = root;
      picture = picture_shown (updates_of (published c.paint_lent-desk.result.lent.writer.now)) c.in_ok-desk.desk root (c.settled_shows_picture.ensures painted.settled);
    } in
    let before : IsShownBy c.args.script.now c.args.live.now c.paint_lent-desk.result.lent.writer.now c.in_ok-desk.desk =
    subst (λ (old : Feed). IsShownBy c.args.script.now old c.paint_lent-desk.result.lent.writer.now c.in_ok-desk.desk) c.new-lent.ensures.same shown in
    subst (λ (now : Feed). IsShownBy c.args.script.now c.args.live.now now c.in_ok-desk.desk) (search rules) before
