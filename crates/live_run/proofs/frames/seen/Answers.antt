use Rattle.std.proofs.Common.{◌≡◌, ◌+◌, List, length, ap, ◌∙◌, subst, arith}
use Rattle.live_view.specs.declared.update.Update.{Update}
use Rattle.live_view.specs.Shown.{Rows, updates_of, shown, StartsWith}
use Rattle.live_view.specs.Views.{published, pending, known, Glimpse}
use Rattle.live_view.proofs.Laying.{same_shown}
use Rattle.live_run.proofs.frames.seen.Goals as goal

pub returns-in-Ok-look-clause-tile : goal.returns-in-Ok-look-clause-tile
returns-in-Ok-look-clause-tile g c =
    let rows : Rows = known c.look.new.self in
    let told : Rows = published c.args.live.now in
    let tile : c.in-Ok-look.seen.tile ≡ shown (updates_of rows) c.args.key = c.in-Ok-look.ensures.tile in
    let before : StartsWith rows told = subst (λ (r : Glimpse). StartsWith rows (known r)) c.in-Ok.ensures c.look.ensures.before in
    let none : length (pending c.args.live.now) ≡ 0 = ap (λ (us : List Update). length us) c.requires.none in
    let count : c.count.result ≡ length (updates_of told) + length (pending c.args.live.now) = c.count.ensures.value in
    let version : c.in-Ok-look.seen.version ≡ length (updates_of rows) = c.in-Ok-look.ensures.version in
    let same : c.in-Ok-look.seen.version ≡ c.count.result = c.if-look-count.true in
    tile ∙ same_shown rows told c.args.key before (omega arith)
