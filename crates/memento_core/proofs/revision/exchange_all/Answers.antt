use Rattle.std.proofs.Common.{◌≡◌, length, refl, ◌∙◌, arith}
use Rattle.memento_core.proofs.Exchanging.{none_yet, step_up, next_there, ended_traded, ended_keys}
use Rattle.memento_core.proofs.revision.exchange_all.Goals as goal

pub loop-note-init : goal.loop-note-init
loop-note-init g c = (none_yet (g.P.Plane.plane c.args.plane.now) c.args.notes.now c.requires.there, (refl, omega arith))

pub exchange-requires : goal.exchange-requires
exchange-requires g c = next_there (g.P.Plane.plane c.args.plane.now) c.args.notes.now (g.P.Plane.plane c.loop-note.plane) c.loop-note.notes c.loop-note.note-index c.note-item.result (omega (arith, c.loop-note-test.true, c.loop-note.auto.notes)) c.loop-note.invariant.0

pub loop-note-preserved : goal.loop-note-preserved
loop-note-preserved g c = (
  step_up (g.P.Plane.plane c.args.plane.now) c.args.notes.now (g.P.Plane.plane c.loop-note.plane) (g.P.Plane.plane c.exchange.new.self) c.loop-note.notes c.loop-note.note-index c.note-item.result c.exchange.result c.replace-tile.result
      (omega (arith, c.loop-note-test.true, c.loop-note.auto.notes)) c.exchange.ensures.old c.replace-tile.ensures.value c.exchange.ensures.new c.loop-note.invariant.0,
  (c.exchange.ensures.rest ∙ c.loop-note.invariant.1.0, omega (arith, c.exchange.ensures.counts, c.loop-note.invariant.1.1)),
)

pub returns-clause-exchanges : goal.returns-clause-exchanges
returns-clause-exchanges g c =
    let last : c.loop-note.note-index ≡ length c.loop-note.notes = omega (arith, c.loop-note-test.false, c.loop-note.auto.notes, c.loop-note.auto.note-index-end) in
    ended_traded (g.P.Plane.plane c.args.plane.now) c.args.notes.now (g.P.Plane.plane c.loop-note.plane) c.loop-note.notes c.loop-note.note-index last c.loop-note.invariant.0 c.requires.once c.requires.there

pub returns-clause-keys : goal.returns-clause-keys
returns-clause-keys g c =
    let last : c.loop-note.note-index ≡ length c.loop-note.notes = omega (arith, c.loop-note-test.false, c.loop-note.auto.notes, c.loop-note.auto.note-index-end) in
    ended_keys (g.P.Plane.plane c.args.plane.now) c.args.notes.now (g.P.Plane.plane c.loop-note.plane) c.loop-note.notes c.loop-note.note-index last c.loop-note.invariant.0

pub returns-clause-counts : goal.returns-clause-counts
returns-clause-counts g c =
    let last : c.loop-note.note-index ≡ length c.args.notes.now = omega (arith, c.loop-note-test.false, c.loop-note.auto.note-index-end) in
    omega (arith, last, c.loop-note.invariant.1.1)

pub returns-clause-rest : goal.returns-clause-rest
returns-clause-rest g c = c.loop-note.invariant.1.0
