use Rattle.std.proofs.Common.{◌≡◌, length, Some, sym, ap, ◌∙◌}
use mathlib.Core.Option.{some-injective}
use Rattle.turn_lock.proofs.Passing.{closes}
use Rattle.turn_lock.proofs.lock.TurnLock.close.Goals as goal

pub unreachable-requires : goal.unreachable-requires
unreachable-requires g c =
    let all : length c.pass.inside.seat.me.0.kept ≡ c.self.inside.table.shared.key.artists = ap (λ k. length k.numbers) c.pass.view_is ∙ (c.requires.all ∙ sym (ap (λ k. k.artists) c.self.view_is)) in
    let r = closes g.D.Board.artist g.D.Board.lawful g.D.Board.history g.D.Board.fixed c.self.inside.table.shared.key c.pass.inside.seat.id c.pass.inside.seat.me.0 _ _ c.close_with-closed.ensures.values.2 c.pass.invariant.0 all in
    c.in_default.not-Some r.0 (some-injective _ _ (sym c.take-slot.ensures.value ∙ r.1))

pub returns-clause-seen : goal.returns-clause-seen
returns-clause-seen g c =
    let all : length c.pass.inside.seat.me.0.kept ≡ c.self.inside.table.shared.key.artists = ap (λ k. length k.numbers) c.pass.view_is ∙ (c.requires.all ∙ sym (ap (λ k. k.artists) c.self.view_is)) in
    let r = closes g.D.Board.artist g.D.Board.lawful g.D.Board.history g.D.Board.fixed c.self.inside.table.shared.key c.pass.inside.seat.id c.pass.inside.seat.me.0 _ _ c.close_with-closed.ensures.values.2 c.pass.invariant.0 all in
    let same : Some c.in-Some.value ≡ Some r.0 = some-injective _ _ (sym c.in-Some.ensures.value ∙ r.1) in
    let held : c.in-Some.value ≡ r.0 = cc in
    ap g.D.Board.history held ∙ (r.2.whole ∙ ap (λ k. k.seen) c.pass.view_is)

pub returns-clause-fixed : goal.returns-clause-fixed
returns-clause-fixed g c =
    let all : length c.pass.inside.seat.me.0.kept ≡ c.self.inside.table.shared.key.artists = ap (λ k. length k.numbers) c.pass.view_is ∙ (c.requires.all ∙ sym (ap (λ k. k.artists) c.self.view_is)) in
    let r = closes g.D.Board.artist g.D.Board.lawful g.D.Board.history g.D.Board.fixed c.self.inside.table.shared.key c.pass.inside.seat.id c.pass.inside.seat.me.0 _ _ c.close_with-closed.ensures.values.2 c.pass.invariant.0 all in
    let same : Some c.in-Some.value ≡ Some r.0 = some-injective _ _ (sym c.in-Some.ensures.value ∙ r.1) in
    let held : c.in-Some.value ≡ r.0 = cc in
    ap g.D.Board.fixed held ∙ (r.2.fix ∙ ap (λ k. k.fixed) c.self.view_is)

pub returns-clause-made : goal.returns-clause-made
returns-clause-made g c k =
    let all : length c.pass.inside.seat.me.0.kept ≡ c.self.inside.table.shared.key.artists = ap (λ k. length k.numbers) c.pass.view_is ∙ (c.requires.all ∙ sym (ap (λ k. k.artists) c.self.view_is)) in
    let r = closes g.D.Board.artist g.D.Board.lawful g.D.Board.history g.D.Board.fixed c.self.inside.table.shared.key c.pass.inside.seat.id c.pass.inside.seat.me.0 _ _ c.close_with-closed.ensures.values.2 c.pass.invariant.0 all in
    rw (← c.pass.view_is) (r.2.made k)

pub returns-clause-legal : goal.returns-clause-legal
returns-clause-legal g c =
    let all : length c.pass.inside.seat.me.0.kept ≡ c.self.inside.table.shared.key.artists = ap (λ k. length k.numbers) c.pass.view_is ∙ (c.requires.all ∙ sym (ap (λ k. k.artists) c.self.view_is)) in
    let r = closes g.D.Board.artist g.D.Board.lawful g.D.Board.history g.D.Board.fixed c.self.inside.table.shared.key c.pass.inside.seat.id c.pass.inside.seat.me.0 _ _ c.close_with-closed.ensures.values.2 c.pass.invariant.0 all in
    rw (← c.pass.view_is) r.2.legal
