use Rattle.std.proofs.Common.{◌≡◌, Some, length, refl, sym, subst, arith}
use Rattle.std.specs.Prelude.{slice_get}
use Rattle.std.proofs.lemmas.Option.{slice_get_read}
use Rattle.desk_events.specs.Commits.{RunsFront}
use Rattle.desk_core.specs.Commits.{commit_events}
use Rattle.desk_core.proofs.Committing.{tiles_front, takes_first, at_index, commits_rest, next_run, whole_run, none_left, prior_at, prior_stays}
use Rattle.desk_core.proofs.desk.Desk.exchange_all.Goals as goal

pub exchange_one-requires-clause-takes : goal.exchange_one-requires-clause-takes
exchange_one-requires-clause-takes c =
    let at : slice_get c.args.tiles.now c.loop-whole.whole-index ≡ Some c.whole-item.result = slice_get_read c.args.tiles.now (length c.args.tiles.now) c.loop-whole.whole-index c.whole-item.result refl c.loop-whole-test.true c.whole-item.is in
    takes_first c.loop-whole.self c.args.slot.place c.args.slot.serial c.whole-item.result _ (at_index c.loop-whole.self c.args.slot.place c.args.slot.serial c.args.tiles.now c.loop-whole.whole-index c.whole-item.result at c.loop-whole.invariant.1)

pub exchange_one-requires-clause-prior : goal.exchange_one-requires-clause-prior
exchange_one-requires-clause-prior c n e =
    let at : slice_get c.args.tiles.now c.loop-whole.whole-index ≡ Some c.whole-item.result = slice_get_read c.args.tiles.now (length c.args.tiles.now) c.loop-whole.whole-index c.whole-item.result refl c.loop-whole-test.true c.whole-item.is in
    prior_at c.loop-whole.self c.args.slot.place c.args.slot.serial n c.loop-whole.whole-index c.whole-item.result c.args.tiles.now _ at c.loop-whole.invariant.1 (c.loop-whole.invariant.2 n e)

pub returns-in_err-exchange_one-clause-front : goal.returns-in_err-exchange_one-clause-front
returns-in_err-exchange_one-clause-front c = subst (RunsFront c.args.self.now (commit_events c.args.slot.place c.args.tiles.now)) (sym c.in_err-exchange_one.ensures.err)
    (tiles_front c.args.slot.place c.args.tiles.now c.loop-whole.whole-index c.args.self.now c.loop-whole.self (omega (arith, c.loop-whole-test.true)) c.loop-whole.invariant.0)

pub loop-whole-preserved : goal.loop-whole-preserved
loop-whole-preserved c =
    let at : slice_get c.args.tiles.now c.loop-whole.whole-index ≡ Some c.whole-item.result = slice_get_read c.args.tiles.now (length c.args.tiles.now) c.loop-whole.whole-index c.whole-item.result refl c.loop-whole-test.true c.whole-item.is in (
      next_run c.args.slot.place c.args.tiles.now c.loop-whole.whole-index c.whole-item.result c.args.self.now c.loop-whole.self c.exchange_one.new.self at c.loop-whole.invariant.0 c.in_ok-exchange_one.ensures.ok,
      commits_rest c.loop-whole.self c.exchange_one.new.self c.args.slot.place c.args.slot.serial c.whole-item.result _ (at_index c.loop-whole.self c.args.slot.place c.args.slot.serial c.args.tiles.now c.loop-whole.whole-index c.whole-item.result at c.loop-whole.invariant.1) c.in_ok-exchange_one.ensures.ok,
      (λ n e. prior_stays c.loop-whole.self c.exchange_one.new.self c.args.slot.place c.args.slot.serial n c.whole-item.result.key c.args.tiles.now c.in_ok-exchange_one.ensures.ok (c.loop-whole.invariant.2 n e)),
    )

pub returns-clause-front : goal.returns-clause-front
returns-clause-front c = tiles_front c.args.slot.place c.args.tiles.now c.loop-whole.whole-index c.args.self.now c.loop-whole.self c.loop-whole.auto.whole-index-end c.loop-whole.invariant.0

pub returns-clause-all : goal.returns-clause-all
returns-clause-all c new step =
    let n : c.loop-whole.whole-index ≡ length c.args.tiles.now = omega (arith, c.loop-whole-test.false, c.loop-whole.auto.whole-index-end) in
    whole_run c.args.slot.place c.args.tiles.now c.loop-whole.whole-index c.args.self.now c.loop-whole.self new n c.loop-whole.invariant.0 step

pub returns-clause-ends : goal.returns-clause-ends
returns-clause-ends c = none_left c.loop-whole.self c.args.slot.place c.args.slot.serial c.args.tiles.now c.loop-whole.whole-index c.loop-whole-test.false c.loop-whole.invariant.1
