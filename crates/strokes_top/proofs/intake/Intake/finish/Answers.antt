use Rattle.std.proofs.Common.{rules, ◌≡◌, Err, ap, sym, subst}
use Rattle.script_text.specs.Reading.{fault, script}
use Rattle.script_text.specs.Read.{Answers}
use Rattle.strokes_top.proofs.Intakes.{room_at_end, answered, refused}
use Rattle.strokes_top.proofs.intake.Intake.finish.Goals as goal

pub feed-requires : goal.feed-requires
feed-requires c = room_at_end c.args.self c.requires.0 c.requires.1 c.deref.result.now c.deref.ensures.value c.requires.2

pub returns-in_err-feed : goal.returns-in_err-feed
returns-in_err-feed c = λ got t.
    let told : c.from_residual.result ≡ Err c.in_err-feed.field-0.0 = search rules in
    subst (λ r. Answers r (fault got) (script got)) (sym told)
    (refused c.args.self got t c.deref.result.now c.deref.ensures.value c.in_err-feed.field-0.0 (λ f more e. c.in_err-feed.ensures.fault t.whole more f t.read (ap Err e)))

pub returns : goal.returns
returns c = λ got t. answered c.args.self got t c.deref.result.now c.deref.ensures.value c.finish.result (c.finish.ensures _ (c.in_ok-feed.ensures.ok t.whole t.read))
