use Rattle.std.proofs.Common.{rules, ◌≡◌, false, Result, Err, length, sym, ap, ◌∙◌, subst, arith}
use Rattle.script_text.specs.Script.{Contents}
use Rattle.trace_lines.specs.declared.line.TraceCause.TheVariants.{Unsettled}
use Rattle.trace_lines.specs.Replay.{fault, replay as told, replayed}
use Rattle.trace_core.specs.Answers.{Answers}
use Rattle.trace_core.specs.Following.{IsRefused}
use Rattle.trace_core.specs.Moves.{is_settled}
use Rattle.trace_core.specs.Parts.{parts}
use Rattle.trace_core.proofs.Following.{refused, led_to, unsettled, fed_lawful, fed_closed, answered}
use Rattle.trace_core.proofs.LastLines.{few_traced}
use Rattle.trace_core.proofs.replaying.replay.Goals as goal

pub follow-requires : goal.follow-requires
follow-requires c = omega (arith, c.in_ok-machine.ensures.ok.number, few_traced c.args.bytes.now, ap length c.text_of.ensures)

pub returns-in_err-number : goal.returns-in_err-number
returns-in_err-number c =
    let e = c.in_err-number.field-0.0 in
    let err : c.from_residual-in_err-number.result ≡ Err e = search rules in
    let whole : IsRefused e (told c.args.bytes.now) = subst (λ ls. IsRefused e (replayed ls)) (sym c.text_of.ensures) (refused _ _ _ _ c.in_ok-machine.ensures.ok e c.in_err-number.ensures.leads) in
    subst (λ (r : Result Contents _). Answers r (told c.args.bytes.now)) (sym err) whole

pub returns-then-not-is_settled : goal.returns-then-not-is_settled
returns-then-not-is_settled c =
    let begun = c.in_ok-machine.ensures.ok in
    let new = parts c.follow.new.self in
    let left : is_settled new ≡ false = sym c.is_settled.ensures ∙ c.if-not-is_settled.true in
    let number = ap (λ n. fault n Unsettled) (sym c.in_ok-number.ensures.count) in
    subst (λ x. IsRefused x (told c.args.bytes.now)) (sym c.fault.ensures)
    (ap replayed c.text_of.ensures ∙ unsettled _ _ _ _ begun new (led_to _ _ _ _ begun new c.in_ok-number.ensures.leads) left ∙ number)

pub script_of-requires-clause-lawful : goal.script_of-requires-clause-lawful
script_of-requires-clause-lawful c =
    let begun = c.in_ok-machine.ensures.ok in
    let new = parts c.follow.new.self in
    fed_lawful _ _ _ _ begun new (led_to _ _ _ _ begun new c.in_ok-number.ensures.leads) (sym c.is_settled.ensures ∙ c.if-not-is_settled.false)

pub script_of-requires-clause-closed : goal.script_of-requires-clause-closed
script_of-requires-clause-closed c =
    let begun = c.in_ok-machine.ensures.ok in
    let new = parts c.follow.new.self in
    fed_closed _ _ _ _ begun new (led_to _ _ _ _ begun new c.in_ok-number.ensures.leads) (sym c.is_settled.ensures ∙ c.if-not-is_settled.false)

pub returns : goal.returns
returns c =
    let begun = c.in_ok-machine.ensures.ok in
    let new = parts c.follow.new.self in
    let led = led_to _ _ _ _ begun new c.in_ok-number.ensures.leads in
    let r = c.script_of.result in
    subst (λ ls. Answers r (replayed ls)) (sym c.text_of.ensures)
    (answered _ _ _ _ begun new led (sym c.is_settled.ensures ∙ c.if-not-is_settled.false) r c.script_of.ensures.ok c.script_of.ensures.err)
