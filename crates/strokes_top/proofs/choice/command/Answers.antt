use Rattle.std.proofs.Common.{rules, ap, ap₂, pos, ◌≡◌, ◌∙◌, codes, true}
use Rattle.std.proofs.lemmas.Result.{IfOk-weaker}
use Rattle.clap.specs.Walk.{rule_of}
use Rattle.clap.specs.Simple.{App, app_of, app_of_fields, on_top, with_rule}
use Rattle.strokes_top.specs.Choice.{named, option, number_option, flag}
use Rattle.strokes_top.proofs.choice.command.Goals as goal

pub returns : goal.returns
returns c =
    let emit_is : rule_of c.long-emit.result ≡ option (codes "emit") = search rules in
    let named_is : app_of c.no_binary_name.result ≡ named = ap app_of_fields c.no_binary_name.ensures ∙ ap (on_top (λ s. record s { no_binary_name = true })) c.new-3.ensures.app in
    let one : App = with_rule named (number_option (codes "workers") (pos 0) (pos 16)) in
    let one_is : app_of c.in_ok-arg.field-0 ≡ one = c.in_ok-arg.ensures.shape c.number_option-workers.ensures.local ∙ ap₂ with_rule named_is c.number_option-workers.ensures.rule in
    let two : App = with_rule one (option (codes "emit")) in
    let two_is : app_of c.in_ok-arg-2.field-0 ≡ two = c.in_ok-arg-2.ensures.shape (search rules) ∙ ap₂ with_rule one_is emit_is in
    let three : App = with_rule two (number_option (codes "demo") (pos 0) (pos 4294967295)) in
    let three_is : app_of c.in_ok-arg-3.field-0 ≡ three = c.in_ok-arg-3.ensures.shape c.number_option-demo.ensures.local ∙ ap₂ with_rule two_is c.number_option-demo.ensures.rule in
    let four : App = with_rule three (number_option (codes "artists") (pos 1) (pos 16)) in
    let four_is : app_of c.in_ok-arg-4.field-0 ≡ four = c.in_ok-arg-4.ensures.shape c.number_option-artists.ensures.local ∙ ap₂ with_rule three_is c.number_option-artists.ensures.rule in
    let replay_is : rule_of c.action-replay.result ≡ flag (codes "replay") = search rules in
    IfOk-weaker c.arg-5.result _ _ (λ r h. h.shape (search rules) ∙ ap₂ with_rule four_is replay_is) c.arg-5.ensures
