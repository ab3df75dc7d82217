use Rattle.std.proofs.Common.{rules, ◌≡◌, true, false, sym, subst}
use Rattle.std.specs.List.{list_all}
use Rattle.doc_model.specs.Feeding.{lawful}
use Rattle.script_forms.specs.Ranges.{in_range}
use Rattle.script_text.specs.Script.{contents}
use Rattle.script_text.specs.Closed.{is_script, all_closed}
use Rattle.script_text.proofs.Legal.{is_script_by}
use Rattle.trace_core.proofs.replaying.script_of.Goals as goal

pub unreachable-requires : goal.unreachable-requires
unreachable-requires c =
    let taken = c.in_ok-commands.commands.items in
    let commands : taken ≡ c.args.machine.now.intake.fed = search rules in
    let is : is_script (contents c.args.canvas taken) ≡ true = is_script_by c.args.canvas taken
    c.requires.limits
    (subst (λ x. list_all in_range x ≡ true) (sym commands) c.commands.ensures.ranges)
    (subst (λ x. lawful x ≡ true) (sym commands) c.requires.lawful)
    (subst (λ x. all_closed x ≡ true) (sym commands) c.requires.closed) in
    let no_script : is_script (contents c.args.canvas taken) ≡ false = search rules in
    cc
