use Rattle.std.proofs.Common.{◌≡◌, true, List, sym, ap, ◌∙◌, subst}
use Rattle.doc_model.specs.declared.command.Command.{Command}
use Rattle.doc_model.specs.Feeding.{lawful}
use Rattle.studio.specs.Histories.{commands_of}
use Rattle.studio.proofs.Signing.{all_commands, legal_lawful}
use Rattle.studio.proofs.studio.Studio.close.Goals as goal

pub returns-clause-fed : goal.returns-clause-fed
returns-clause-fed c =
    let s = c.close-desk.result in
    sym (all_commands s.signers.items s.desk.fed s.count) ∙ ap commands_of c.close-desk.ensures.seen

pub returns-clause-lawful : goal.returns-clause-lawful
returns-clause-lawful c =
    let s = c.close-desk.result in
    let fed = sym (all_commands s.signers.items s.desk.fed s.count) ∙ ap commands_of c.close-desk.ensures.seen in
    subst (λ (cs : List Command). lawful cs ≡ true) (sym fed) (legal_lawful c.args.pass.seen c.close-desk.ensures.legal)
