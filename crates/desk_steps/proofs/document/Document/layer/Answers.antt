use Rattle.std.proofs.Common.{◌≡◌, None, sym, ap, subst, ◌∙◌}
use Rattle.std.specs.Prelude.{IfNone}
use Rattle.std.specs.Option.{unwrap_or}
use Rattle.doc_model.specs.Forest.{content}
use Rattle.desk_steps.specs.Documents.{doc_in}
use Rattle.desk_steps.proofs.Devices.{lent_some, lent_none}
use Rattle.desk_steps.proofs.document.Document.layer.Goals as goal

pub returns-in_err-get-clause-none : goal.returns-in_err-get-clause-none
returns-in_err-get-clause-none c = subst (λ r. IfNone r (content c.args.id (doc_in c.args.self.now) ≡ None)) (sym c.from_residual.ensures) (lent_none c.args.id c.args.self.now None (ap (λ o. unwrap_or o None) c.in_err-get.ensures.value))

pub returns-clause-some : goal.returns-clause-some
returns-clause-some c = lent_some c.args.id c.args.self.now c.as_ref.result (c.as_ref.ensures.value ∙ ap (λ o. unwrap_or o None) c.in_ok-get.ensures.value)

pub returns-clause-none : goal.returns-clause-none
returns-clause-none c = lent_none c.args.id c.args.self.now c.as_ref.result (c.as_ref.ensures.value ∙ ap (λ o. unwrap_or o None) c.in_ok-get.ensures.value)
