use Rattle.std.proofs.Common.{rules, ◌≡◌, ◌-◌, ap, ◌∙◌, take, length}
use Rattle.std.specs.Prelude.{reverse}
use Rattle.history_core.proofs.Steps.{newest_kept}
use Rattle.history_core.proofs.UndoStack.purge.Goals as goal

pub returns-then-keep-self-clause-past : goal.returns-then-keep-self-clause-past
returns-then-keep-self-clause-past g c =
    let xs = c.self.inside.entries.items in
    let keep = c.args.keep in
    let gone = c.self.inside.done - keep in
    let many : c.len.result ≡ length xs = search rules in
    ap (λ zs. reverse (take keep zs)) (c.truncate.ensures.items ∙ ap (λ n. take (n - gone) c.rotate_left.new.self.items) many ∙ ap (take (length xs - gone)) c.rotate_left.ensures.items)
    ∙ newest_kept keep c.self.inside.done xs c.if-keep-self.true (search rules)
    ∙ ap (λ s. take keep s.past) c.self.view_is
