use Rattle.std.proofs.Common.{rules, ◌≡◌, ◌∷◌, Ok, ap, ◌∙◌}
use Rattle.script_lines.specs.Fronts.{pointed, lines_behind}
use Rattle.trace_lines.specs.Forms.{slots, canvas_line}
use Rattle.trace_core.proofs.Following.{begins}
use Rattle.trace_core.proofs.replaying.begin.Goals as goal

pub returns-clause-ok : goal.returns-clause-ok
returns-clause-ok c =
    let one = pointed c.next_fields.new.fields.items in
    let two = pointed c.next_fields-2.new.fields.items in
    let more = lines_behind c.in_ok-behind-2.behind in
    let a : lines_behind c.args.text ≡ one ∷ lines_behind c.in_ok-behind.behind = search rules in
    let b : lines_behind c.in_ok-behind.behind ≡ two ∷ more = search rules in
    let first : slots one ≡ Ok c.in-Ok.n = search rules in
    let second : canvas_line two ≡ Ok c.in-Ok-canvas_line.canvas = search rules in
    begins _ c.in-Ok.n c.in-Ok-canvas_line.canvas one two more (lines_behind c.args.text) c.in_ok-machine.ensures c.in-Ok-canvas_line.ensures.limits (a ∙ ap (λ t. one ∷ t) b) first second
