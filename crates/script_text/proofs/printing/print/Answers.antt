use Rattle.std.proofs.Common.{◌≤◌, ◌++◌, ◌∙◌, ap, rules, length}
use Rattle.std.specs.List.{flat_map}
use Rattle.std.proofs.lemmas.List.{take_all}
use Rattle.script_text.specs.Text.{text, canvas_line, command_text}
use Rattle.script_text.proofs.printing.print.Goals as goal

pub returns : goal.returns
unfolding text
returns c =
    let cs = c.commands-commands.result.now in
    let h : length cs ≤ c.loop-i.i = search rules in
    c.loop-i.invariant ∙ ap (λ l. canvas_line c.args.script.now.canvas ++ flat_map command_text l) (take_all c.loop-i.i cs h ∙ c.commands-commands.ensures.value)
