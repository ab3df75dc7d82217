use Rattle.std.proofs.Common.{◌≡◌, ◌∷◌, ◌++◌, take, drop, length, Ok, sym, rules, arith}
use Rattle.std.proofs.lemmas.List.{take-append-drop, length-take-le}
use Rattle.script_lines.specs.Values.{rgba}
use Rattle.script_lines.proofs.FieldLemmas.{colour_first}
use Rattle.script_lines.proofs.fronts.rgba_before.Goals as goal

pub returns-clause-colour : goal.returns-clause-colour
returns-clause-colour c =
    let text = c.args.text.now in
    let size : length (take 8 text) ≡ 8 = length-take-le 8 text (omega arith) in
    let told : rgba (take 8 text) ≡ Ok c.in_ok-colour.colour = search rules in
    let parts : text ≡ take 8 text ++ drop 8 text = sym (take-append-drop 8 text) in
    let ended : drop 8 text ≡ c.args.mark ∷ c.in_ok-behind.behind.now = search rules in
    colour_first c.args.mark text (take 8 text) (drop 8 text) c.in_ok-behind.behind.now c.in_ok-colour.colour size told parts ended
