use Rattle.std.proofs.Common.{rules, ◌≡◌, ℕ, List, [], ◌++◌, ◌∙◌, sym, ap, refl, subst, Some, Err, arith}
use Rattle.std.proofs.lemmas.List.{append-nil}
use Rattle.script_lines.specs.Lines.{lines}
use Rattle.script_text.specs.Reading.{fault, script}
use Rattle.script_text.specs.Pieces.{fault_in, script_in}
use Rattle.script_text.specs.Read.{Answers}
use Rattle.script_text.specs.declared.script.ScriptFault.{ScriptFault}
use Rattle.script_text.specs.declared.script.ReadRefusal.{ReadRefusal}
use Rattle.script_text.specs.declared.script.ReadRefusal.TheVariants.{Fault, NoMemory}
use Rattle.script_text.proofs.Scanning.{few_lines}
use Rattle.script_text.proofs.pieces.read.Goals as goal

pub feed-requires : goal.feed-requires
feed-requires c = ([], c.in_ok-new.ensures, omega (arith, few_lines c.args.bytes.now))

-- a refusal of the one piece
refused_whole : (ls : List (List (List ℕ))) (e : ReadRefusal) → ((f : ScriptFault) → e ≡ Fault f → fault_in (ls ++ []) ≡ Some f) → Answers (Err e) (fault_in ls) (script_in ls)
refused_whole ls (Fault f) h = ap fault_in (sym (append-nil ls)) ∙ h f refl
refused_whole ls NoMemory h = tt

pub returns-in_err-feed : goal.returns-in_err-feed
unfolding fault script fault_in script_in
returns-in_err-feed c =
    let ls = lines c.args.bytes.now in
    let e = c.in_err-feed.field-0.0 in
    let err : c.from_residual-in_err-feed.result ≡ Err e = search rules in
    subst (λ x. Answers x (fault_in ls) (script_in ls)) (sym err) (refused_whole ls e (λ f is. c.in_err-feed.ensures.fault [] [] f c.in_ok-new.ensures (ap Err is)))

pub returns : goal.returns
unfolding fault script fault_in script_in
returns c = c.finish.ensures (lines c.args.bytes.now) (c.in_ok-feed.ensures.ok [] c.in_ok-new.ensures)
