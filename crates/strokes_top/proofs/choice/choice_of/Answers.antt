use Rattle.std.proofs.Common.{◌≡◌, ◌≢◌, ◌∙◌, ap, ap₂, sym, subst, rules, inl, inr, [], true}
use Rattle.std.specs.Prelude.{Result, option_map}
use Rattle.std.specs.Result.{result_ok}
use Rattle.clap.specs.Walk.{rows_of}
use Rattle.clap.specs.Kinds.{Kinds, HasKind}
use Rattle.clap.specs.Matches.{found_of}
use Rattle.clap.specs.Values.{kind_of}
use Rattle.clap.specs.Simple.{app_of, is_simple, matches_of}
use Rattle.clap.specs.Faults.{fault_of, is_simple_and_free}
use Rattle.clap.specs.declared.error.kind.ErrorKind.TheVariants.{OutOfMemory}
use Rattle.strokes_top.specs.declared.asked.Asked.{Asked}
use Rattle.strokes_top.specs.declared.choice.ChoiceError.{ChoiceError}
use Rattle.strokes_top.specs.Choice.{command, choice, choice_by}
use Rattle.strokes_top.proofs.Choices.{is_free, command_is_simple, choice_without_fault, choice_with_fault, told_ok}
use Rattle.strokes_top.proofs.choice.choice_of.Goals as goal
use Rattle.strokes_top.proofs.choice.choice_of.Goals.{Joined-matches}

choice_is : (c : Joined-matches) → choice c.args.words.now ≡ option_map (λ (a : Asked). a.choice) (result_ok c.ok_or.result)
choice_is c =
    let app_is : app_of c.in-Ok.command ≡ command = c.in-Ok.ensures in
    let words_are = c.texts.ensures in
    let free : is_simple_and_free (app_of c.in-Ok.command) ≡ true = ap is_simple_and_free app_is ∙ is_free in
    let simple : is_simple (app_of c.in-Ok.command) ≡ true = ap is_simple app_is ∙ command_is_simple in
    let none : fault_of command c.args.words.now ≡ [] = sym (ap₂ fault_of app_is words_are) ∙ c.in-Ok-try_get_matches_from.ensures.kinds free in
    let rows : rows_of (found_of c.in-Ok-try_get_matches_from.matches) ≡ matches_of command c.args.words.now =
    (c.in-Ok-try_get_matches_from.ensures.matches simple).0 ∙ ap₂ matches_of app_is words_are in
    choice_without_fault c.args.words.now none ∙ ap choice_by (sym rows) ∙ sym c.asked_in.ensures ∙ ap (option_map (λ (a : Asked). a.choice)) c.ok_or.ensures.ok_part

pub returns-in-Ok-try_get_matches_from-clause-ok : goal.returns-in-Ok-try_get_matches_from-clause-ok
returns-in-Ok-try_get_matches_from-clause-ok c = told_ok c.ok_or.result _ (choice_is c)

pub returns-in-Ok-try_get_matches_from-clause-usage : goal.returns-in-Ok-try_get_matches_from-clause-usage
returns-in-Ok-try_get_matches_from-clause-usage c = λ e. choice_is c ∙ ap (λ (r : Result Asked ChoiceError). option_map (λ (a : Asked). a.choice) (result_ok r)) e

pub returns-in-Err-2-clause-usage : goal.returns-in-Err-2-clause-usage
returns-in-Err-2-clause-usage c =
    let app_is : app_of c.in-Ok.command ≡ command = c.in-Ok.ensures in
    let words_are = c.texts.ensures in
    let free : is_simple_and_free (app_of c.in-Ok.command) ≡ true = ap is_simple_and_free app_is ∙ is_free in
    let has : HasKind (fault_of command c.args.words.now) c.in-Err.error =
    subst (λ (kinds : Kinds). HasKind kinds c.in-Err.error) (ap₂ fault_of app_is words_are) (c.in-Err.ensures.kinds free) in
    let other : kind_of c.in-Err.error ≢ OutOfMemory = search rules in
    λ e. elim has [
      | inl m ↦ absurd (other m)
      | inr h ↦ choice_with_fault _ _ h
    ]
