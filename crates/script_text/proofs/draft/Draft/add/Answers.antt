use Rattle.std.proofs.Common.{◌≡◌, ◌∙◌, ap, subst, ◌++◌, ◌∷◌, [], rules, List, Result, Ok, Err, OnOk, OnErr}
use Rattle.std.specs.List.{list_all}
use Rattle.std.specs.Option.{option_map}
use Rattle.doc_model.specs.declared.command.Command.{Command}
use Rattle.doc_model.specs.Strokes.{entries}
use Rattle.doc_model.specs.Feeding.{lawful}
use Rattle.command_log.specs.declared.refusal.Refusal.{Refusal}
use Rattle.command_log.specs.Misfits.{misfit_of}
use Rattle.command_log.specs.Log.{Refuses}
use Rattle.script_forms.specs.Ranges.{in_range}
use Rattle.script_text.specs.Draft.{IsDraft}
use Rattle.script_text.specs.Reading.{cause_of, misfit}
use Rattle.script_text.specs.Read.{IsRefused}
use Rattle.script_text.proofs.Legal.{lawful_more, ranges_more}
use Rattle.script_text.proofs.draft.Draft.add.Goals as goal
use Rattle.script_text.proofs.draft.Draft.add.Goals.{in-Ok, in-Err-Misfit, in-Err-NoMemory}

pub invariant_of-self : goal.invariant_of-self
invariant_of-self c = go c.add.result c.add.ensures.refused c.add.ensures.taken c.add.ensures.same
  where
    old : List Command
    old = c.self.inside.log.items

    new : List Command
    new = c.add.new.self.items

    go : (r : Result (Unit {0}) Refusal) → Refuses r (misfit_of (entries old) c.args.command) → OnOk r (new ≡ old ++ c.args.command ∷ []) → OnErr r (new ≡ old) → IsDraft (record { log = c.add.new.self })
    go (Ok x) fits more same = record {
      lawful = ap lawful more ∙ lawful_more old c.args.command c.self.invariant.lawful fits c.requires.sound;
      ranges = ap (list_all in_range) more ∙ ranges_more old c.args.command c.self.invariant.ranges c.requires.ranges;
    }
    go (Err e) fits more same = record {
      lawful = ap lawful same ∙ c.self.invariant.lawful;
      ranges = ap (list_all in_range) same ∙ c.self.invariant.ranges;
    }

pub returns-clause-refused : goal.returns-clause-refused
unfolding misfit
returns-clause-refused c = subst (λ l. IsRefused c.match-add.result c.args.line (option_map cause_of (misfit_of (entries l) c.args.command))) c.self.view_is
    (elim c.match-add.branch [ in-Ok w ↦ search rules | in-Err-Misfit w ↦ search rules | in-Err-NoMemory w ↦ search rules ])
