-- Commands that may follow others, by what is known of these.
use Rattle.std.proofs.Common.{◌≡◌, Bool, true, false, ◌&&◌, not, nat_lt, if◌then◌else◌, Option, Some, None, List, length, filter, refl}
use Rattle.std.specs.List.{list_any}
use Rattle.std.specs.Option.{option_or}
use Rattle.doc_model.specs.declared.command.Command.{Command}
use Rattle.doc_model.specs.declared.command.Command.TheVariants as command
use Rattle.doc_model.specs.Jobs.{checks}
use Rattle.doc_model.specs.Lawful.{may_follow, within_limits}
use Rattle.doc_model.specs.Strokes.{Entry, is_stroke, is_open_stroke, has_room, is_export}
use Rattle.command_log.specs.declared.refusal.Misfit.{Misfit}
use Rattle.command_log.specs.declared.refusal.Misfit.TheVariants.{UsedAgain, UnknownStroke, ClosedStroke, TooManyJobs, TooManyExports}
use Rattle.command_log.specs.Misfits.{misfit_of}
use Rattle.geom_core.proofs.Tests.{and-false}

not_free : (a : Bool) (x : Misfit) → (if a then Some UsedAgain else None) ≡ Some x → not a ≡ false
not_free true x h = refl
not_free false x h = absurd (cc (h))

not_live : (a b : Bool) (x : Misfit) → (if b then None else if a then Some ClosedStroke else Some UnknownStroke) ≡ Some x → b ≡ false
not_live a true x h = absurd (cc (h))
not_live a false x h = refl

add_bad : (s a b r : Bool) (x : Misfit) → option_or (if b then None else if a then Some ClosedStroke else Some UnknownStroke) (if r then None else Some TooManyJobs) ≡ Some x → (s && (b && r)) ≡ false
add_bad s a true true x h = absurd (cc (h))
add_bad s a true false x h = and-false s
add_bad s a false r x h = and-false s

not_space : (a : Bool) (x : Misfit) → (if a then None else Some TooManyExports) ≡ Some x → a ≡ false
not_space true x h = absurd (cc (h))
not_space false x h = refl

-- a command that doesn't fit
pub misfits : (es : List Entry) (c : Command) (x : Misfit) → misfit_of es c ≡ Some x → may_follow es c ≡ false
unfolding misfit_of
misfits es (command.Change change) x h = absurd (cc (h))
misfits es (command.Stroke n layer e) x h = not_free (list_any (is_stroke n) es) x h
misfits es (command.Add n kind j) x h = add_bad (checks j && within_limits j) (list_any (is_stroke n) es) (list_any (is_open_stroke n) es) (list_any (has_room n) es) x h
misfits es (command.End n) x h = not_live (list_any (is_stroke n) es) (list_any (is_open_stroke n) es) x h
misfits es (command.Cancel n) x h = not_live (list_any (is_stroke n) es) (list_any (is_open_stroke n) es) x h
misfits es command.Undo x h = absurd (cc (h))
misfits es command.Redo x h = absurd (cc (h))
misfits es (command.Purge keep) x h = absurd (cc (h))
misfits es command.Export x h = not_space (nat_lt (length (filter is_export es)) 64) x h

-- one that may follow fits
pub fits : (es : List Entry) (c : Command) → may_follow es c ≡ true → misfit_of es c ≡ None
fits es c h = go (misfit_of es c) (misfits es c)
  where
    go : (o : Option Misfit) → ((x : Misfit) → o ≡ Some x → may_follow es c ≡ false) → o ≡ None
    go None wrong = refl
    go (Some x) wrong = let f = wrong x refl in absurd (cc (h, f))
