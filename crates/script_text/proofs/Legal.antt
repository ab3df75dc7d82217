-- Commands that may follow others.
use Rattle.std.proofs.Common.{◌≡◌, Bool, true, false, ◌&&◌, not, nat_lt, if◌then◌else◌, Option, Some, None, List, [], ◌∷◌, ◌++◌, length, filter, refl, ◌∙◌}
use Rattle.std.specs.List.{list_any, list_all}
use Rattle.std.proofs.lemmas.List.Folds.{list_all-append}
use Rattle.doc_model.specs.declared.command.Command.{Command}
use Rattle.doc_model.specs.declared.command.Command.TheVariants as command
use Rattle.doc_model.specs.declared.canvas.Canvas.{Canvas}
use Rattle.doc_model.specs.Strokes.{Entry, entries, is_stroke, is_open_stroke, has_room, is_export}
use Rattle.doc_model.specs.Lawful.{may_follow}
use Rattle.doc_model.specs.Feeding.{lawful}
use Rattle.doc_model.proofs.Feeding.{lawful_last}
use Rattle.command_log.specs.declared.refusal.Misfit.{Misfit}
use Rattle.command_log.specs.declared.refusal.Misfit.TheVariants.{UsedAgain, UnknownStroke, ClosedStroke, TooManyJobs, TooManyExports}
use Rattle.command_log.specs.Misfits.{misfit_of, not_open}
use Rattle.std.specs.Option.{option_or}
use Rattle.script_text.specs.Script.{contents}
use Rattle.script_text.specs.Closed.{is_script, all_closed}
use Rattle.script_forms.specs.Ranges.{in_range, is_sound, in_limits}

free : (a : Bool) → (if a then Some UsedAgain else None) ≡ None → not a ≡ true
free true h = absurd (cc (h))
free false h = refl

live : (a b : Bool) → (if b then None else if a then Some ClosedStroke else Some UnknownStroke) ≡ None → b ≡ true
live a true h = refl
live true false h = absurd (cc (h))
live false false h = absurd (cc (h))

first_none : (o p : Option Misfit) → option_or o p ≡ None → o ≡ None
first_none None p h = refl
first_none (Some c) p h = absurd (cc (h))

second_none : (o p : Option Misfit) → option_or o p ≡ None → p ≡ None
second_none None p h = h
second_none (Some c) p h = absurd (cc (h))

room : (a : Bool) → (if a then None else Some TooManyJobs) ≡ None → a ≡ true
room true h = refl
room false h = absurd (cc (h))

space : (a : Bool) → (if a then None else Some TooManyExports) ≡ None → a ≡ true
space true h = refl
space false h = absurd (cc (h))

all_three : (a b c : Bool) → a ≡ true → b ≡ true → c ≡ true → (a && (b && c)) ≡ true
all_three a b c h k l = rw (h, k, l) refl

-- a command that fits may follow
pub follows : (es : List Entry) (c : Command) → misfit_of es c ≡ None → is_sound c ≡ true → may_follow es c ≡ true
unfolding misfit_of
follows es (command.Change change) h s = refl
follows es (command.Stroke n layer x) h s = free (list_any (is_stroke n) es) h
follows es (command.Add n kind j) h s = all_three _ (list_any (is_open_stroke n) es) (list_any (has_room n) es) s (live (list_any (is_stroke n) es) (list_any (is_open_stroke n) es) (first_none _ _ h)) (room (list_any (has_room n) es) (second_none (not_open n es) _ h))
follows es (command.End n) h s = live (list_any (is_stroke n) es) (list_any (is_open_stroke n) es) h
follows es (command.Cancel n) h s = live (list_any (is_stroke n) es) (list_any (is_open_stroke n) es) h
follows es command.Undo h s = refl
follows es command.Redo h s = refl
follows es (command.Purge keep) h s = refl
follows es command.Export h s = space (nat_lt (length (filter is_export es)) 64) h

pub lawful_more : (cs : List Command) (c : Command) → lawful cs ≡ true → misfit_of (entries cs) c ≡ None → is_sound c ≡ true → lawful (cs ++ c ∷ []) ≡ true
lawful_more cs c l f s = lawful_last cs c l (follows (entries cs) c f s)

pub ranges_more : (cs : List Command) (c : Command) → list_all in_range cs ≡ true → in_range c ≡ true → list_all in_range (cs ++ c ∷ []) ≡ true
ranges_more cs c h k = list_all-append in_range cs (c ∷ []) ∙ rw (h, k) refl

-- the four parts of a script
pub is_script_by : (c : Canvas) (cs : List Command) → in_limits c ≡ true → list_all in_range cs ≡ true → lawful cs ≡ true → all_closed cs ≡ true → is_script (contents c cs) ≡ true
unfolding is_script
is_script_by c cs a b d e = four (in_limits c) (list_all in_range cs) (lawful cs) (all_closed cs) a b d e
  where
    four : (p q r s : Bool) → p ≡ true → q ≡ true → r ≡ true → s ≡ true → ((p && q) && (r && s)) ≡ true
    four p q r s h k l m = rw (h, k, l, m) refl
