-- Commands that are no script.
use Rattle.std.proofs.Common.{◌≡◌, ℕ, ◌+◌, ◌<◌, suc, zero, Bool, true, false, ◌&&◌, ◌||◌, if◌then◌else◌, Option, Some, None, List, [], ◌∷◌, ◌++◌, length, take, get_or, map, refl, sym, ap, ◌∙◌, subst, arith}
use Rattle.std.specs.Prelude.{◌==◌}
use Rattle.std.specs.List.{list_any, list_all, filter_map}
use Rattle.std.specs.Option.{option_to_list, option_map}
use Rattle.std.proofs.lemmas.List.{take_more, map-append}
use Rattle.std.proofs.lemmas.List.Folds.{list_all_at}
use Rattle.std.proofs.lemmas.List.Elements.{filter_map-append}
use Rattle.doc_model.specs.declared.canvas.Canvas.{Canvas}
use Rattle.doc_model.specs.declared.command.Command.{Command}
use Rattle.doc_model.specs.declared.command.Command.TheVariants as command
use Rattle.doc_model.specs.Strokes.{Entry, Strokes, Changes, Undoes, Redoes, Purges, Exports, fed, all_fed, entries, is_open_stroke, is_open as is_open_fate}
use Rattle.doc_model.specs.Lawful.{may_follow}
use Rattle.doc_model.specs.Feeding.{is_closed_entry, lawful_after, lawful}
use Rattle.script_lines.specs.declared.cause.Cause.{Cause}
use Rattle.script_lines.specs.declared.cause.Cause.TheVariants.{StrokeLeft}
use Rattle.script_text.specs.declared.reading.Start.{Start}
use Rattle.script_text.specs.declared.reading.Reading.{Reading}
use Rattle.script_text.specs.declared.script.ScriptFault.{ScriptFault}
use Rattle.script_text.specs.Script.{contents}
use Rattle.script_text.specs.Closed.{is_script, all_closed}
use Rattle.script_forms.specs.Ranges.{in_range, is_sound, in_limits}
use Rattle.script_text.specs.Reading.{left_open, start_by, cause_of, misfit}
use Rattle.command_log.specs.declared.refusal.Misfit.{Misfit}
use Rattle.command_log.specs.Misfits.{misfit_of}
use Rattle.command_log.proofs.Following.{misfits as log_misfits}
use Rattle.script_text.specs.Read.{IsGathered, TakesCommand, started_by}
use Rattle.geom_core.proofs.Tests.{and-false, and_right}

-- a command that may not follow those before it
pub lawful_at : (es : List Entry) (cs : List Command) (i : ℕ) (c : Command) → i < length cs → c ≡ get_or cs i c → may_follow (all_fed es (take i cs)) c ≡ false → lawful_after es cs ≡ false
lawful_at es [] i c h e f = absurd (omega arith)
lawful_at es (d ∷ cs) zero c h e f = rw (subst (λ k. may_follow es k ≡ false) e f) refl
lawful_at es (d ∷ cs) (suc i) c h e f = rw (lawful_at (fed es d) cs i c (omega arith) e f) (and-false (may_follow es d))

closed_not : (n : ℕ) (e : Entry) → is_open_stroke n e ≡ true → is_closed_entry e ≡ false
closed_not n (Strokes s) k = rw (and_right (s.no == n) (is_open_fate s.fate) k) refl
closed_not n (Changes c) k = absurd (cc (k))
closed_not n Undoes k = absurd (cc (k))
closed_not n Redoes k = absurd (cc (k))
closed_not n (Purges keep) k = absurd (cc (k))
closed_not n Exports k = absurd (cc (k))

not_closed_more : (n : ℕ) (e : Entry) (es : List Entry) (b : Bool) → is_open_stroke n e ≡ b → (list_any (is_open_stroke n) es ≡ true → list_all is_closed_entry es ≡ false) → (b || list_any (is_open_stroke n) es) ≡ true → (is_closed_entry e && list_all is_closed_entry es) ≡ false
not_closed_more n e es true k rest l = rw (closed_not n e k) refl
not_closed_more n e es false k rest l = rw (rest l) (and-false (is_closed_entry e))

-- an open stroke isn't closed
open_not_closed : (n : ℕ) (es : List Entry) → list_any (is_open_stroke n) es ≡ true → list_all is_closed_entry es ≡ false
open_not_closed n [] h = absurd (cc (h))
open_not_closed n (e ∷ es) h = not_closed_more n e es (is_open_stroke n e) refl (open_not_closed n es) h

left_more : (es : List Entry) (s : Start) (starts : List Start) (n : ℕ) (b : Bool) → list_any (is_open_stroke s.no) es ≡ b → (left_open es starts ≡ Some n → list_all is_closed_entry es ≡ false) → (if b then Some s.line else left_open es starts) ≡ Some n → list_all is_closed_entry es ≡ false
left_more es s starts n true e rest h = open_not_closed s.no es e
left_more es s starts n false e rest h = rest h

pub some_left : (es : List Entry) (starts : List Start) (n : ℕ) → left_open es starts ≡ Some n → list_all is_closed_entry es ≡ false
some_left es [] n h = absurd (cc (h))
some_left es (s ∷ starts) n h = left_more es s starts n (list_any (is_open_stroke s.no) es) refl (some_left es starts n) h

-- a command that doesn't fit
pub misfits : (es : List Entry) (c : Command) (x : Cause) → misfit es c ≡ Some x → may_follow es c ≡ false
unfolding misfit
misfits es c x h = go (misfit_of es c) refl h
  where
    go : (o : Option Misfit) → misfit_of es c ≡ o → option_map cause_of o ≡ Some x → may_follow es c ≡ false
    go None e k = absurd (cc (k))
    go (Some m) e k = log_misfits es c m e

-- a job that doesn't meet the limits
pub unsound : (es : List Entry) (c : Command) → is_sound c ≡ false → may_follow es c ≡ false
unsound es (command.Change change) h = absurd (cc (h))
unsound es (command.Stroke n layer e) h = absurd (cc (h))
unsound es (command.Add n kind j) h = rw h refl
unsound es (command.End n) h = absurd (cc (h))
unsound es (command.Cancel n) h = absurd (cc (h))
unsound es command.Undo h = absurd (cc (h))
unsound es command.Redo h = absurd (cc (h))
unsound es (command.Purge keep) h = absurd (cc (h))
unsound es command.Export h = absurd (cc (h))

-- a command that can't stand at its place
pub bad_range : (cs : List Command) (i : ℕ) (c : Command) → i < length cs → c ≡ get_or cs i c → in_range c ≡ false → (list_all in_range cs && lawful cs) ≡ false
bad_range cs i c h e f = rw (list_all_at in_range cs i c h (subst (λ k. in_range k ≡ false) e f)) refl

pub bad_place : (cs : List Command) (i : ℕ) (c : Command) → i < length cs → c ≡ get_or cs i c → may_follow (entries (take i cs)) c ≡ false → (list_all in_range cs && lawful cs) ≡ false
bad_place cs i c h e f = rw (lawful_at [] cs i c h e f) (and-false (list_all in_range cs))

start_is : (n : ℕ) (c : Command) → map (λ (s : Start). s.no) (option_to_list (start_by n (Some c))) ≡ filter_map started_by (c ∷ [])
start_is n (command.Change change) = refl
start_is n (command.Stroke k layer e) = refl
start_is n (command.Add k kind j) = refl
start_is n (command.End k) = refl
start_is n (command.Cancel k) = refl
start_is n command.Undo = refl
start_is n command.Redo = refl
start_is n (command.Purge keep) = refl
start_is n command.Export = refl

-- one command more
pub gathered_more : (r new : Reading) (canvas : Canvas) (cs : List Command) (i n : ℕ) (c : Command) → i < length cs → c ≡ get_or cs i c → IsGathered r canvas (take i cs) → TakesCommand r new n (Some c) → IsGathered new canvas (take (i + 1) cs)
gathered_more r new canvas cs i n c h e g t =
    let more : take (i + 1) cs ≡ take i cs ++ c ∷ [] = take_more cs i c h ∙ ap (λ d. take i cs ++ d ∷ []) (sym e) in
    record {
      canvas = t.canvas ∙ g.canvas;
      draft = t.draft ∙ (ap (λ l. l ++ c ∷ []) g.draft ∙ sym more);
      starts = ap (map (λ (s : Start). s.no)) t.starts ∙ (map-append (λ (s : Start). s.no) r.starts.items (option_to_list (start_by n (Some c))) ∙ ((λ j. g.starts j ++ start_is n c j) ∙ (sym (filter_map-append started_by (take i cs) (c ∷ [])) ∙ ap (filter_map started_by) (sym more))));
    }

pub no_limits : (c : Canvas) (cs : List Command) → in_limits c ≡ false → is_script (contents c cs) ≡ false
unfolding is_script
no_limits c cs h = rw h refl

pub no_commands : (c : Canvas) (cs : List Command) → (list_all in_range cs && lawful cs) ≡ false → is_script (contents c cs) ≡ false
unfolding is_script
no_commands c cs h = go (in_limits c) (list_all in_range cs) (lawful cs) (all_closed cs) h
  where
    go : (p q r s : Bool) → (q && r) ≡ false → ((p && q) && (r && s)) ≡ false
    go false q r s k = refl
    go true false r s k = refl
    go true true r s k = rw k refl

pub not_closed : (c : Canvas) (cs : List Command) → all_closed cs ≡ false → is_script (contents c cs) ≡ false
unfolding is_script
not_closed c cs h = rw h (go (in_limits c && list_all in_range cs) (lawful cs))
  where
    go : (p r : Bool) → (p && (r && false)) ≡ false
    go p r = rw (and-false r) (and-false p)

-- the fault of a stroke that is left open, where one is
abbrev pub left_fault : Option ℕ → Option ScriptFault
left_fault o = option_map (λ n. record { line = n; cause = StrokeLeft }) o

left_some : (o : Option ℕ) (f : ScriptFault) → left_fault o ≡ Some f → (n : ℕ) × (o ≡ Some n)
left_some None f h = absurd (cc (h))
left_some (Some n) f h = (n, refl)

-- a stroke that is left open
pub left_bad : (c : Canvas) (cs : List Command) (starts : List Start) (f : ScriptFault) → left_fault (left_open (entries cs) starts) ≡ Some f → is_script (contents c cs) ≡ false
left_bad c cs starts f h =
    let n = left_some (left_open (entries cs) starts) f h in
    not_closed c cs (some_left (entries cs) starts n.0 n.1)
