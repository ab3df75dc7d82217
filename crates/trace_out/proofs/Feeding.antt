-- Commands are fed one after another.
use Rattle.std.proofs.Common.{◌≡◌, ℕ, suc, zero, ◌+◌, ◌<◌, ◌≤◌, true, ◌&&◌, List, [], ◌∷◌, ◌++◌, take, length, get_or, Some, refl, sym, ap, ◌∙◌, subst, arith}
use Rattle.std.specs.Prelude.{slice_get}
use Rattle.std.specs.List.{list_all}
use Rattle.std.proofs.lemmas.List.{length-take-le, take_all, take_more}
use Rattle.script_lines.proofs.FieldLemmas.{first, second}
use Rattle.doc_model.specs.declared.command.Command.{Command}
use Rattle.doc_model.specs.Strokes.{Entry, fed, all_fed, entries}
use Rattle.doc_model.specs.Lawful.{may_follow}
use Rattle.doc_model.specs.Feeding.{is_closed_entry, lawful, lawful_after}
use Rattle.script_forms.specs.Ranges.{in_limits, in_range}
use Rattle.script_text.specs.Script.{Contents}
use Rattle.script_text.specs.Closed.{is_script, all_closed}
use Rattle.machine_model.specs.State.{State}
use Rattle.machine_model.specs.Event.{Feed}
use Rattle.machine_model.specs.Step.{Step}
use Rattle.machine_model.proofs.Lists.{each_get}

-- the two last parts of a script
lawful_in : (s : Contents) → is_script s ≡ true → lawful s.commands ≡ true
unfolding is_script
lawful_in s h = first (lawful s.commands) (all_closed s.commands) (second (in_limits s.canvas && list_all in_range s.commands) (lawful s.commands && all_closed s.commands) h)

pub closed_in : (s : Contents) → is_script s ≡ true → all_closed s.commands ≡ true
unfolding is_script
closed_in s h = second (lawful s.commands) (all_closed s.commands) (second (in_limits s.canvas && list_all in_range s.commands) (lawful s.commands && all_closed s.commands) h)

follows_after : (es : List Entry) (cs : List Command) (i : ℕ) (c : Command) → lawful_after es cs ≡ true → slice_get cs i ≡ Some c → may_follow (all_fed es (take i cs)) c ≡ true
follows_after es [] i c h at = cc
follows_after es (d ∷ cs) zero c h at = let same : d ≡ c = cc in subst (λ x. may_follow es x ≡ true) same (first (may_follow es d) (lawful_after (fed es d) cs) h)
follows_after es (d ∷ cs) (suc i) c h at = follows_after (fed es d) cs i c (second (may_follow es d) (lawful_after (fed es d) cs) h) at

-- the next command of a script may follow those before it
pub next_follows : (s : Contents) (front : List Command) (i : ℕ) (c : Command) → is_script s ≡ true → front ≡ take i s.commands → slice_get s.commands i ≡ Some c → may_follow (entries front) c ≡ true
next_follows s front i c h same at = subst (λ cs. may_follow (entries cs) c ≡ true) (sym same) (follows_after [] s.commands i c (lawful_in s h) at)

-- the commands and one more
pub fed_more : (s t : State) (c : Command) → Step s (Feed c) t → t.fed ≡ s.fed ++ c ∷ []
fed_more s t c step = ap (λ (u : State). u.fed) step.1

pub slots_stay : (s t : State) (c : Command) → Step s (Feed c) t → t.slots ≡ s.slots
slots_stay s t c step = ap (λ (u : State). u.slots) step.1

-- the commands that were fed, after one more of a list and events that feed none
pub fed_next : (cs front back : List Command) (i : ℕ) (c : Command) → i < length cs → c ≡ get_or cs i c → front ≡ take i cs → back ≡ front ++ c ∷ [] → back ≡ take (i + 1) cs
fed_next cs front back i c h at same more = more ∙ ap (λ l. l ++ c ∷ []) same ∙ ap (λ d. take i cs ++ d ∷ []) at ∙ sym (take_more cs i c h)

-- all of a list
pub all_taken : (cs : List Command) (i : ℕ) → length cs ≤ i → take i cs ≡ cs
all_taken cs i h = take_all i cs h

-- fewer were fed than a script may have
pub fed_few : (cs scripted front : List Command) (i : ℕ) → front ≡ take i cs → i < length cs → length cs ≡ length scripted → length scripted ≤ 4294967295 → length front < 4294967295
fed_few cs scripted front i same h all few = let n : length front ≡ i = ap length same ∙ length-take-le i cs (omega arith) in omega arith
