-- Commands of a script that are fed one after another.
use Rattle.std.proofs.Common.{◌≡◌, ℕ, ◌+◌, ◌-◌, ◌<◌, ◌≤◌, ◌^◌, Bool, true, false, Some, List, [], ◌∷◌, ◌++◌, map, take, length, refl, sym, subst, ap, ◌∙◌, arith}
use Rattle.std.specs.Prelude.{IsErr, IsErrAnd, Result, Ok, Err, slice_get}
use Rattle.std.proofs.lemmas.List.{length-take-le, map-append, take_all, take_more}
use Rattle.std.proofs.lemmas.Option.{get_or_from_slice_get, slice_get_within}
use Rattle.doc_model.specs.declared.command.Command.{Command}
use Rattle.doc_model.specs.Lawful.{may_follow}
use Rattle.doc_model.specs.Strokes.{entries}
use Rattle.script_text.specs.Script.{Contents}
use Rattle.script_text.specs.Closed.{is_script}
use Rattle.script_text.specs.declared.script.ReadRefusal.{ReadRefusal}
use Rattle.script_text.specs.declared.script.ReadRefusal.TheVariants.{NoMemory}
use Rattle.script_text.proofs.Refusals.{lawful_at}
use Rattle.script_text.proofs.Scripts.{script_holds}
use Rattle.machine_model.specs.State.{State}
use Rattle.machine_model.specs.Event.{Event, Feed}
use Rattle.machine_model.specs.Step.{Run, Step}
use Rattle.desk_state.proofs.SettlingRuns.{run_then}
use Rattle.host_desk.specs.Feeding.{Feeds}
use Rattle.host_desk.specs.Opening.{OpensScript}

-- so many of the commands are fed, and nothing else was
pub record ScriptFed (old now : State) (cs : List Command) (i : ℕ) : Type 0 where
  pub run : Feeds old (take i cs) now
  pub fed : now.fed ≡ take i cs

pub script_more : (old now new : State) (cs : List Command) (i : ℕ) (c : Command) → slice_get cs i ≡ Some c → Step now (Feed c) new → ScriptFed old now cs i → ScriptFed old new cs (i + 1)
script_more old now new cs i c at step so =
    let all : take (i + 1) cs ≡ take i cs ++ c ∷ [] = take_more cs i c (slice_get_within cs i c at) ∙ ap (λ d. take i cs ++ d ∷ []) (get_or_from_slice_get cs i c c at) in
    let events : map Feed (take (i + 1) cs) ≡ map Feed (take i cs) ++ Feed c ∷ [] = ap (map Feed) all ∙ map-append Feed (take i cs) (c ∷ []) in
    let more : new.fed ≡ now.fed ++ c ∷ [] = ap (λ (u : State). u.fed) step.1 in
    record {
      run = subst (λ (es : List Event). Run old es new) (sym events) (run_then (map Feed (take i cs)) (Feed c ∷ []) old now new so.run (new, step, refl));
      fed = more ∙ ap (λ l. l ++ c ∷ []) so.fed ∙ sym all;
    }

pub script_all : (old now : State) (cs : List Command) (i : ℕ) → length cs ≤ i → ScriptFed old now cs i → Feeds old cs now
script_all old now cs i h so = subst (λ (l : List Command). Feeds old l now) (take_all i cs h) so.run

-- there is room for the next one
pub room_left : (old now : State) (cs : List Command) (i : ℕ) → i < length cs → length cs ≤ 4294967294 → ScriptFed old now cs i → length now.fed < 2 ^ 32 - 1
room_left old now cs i h few so =
    let n : length now.fed ≡ i = ap (λ (l : List Command). length l) so.fed ∙ length-take-le i cs (omega arith) in
    omega (arith, n, h, few)

-- and it may follow
pub next_of_script : (s : Contents) (old now : State) (i : ℕ) (c : Command) → is_script s ≡ true → slice_get s.commands i ≡ Some c → ScriptFed old now s.commands i → may_follow (entries now.fed) c ≡ true
next_of_script s old now i c h at so =
    subst (λ (l : List Command). may_follow (entries l) c ≡ true) (sym so.fed) (go (may_follow (entries (take i s.commands)) c) refl)
  where
    go : (b : Bool) → may_follow (entries (take i s.commands)) c ≡ b → may_follow (entries (take i s.commands)) c ≡ true
    go true e = e
    go false e = let no : true ≡ false = sym (script_holds s h).follows ∙ lawful_at [] s.commands i c (slice_get_within s.commands i c at) (sym (get_or_from_slice_get s.commands i c c at)) e in cc

-- memory ended
pub no_memory_opens : (text : List ℕ) (slots : ℕ) (r : Result State ReadRefusal) → IsErr r → IsErrAnd r (λ e. e ≡ NoMemory) → OpensScript text slots r
no_memory_opens text slots (Ok s) is why = cc
no_memory_opens text slots (Err e) is why = subst (λ (x : ReadRefusal). OpensScript text slots (Err x)) (sym why) tt
