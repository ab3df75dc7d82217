-- Lines, one after another.
use Rattle.std.proofs.Common.{◌≡◌, ℕ, ◌+◌, ◌-◌, ◌≤◌, ◌<◌, List, [], ◌∷◌, ◌++◌, Some, inl, inr, zero, suc, length, map, get_or, take, drop, sym, subst, ap, ◌∙◌, arith}
use Rattle.std.specs.Prelude.{OnOk, Result, Ok, Err, slice_get}
use Rattle.std.specs.List.{flat_map}
use Rattle.std.proofs.lemmas.List.{append-nil, get_or-drop, length-append, length-drop, length-map, take_more}
use Rattle.std.proofs.lemmas.Option.{get_or_from_slice_get, slice_get-map, slice_get_within}
use Rattle.std.proofs.lemmas.Grind.{flat_map-append}
use Rattle.std.specs.Option.{option_map}
use Rattle.doc_model.specs.declared.command.Command.{Command}
use Rattle.script_text.specs.Text.{command_text}
use Rattle.machine_model.specs.State.{State}
use Rattle.host_desk.specs.Texts.{AddsLine, Gathered, lines_of, text_between}

-- one more line
pub one_more : (ls : List (List ℕ)) (from i : ℕ) (line : List ℕ) → from ≤ i → slice_get ls i ≡ Some line
    → flat_map (λ (l : List ℕ). l) (take ((i + 1) - from) (drop from ls)) ≡ flat_map (λ (l : List ℕ). l) (take (i - from) (drop from ls)) ++ line
one_more ls from i line h at =
    let within : i < length ls = slice_get_within ls i line at in
    let n : (i + 1) - from ≡ (i - from) + 1 = omega (arith, h) in
    let m : from + (i - from) ≡ i = omega (arith, h) in
    let room : i - from < length (drop from ls) = subst (λ k. i - from < k) (sym (length-drop from ls)) (omega (arith, h, within)) in
    let next : get_or (drop from ls) (i - from) line ≡ line = get_or-drop from ls (i - from) line ∙ ap (λ k. get_or ls k line) m ∙ get_or_from_slice_get ls i line line at in
    ap (λ k. flat_map (λ (l : List ℕ). l) (take k (drop from ls))) n
    ∙ ap (flat_map (λ (l : List ℕ). l)) (take_more (drop from ls) (i - from) line room ∙ ap (λ l. take (i - from) (drop from ls) ++ l ∷ []) next)
    ∙ flat_map-append (λ (l : List ℕ). l) (take (i - from) (drop from ls)) (line ∷ [])
    ∙ ap (λ l. flat_map (λ (l : List ℕ). l) (take (i - from) (drop from ls)) ++ l) (append-nil line)

-- no line yet
pub none_yet : (s : State) (from : ℕ) → text_between s from from ≡ []
none_yet s from =
    let n : from - from ≡ 0 = omega arith in
    ap (λ k. flat_map (λ (l : List ℕ). l) (take k (drop from (lines_of s)))) n

line_count : (s : State) → length (lines_of s) ≡ 1 + length s.fed
line_count s = let n : length (map command_text s.fed) ≡ length s.fed = length-map s.fed command_text in omega (arith, n)

-- a line that was added comes next
pub line_added : (s : State) (from i : ℕ) (old new : List ℕ) → from ≤ i → old ≡ text_between s from i → AddsLine s i old new → new ≡ text_between s from (i + 1)
line_added s from i old new h e add = add.added ∙ ap (λ b. b ++ add.line) e ∙ sym (one_more (lines_of s) from i add.line h add.at)

-- a line that is too long isn't taken
pub stops_before : (s : State) (from i room : ℕ) (old new : List ℕ) → from ≤ i → old ≡ text_between s from i → length old ≤ room → AddsLine s i old new → room < length new → Gathered s from i old room
stops_before s from i room old new h e fits add long =
    let n : length new ≡ length old + length add.line = ap (λ (b : List ℕ). length b) add.added ∙ length-append old add.line in
    let within : i < length (lines_of s) = slice_get_within (lines_of s) i add.line add.at in
    record { some = h; few = omega (arith, within); text = e; fits = fits; no_more = inr (add.line, add.at, omega (arith, n, long)) }

-- no line is left
pub stops_at_end : (s : State) (from i room : ℕ) (bytes : List ℕ) → from ≤ i → i ≡ 1 + length s.fed → bytes ≡ text_between s from i → length bytes ≤ room → Gathered s from i bytes room
stops_at_end s from i room bytes h end e fits =
    let n : length (lines_of s) ≡ 1 + length s.fed = line_count s in
    record { some = h; few = omega (arith, n, end); text = e; fits = fits; no_more = inl (end ∙ sym n) }

-- the line of a command was added
pub command_added : {E : Type 0} (s : State) (i : ℕ) (c : Command) (old new : List ℕ) (r : Result (Unit {0}) E) → 0 < i → slice_get s.fed (i - 1) ≡ Some c → OnOk r (new ≡ old ++ command_text c) → OnOk r (AddsLine s i old new)
command_added s i c old new (Err e) some at h = h
command_added s zero c old new (Ok u) some at h = absurd (omega arith)
command_added s (suc k) c old new (Ok u) some at h =
    let e : suc k - 1 ≡ k = omega arith in
    record { line = command_text c; at = slice_get-map command_text s.fed k ∙ ap (option_map command_text) (ap (λ n. slice_get s.fed n) (sym e) ∙ at); added = h }
