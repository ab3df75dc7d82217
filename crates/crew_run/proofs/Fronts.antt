-- Fronts of a script.
use Rattle.std.proofs.Common.{◌≡◌, ℕ, suc, zero, ◌≤◌, List, [], ◌∷◌, ◌++◌, take, length, Some, true, ◌+◌, ap, sym, ◌∙◌, subst}
use Rattle.std.specs.Prelude.{slice_get}
use Rattle.std.specs.List.{list_all}
use Rattle.std.proofs.lemmas.List.{length-append, take_all, take_more}
use Rattle.std.proofs.lemmas.Option.{get_or_from_slice_get, slice_get_within}
use Rattle.geom_core.proofs.Tests.{and_left, and_right}
use Rattle.doc_model.specs.declared.command.Command.{Command}
use Rattle.doc_model.specs.Strokes.{Entry, fed, all_fed, entries}
use Rattle.doc_model.specs.Lawful.{may_follow}
use Rattle.doc_model.specs.Feeding.{is_closed_entry, lawful_after}
use Rattle.script_text.specs.Script.{Contents}
use Rattle.script_text.specs.Closed.{is_script}
use Rattle.script_text.proofs.Scripts.{script_holds}

-- a front and the next item
pub one_more : {X : Type 0} (xs fed : List X) (i : ℕ) (x : X) → fed ≡ take i xs → slice_get xs i ≡ Some x → fed ++ x ∷ [] ≡ take (i + 1) xs
one_more xs fed i x same at = ap (λ zs. zs ++ x ∷ []) same ∙ sym (take_more xs i x (slice_get_within xs i x at) ∙ ap (λ y. take i xs ++ y ∷ []) (get_or_from_slice_get xs i x x at))

-- a front and the next item are a front
pub front_more : {X : Type 0} (fed xs : List X) (x : X) → fed ≡ take (length fed) xs → slice_get xs (length fed) ≡ Some x → fed ++ x ∷ [] ≡ take (length (fed ++ x ∷ [])) xs
front_more fed xs x front at =
    let n : length (fed ++ x ∷ []) ≡ length fed + 1 = length-append fed (x ∷ []) in
    rw n (one_more xs fed (length fed) x front at)

-- each command may follow those before it
follows_after : (es : List Entry) (cs : List Command) (i : ℕ) (c : Command) → lawful_after es cs ≡ true → slice_get cs i ≡ Some c → may_follow (all_fed es (take i cs)) c ≡ true
follows_after es [] i c h at = cc
follows_after es (d ∷ cs) zero c h at = let same : d ≡ c = cc in subst (λ x. may_follow es x ≡ true) same (and_left (may_follow es d) _ h)
follows_after es (d ∷ cs) (suc i) c h at = follows_after (fed es d) cs i c (and_right (may_follow es d) _ h) at

-- of a script too
pub next_follows : (s : Contents) (front : List Command) (i : ℕ) (c : Command) → is_script s ≡ true → front ≡ take i s.commands → slice_get s.commands i ≡ Some c → may_follow (entries front) c ≡ true
next_follows s front i c h same at =
    subst (λ xs. may_follow (entries xs) c ≡ true) (sym same) (follows_after [] s.commands i c (script_holds s h).follows at)

-- where all was fed, all strokes are closed
pub all_fed_closed : (s : Contents) (front : List Command) (n : ℕ) → is_script s ≡ true → front ≡ take n s.commands → length s.commands ≤ n → list_all is_closed_entry (entries front) ≡ true
all_fed_closed s front n h same all = subst (λ xs. list_all is_closed_entry (entries xs) ≡ true) (sym (same ∙ take_all n s.commands all)) (script_holds s h).closed
