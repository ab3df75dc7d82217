-- A legal history's commands are lawful.
use Rattle.std.proofs.Common.{◌≡◌, ℕ, zero, suc, Bool, true, false, ◌&&◌, List, [], ◌∷◌, ◌++◌, length, refl, sym, ap, subst, append_assoc, append-nil, arith}
use Rattle.std.proofs.lemmas.List.{map-append}
use Rattle.std.specs.Prelude.{Result, Ok, Err, Some, None, slice_get}
use Rattle.doc_model.specs.declared.command.Command.{Command}
use Rattle.doc_model.specs.Lawful.{may_follow}
use Rattle.doc_model.specs.Feeding.{lawful}
use Rattle.doc_model.specs.Strokes.{entries}
use Rattle.doc_model.proofs.Feeding.{lawful_last}
use Rattle.turn_lock.specs.declared.sent.Sent.{Sent}
use Rattle.turn_lock.specs.declared.sent.Sent.TheVariants.{Accepted, Unlawful}
use Rattle.turn_lock.specs.History.{is_legal_after, IsLegal}
use Rattle.turn_lock.specs.Answers.{Answers}
use Rattle.studio.specs.declared.signed.Signed.{Signed}
use Rattle.studio.specs.Histories.{signed, signed_all, may_be_next, commands_of}

pub all_last : (ks : List ℕ) (cs : List Command) (k : ℕ) (c : Command) → length ks ≡ length cs → signed_all (ks ++ k ∷ []) (cs ++ c ∷ []) ≡ signed_all ks cs ++ signed k c ∷ []
all_last [] [] k c e = refl
all_last [] (d ∷ cs) k c e = absurd (omega arith)
all_last (j ∷ ks) [] k c e = absurd (omega arith)
all_last (j ∷ ks) (d ∷ cs) k c e = ap (λ l. signed j d ∷ l) (all_last ks cs k c (omega (arith, e)))

pub all_commands : (ks : List ℕ) (cs : List Command) → length ks ≡ length cs → commands_of (signed_all ks cs) ≡ cs
all_commands [] [] e = refl
all_commands [] (d ∷ cs) e = absurd (omega arith)
all_commands (j ∷ ks) [] e = absurd (omega arith)
all_commands (j ∷ ks) (d ∷ cs) e = ap (λ l. d ∷ l) (all_commands ks cs (omega (arith, e)))

pub all_length : (ks : List ℕ) (cs : List Command) → length ks ≡ length cs → length (signed_all ks cs) ≡ length cs
all_length [] [] e = refl
all_length [] (d ∷ cs) e = absurd (omega arith)
all_length (j ∷ ks) [] e = absurd (omega arith)
all_length (j ∷ ks) (d ∷ cs) e = let h = all_length ks cs (omega (arith, e)) in omega (arith, h)

-- at a place stand the number and the command of that place, signed, or nothing where one of them is missing
pub signed_at : (ks : List ℕ) (cs : List Command) (i k : ℕ) (c : Command) → slice_get ks i ≡ Some k → slice_get cs i ≡ Some c → Some (signed k c) ≡ slice_get (signed_all ks cs) i
signed_at [] cs i k c at there = cc
signed_at (j ∷ ks) [] i k c at there = cc
signed_at (j ∷ ks) (d ∷ cs) zero k c at there = cc
signed_at (j ∷ ks) (d ∷ cs) (suc i) k c at there = signed_at ks cs i k c at there

pub without_number : (ks : List ℕ) (cs : List Command) (i : ℕ) → slice_get ks i ≡ None → None ≡ slice_get (signed_all ks cs) i
without_number [] cs i e = refl
without_number (j ∷ ks) [] i e = refl
without_number (j ∷ ks) (d ∷ cs) zero e = cc
without_number (j ∷ ks) (d ∷ cs) (suc i) e = without_number ks cs i e

pub without_command : (ks : List ℕ) (cs : List Command) (i : ℕ) → slice_get cs i ≡ None → None ≡ slice_get (signed_all ks cs) i
without_command [] cs i e = refl
without_command (j ∷ ks) [] i e = refl
without_command (j ∷ ks) (d ∷ cs) zero e = cc
without_command (j ∷ ks) (d ∷ cs) (suc i) e = without_command ks cs i e

-- what may follow the history may follow the desk's commands
pub next_of : (ks : List ℕ) (cs : List Command) (s : Signed) → length ks ≡ length cs → may_be_next (signed_all ks cs) s ≡ may_follow (entries cs) s.command
next_of ks cs s e = ap (λ l. may_follow (entries l) s.command) (all_commands ks cs e)

one_more : (before : List Signed) (x : Signed) → lawful (commands_of before) ≡ true → may_be_next before x ≡ true → lawful (commands_of (before ++ x ∷ [])) ≡ true
one_more before x ok may = subst (λ (cs : List Command). lawful cs ≡ true) (sym (map-append (λ (s : Signed). s.command) before (x ∷ []))) (lawful_last (commands_of before) x.command ok may)

legal_after : (before rest : List Signed) → lawful (commands_of before) ≡ true → is_legal_after may_be_next before rest ≡ true → lawful (commands_of (before ++ rest)) ≡ true
legal_after before [] ok legal = subst (λ (l : List Signed). lawful (commands_of l) ≡ true) (sym (append-nil before)) ok
legal_after before (x ∷ rest) ok legal =
    go (may_be_next before x) refl legal (λ ok' legal'. subst (λ (l : List Signed). lawful (commands_of l) ≡ true) (append_assoc before (x ∷ []) rest) (legal_after (before ++ x ∷ []) rest ok' legal'))
  where
    go : (b : Bool) → may_be_next before x ≡ b → (b && is_legal_after may_be_next (before ++ x ∷ []) rest) ≡ true
        → (lawful (commands_of (before ++ x ∷ [])) ≡ true → is_legal_after may_be_next (before ++ x ∷ []) rest ≡ true → lawful (commands_of (before ++ x ∷ rest)) ≡ true)
        → lawful (commands_of (before ++ x ∷ rest)) ≡ true
    go true may legal then_so = then_so (one_more before x ok may) legal
    go false may legal then_so = absurd cc

pub legal_lawful : (history : List Signed) → IsLegal may_be_next history → lawful (commands_of history) ≡ true
legal_lawful history legal = legal_after [] history refl legal

-- the history that is seen after a call
pub answered_lawful : {X : Type 0} (history : List Signed) (e : Signed) (r : Result Sent X) (after : List Signed) → IsLegal may_be_next history → Answers may_be_next history e r after → lawful (commands_of after) ≡ true
answered_lawful history e (Ok (Accepted place)) after legal a = subst (λ (l : List Signed). lawful (commands_of l) ≡ true) (sym a.2) (one_more history e (legal_lawful history legal) a.0)
answered_lawful history e (Ok Unlawful) after legal a = subst (λ (l : List Signed). lawful (commands_of l) ≡ true) (sym a.1) (legal_lawful history legal)
answered_lawful history e (Err x) after legal a = subst (λ (l : List Signed). lawful (commands_of l) ≡ true) (sym a) (legal_lawful history legal)
