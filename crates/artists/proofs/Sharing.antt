-- What all artists made, and what a history has that has the same of each.
use Rattle.std.proofs.Common.{◌≡◌, ◌≢◌, ℕ, zero, suc, ◌+◌, ◌<◌, ◌≤◌, ◌==◌, cond, eqb, ne_eqb, eq-eqb, Bool, true, false, List, [], ◌∷◌, ◌++◌, map, refl, sym, ap, ◌∙◌, subst, append-nil, arith, take, length}
use Rattle.std.specs.List.{flat_map, list_all, range_with_len}
use Rattle.std.proofs.lemmas.Bool.Decides.{nat_tests}
use Rattle.std.specs.Prelude.{slice_index_or}
use Rattle.std.proofs.lemmas.List.{map-append, take_more}
use Rattle.std.proofs.lemmas.List.Elements.{filter-append}
use native.Mathlib.Decide.{ℕ_discrete}
use Rattle.geom_core.proofs.Tests.{and_left, and_right, both_true}
use Rattle.doc_model.specs.declared.command.Command.{Command}
use Rattle.turn_lock.specs.History.{made_by}
use Rattle.studio.specs.declared.signed.Signed.{Signed}
use Rattle.studio.specs.Histories.{signed, signer, commands_of}
use Rattle.artists.specs.Shares.{artist_of, commands_by, IsShared}
use Rattle.artists.specs.SignedShares.{share}

share_append : (n k : ℕ) (xs ys : List Command) → share n k (xs ++ ys) ≡ share n k xs ++ share n k ys
share_append n k xs ys = ap (map (signed k)) (filter-append (λ c. artist_of n c == k) xs ys) ∙ map-append (signed k) (commands_by n k xs) (commands_by n k ys)

-- of one command more
pub share_more : (n k : ℕ) (cs : List Command) (i : ℕ) (c : Command) → i < length cs → c ≡ slice_index_or cs i c → share n k (take (i + 1) cs) ≡ share n k (take i cs) ++ share n k (c ∷ [])
share_more n k cs i c lt at = ap (share n k) (take_more cs i c lt ∙ ap (λ (x : Command). take i cs ++ x ∷ []) (sym at)) ∙ share_append n k (take i cs) (c ∷ [])

-- no command is of an artist that isn't there
by_nobody : (n k : ℕ) → 0 < n → n ≤ k → (cs : List Command) → commands_by n k cs ≡ []
by_nobody n k some away [] = refl
by_nobody n k some away (c ∷ cs) =
    let lt : artist_of n c < n = omega (arith, some) in
    rw (ne_eqb (artist_of n c) k (λ e. omega (arith, e, lt, away))) (by_nobody n k some away cs)

-- what an artist signed is its own
own_signed : (k : ℕ) (cs : List Command) → made_by signer k (map (signed k) cs) ≡ map (signed k) cs
own_signed k [] = refl
own_signed k (c ∷ cs) = rw (eq-eqb k k refl) (ap (λ l. signed k c ∷ l) (own_signed k cs))

other_signed : (j k : ℕ) → k ≢ j → (cs : List Command) → made_by signer j (map (signed k) cs) ≡ []
other_signed j k other [] = refl
other_signed j k other (c ∷ cs) = rw (ne_eqb k j other) (other_signed j k other cs)

-- what the artists from a on made, so many of them
abbrev shares : ℕ → List Command → ℕ → ℕ → List Signed
shares n cs a more = flat_map (λ k. share n k cs) (range_with_len a more)

made_append : (j : ℕ) (xs ys : List Signed) → made_by signer j (xs ++ ys) ≡ made_by signer j xs ++ made_by signer j ys
made_append j xs ys = filter-append (λ s. signer s == j) xs ys

before_all : (n : ℕ) (cs : List Command) (a more j : ℕ) → j < a → made_by signer j (shares n cs a more) ≡ []
before_all n cs a zero j lt = refl
before_all n cs a (suc more) j lt =
    made_append j (share n a cs) (shares n cs (a + 1) more)
    ∙ (ap (λ l. l ++ made_by signer j (shares n cs (a + 1) more)) (other_signed j a (λ e. omega (arith, e, lt)) (commands_by n a cs)) ∙ before_all n cs (a + 1) more j (omega (arith, lt)))

among_all : (n : ℕ) (cs : List Command) (a more j : ℕ) → a ≤ j → (a + more ≤ j → share n j cs ≡ []) → made_by signer j (shares n cs a more) ≡ share n j cs
among_all n cs a zero j le away = sym (away (omega (arith, le)))
among_all n cs a (suc more) j le away = made_append j (share n a cs) (shares n cs (a + 1) more) ∙ go (ℕ_discrete a j) (λ (other : a ≢ j). among_all n cs (a + 1) more j (omega (arith, le, other)) (λ far. away (omega (arith, far))))
  where
    go : Dec (a ≡ j) → (a ≢ j → made_by signer j (shares n cs (a + 1) more) ≡ share n j cs) → made_by signer j (share n a cs) ++ made_by signer j (shares n cs (a + 1) more) ≡ share n j cs
    go (yes same) later =
        let here : made_by signer j (share n a cs) ≡ share n j cs = subst (λ (k : ℕ). made_by signer j (share n k cs) ≡ share n j cs) (sym same) (own_signed j (commands_by n j cs)) in
        let none = before_all n cs (a + 1) more j (omega (arith, same)) in
        ap (λ l. made_by signer j (share n a cs) ++ l) none ∙ (append-nil (made_by signer j (share n a cs)) ∙ here)
    go (no other) later = ap (λ l. l ++ made_by signer j (shares n cs (a + 1) more)) (other_signed j a other (commands_by n a cs)) ∙ later other

-- of what all artists made, each made its own
pub made_of_all : (n : ℕ) (cs : List Command) (j : ℕ) → 0 < n → made_by signer j (shares n cs 0 n) ≡ share n j cs
made_of_all n cs j some = among_all n cs 0 n j (omega arith) (λ far. ap (map (signed j)) (by_nobody n j some (omega (arith, far)) cs))

-- whether the command is one of who signed it
abbrev agrees : ℕ → Signed → Bool
agrees n s = artist_of n s.command == s.artist

shares_agree : (n k : ℕ) (cs : List Command) → list_all (agrees n) (share n k cs) ≡ true
shares_agree n k [] = refl
shares_agree n k (c ∷ cs) = go (eqb (artist_of n c) k) refl (shares_agree n k cs)
  where
    go : (b : Bool) → eqb (artist_of n c) k ≡ b → list_all (agrees n) (share n k cs) ≡ true → list_all (agrees n) (map (signed k) (cond b (c ∷ commands_by n k cs) (commands_by n k cs))) ≡ true
    go true is more = both_true (eqb (artist_of n c) k) (list_all (agrees n) (share n k cs)) is more
    go false is more = more

-- what holds of what each made holds of all
all_of_each : (p : Signed → Bool) (history : List Signed) → ((k : ℕ) → list_all p (made_by signer k history) ≡ true) → list_all p history ≡ true
all_of_each p [] each = refl
all_of_each p (s ∷ rest) each = both_true (p s) (list_all p rest) (here (each s.artist)) (all_of_each p rest (λ k. there k (eqb s.artist k) (each k)))
  where
    here : list_all p (made_by signer s.artist (s ∷ rest)) ≡ true → p s ≡ true
    here h =
        let e : list_all p (cond (eqb s.artist s.artist) (s ∷ made_by signer s.artist rest) (made_by signer s.artist rest)) ≡ true = h in
        let f : list_all p (s ∷ made_by signer s.artist rest) ≡ true = rw (eq-eqb s.artist s.artist refl) at e in
        and_left (p s) (list_all p (made_by signer s.artist rest)) f

    there : (k : ℕ) (b : Bool) → list_all p (cond b (s ∷ made_by signer k rest) (made_by signer k rest)) ≡ true → list_all p (made_by signer k rest) ≡ true
    there k true h = and_right (p s) (list_all p (made_by signer k rest)) h
    there k false h = h

-- where each signed its own, the commands of an artist are those that it signed
by_signer : (n k : ℕ) (history : List Signed) → list_all (agrees n) history ≡ true → commands_by n k (commands_of history) ≡ commands_of (made_by signer k history)
by_signer n k [] all = refl
by_signer n k (s ∷ rest) all =
    let same : artist_of n s.command ≡ s.artist = let h = and_left (agrees n s) (list_all (agrees n) rest) all in grind (arith, nat_tests) in
    let more = by_signer n k rest (and_right (agrees n s) (list_all (agrees n) rest) all) in
    rw same (go (eqb s.artist k) more)
  where
    go : (b : Bool) → commands_by n k (commands_of rest) ≡ commands_of (made_by signer k rest)
        → cond b (s.command ∷ commands_by n k (commands_of rest)) (commands_by n k (commands_of rest)) ≡ commands_of (cond b (s ∷ made_by signer k rest) (made_by signer k rest))
    go true e = ap (λ l. s.command ∷ l) e
    go false e = e

unsigned : (k : ℕ) (cs : List Command) → commands_of (map (signed k) cs) ≡ cs
unsigned k [] = refl
unsigned k (c ∷ cs) = ap (λ l. c ∷ l) (unsigned k cs)

-- a history in which each artist has its share
pub shared : (n : ℕ) (cs : List Command) (history : List Signed) → ((k : ℕ) → made_by signer k history ≡ share n k cs) → IsShared n cs (commands_of history)
shared n cs history each k =
    let agree = all_of_each (agrees n) history (λ j. ap (list_all (agrees n)) (each j) ∙ shares_agree n j cs) in
    by_signer n k history agree ∙ (ap commands_of (each k) ∙ unsigned k (commands_by n k cs))
