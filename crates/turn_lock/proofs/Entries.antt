-- Histories with one more entry, and beginnings of them.
use Rattle.std.proofs.Common.{◌≡◌, ◌≢◌, ℕ, ◌≤◌, Bool, true, false, ◌==◌, ◌&&◌, cond, List, [], ◌∷◌, ◌++◌, length, refl, sym, ap, ◌∙◌, arith, append_assoc, length-append, ne_eqb, eq-eqb, append-nil}
use Rattle.std.proofs.lemmas.List.Elements.{filter-append}
use mathlib.Core.List.{IsPrefix}
use Rattle.turn_lock.specs.History.{made_by, is_legal_after, IsLegal}

module _ {A : Type 0} where
  pub prefix_self : (xs : List A) → IsPrefix xs xs
  prefix_self xs = ([], append-nil xs)

  pub prefix_more : (xs ys zs : List A) → IsPrefix xs ys → IsPrefix xs (ys ++ zs)
  prefix_more xs ys zs p = (p.0 ++ zs, sym (append_assoc xs p.0 zs) ∙ ap (λ w. w ++ zs) p.1)

  -- of two beginnings of one list the shorter begins the longer
  pub prefix_shorter : (xs ys zs : List A) → IsPrefix xs zs → IsPrefix ys zs → length xs ≤ length ys → IsPrefix xs ys
  prefix_shorter [] ys zs p q le = (ys, refl)
  prefix_shorter (x ∷ xs) [] zs p q le = absurd (omega arith)
  prefix_shorter (x ∷ xs) (y ∷ ys) [] p q le = absurd (cc (p.1))
  prefix_shorter (x ∷ xs) (y ∷ ys) (z ∷ zs) p q le =
      let heads : x ≡ y = cc (p.1, q.1) in
      let rest = prefix_shorter xs ys zs (p.0, cc (p.1)) (q.0, cc (q.1)) (omega arith) in
      (rest.0, cc (heads, rest.1))

module _ {E : Type 0} (artist : E → ℕ) where
  pub made_append : (k : ℕ) (xs ys : List E) → made_by artist k (xs ++ ys) ≡ made_by artist k xs ++ made_by artist k ys
  made_append k xs ys = filter-append (λ e. artist e == k) xs ys

  -- an entry of another artist
  pub made_else : (k : ℕ) (xs : List E) (e : E) → artist e ≢ k → made_by artist k (xs ++ e ∷ []) ≡ made_by artist k xs
  made_else k xs e other = made_append k xs (e ∷ []) ∙ (rw (ne_eqb (artist e) k other) (append-nil (made_by artist k xs)))

module _ {E : Type 0} (lawful : List E → E → Bool) where
  legal_after_snoc : (before xs : List E) (e : E) → is_legal_after lawful before xs ≡ true → lawful (before ++ xs) e ≡ true → is_legal_after lawful before (xs ++ e ∷ []) ≡ true
  legal_after_snoc before [] e legal may = rw (sym (append-nil before), may) refl
  legal_after_snoc before (x ∷ xs) e legal may = go (lawful before x) (λ h. legal_after_snoc (before ++ x ∷ []) xs e h (rw (append_assoc before (x ∷ []) xs) may)) legal
    where
      go : (b : Bool) → (is_legal_after lawful (before ++ x ∷ []) xs ≡ true → is_legal_after lawful (before ++ x ∷ []) (xs ++ e ∷ []) ≡ true)
          → (b && is_legal_after lawful (before ++ x ∷ []) xs) ≡ true → (b && is_legal_after lawful (before ++ x ∷ []) (xs ++ e ∷ [])) ≡ true
      go true step h = step h
      go false step h = h

  pub legal_snoc : (xs : List E) (e : E) → IsLegal lawful xs → lawful xs e ≡ true → IsLegal lawful (xs ++ e ∷ [])
  legal_snoc xs e legal may = legal_after_snoc [] xs e legal may

module _ {E : Type 0} (artist : E → ℕ) where
  -- what an artist made in a beginning and in the rest
  parts : (k : ℕ) (xs zs : List E) (p : IsPrefix xs zs) → made_by artist k zs ≡ made_by artist k xs ++ made_by artist k p.0
  parts k xs zs p = ap (made_by artist k) (sym p.1) ∙ made_append artist k xs p.0

  -- an artist whose entries a beginning has all is known from any longer beginning
  pub made_longer : (k : ℕ) (xs ys zs : List E) → IsPrefix xs ys → IsPrefix ys zs → made_by artist k zs ≡ made_by artist k xs → made_by artist k zs ≡ made_by artist k ys
  made_longer k xs ys zs p q all =
      let a = parts k xs ys p in
      let b = parts k ys zs q in
      let la = ap length a ∙ length-append (made_by artist k xs) (made_by artist k p.0) in
      let lb = ap length b ∙ length-append (made_by artist k ys) (made_by artist k q.0) in
      let lc = ap length all in
      let n : length (made_by artist k q.0) ≡ 0 = omega (arith, la, lb, lc) in
      b ∙ empty (made_by artist k ys) (made_by artist k q.0) n
    where
      empty : (l m : List E) → length m ≡ 0 → l ++ m ≡ l
      empty l [] n = append-nil l
      empty l (x ∷ m) n = absurd (omega arith)

  -- a history with no entry of any artist is empty
  nobody_made : (xs : List E) → ((k : ℕ) → made_by artist k xs ≡ []) → xs ≡ []
  nobody_made [] none = refl
  nobody_made (x ∷ xs) none = absurd (go (none (artist x)))
    where
      go : made_by artist (artist x) (x ∷ xs) ≡ [] → ⊥
      go h = let e : cond (artist x == artist x) (x ∷ made_by artist (artist x) xs) (made_by artist (artist x) xs) ≡ [] = h in cc (rw (eq-eqb (artist x) (artist x) refl) at e)

  -- a beginning that has all entries of all artists is the whole
  pub made_all : (xs zs : List E) → IsPrefix xs zs → ((k : ℕ) → made_by artist k zs ≡ made_by artist k xs) → zs ≡ xs
  made_all xs zs p all =
      let rest : p.0 ≡ [] = nobody_made p.0 (λ k. cancel (made_by artist k xs) (made_by artist k p.0) (sym (parts k xs zs p) ∙ all k)) in
      sym p.1 ∙ (ap (λ r. xs ++ r) rest ∙ append-nil xs)
    where
      cancel : (l m : List E) → l ++ m ≡ l → m ≡ []
      cancel l [] e = refl
      cancel l (x ∷ m) e = absurd (omega (arith, length-append l (x ∷ m), ap length e))

  -- of a beginning of a history that has no entry of an artist
  pub made_none : (k : ℕ) (xs zs : List E) → IsPrefix xs zs → made_by artist k zs ≡ [] → made_by artist k zs ≡ made_by artist k xs
  made_none k xs zs p none = none ∙ sym (front (made_by artist k xs) (made_by artist k p.0) (sym (parts k xs zs p) ∙ none))
    where
      front : (l m : List E) → l ++ m ≡ [] → l ≡ []
      front [] m e = refl
      front (x ∷ l) m e = absurd cc
