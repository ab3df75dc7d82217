-- A list of entries cut by a cursor: what is before it from the newest add_one, and what is behind it.
use Rattle.std.proofs.Common.{◌≡◌, ℕ, zero, suc, ◌+◌, ◌-◌, ◌<◌, ◌≤◌, List, [], ◌∷◌, ◌++◌, length, take, drop, get_or, refl, sym, ap, subst, ◌∙◌, arith, length-drop}
use Rattle.std.proofs.Math.Seq.{take-suc, drop-cons, take-append_seam}
use Rattle.std.proofs.lemmas.List.{reverse-append, drop-set, drop-set-lt, take_more_set, take-append-drop, drop-take, length-reverse, length-take-le, take-set-le}
use Rattle.std.specs.Prelude.{◌≢◌, ◌⊎◌, reverse, slice_set, Option, Some, None, IsSome, OnSome, IfNone, IfSome}
use Rattle.history_core.specs.Stacks.{Stack, IsUndone, IsRedone}
use Rattle.std.proofs.Common.{inl, inr}
use Rattle.geom_core.proofs.Tests.{add_one}

back : (n : ℕ) → suc n - 1 ≡ n
back n = omega arith

pub on_some : {B : Type 0} (r : Option B) (P : Type 0) → (IsSome r → P) → OnSome r P
on_some None P f = tt
on_some (Some x) P f = f refl

pub if_none : {B : Type 0} (r : Option B) (P : Type 0) → ((IsSome r → ⊥) → P) → IfNone r P
if_none None P f = f (λ h. cc)
if_none (Some x) P f = tt

pub more_if_some : {B : Type 0} (r : Option B) (P Q : B → Type 0) → IfSome r P → ((x : B) → IsSome r → P x → Q x) → IfSome r Q
more_if_some None P Q h f = tt
more_if_some (Some x) P Q h f = f x refl h

module _ {A : Type 0} where
  element : (xs : List A) → 0 < length xs → A
  element [] h = absurd (omega arith)
  element (x ∷ xs) h = x

  -- the entry right behind the cursor, once the cursor has passed it
  newest : (n : ℕ) (xs : List A) (d : A) → n < length xs → reverse (take (suc n) xs) ≡ get_or xs n d ∷ reverse (take n xs)
  newest n xs d h = ap reverse (take-suc xs n d h) ∙ reverse-append (take n xs) (get_or xs n d ∷ [])

  -- a cursor that steps back by one
  pub past_behind : (m : ℕ) (xs : List A) → (m ≡ 0 → ⊥) → m ≤ length xs → reverse (take (m - 1) xs) ≡ drop 1 (reverse (take m xs))
  past_behind zero xs some h = absurd (some refl)
  past_behind (suc n) xs some h = ap (λ k. reverse (take k xs)) (back n) ∙ sym (ap (drop 1) (newest n xs (element xs (omega arith)) (omega arith)))

  pub future_behind : (m : ℕ) (xs : List A) → (m ≡ 0 → ⊥) → m ≤ length xs → drop (m - 1) xs ≡ take 1 (reverse (take m xs)) ++ drop m xs
  future_behind zero xs some h = absurd (some refl)
  future_behind (suc n) xs some h =
      let d = element xs (omega arith) in
      ap (λ k. drop k xs) (back n) ∙ drop-cons xs n d (omega arith) ∙ ap (λ ys. take 1 ys ++ drop (suc n) xs) (sym (newest n xs d (omega arith)))

  -- a cursor that steps add_one by one
  pub past_before : (n : ℕ) (xs : List A) → n < length xs → reverse (take (n + 1) xs) ≡ take 1 (drop n xs) ++ reverse (take n xs)
  past_before n xs h =
      let d = element xs (omega arith) in
      ap (λ k. reverse (take k xs)) (add_one n) ∙ newest n xs d h ∙ ap (λ ys. take 1 ys ++ reverse (take n xs)) (sym (drop-cons xs n d h))

  pub future_before : (n : ℕ) (xs : List A) → n < length xs → drop (n + 1) xs ≡ drop 1 (drop n xs)
  future_before n xs h = ap (λ k. drop k xs) (add_one n) ∙ sym (ap (drop 1) (drop-cons xs n (element xs (omega arith)) h))

  -- the entry behind the cursor, changed
  pub future_changed : (n : ℕ) (xs : List A) (w : A) → n < length xs → drop n (slice_set xs n w) ≡ w ∷ drop 1 (drop n xs)
  future_changed n xs w h = drop-set xs n w h ∙ ap (λ ys. w ∷ ys) (future_before n xs h)

  -- the entry before the cursor, changed
  pub past_changed : (n : ℕ) (xs : List A) (w : A) → n < length xs → reverse (take (n + 1) (slice_set xs n w)) ≡ w ∷ reverse (take n xs)
  past_changed n xs w h = ap reverse (take_more_set xs n w h) ∙ reverse-append (take n xs) (w ∷ [])

  -- something is behind the cursor
  pub none_behind : (n : ℕ) (xs : List A) → n < length xs → drop n xs ≡ [] → ⊥
  none_behind n xs h e = let empty : length xs - n ≡ 0 = sym (length-drop n xs) ∙ ap length e in omega arith

  seam : (n : ℕ) (xs ys : List A) → n ≡ length xs → take n (xs ++ ys) ≡ xs
  seam n xs ys e = ap (λ k. take k (xs ++ ys)) e ∙ take-append_seam xs ys

  -- the first of a list reversed are its last
  last_reversed : (gone keep : ℕ) (ys : List A) → length ys ≡ gone + keep → take keep (reverse ys) ≡ reverse (drop gone ys)
  last_reversed gone keep ys e =
      ap (λ zs. take keep (reverse zs)) (sym (take-append-drop gone ys))
      ∙ ap (take keep) (reverse-append (take gone ys) (drop gone ys))
      ∙ seam keep (reverse (drop gone ys)) (reverse (take gone ys)) (omega (arith, length-drop gone ys, length-reverse (drop gone ys), e))

  -- the oldest entries, cut away
  pub newest_kept : (keep done : ℕ) (xs : List A) → keep < done → done ≤ length xs
      → reverse (take keep (take (length xs - (done - keep)) (drop (done - keep) xs ++ take (done - keep) xs))) ≡ take keep (reverse (take done xs))
  newest_kept keep done xs h i =
      let gone : ℕ = done - keep in
      ap (λ zs. reverse (take keep zs)) (seam (length xs - gone) (drop gone xs) (take gone xs) (sym (length-drop gone xs)))
      ∙ ap reverse (sym (drop-take gone keep xs))
      ∙ ap (λ n. reverse (drop gone (take n xs))) (whole keep done h)
      ∙ sym (last_reversed gone keep (take done xs) (length-take-le done xs i ∙ sym (whole keep done h)))
    where
      whole : (keep done : ℕ) → keep < done → (done - keep) + keep ≡ done
      whole keep done h = omega arith

  pub nothing_or : (xs : List A) → (xs ≡ []) ⊎ (xs ≢ [])
  nothing_or [] = inl refl
  nothing_or (x ∷ xs) = inr (λ e. cc)

  -- how many are before the cursor
  pub many_before : (n : ℕ) (xs : List A) → n ≤ length xs → length (reverse (take n xs)) ≡ n
  many_before n xs h = length-reverse (take n xs) ∙ length-take-le n xs h

  pub past_kept : (n : ℕ) (xs : List A) (w : A) → reverse (take n (slice_set xs n w)) ≡ reverse (take n xs)
  past_kept n xs w = ap reverse (take-set-le n xs n w (omega arith))

  after_first : (ps fs : List A) → ps ≢ [] → drop 1 (take 1 ps ++ fs) ≡ fs
  after_first [] fs h = absurd (h refl)
  after_first (p ∷ ps) fs h = refl

  -- the future, once the entry that has just come into it was changed
  pub future_after : (n : ℕ) (xs ps fs : List A) (w : A) → n < length xs → drop n xs ≡ take 1 ps ++ fs → ps ≢ [] → drop n (slice_set xs n w) ≡ w ∷ fs
  future_after n xs ps fs w h e some = future_changed n xs w h ∙ ap (λ ys. w ∷ ys) (ap (drop 1) e ∙ after_first ps fs some)

  only_first : (ps fs : List A) (x : A) (rest : List A) → ps ≢ [] → take 1 ps ++ fs ≡ x ∷ rest → take 1 ps ≡ x ∷ []
  only_first [] fs x rest some e = absurd (some refl)
  only_first (p ∷ ps) fs x rest some e = ap (take 1) e

  -- the entry behind the cursor is the one that has just come there
  pub entry_behind : (n : ℕ) (xs ps fs : List A) (x : A) → n < length xs → x ≡ get_or xs n x → drop n xs ≡ take 1 ps ++ fs → ps ≢ [] → take 1 ps ≡ x ∷ []
  entry_behind n xs ps fs x h is e some = only_first ps fs x _ some (sym e ∙ drop-cons xs n x h ∙ ap (λ y. y ∷ drop (suc n) xs) (sym is))

  -- the stack after an undone entry was changed
  pub undone_is : (xs : List A) (n place spare : ℕ) (w : A) (old : Stack A) → place ≡ n → n < length xs → old.past ≢ []
      → reverse (take n xs) ≡ drop 1 old.past → drop n xs ≡ take 1 old.past ++ old.future → spare ≡ old.spare
      → IsUndone old (record { past = reverse (take n (slice_set xs place w)); future = drop n (slice_set xs place w); spare = spare }) w
  undone_is xs n place spare w old e h some past future same = subst (λ k. IsUndone old (record { past = reverse (take n (slice_set xs k w)); future = drop n (slice_set xs k w); spare = spare }) w) (sym e) (record {
    past = past_kept n xs w ∙ past;
    future = future_after n xs old.past old.future w h future some;
    spare = same;
  })

  pub nothing_undone : (new old : Stack A) → old.past ≡ [] → new.past ≡ drop 1 old.past → new.future ≡ take 1 old.past ++ old.future → new.spare ≡ old.spare → new ≡ old
  nothing_undone new old none past future spare = λ i. record {
    past = (past ∙ ap (drop 1) none ∙ sym none) i;
    future = (future ∙ ap (λ ps. take 1 ps ++ old.future) none) i;
    spare = spare i;
  }

  some_length : (ps fs : List A) → ps ≢ [] → 0 < length (take 1 ps ++ fs)
  some_length [] fs some = absurd (some refl)
  some_length (p ∷ ps) fs some = omega arith

  -- where an entry has come into the future, something is behind the cursor
  pub some_behind : (n : ℕ) (xs ps fs : List A) → drop n xs ≡ take 1 ps ++ fs → ps ≢ [] → n < length xs
  some_behind n xs ps fs e some = omega (arith, length-drop n xs, ap length e, some_length ps fs some)

  -- the stack after a redone entry was changed
  pub redone_is : (xs : List A) (n done spare : ℕ) (w : A) (old : Stack A) → done ≡ n + 1 → n < length xs → old.future ≢ []
      → reverse (take done xs) ≡ take 1 old.future ++ old.past → drop done xs ≡ drop 1 old.future → spare ≡ old.spare
      → IsRedone old (record { past = reverse (take done (slice_set xs n w)); future = drop done (slice_set xs n w); spare = spare }) w
  redone_is xs n done spare w old e h some past future same = record {
    past = ap (λ k. reverse (take k (slice_set xs n w))) e ∙ past_changed n xs w h ∙ ap (λ ys. w ∷ ys) before;
    future = drop-set-lt done xs n w (omega arith) ∙ future;
    spare = same;
  }
    where
      before : reverse (take n xs) ≡ old.past
      before = sym (ap (drop 1) (ap (λ k. reverse (take k xs)) (e ∙ add_one n) ∙ newest n xs (element xs (omega arith)) h)) ∙ ap (drop 1) past ∙ after_first old.future old.past some

  pub nothing_redone : (new old : Stack A) → old.future ≡ [] → new.past ≡ take 1 old.future ++ old.past → new.future ≡ drop 1 old.future → new.spare ≡ old.spare → new ≡ old
  nothing_redone new old none past future spare = λ i. record {
    past = (past ∙ ap (λ fs. take 1 fs ++ old.past) none) i;
    future = (future ∙ ap (drop 1) none ∙ sym none) i;
    spare = spare i;
  }

  -- the entry before the cursor is the one that has just come there
  pub entry_before : (n done : ℕ) (xs fs ps : List A) (x : A) → done ≡ n + 1 → n < length xs → x ≡ get_or xs n x → reverse (take done xs) ≡ take 1 fs ++ ps → fs ≢ [] → take 1 fs ≡ x ∷ []
  entry_before n done xs fs ps x e h is past some =
      only_first fs ps x _ some (sym past ∙ ap (λ k. reverse (take k xs)) (e ∙ add_one n) ∙ newest n xs x h ∙ ap (λ y. y ∷ reverse (take n xs)) (sym is))
