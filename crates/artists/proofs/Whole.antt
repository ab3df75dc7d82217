-- What the senders made, one after another.
use Rattle.std.proofs.Common.{◌≡◌, ℕ, suc, ◌+◌, ◌<◌, ◌&&◌, Bool, true, false, List, [], ◌∷◌, ◌++◌, length, length-append, append-nil, append_assoc, refl, sym, ap, ap₂, ◌∙◌, subst, arith}
use Rattle.std.specs.Prelude.{slice_index_or}
use Rattle.std.specs.List.{flat_map, list_all, range_with_len, AllByRecursion}
use Rattle.std.proofs.lemmas.List.Elements.{recursion_from_All}
use Rattle.geom_core.proofs.Tests.{and_left, and_right}
use Rattle.atomic_table.specs.Seated.{TableId}
use Rattle.doc_model.specs.declared.command.Command.{Command}
use Rattle.turn_lock.specs.History.{made_by}
use Rattle.turn_lock.specs.Passes.{Known, joined}
use Rattle.studio.specs.declared.signed.Signed.{Signed}
use Rattle.studio.specs.Histories.{signer, commands_of}
use Rattle.artists.specs.declared.sending.Sender.{Sender}
use Rattle.artists.specs.Shares.{IsShared}
use Rattle.artists.specs.SignedShares.{share}
use Rattle.artists.specs.Senders.{IsSender, AreSenders, IsOne, IsAll, made_of, is_done}
use Rattle.artists.proofs.Sharing.{made_of_all, shared}

-- from artist a on
made_by_all : (id : TableId) (n : ℕ) (cs : List Command) (a : ℕ) (senders : List Sender) → ((i : ℕ) (d : Sender) → i < length senders → IsSender id n cs (a + i) (slice_index_or senders i d)) → list_all is_done senders ≡ true
    → flat_map made_of senders ≡ flat_map (λ k. share n k cs) (range_with_len a (length senders))
made_by_all id n cs a [] each all = refl
made_by_all id n cs a (s ∷ rest) each all =
    let first : IsSender id n cs (a + 0) s = each 0 s (omega arith) in
    let here : made_of s ≡ share n a cs = first.made (and_left s.done (list_all is_done rest) all) ∙ ap (λ k. share n k cs) (omega arith) in
    let later : (i : ℕ) (d : Sender) → i < length rest → IsSender id n cs (a + 1 + i) (slice_index_or rest i d) = λ i d lt.
    let e : a + suc i ≡ a + 1 + i = omega arith in
    subst (λ (k : ℕ). IsSender id n cs k (slice_index_or rest i d)) e (each (suc i) d (omega (arith, lt))) in
    ap₂ (λ (x y : List Signed). x ++ y) here (made_by_all id n cs (a + 1) rest later (and_right s.done (list_all is_done rest) all))

-- what holds of each of two lists' items
both_parts : {A : Type 0} (P : A → Type 0) (xs ys : List A) → AllByRecursion P (xs ++ ys) → AllByRecursion P xs × AllByRecursion P ys
both_parts P [] ys h = (tt, h)
both_parts P (x ∷ xs) ys h = let r = both_parts P xs ys h.1 in ((h.0, r.0), r.1)

-- one sender alone
first_all : (id : TableId) (s : Sender) → IsOne id s → IsAll id (s ∷ []) s
first_all id s one = record { studio = one.0; numbers = one.1; made = sym (append-nil s.pass.made); done = sym (and-true s.done) }
  where
    and-true : (b : Bool) → (b && true) ≡ b
    and-true true = refl
    and-true false = refl

-- one that takes in who took in the others
more_all : (id : TableId) (rest : List Sender) (s others t : Sender) → IsOne id s → IsAll id rest others → t.pass ≡ joined s.pass others.pass → t.done ≡ (s.done && others.done) → IsAll id (s ∷ rest) t
more_all id rest s others t one all pass done = record {
  studio = ap (λ (p : Known Signed). p.lock) pass ∙ one.0;
  numbers = let n = ap (λ (p : Known Signed). length p.numbers) pass in let m = all.numbers in omega (arith, n, m, one.1, length-append s.pass.numbers others.pass.numbers);
  made = ap (λ (p : Known Signed). p.made) pass ∙ ap (λ (l : List Signed). s.pass.made ++ l) all.made;
  done = done ∙ ap (λ (b : Bool). s.done && b) all.done;
}

-- Of all these the last ones were taken in by one, and the others are left.
pub record TakesIn (id : TableId) (all left : List Sender) (s : Sender) : Type 0 where
  pub taken : List Sender
  pub whole : left ++ taken ≡ all
  pub each : AllByRecursion (IsOne id) left
  pub sum : IsAll id taken s

pub takes_first : (id : TableId) (all left : List Sender) (s : Sender) → AllByRecursion (IsOne id) all → all ≡ left ++ s ∷ [] → TakesIn id all left s
takes_first id all left s each is =
    let both = both_parts (IsOne id) left (s ∷ []) (subst (λ (l : List Sender). AllByRecursion (IsOne id) l) is each) in
    record { taken = s ∷ []; whole = sym is; each = both.0; sum = first_all id s both.1.0 }

-- the last of those that are left has one number
pub last_is_one : (id : TableId) (all before after : List Sender) (s others : Sender) → TakesIn id all before others → before ≡ after ++ s ∷ [] → IsOne id s
last_is_one id all before after s others t is = (both_parts (IsOne id) after (s ∷ []) (subst (λ (l : List Sender). AllByRecursion (IsOne id) l) is t.each)).1.0

pub takes_more : (id : TableId) (all before after : List Sender) (s others both : Sender) → TakesIn id all before others → before ≡ after ++ s ∷ [] → both.pass ≡ joined s.pass others.pass → both.done ≡ (s.done && others.done) → TakesIn id all after both
takes_more id all before after s others both t is pass done =
    let parts = both_parts (IsOne id) after (s ∷ []) (subst (λ (l : List Sender). AllByRecursion (IsOne id) l) is t.each) in
    record {
      taken = s ∷ t.taken;
      whole = sym (append_assoc after (s ∷ []) t.taken) ∙ (ap (λ (l : List Sender). l ++ t.taken) (sym is) ∙ t.whole);
      each = parts.0;
      sum = more_all id t.taken s others both parts.1.0 t.sum pass done;
    }

pub takes_all : (id : TableId) (all left : List Sender) (s : Sender) → TakesIn id all left s → left ≡ [] → IsAll id all s
takes_all id all left s t none = subst (λ (l : List Sender). IsAll id l s) (ap (λ (l : List Sender). l ++ t.taken) (sym none) ∙ t.whole) t.sum

-- the senders of all artists have one number each
pub each_one : (id : TableId) (n : ℕ) (cs : List Command) (senders : List Sender) → AreSenders id n cs senders → AllByRecursion (IsOne id) senders
each_one id n cs senders are = recursion_from_All (IsOne id) senders (λ i d lt. let s = are i d lt in (s.studio, ap length s.numbers))

-- what the last sender has made, once all others went back into it and all were done
all_share : (id : TableId) (n : ℕ) (cs : List Command) (senders : List Sender) (s : Sender) → 0 < n → length senders ≡ n → AreSenders id n cs senders → IsAll id senders s → s.done ≡ true
    → (k : ℕ) → made_by signer k s.pass.made ≡ share n k cs
all_share id n cs senders s some count are all done k =
    let each : (i : ℕ) (d : Sender) → i < length senders → IsSender id n cs (0 + i) (slice_index_or senders i d) = λ i d lt. subst (λ (j : ℕ). IsSender id n cs j (slice_index_or senders i d)) (omega arith) (are i d lt) in
    let whole = all.made ∙ (made_by_all id n cs 0 senders each (sym all.done ∙ done) ∙ ap (λ (m : ℕ). flat_map (λ j. share n j cs) (range_with_len 0 m)) count) in
    ap (made_by signer k) whole ∙ made_of_all n cs k some

-- what was fed is shared, once the pass of them all has closed the studio
pub fed_shared : (id : TableId) (n : ℕ) (cs fed : List Command) (seen : List Signed) (senders : List Sender) (s : Sender) → 0 < n → length senders ≡ n → AreSenders id n cs senders → IsAll id senders s → s.done ≡ true
    → ((k : ℕ) → made_by signer k seen ≡ made_by signer k s.pass.made) → fed ≡ commands_of seen → IsShared n cs fed
fed_shared id n cs fed seen senders s some count are all done made is =
    subst (λ (l : List Command). IsShared n cs l) (sym is) (shared n cs seen (λ k. made k ∙ all_share id n cs senders s some count are all done k))
