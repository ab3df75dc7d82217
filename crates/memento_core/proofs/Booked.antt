-- Books, and what an exchange with their plane gives back.
use Rattle.std.proofs.Common.{◌≡◌, ℕ, ◌+◌, Bool, true, false, ◌||◌, cond, Option, Some, None, is_some, List, [], ◌∷◌, take, drop, refl, sym, ap, ◌∙◌, subst, arith}
use Rattle.std.specs.Option.{unwrap_or}
use Rattle.std.specs.FinMap as map
use Rattle.std.specs.FinSet as set
use Rattle.geom_core.specs.Grid.{Key, key_cmp, same_key}
use Rattle.geom_core.specs.Keys.{key_cmp_total, key_cmp-IsAntisymmetric}
use Rattle.geom_core.specs.Exchanged.{HasTouched}
use Rattle.geom_core.specs.declared.Touched.{Touched}
use Rattle.geom_core.proofs.Tests.{kept, is_some-None}
use Rattle.geom_core.proofs.Tiles.{key_same}
use Rattle.history_core.specs.Stacks.{Stack, IsUndone, IsRedone}
use Rattle.history_core.proofs.Lent.{first_is}
use Rattle.memento_core.specs.Planes.{Keyed, tile_under}
use Rattle.memento_core.specs.Revisions.{AllStand, Exchanges, IsIndex, keys_in, noted_under}
use Rattle.memento_core.specs.Books.{FirstStands, Pages, committed, RollsBack, RollsForward, first_keys}
use Rattle.memento_core.specs.Laws.{BackAgain, BackToBegin, ForthAgain, IndexBegins, IndexGrows}
use Rattle.memento_core.proofs.Exchanging.{contains-keys_in, false-true, has-insert, some_under}

module _ {T : Type 0} where
  same_maps : (m n : Keyed T) → ((k : Key) → map.get m k ≡ map.get n k) → m ≡ n
  same_maps m n = map.same_map key_cmp_total key_cmp-IsAntisymmetric m n

  -- to exchange again goes back
  pub exchange_back : (r after old new : Keyed T) → Exchanges r after old new → Exchanges after r new old
  exchange_back r after old new e = record {
    puts = record {
      laid = λ k h. sym (e.lifted k (sym (e.keys k) ∙ h));
      others = λ k h. sym (e.puts.others k (sym (e.keys k) ∙ h));
    };
    keys = λ k. sym (e.keys k);
    lifted = λ k h. sym (e.puts.laid k (sym (e.keys k) ∙ h));
  }

  -- an exchange keeps the keys that stand
  pub exchange_keys : (r after old new : Keyed T) → AllStand r old → Exchanges r after old new → (k : Key) → map.contains_key new k ≡ map.contains_key old k
  exchange_keys r after old new stand e k = go (map.contains_key r k) refl
    where
      go : (b : Bool) → map.contains_key r k ≡ b → map.contains_key new k ≡ map.contains_key old k
      go true h = ap is_some (e.puts.laid k h) ∙ h ∙ sym (stand k h)
      go false h = ap is_some (e.puts.others k h)

  -- of the same keys something was noted
  pub exchange_notes : (r after old new : Keyed T) → Exchanges r after old new → keys_in after ≡ keys_in r
  exchange_notes r after old new e = set.same_set key_cmp_total key_cmp-IsAntisymmetric _ _ (λ k. contains-keys_in after k ∙ e.keys k ∙ sym (contains-keys_in r k))

  -- what an exchange leaves is settled by what it starts from
  exchanged_once : (r a b old m n : Keyed T) → Exchanges r a old m → Exchanges r b old n → (m ≡ n) × (a ≡ b)
  exchanged_once r a b old m n e f = (same_maps m n (λ k. plane k (map.contains_key r k) refl), same_maps a b (λ k. given k (map.contains_key r k) refl))
    where
      plane : (k : Key) (c : Bool) → map.contains_key r k ≡ c → map.get m k ≡ map.get n k
      plane k true h = e.puts.laid k h ∙ sym (f.puts.laid k h)
      plane k false h = e.puts.others k h ∙ sym (f.puts.others k h)

      given : (k : Key) (c : Bool) → map.contains_key r k ≡ c → map.get a k ≡ map.get b k
      given k true h = e.lifted k h ∙ sym (f.lifted k h)
      given k false h = is_some-None (map.get a k) (e.keys k ∙ h) ∙ sym (is_some-None (map.get b k) (f.keys k ∙ h))

  exchanged_twice : (r a b old m n : Keyed T) → Exchanges r a old m → Exchanges a b m n → (n ≡ old) × (b ≡ r)
  exchanged_twice r a b old m n e f = exchanged_once a b r m n old f (exchange_back r a old m e)

  same_first : (x y : Keyed T) (xs ys : List (Keyed T)) → x ∷ xs ≡ y ∷ ys → x ≡ y
  same_first x y xs ys e = ap (first_or x) e
    where
      first_or : Keyed T → List (Keyed T) → Keyed T
      first_or d [] = d
      first_or d (z ∷ zs) = z

  same_rest : (x y : Keyed T) (xs ys : List (Keyed T)) → x ∷ xs ≡ y ∷ ys → xs ≡ ys
  same_rest x y xs ys e = ap (drop 1) e

  pub forth_again : ForthAgain T
  forth_again b c d before between after back forth =
      let same = sym back.redo ∙ forth.redo in
      let again = exchanged_twice back.revision back.given forth.given before between after back.exchanges
      (subst (λ r. Exchanges r forth.given between after) (sym (same_first back.given forth.revision b.redo d.redo same)) forth.exchanges) in
      ((λ i. record { past = (forth.past ∙ ap (λ r. r ∷ c.past) again.1 ∙ sym back.past) i; redo = sym (same_rest back.given forth.revision b.redo d.redo same) i; index = (forth.index ∙ back.index) i }), again.0)

  pub back_again : BackAgain T
  back_again b c d before between after forth back =
      let same = sym forth.past ∙ back.past in
      let again = exchanged_twice forth.revision forth.given back.given before between after forth.exchanges
      (subst (λ r. Exchanges r back.given between after) (sym (same_first forth.given back.revision b.past d.past same)) back.exchanges) in
      ((λ i. record { past = sym (same_rest forth.given back.revision b.past d.past same) i; redo = (back.redo ∙ ap (λ r. r ∷ c.redo) again.1 ∙ sym forth.redo) i; index = (back.index ∙ forth.index) i }), again.0)

  pub back_to_begin : BackToBegin T
  back_to_begin b c r before now after past is back = same_maps after before (λ k. go k (map.contains_key r k) refl)
    where
      one : back.revision ≡ r
      one = same_first back.revision r c.past c.past (sym back.past ∙ past)

      has : (k : Key) → map.contains_key back.revision k ≡ map.contains_key r k
      has k = ap (λ v. map.contains_key v k) one

      go : (k : Key) (b : Bool) → map.contains_key r k ≡ b → map.get after k ≡ map.get before k
      go k true h = back.exchanges.puts.laid k (has k ∙ h) ∙ ap (λ v. map.get v k) one ∙ is.noted k h
      go k false h = back.exchanges.puts.others k (has k ∙ h) ∙ is.others k h

  pub index_begins : IndexBegins T
  index_begins plane = record { noted = λ k h. false-true (sym (ap is_some (map.get-empty key_cmp k)) ∙ h); others = λ k h. refl }

  pub index_grows : IndexGrows T
  index_grows r before now k t there is = go (map.contains_key r k) refl
    where
      changed : (q : Key) → same_key q k ≡ false → map.get (map.insert now k t) q ≡ map.get now q
      changed q h = map.get-insert key_cmp_total now k t q ∙ kept (same_key q k) _ _ h

      -- it is noted already
      still : map.contains_key r k ≡ true → (q : Key) (c : Bool) → same_key q k ≡ c → map.contains_key r q ≡ false → map.get (map.insert now k t) q ≡ map.get before q
      still h q true e i = false-true (sym i ∙ ap (map.contains_key r) (key_same q k e) ∙ h)
      still h q false e i = changed q e ∙ is.others q i

      -- it is noted now
      noted : map.contains_key r k ≡ false → (q : Key) (c : Bool) → same_key q k ≡ c → cond c true (map.contains_key r q) ≡ true → cond c (Some (tile_under now k)) (map.get r q) ≡ map.get before q
      noted h q true e i = some_under (map.get now k) there ∙ is.others k h ∙ ap (map.get before) (sym (key_same q k e))
      noted h q false e i = is.noted q i

      others : map.contains_key r k ≡ false → (q : Key) (c : Bool) → same_key q k ≡ c → cond c true (map.contains_key r q) ≡ false → map.get (map.insert now k t) q ≡ map.get before q
      others h q true e i = false-true (sym i)
      others h q false e i = changed q e ∙ is.others q i

      or_cond : (a b : Bool) → (a || b) ≡ cond a true b
      or_cond true b = refl
      or_cond false b = refl

      has : (q : Key) → map.contains_key (map.insert r k (tile_under now k)) q ≡ cond (same_key q k) true (map.contains_key r q)
      has q = has-insert r k (tile_under now k) q ∙ or_cond (same_key q k) (map.contains_key r q)

      go : (b : Bool) → map.contains_key r k ≡ b → IsIndex (cond b r (map.insert r k (tile_under now k))) before (map.insert now k t)
      go true h = record { noted = is.noted; others = λ q i. still h q (same_key q k) refl i }
      go false h = record {
        noted = λ q i. map.get-insert key_cmp_total r k (tile_under now k) q ∙ noted h q (same_key q k) refl (sym (has q) ∙ i);
        others = λ q i. others h q (same_key q k) refl (sym (has q) ∙ i);
      }

  pub touched_of : (r after old new : Keyed T) (touched : Touched) → Exchanges r after old new → HasTouched (keys_in after) touched → HasTouched (keys_in r) touched
  touched_of r after old new touched e = subst (λ ks. HasTouched ks touched) (exchange_notes r after old new e)

  pub same_some : (x y : Keyed T) (o : Option (Keyed T)) → o ≡ Some x → o ≡ Some y → x ≡ y
  same_some x y o e f = ap (λ p. unwrap_or p x) (sym e ∙ f)

  -- an entry that was undone or redone was exchanged
  module _ (b : Pages T) (history after : Stack (Keyed T)) (index : Option (Keyed T)) (r given : Keyed T) (old new : Keyed T)
      (past : history.past ≡ b.past) (redo : history.future ≡ b.redo) (open_is : index ≡ b.index) (e : Exchanges r given old new) where
    pub rolled_back : take 1 history.past ≡ r ∷ [] → IsUndone history after given → RollsBack b (record { past = after.past; redo = after.future; index = index }) old new
    rolled_back first u = record {
      revision = r;
      given = given;
      past = sym past ∙ first_is history.past r first ∙ ap (λ rs. r ∷ rs) (sym u.past);
      redo = u.future ∙ ap (λ rs. given ∷ rs) redo;
      index = open_is;
      exchanges = e;
    }

    pub rolled_forward : take 1 history.future ≡ r ∷ [] → IsRedone history after given → RollsForward b (record { past = after.past; redo = after.future; index = index }) old new
    rolled_forward first u = record {
      revision = r;
      given = given;
      past = u.past ∙ ap (λ rs. given ∷ rs) past;
      redo = sym redo ∙ first_is history.future r first ∙ ap (λ rs. r ∷ rs) (sym u.future);
      index = open_is;
      exchanges = e;
    }

  pub first_touched : (rs xs : List (Keyed T)) (r after old new : Keyed T) (touched : Touched) → rs ≡ xs → take 1 rs ≡ r ∷ [] → Exchanges r after old new → HasTouched (keys_in after) touched → HasTouched (first_keys xs) touched
  first_touched rs xs r after old new touched same first e h = subst (λ ks. HasTouched ks touched) (sym (ap first_keys (sym same ∙ first_is rs r first))) (touched_of r after old new touched e h)

  pub none_counted : (rs xs : List (Keyed T)) (n : ℕ) → rs ≡ xs → rs ≡ [] → n ≡ n + set.len (first_keys xs)
  none_counted rs xs n same none = let e : set.len (first_keys xs) ≡ 0 = ap (λ ys. set.len (first_keys ys)) (sym same ∙ none) ∙ set.len-empty key_cmp in omega (arith, e)

  -- what an exchange gives can be exchanged again
  pub first_again : (rs ys : List (Keyed T)) (r given old new : Keyed T) → rs ≡ given ∷ ys → AllStand r old → Exchanges r given old new → FirstStands rs new
  first_again rs ys r given old new is stand e = subst (λ zs. FirstStands zs new) (sym is) (λ k h. exchange_keys r given old new stand e k ∙ stand k (sym (e.keys k) ∙ h))

  pub first_stood : (rs xs : List (Keyed T)) (r plane : Keyed T) → rs ≡ xs → take 1 rs ≡ r ∷ [] → FirstStands xs plane → AllStand r plane
  first_stood rs xs r plane same first = subst (λ zs. FirstStands zs plane) (sym same ∙ first_is rs r first)

  -- a key that is there can be noted
  pub noted_stands : (r plane : Keyed T) (k : Key) (t : Option T) → AllStand r plane → map.contains_key plane k ≡ true → AllStand (noted_under r k t) plane
  noted_stands r plane k t stand there = go (map.contains_key r k)
    where
      own : (q : Key) (b : Bool) → same_key q k ≡ b → (b || map.contains_key r q) ≡ true → map.contains_key plane q ≡ true
      own q true e h = ap (map.contains_key plane) (key_same q k e) ∙ there
      own q false e h = stand q h

      go : (b : Bool) → AllStand (cond b r (map.insert r k t)) plane
      go true = stand
      go false = λ q h. own q (same_key q k) refl (sym (has-insert r k t q) ∙ h)

  pub nothing_stands : (plane : Keyed T) → AllStand map.empty plane
  nothing_stands plane k h = false-true (sym (ap is_some (map.get-empty key_cmp k)) ∙ h)

  -- once it is committed, the transaction is the first to be rolled back
  pub committed_stands : (b new : Pages T) (plane : Keyed T) → is_some b.index ≡ true → ((r : Keyed T) → b.index ≡ Some r → AllStand r plane) → ((r : Keyed T) → b.index ≡ Some r → new ≡ committed r b) → FirstStands new.past plane × (new.index ≡ None)
  committed_stands b new plane began stand is = go b.index refl began
    where
      go : (o : Option (Keyed T)) → b.index ≡ o → is_some o ≡ true → FirstStands new.past plane × (new.index ≡ None)
      go None e h = false-true h
      go (Some r) e h = (subst (λ rs. FirstStands rs plane) (sym (ap (λ c. c.past) (is r e))) (stand r e), ap (λ c. c.index) (is r e))
