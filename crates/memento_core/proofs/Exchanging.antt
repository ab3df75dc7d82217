-- Notes, and their exchange with what stands under their keys.
use Rattle.std.proofs.Common.{◌≡◌, ℕ, suc, ◌+◌, ◌≤◌, ◌<◌, Bool, true, false, ◌||◌, cond, Option, Some, None, is_some, List, [], ◌∷◌, ◌++◌, length, take, drop, refl, sym, ap, ◌∙◌, subst, arith, length-append, get_or, set}
use Rattle.std.specs.Prelude.{map}
use Rattle.std.proofs.lemmas.List.{drop_more, drop-set-lt, take_more_set, drop_all, take_all, append_assoc, append-nil}
use Rattle.std.specs.Option.{unwrap_or}
use Rattle.std.specs.FinMap as fin
use Rattle.std.specs.FinSet as set
use Rattle.geom_core.specs.Grid.{Key, key_cmp, same_key}
use Rattle.geom_core.specs.Keys.{key_cmp_total, key_cmp-IsAntisymmetric}
use Rattle.geom_core.proofs.Tests.{taken, kept, none_left, none_right, or_left, or_right, is_some-None}
use Rattle.geom_core.proofs.Tiles.{key_same, key_is}
use Rattle.memento_core.specs.Planes.{Keyed, tile_under}
use Rattle.memento_core.specs.declared.revision.Note.{Note}
use Rattle.memento_core.specs.Notes.{IsEachOnce, IsRevision, keys_noted, noted}
use Rattle.memento_core.specs.Revisions.{AllStand, Exchanges, keys_in}
use Rattle.memento_core.proofs.Sets.{inserted_again}

pub false-true : {P : Type 0} → false ≡ true → P
false-true e = absurd (never e)
  where
    never : false ≡ true → ⊥
    never e = cc

some_or : {A : Type 0} (b : Bool) (x : A) (o : Option A) → is_some (cond b (Some x) o) ≡ (b || is_some o)
some_or true x o = refl
some_or false x o = refl

len_at_most : (ks : List Key) → set.len (set.from_list {R = key_cmp} ks) ≤ length ks
len_at_most [] = subst (λ n. n ≤ 0) (sym (set.len-empty key_cmp)) (omega arith)
len_at_most (k ∷ ks) = subst (λ n. n ≤ suc (length ks)) (sym (set.len-insert key_cmp_total (set.from_list ks) k)) (go (set.contains (set.from_list ks) k) (len_at_most ks))
  where
    go : (b : Bool) → set.len (set.from_list {R = key_cmp} ks) ≤ length ks → cond b (set.len (set.from_list {R = key_cmp} ks)) (set.len (set.from_list {R = key_cmp} ks) + 1) ≤ suc (length ks)
    go true h = omega (arith, h)
    go false h = omega (arith, h)

-- where no key stands twice, the first isn't among the others
pub once_first : (k : Key) (ks : List Key) → IsEachOnce (k ∷ ks) → (set.contains (set.from_list {R = key_cmp} ks) k ≡ false) × IsEachOnce ks
once_first k ks once = go (set.contains (set.from_list {R = key_cmp} ks) k) (sym (set.len-insert key_cmp_total (set.from_list ks) k) ∙ once) (len_at_most ks)
  where
    go : (b : Bool) → cond b (set.len (set.from_list {R = key_cmp} ks)) (set.len (set.from_list {R = key_cmp} ks) + 1) ≡ suc (length ks) → set.len (set.from_list {R = key_cmp} ks) ≤ length ks → (b ≡ false) × IsEachOnce ks
    go true e h = absurd (omega (arith, e, h))
    go false e h = (refl, omega (arith, e))

module _ {T : Type 0} where
  -- a key that comes in is there, and so are the others
  pub has-insert : (m : Keyed T) (k : Key) (t : Option T) (q : Key) → fin.contains_key (fin.insert m k t) q ≡ (same_key q k || fin.contains_key m q)
  has-insert m k t q = ap is_some (fin.get-insert key_cmp_total m k t q) ∙ some_or (same_key q k) t (fin.get m q)

  pub contains-keys_in : (r : Keyed T) (k : Key) → set.contains (keys_in r) k ≡ fin.contains_key r k
  contains-keys_in r k = set.contains-from_list key_cmp_total (fin.keys r) k ∙ sym (fin.contains_key-keys r k)

  -- the keys of notes are those of which something was noted
  pub has-noted : (ns : List (Note T)) (q : Key) → fin.contains_key (noted ns) q ≡ set.contains {R = key_cmp} (set.from_list (keys_noted ns)) q
  has-noted [] q = ap is_some (fin.get-empty key_cmp q) ∙ sym (set.contains-empty key_cmp q)
  has-noted (n ∷ ns) q = has-insert (noted ns) n.key n.tile q ∙ ap (λ b. same_key q n.key || b) (has-noted ns q) ∙ sym (set.contains-insert key_cmp_total (set.from_list (keys_noted ns)) n.key q)

  pub keys_in-noted : (ns : List (Note T)) → keys_in (noted ns) ≡ set.from_list (keys_noted ns)
  keys_in-noted ns = set.same_set key_cmp_total key_cmp-IsAntisymmetric _ _ (λ q. contains-keys_in (noted ns) q ∙ has-noted ns q)

  abbrev entries_noted : List (Note T) → List (Key × Option T)
  entries_noted = map {B = Key × Option T} (λ (m : Note T). (m.key, m.tile))

  keys_push : (n : Note T) (ns : List (Note T)) → keys_noted (ns ++ n ∷ []) ≡ keys_noted ns ++ n.key ∷ []
  keys_push n [] = refl
  keys_push n (m ∷ ns) = ap (λ ks. m.key ∷ ks) (keys_push n ns)

  entries_push : (n : Note T) (ns : List (Note T)) → entries_noted (ns ++ n ∷ []) ≡ entries_noted ns ++ (n.key, n.tile) ∷ []
  entries_push n [] = refl
  entries_push n (m ∷ ns) = ap (λ es. (m.key, m.tile) ∷ es) (entries_push n ns)

  module _ (ns : List (Note T)) (n : Note T) (other : fin.contains_key (noted ns) n.key ≡ false) where
    -- one note more of another key
    pub noted_push : noted (ns ++ n ∷ []) ≡ fin.insert (noted ns) n.key n.tile
    noted_push = ap fin.from_entries (entries_push n ns)
        ∙ fin.from_entries_push key_cmp_total key_cmp-IsAntisymmetric _ n.key n.tile (is_some-None _ (ap is_some (sym (fin.get-from_entries key_cmp_total (entries_noted ns) n.key)) ∙ other))

    pub revision_push : (keys : set.FinSet key_cmp) → IsRevision keys ns → IsRevision (set.insert keys n.key) (ns ++ n ∷ [])
    revision_push keys is = record {
      keys_are = ap (λ s. set.insert s n.key) is.keys_are ∙ sym list;
      once = ap set.len list ∙ set.len-insert key_cmp_total (set.from_list (keys_noted ns)) n.key ∙ kept _ _ _ (sym (has-noted ns n.key) ∙ other) ∙ ap (λ m. m + 1) is.once ∙ sym (ap length (keys_push n ns) ∙ length-append (keys_noted ns) (n.key ∷ []));
    }
      where
        list : set.from_list {R = key_cmp} (keys_noted (ns ++ n ∷ [])) ≡ set.insert (set.from_list (keys_noted ns)) n.key
        list = ap (set.from_list {R = key_cmp}) (keys_push n ns) ∙ set.from_list_push key_cmp_total key_cmp-IsAntisymmetric (keys_noted ns) n.key

  -- the plane after the notes were laid one after another
  pub put_all : Keyed T → List (Note T) → Keyed T
  put_all m [] = m
  put_all m (n ∷ ns) = put_all (fin.insert m n.key n.tile) ns

  -- the notes of what stood there when each was laid
  pub lifted : Keyed T → List (Note T) → List (Note T)
  lifted m [] = []
  lifted m (n ∷ ns) = (record { key = n.key; tile = tile_under m n.key }) ∷ lifted (fin.insert m n.key n.tile) ns

  -- the keys of the notes stand
  abbrev pub AllThere : Keyed T → List (Note T) → Type 0
  AllThere m [] = Unit {0}
  AllThere m (n ∷ ns) = (fin.contains_key m n.key ≡ true) × AllThere m ns

  pub all_there : (ns : List (Note T)) (m : Keyed T) → AllStand (noted ns) m → AllThere m ns
  all_there [] m stand = tt
  all_there (n ∷ ns) m stand = (stand n.key (has-insert (noted ns) n.key n.tile n.key ∙ or_left _ _ (key_is n.key n.key refl)), all_there ns m (λ q h. stand q (has-insert (noted ns) n.key n.tile q ∙ or_right (same_key q n.key) _ h)))

  still_there : (ns : List (Note T)) (m : Keyed T) (k : Key) (t : Option T) → AllThere m ns → AllThere (fin.insert m k t) ns
  still_there [] m k t h = tt
  still_there (n ∷ ns) m k t h = (has-insert m k t n.key ∙ or_right (same_key n.key k) _ h.0, still_there ns m k t h.1)

  pub some_under : (o : Option (Option T)) → is_some o ≡ true → Some (unwrap_or o None) ≡ o
  some_under None h = false-true h
  some_under (Some t) h = refl

  -- one more key, of which nothing else was noted
  one_traded : (r after m new : Keyed T) (k : Key) (t : Option T) → fin.contains_key r k ≡ false → fin.contains_key m k ≡ true
      → Exchanges r after (fin.insert m k t) new → Exchanges (fin.insert r k t) (fin.insert after k (tile_under m k)) m new
  one_traded r after m new k t other there e = record {
    puts = record {
      laid = λ q h. laid q (same_key q k) refl (sym (has-insert r k t q) ∙ h) ∙ sym (fin.get-insert key_cmp_total r k t q);
      others = λ q h.
          let neither : (same_key q k || fin.contains_key r q) ≡ false = sym (has-insert r k t q) ∙ h in
          e.puts.others q (none_right (same_key q k) _ neither) ∙ stays q (none_left (same_key q k) _ neither);
    };
    keys = λ q. has-insert after k (tile_under m k) q ∙ ap (λ b. same_key q k || b) (e.keys q) ∙ sym (has-insert r k t q);
    lifted = λ q h. fin.get-insert key_cmp_total after k (tile_under m k) q ∙ lift q (same_key q k) refl (sym (has-insert r k t q) ∙ h);
  }
    where
      stays : (q : Key) → same_key q k ≡ false → fin.get (fin.insert m k t) q ≡ fin.get m q
      stays q h = fin.get-insert key_cmp_total m k t q ∙ kept (same_key q k) _ _ h

      laid : (q : Key) (b : Bool) → same_key q k ≡ b → (b || fin.contains_key r q) ≡ true → fin.get new q ≡ cond b (Some t) (fin.get r q)
      laid q true h i = e.puts.others q (ap (fin.contains_key r) (key_same q k h) ∙ other) ∙ fin.get-insert key_cmp_total m k t q ∙ taken (same_key q k) _ _ h
      laid q false h i = e.puts.laid q i

      lift : (q : Key) (b : Bool) → same_key q k ≡ b → (b || fin.contains_key r q) ≡ true → cond b (Some (tile_under m k)) (fin.get after q) ≡ fin.get m q
      lift q true h i = some_under (fin.get m k) there ∙ ap (fin.get m) (sym (key_same q k h))
      lift q false h i = e.lifted q i ∙ stays q h

  -- so all of them are exchanged
  pub all_traded : (ns : List (Note T)) (m : Keyed T) → IsEachOnce (keys_noted ns) → AllThere m ns → Exchanges (noted ns) (noted (lifted m ns)) m (put_all m ns)
  unfolding put_all lifted
  all_traded [] m once there = record {
    puts = record { laid = λ k h. none k h; others = λ k h. refl };
    keys = λ k. refl;
    lifted = λ k h. none k h;
  }
    where
      none : (k : Key) {P : Type 0} → fin.contains_key (fin.empty {X = Option T} {R = key_cmp}) k ≡ true → P
      none k h = false-true (sym (ap is_some (fin.get-empty key_cmp k)) ∙ h)
  all_traded (n ∷ ns) m once there =
      let first = once_first n.key (keys_noted ns) once in
      one_traded (noted ns) (noted (lifted (fin.insert m n.key n.tile) ns)) m (put_all (fin.insert m n.key n.tile) ns) n.key n.tile (has-noted ns n.key ∙ first.0) there.0
      (all_traded ns (fin.insert m n.key n.tile) first.1 (still_there ns m n.key n.tile there.1))

  pub keys-lifted : (ns : List (Note T)) (m : Keyed T) → keys_noted (lifted m ns) ≡ keys_noted ns
  unfolding lifted
  keys-lifted [] m = refl
  keys-lifted (n ∷ ns) m = ap (λ ks. n.key ∷ ks) (keys-lifted ns (fin.insert m n.key n.tile))

  -- the notes up to a place were laid: the others, laid on what stands now, end in the same
  pub record LaidUpTo (old : Keyed T) (all : List (Note T)) (now : Keyed T) (front rest : List (Note T)) : Type 0 where
    pub plane : put_all now rest ≡ put_all old all
    pub notes : front ++ lifted now rest ≡ lifted old all
    pub there : AllThere now rest

  pub none_yet : (old : Keyed T) (all : List (Note T)) → AllStand (noted all) old → LaidUpTo old all old [] all
  none_yet old all stand = record { plane = refl; notes = refl; there = all_there all old stand }

  pub one_up : (old : Keyed T) (all : List (Note T)) (now : Keyed T) (front rest : List (Note T)) (n : Note T) → LaidUpTo old all now front (n ∷ rest)
      → LaidUpTo old all (fin.insert now n.key n.tile) (front ++ (record { key = n.key; tile = tile_under now n.key }) ∷ []) rest
  unfolding put_all lifted
  one_up old all now front rest n so = record {
    plane = so.plane;
    notes = append_assoc front _ _ ∙ so.notes;
    there = still_there rest now n.key n.tile so.there.1;
  }

  pub all_up : (old : Keyed T) (all : List (Note T)) (now : Keyed T) (front rest : List (Note T)) → rest ≡ [] → LaidUpTo old all now front rest → (now ≡ put_all old all) × (front ≡ lifted old all)
  unfolding put_all lifted
  all_up old all now front [] e so = (so.plane, sym (append-nil front) ∙ so.notes)
  all_up old all now front (n ∷ rest) e so = absurd (no e)
    where
      no : {A : Type 0} {x : A} {xs : List A} → x ∷ xs ≡ [] → ⊥
      no e = cc

  -- one place on
  pub step_up : (old : Keyed T) (all : List (Note T)) (now new : Keyed T) (notes : List (Note T)) (i : ℕ) (d : Note T) (o t : Option T) → i < length notes → o ≡ tile_under now (get_or notes i d).key → t ≡ (get_or notes i d).tile → new ≡ fin.insert now (get_or notes i d).key t
      → LaidUpTo old all now (take i notes) (drop i notes) → LaidUpTo old all new (take (i + 1) (set notes i (record { key = (get_or notes i d).key; tile = o }))) (drop (i + 1) (set notes i (record { key = (get_or notes i d).key; tile = o })))
  step_up old all now new notes i d o t h stood was is so =
      let up = one_up old all now (take i notes) (drop (i + 1) notes) (get_or notes i d) (subst (LaidUpTo old all now (take i notes)) (drop_more notes i d h) so) in
      subst (λ m. LaidUpTo old all m (take (i + 1) (set notes i note)) (drop (i + 1) (set notes i note))) (sym (is ∙ ap (fin.insert now (get_or notes i d).key) was))
      (subst (LaidUpTo old all (fin.insert now (get_or notes i d).key (get_or notes i d).tile) (take (i + 1) (set notes i note))) (sym (drop-set-lt (i + 1) notes i note (omega arith)))
      (subst (λ front. LaidUpTo old all (fin.insert now (get_or notes i d).key (get_or notes i d).tile) front (drop (i + 1) notes)) front up))
    where
      note : Note T
      note = record { key = (get_or notes i d).key; tile = o }

      front : take i notes ++ (record { key = (get_or notes i d).key; tile = tile_under now (get_or notes i d).key }) ∷ [] ≡ take (i + 1) (set notes i note)
      front = (λ j. take i notes ++ (record { key = (get_or notes i d).key; tile = sym stood j }) ∷ []) ∙ sym (take_more_set notes i note h)

  -- the next key stands
  pub next_there : (old : Keyed T) (all : List (Note T)) (now : Keyed T) (notes : List (Note T)) (i : ℕ) (d : Note T) → i < length notes → LaidUpTo old all now (take i notes) (drop i notes) → fin.contains_key now (get_or notes i d).key ≡ true
  next_there old all now notes i d h so = (subst (LaidUpTo old all now (take i notes)) (drop_more notes i d h) so).there.0

  -- behind the last place
  module _ (old : Keyed T) (all : List (Note T)) (now : Keyed T) (notes : List (Note T)) (i : ℕ) (last : i ≡ length notes) (so : LaidUpTo old all now (take i notes) (drop i notes)) where
    ended : (now ≡ put_all old all) × (notes ≡ lifted old all)
    ended =
        let none : drop i notes ≡ [] = drop_all i notes (omega (arith, last)) in
        let whole : take i notes ≡ notes = take_all i notes (omega (arith, last)) in
        let up = all_up old all now (take i notes) (drop i notes) none so in
        (up.0, sym whole ∙ up.1)

    pub ended_traded : IsEachOnce (keys_noted all) → AllStand (noted all) old → Exchanges (noted all) (noted notes) old now
    ended_traded once stand = subst (λ m. Exchanges (noted all) (noted notes) old m) (sym ended.0) (subst (λ ns. Exchanges (noted all) (noted ns) old (put_all old all)) (sym ended.1) (all_traded all old once (all_there all old stand)))

    pub ended_keys : keys_noted notes ≡ keys_noted all
    ended_keys = ap keys_noted ended.1 ∙ keys-lifted all old

  -- a key more that was noted already
  pub again_revision : (keys new : set.FinSet key_cmp) (ns after : List (Note T)) (k : Key) → set.contains keys k ≡ true → new ≡ set.insert keys k → after ≡ ns → IsRevision keys ns → IsRevision new after
  again_revision keys new ns after k there more same is = subst (λ s. IsRevision s after) (sym (more ∙ inserted_again keys k there)) (subst (IsRevision keys) (sym same) is)

  -- what was noted, by the set and the notes
  pub has_is : (keys : set.FinSet key_cmp) (ns : List (Note T)) (r : Keyed T) (k : Key) → IsRevision keys ns → noted ns ≡ r → fin.contains_key r k ≡ set.contains keys k
  has_is keys ns r k is view = ap (λ f. fin.contains_key f k) (sym view) ∙ has-noted ns k ∙ ap (λ s. set.contains {R = key_cmp} s k) (sym is.keys_are)

  pub len_is : (keys : set.FinSet key_cmp) (ns : List (Note T)) (r : Keyed T) → IsRevision keys ns → noted ns ≡ r → set.len (keys_in r) ≡ length ns
  len_is keys ns r is view = ap (λ f. set.len (keys_in f)) (sym view) ∙ ap set.len (keys_in-noted ns) ∙ is.once ∙ length-map ns
    where
      length-map : (ns : List (Note T)) → length (keys_noted ns) ≡ length ns
      length-map [] = refl
      length-map (n ∷ ns) = ap suc (length-map ns)
