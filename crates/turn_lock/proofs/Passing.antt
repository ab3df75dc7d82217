-- The rule holds at the start, where a seat is cut in two, and where two are joined; and what it says at the end.
use Rattle.std.proofs.Common.{◌≡◌, ◌≢◌, ℕ, zero, suc, ◌+◌, ◌*◌, ◌<◌, ◌≤◌, ◌⊎◌, List, [], ◌∷◌, ◌++◌, length, length-append, append-nil, take, drop, set, eqb, ne_eqb, eq-eqb, Some, None, Bool, true, false, refl, sym, ap, ◌∙◌, subst, inl, inr, ⊎_elim, arith, cond, ltb}
use Rattle.std.specs.Prelude.{Option}
use Rattle.std.specs.List.{sum_by, range_with_len}
use Rattle.std.proofs.lemmas.Bool.Decides.{nat_tests}
use Rattle.std.proofs.lemmas.List.Sums.{sum_by-cons, sum_by_push, sum_by-append, count_by-le-length}
use Rattle.std.proofs.lemmas.List.FromFn.{length-range_with_len}
use mathlib.Core.Option.{some, none, some-injective, some-ne-none}
use mathlib.Core.Option as maybe
use mathlib.Core.List.{IsPrefix}
use native.Mathlib.Decide.{ℕ_discrete}
use lib.ListN.{get_elem?}
use Rattle.atomic_table.specs.Table.{State, Splits, Joins, opening, Final, Seen}
use Rattle.atomic_table.proofs.Lists.{at_longer, at_snoc, set_else}
use Rattle.turn_lock.specs.declared.view.View.{View}
use Rattle.turn_lock.specs.declared.view.Terms.{Terms}
use Rattle.turn_lock.specs.History.{times, made_by, IsLegal}
use Rattle.turn_lock.specs.Passes.{longer}
use Rattle.turn_lock.specs.Turns.{kept_count, keeps, made_count, SeatHas, IsCounted, Fits, HasSeen, Place, free, taken, Kept, first_view, left_view, right_view, joined_view, spent_view}
use Rattle.turn_lock.proofs.Seats.{sum_set, sum_at, sum_two, sum_only, each_set, each_snoc, get_other, one_view}
use Rattle.turn_lock.proofs.Entries.{prefix_self, prefix_shorter, made_append, made_longer, made_all, made_none}

abbrev bit : Bool → ℕ
bit b = cond b 1 0

-- how often a number stands in a list with one more in front
times_cons : (k n : ℕ) (ns : List ℕ) → times k (n ∷ ns) ≡ bit (eqb n k) + times k ns
times_cons k n ns = sum_by-cons (λ (x : ℕ). bit (eqb x k)) n ns

times_append : (k : ℕ) (xs ys : List ℕ) → times k (xs ++ ys) ≡ times k xs + times k ys
times_append k xs ys = sum_by-append (λ (x : ℕ). bit (eqb x k)) xs ys

times_few : (k : ℕ) (xs : List ℕ) → times k xs ≤ length xs
times_few k xs = count_by-le-length (λ (x : ℕ). eqb x k) xs

times_above : (k n more : ℕ) → k < n → times k (range_with_len n more) ≡ 0
times_above k n zero lt = refl
times_above k n (suc more) lt =
    let other : bit (eqb n k) ≡ 0 = ap bit (ne_eqb n k (λ e. omega (arith, e, lt))) in
    omega (arith, times_cons k n (range_with_len (n + 1) more), other, times_above k (n + 1) more (omega (arith, lt)))

times_once : (k n more : ℕ) → times k (range_with_len n more) ≤ 1
times_once k n zero = omega arith
times_once k n (suc more) = go (ℕ_discrete n k) (times_once k (n + 1) more)
  where
    go : Dec (n ≡ k) → times k (range_with_len (n + 1) more) ≤ 1 → times k (range_with_len n (suc more)) ≤ 1
    go (yes same) few =
        let one : bit (eqb n k) ≡ 1 = ap bit (eq-eqb n k same) in
        omega (arith, times_cons k n (range_with_len (n + 1) more), one, times_above k (n + 1) more (omega (arith, same)))
    go (no other) few =
        let none' : bit (eqb n k) ≡ 0 = ap bit (ne_eqb n k other) in
        omega (arith, times_cons k n (range_with_len (n + 1) more), none', few)

-- the first number and the others
cut_length : (l : List ℕ) → length (drop 1 l) + length (take 1 l) ≡ length l
cut_length [] = refl
cut_length (x ∷ rest) = omega arith

cut_times : (k : ℕ) (l : List ℕ) → times k (drop 1 l) + times k (take 1 l) ≡ times k l
cut_times k [] = refl
cut_times k (x ∷ rest) = let a = times_cons k x rest in let b = times_cons k x [] in let c : times k [] ≡ 0 = refl in omega (arith, a, b, c)

positive : (k : ℕ) (xs ys : List ℕ) → 0 < times k (xs ++ ys) → (0 < times k xs) ⊎ (0 < times k ys)
positive k xs ys h = go (times k xs) refl
  where
    go : (n : ℕ) → times k xs ≡ n → (0 < times k xs) ⊎ (0 < times k ys)
    go zero is = inr (omega (arith, times_append k xs ys, is, h))
    go (suc n) is = inl (omega (arith, is))

module _ {A : Type 0} where
  longer_either : (xs ys zs : List A) → IsPrefix xs zs → IsPrefix ys zs → IsPrefix (longer xs ys) zs × IsPrefix xs (longer xs ys) × IsPrefix ys (longer xs ys)
  longer_either xs ys zs p q = go (ltb (length xs) (length ys)) refl
    where
      go : (b : Bool) → ltb (length xs) (length ys) ≡ b → IsPrefix (cond b ys xs) zs × IsPrefix xs (cond b ys xs) × IsPrefix ys (cond b ys xs)
      go true is = (q, prefix_shorter xs ys zs p q (let lt : length xs < length ys = grind (arith, nat_tests) in omega arith), prefix_self ys)
      go false is = (p, prefix_self xs, prefix_shorter ys xs zs q p (let le : length ys ≤ length xs = grind (arith, nat_tests) in le))

module _ {E F : Type 0} where
  -- a seat that made nothing is cut in two
  splits_counted : (n : ℕ) (h : List E) (views : List (View E F)) (k : ℕ) (v : View E F) → IsCounted n h views → SeatHas views k v → v.made ≡ []
      → IsCounted n h (set views k (left_view v) ++ right_view v ∷ [])
  splits_counted n h views k v c at fresh =
      let l = left_view v in
      let r = right_view v in
      let front = set views k l in
      let none' : made_count v ≡ 0 = ap length fresh in
      let sums : (f : View E F → ℕ) → f l + f r ≡ f v → sum_by f (front ++ r ∷ []) ≡ sum_by f views = λ f e. omega (arith, e, sum_set f views k v l at, sum_by_push f front r) in
      record {
        numbers = sums kept_count (cut_length v.kept) ∙ c.numbers;
        most = c.most;
        entries = c.entries ∙ sym (sums made_count (omega (arith, none')));
        few = each_snoc (λ (u : View E F). made_count u ≤ kept_count u * 1048576) front r (omega arith)
            (each_set (λ (j : ℕ) (u : View E F). made_count u ≤ kept_count u * 1048576) views k l (omega arith) (λ j u other. c.few j u));
      }

  -- a seat takes in another
  joins_counted : (n : ℕ) (h : List E) (views : List (View E F)) (k : ℕ) (v : View E F) (o : ℕ) (w : View E F) → IsCounted n h views → SeatHas views k v → o ≢ k → SeatHas (set views k (joined_view v w)) o w
      → IsCounted n h (set (set views k (joined_view v w)) o spent_view)
  joins_counted n h views k v o w c at apart at' =
      let b = joined_view v w in
      let x : View E F = spent_view in
      let front = set views k b in
      let there : SeatHas views o w = sym (set_else views k o b apart) ∙ at' in
      let sums : (f : View E F → ℕ) → f b ≡ f v + f w → f x ≡ 0 → sum_by f (set front o x) ≡ sum_by f views = λ f e z. omega (arith, e, z, sum_set f views k v b at, sum_set f front o w x at') in
      let kept : kept_count b ≡ kept_count v + kept_count w = length-append v.kept w.kept in
      let made : made_count b ≡ made_count v + made_count w = length-append v.made w.made in
      record {
        numbers = sums kept_count kept refl ∙ c.numbers;
        most = c.most;
        entries = c.entries ∙ sym (sums made_count made refl);
        few = each_set (λ (j : ℕ) (u : View E F). made_count u ≤ kept_count u * 1048576) front o x (omega arith)
            (λ j u other. each_set (λ (j : ℕ) (u : View E F). made_count u ≤ kept_count u * 1048576) views k b (omega (arith, kept, made, c.few k v at, c.few o w there)) (λ j u other. c.few j u) j u);
      }

module _ {E F : Type 0} (artist : E → ℕ) (lawful : List E → E → Bool) where
  splits_known : (h : List E) (views : List (View E F)) (k : ℕ) (v : View E F) → HasSeen artist lawful h views → SeatHas views k v → v.made ≡ []
      → HasSeen artist lawful h (set views k (left_view v) ++ right_view v ∷ [])
  splits_known h views k v known at fresh =
      let l = left_view v in
      let r = right_view v in
      let front = set views k l in
      let f = known.fits k v at in
      let still : (i : ℕ) → sum_by (keeps i) (front ++ r ∷ []) ≡ sum_by (keeps i) views = λ i. omega (arith, sum_set (keeps i) views k v l at, sum_by_push (keeps i) front r, cut_times i v.kept) in
      let mine : (i : ℕ) → (0 < keeps i l) ⊎ (0 < keeps i r) → (made_by artist i h ≡ made_by artist i []) × (made_by artist i v.seen ≡ made_by artist i []) = λ i e.
      let own = f.own i (let c = cut_times i v.kept in ⊎_elim (λ (x : 0 < keeps i l). omega (arith, x, c)) (λ (x : 0 < keeps i r). omega (arith, x, c)) e) in
      (own.0 ∙ ap (made_by artist i) fresh, own.1 ∙ ap (made_by artist i) fresh) in
      record {
        legal = known.legal;
        fits = each_snoc (λ (u : View E F). Fits artist h u) front r (record { begins = f.begins; own = λ i e. mine i (inr e); no_other = λ i zeros. refl })
            (each_set (λ (j : ℕ) (u : View E F). Fits artist h u) views k l (record { begins = f.begins; own = λ i e. mine i (inl e); no_other = λ i zeros. refl }) (λ j u other. known.fits j u));
        once = λ i. subst (λ (x : ℕ). x ≤ 1) (sym (still i)) (known.once i);
        others = λ i zeros. known.others i (sym (still i) ∙ zeros);
      }

  joins_known : (h : List E) (views : List (View E F)) (k : ℕ) (v : View E F) (o : ℕ) (w : View E F) → HasSeen artist lawful h views → SeatHas views k v → o ≢ k → SeatHas (set views k (joined_view v w)) o w
      → HasSeen artist lawful h (set (set views k (joined_view v w)) o spent_view)
  joins_known h views k v o w known at apart at' =
      let b = joined_view v w in
      let x : View E F = spent_view in
      let front = set views k b in
      let there : SeatHas views o w = sym (set_else views k o b apart) ∙ at' in
      let fv = known.fits k v at in
      let fw = known.fits o w there in
      let gone : (i : ℕ) → keeps i x ≡ 0 = λ i. refl in
      let still : (i : ℕ) → sum_by (keeps i) (set front o x) ≡ sum_by (keeps i) views = λ i. omega (arith, gone i, sum_set (keeps i) views k v b at, sum_set (keeps i) front o w x at', times_append i v.kept w.kept) in
      let both = longer_either v.seen w.seen h fv.begins fw.begins in
      let two : (i : ℕ) → keeps i w + keeps i v ≤ 1 = λ i. omega (arith, sum_two (keeps i) views o k w v apart there at, known.once i) in
      let mine : (i : ℕ) → (0 < keeps i v) ⊎ (0 < keeps i w) → (made_by artist i h ≡ made_by artist i b.made) × (made_by artist i b.seen ≡ made_by artist i b.made) = λ i. ⊎_elim
      (λ (y : 0 < keeps i v).
      let m : made_by artist i v.made ≡ made_by artist i b.made = sym (made_append artist i v.made w.made ∙ (ap (λ l. made_by artist i v.made ++ l) (fw.no_other i (let t = two i in omega (arith, t, y))) ∙ append-nil (made_by artist i v.made))) in
      let own = fv.own i y in
      let far = made_longer artist i v.seen b.seen h both.1 both.0 (own.0 ∙ sym own.1) in
      (own.0 ∙ m, sym far ∙ (own.0 ∙ m)))
      (λ (y : 0 < keeps i w).
      let m : made_by artist i w.made ≡ made_by artist i b.made = sym (made_append artist i v.made w.made ∙ ap (λ l. l ++ made_by artist i w.made) (fv.no_other i (let t = two i in omega (arith, t, y)))) in
      let own = fw.own i y in
      let far = made_longer artist i w.seen b.seen h both.2 both.0 (own.0 ∙ sym own.1) in
      (own.0 ∙ m, sym far ∙ (own.0 ∙ m))) in
      let joined : Fits artist h b = record {
        begins = both.0;
        own = λ i e. mine i (positive i v.kept w.kept e);
        no_other = λ i zeros.
            let t = times_append i v.kept w.kept in
            made_append artist i v.made w.made
            ∙ (ap (λ l. l ++ made_by artist i w.made) (fv.no_other i (omega (arith, t, zeros))) ∙ fw.no_other i (omega (arith, t, zeros)));
      } in
      record {
        legal = known.legal;
        fits = each_set (λ (j : ℕ) (u : View E F). Fits artist h u) front o x (record { begins = (h, refl); own = λ i e. absurd (omega (arith, e, gone i)); no_other = λ i zeros. refl })
            (λ j u other. each_set (λ (j : ℕ) (u : View E F). Fits artist h u) views k b joined (λ j u other. known.fits j u) j u);
        once = λ i. subst (λ (y : ℕ). y ≤ 1) (sym (still i)) (known.once i);
        others = λ i zeros. known.others i (sym (still i) ∙ zeros);
      }

module _ {S E F : Type 0} (artist : E → ℕ) (lawful : List E → E → Bool) (history_of : S → List E) (fixed_of : S → F) (terms : Terms F) where
  abbrev Rule : State (Option S) (View E F) → Type 0
  Rule = Kept artist lawful history_of fixed_of terms

  -- a seat with the turn isn't one without it
  apart_from : (views : List (View E F)) (j k : ℕ) (u v : View E F) (t : List E × F) → SeatHas views j u → SeatHas views k v → u.turn ≡ Some t → v.turn ≡ None → j ≢ k
  apart_from views j k u v t there at turn idle same = absurd (cc (ap (λ (x : View E F). x.turn) (one_view views j k u v there at same), turn, idle))

  splits_place : (h : List E) (fixed : F) (word : ℕ) (homes : List (maybe.Option (Option S))) (views : List (View E F)) (k : ℕ) (v : View E F) → Place history_of fixed_of h fixed word homes views → SeatHas views k v → v.turn ≡ None
      → Place history_of fixed_of h fixed word homes (set views k (left_view v) ++ right_view v ∷ [])
  splits_place h fixed word homes views k v (free x is_free home hist fix idle) at rests = free x is_free home hist fix
      (each_snoc (λ (u : View E F). u.turn ≡ None) (set views k (left_view v)) (right_view v) refl (each_set (λ (j : ℕ) (u : View E F). u.turn ≡ None) views k (left_view v) rests (λ j u other. idle j u)))
  splits_place h fixed word homes views k v (taken j u held out there some_kept turn idle) at rests =
      let l = left_view v in
      let front = set views k l in
      let other : j ≢ k = apart_from views j k u v (h, fixed) there at turn rests in
      let still : (i : ℕ) (w : View E F) → SeatHas front i w → i ≢ j → w.turn ≡ None = each_set (λ (i : ℕ) (w : View E F). i ≢ j → w.turn ≡ None) views k l (λ away. rests) (λ i w more at' away. idle i w away at') in
      taken j u held out (at_longer front (right_view v ∷ []) j u (get_other views k j l u other there)) some_kept turn
      (λ i w away at'. ⊎_elim
      (λ (y : SeatHas front i w). still i w y away)
      (λ (y : right_view v ≡ w). ap (λ (z : View E F). z.turn) (sym y))
      (at_snoc front (right_view v) w i at'))

  joins_place : (h : List E) (fixed : F) (word : ℕ) (homes : List (maybe.Option (Option S))) (views : List (View E F)) (k : ℕ) (v : View E F) (o : ℕ) (w : View E F) → Place history_of fixed_of h fixed word homes views → SeatHas views k v → v.turn ≡ None → o ≢ k → SeatHas (set views k (joined_view v w)) o w → w.turn ≡ None
      → Place history_of fixed_of h fixed word homes (set (set views k (joined_view v w)) o spent_view)
  joins_place h fixed word homes views k v o w (free x is_free home hist fix idle) at rests apart at' rests' = free x is_free home hist fix
      (each_set (λ (j : ℕ) (u : View E F). u.turn ≡ None) (set views k (joined_view v w)) o spent_view refl (λ j u other. each_set (λ (j : ℕ) (u : View E F). u.turn ≡ None) views k (joined_view v w) rests (λ j u other. idle j u) j u))
  joins_place h fixed word homes views k v o w (taken j u held out there some_kept turn idle) at rests apart at' rests' =
      let b = joined_view v w in
      let front = set views k b in
      let further : SeatHas front j u = get_other views k j b u (apart_from views j k u v (h, fixed) there at turn rests) there in
      let still : (i : ℕ) (y : View E F) → SeatHas front i y → i ≢ j → y.turn ≡ None = each_set (λ (i : ℕ) (y : View E F). i ≢ j → y.turn ≡ None) views k b (λ away. rests) (λ i y more at'' away. idle i y away at'') in
      let last : (i : ℕ) (y : View E F) → SeatHas (set front o spent_view) i y → i ≢ j → y.turn ≡ None = each_set (λ (i : ℕ) (y : View E F). i ≢ j → y.turn ≡ None) front o spent_view (λ away. refl) (λ i y more. still i y) in
      taken j u held out (get_other front o j spent_view u (apart_from front j o u w (h, fixed) further at' turn rests') further) some_kept turn (λ i y away at''. last i y at'' away)

  pub splits : (k : ℕ) (v : View E F) → v.turn ≡ None → v.made ≡ [] → Splits Rule k v (left_view v) (right_view v)
  splits k v rests fresh s h at = record {
    word = h.word;
    history = h.history;
    words = h.words;
    counted = splits_counted terms.artists h.history s.views k v h.counted at fresh;
    known = splits_known artist lawful h.history s.views k v h.known at fresh;
    place = splits_place h.history terms.fixed h.word s.homes s.views k v h.place at rests;
  }

  pub joins : (k : ℕ) (v : View E F) (o : ℕ) (w : View E F) → v.turn ≡ None → w.turn ≡ None → Joins Rule k v o w (joined_view v w) spent_view
  joins k v o w rests rests' s h at apart at' = record {
    word = h.word;
    history = h.history;
    words = h.words;
    counted = joins_counted terms.artists h.history s.views k v o w h.counted at apart at';
    known = joins_known artist lawful h.history s.views k v o w h.known at apart at';
    place = joins_place h.history terms.fixed h.word s.homes s.views k v o w h.place at rests apart at' rests';
  }

  pub opens : (x : S) → history_of x ≡ [] → fixed_of x ≡ terms.fixed → terms.artists ≤ 16 → Rule (opening (0 ∷ []) (Some x ∷ []) (first_view terms))
  opens x hist fix few = record {
    word = 0;
    history = [];
    words = refl;
    counted = record {
      numbers = omega (arith, length-range_with_len 0 terms.artists);
      most = few;
      entries = refl;
      few = one_seat (λ (u : View E F). made_count u ≤ kept_count u * 1048576) (first_view terms) (omega arith);
    };
    known = record {
      legal = refl;
      fits = one_seat (λ (u : View E F). Fits artist [] u) (first_view terms) (record { begins = ([], refl); own = λ i e. (refl, refl); no_other = λ i zeros. refl });
      once = λ i. omega (arith, times_once i 0 terms.artists);
      others = λ i zeros. refl;
    };
    place = free x refl refl hist fix (one_seat (λ (u : View E F). u.turn ≡ None) (first_view terms) refl);
  }
    where
      one_seat : (P : View E F → Type 0) (w : View E F) → P w → (j : ℕ) (u : View E F) → SeatHas (w ∷ []) j u → P u
      one_seat P w p zero u at = subst P (some-injective _ _ at) p
      one_seat P w p (suc j) u at = absurd (some-ne-none u (sym at))

  -- what is known at the end, where one seat rests and keeps all numbers
  pub record Closes (v : View E F) (x : S) : Type 0 where
    pub whole : history_of x ≡ v.seen
    pub fix : fixed_of x ≡ terms.fixed
    pub made : (i : ℕ) → made_by artist i v.seen ≡ made_by artist i v.made
    pub legal : IsLegal lawful v.seen

  closes_at : (k : ℕ) (v : View E F) (s : State (Option S) (View E F)) (h : Rule s) → SeatHas s.views k v → v.turn ≡ None → kept_count v ≡ terms.artists → (x : S) × (s.homes ≡ some (Some x) ∷ []) × Closes v x
  closes_at k v s h at rests all = go h.place
    where
      no_number : (j : ℕ) (u : View E F) → j ≢ k → SeatHas s.views j u → kept_count u ≡ 0
      no_number j u other there = omega (arith, sum_two kept_count s.views j k u v other there at, h.counted.numbers, all)

      mine : (i n : ℕ) → sum_by (keeps i) s.views ≡ suc n → 0 < keeps i v
      mine i n is = omega (arith, is, sum_only (keeps i) s.views k v at (λ j u other there. omega (arith, no_number j u other there, times_few i u.kept)))

      all_of : (i n : ℕ) → sum_by (keeps i) s.views ≡ n → made_by artist i h.history ≡ made_by artist i v.seen
      all_of i zero is = made_none artist i v.seen h.history (h.known.fits k v at).begins (h.known.others i is)
      all_of i (suc n) is = let own = (h.known.fits k v at).own i (mine i n is) in own.0 ∙ sym own.1

      made_of : (i n : ℕ) → sum_by (keeps i) s.views ≡ n → made_by artist i v.seen ≡ made_by artist i v.made
      made_of i zero is = sym (all_of i zero is) ∙ (h.known.others i is ∙ sym ((h.known.fits k v at).no_other i (omega (arith, sum_at (keeps i) s.views k v at, is))))
      made_of i (suc n) is = ((h.known.fits k v at).own i (mine i n is)).1

      go : Place history_of fixed_of h.history terms.fixed h.word s.homes s.views → (x : S) × (s.homes ≡ some (Some x) ∷ []) × Closes v x
      go (free x is_free home hist fix idle) =
          let whole : h.history ≡ v.seen = made_all artist v.seen h.history (h.known.fits k v at).begins (λ i. all_of i (sum_by (keeps i) s.views) refl) in (
            x,
            home,
            record {
              whole = hist ∙ whole;
              fix = fix;
              made = λ i. made_of i (sum_by (keeps i) s.views) refl;
              legal = subst (λ (l : List E). IsLegal lawful l) whole h.known.legal;
            },
          )
      go (taken j u held out there some_kept turn idle) =
          let z = no_number j u (apart_from s.views j k u v (h.history, terms.fixed) there at turn rests) there in
          absurd (omega (arith, z, some_kept))

  -- A seat that rests and keeps all numbers has seen the whole history, and the slot is at home.
  pub closes : (k : ℕ) (v : View E F) (ws : List ℕ) (xs : List (Option S)) → Final (Seen Rule k v) ws xs → v.turn ≡ None → kept_count v ≡ terms.artists → (x : S) × (get_elem? xs 0 ≡ some (Some x)) × Closes v x
  closes k v ws xs final rests all =
      let c = closes_at k v final.0 final.1.0 final.1.1 rests all in
      (c.0, final.4 0 (Some c.0) (ap (λ (l : List (maybe.Option (Option S))). get_elem? l 0) c.1), c.2)
