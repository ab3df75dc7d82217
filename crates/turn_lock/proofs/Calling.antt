-- The steps of a call keep the rule.
use Rattle.std.proofs.Common.{◌≡◌, ◌≢◌, ℕ, ◌+◌, ◌*◌, ◌^◌, ◌<◌, ◌≤◌, List, [], ◌∷◌, ◌++◌, length, length-append, append-nil, drop, set, eqb, Some, None, Bool, true, false, refl, sym, ap, ◌∙◌, subst, arith, eq-eqb, ne_eqb}
use Rattle.std.specs.Prelude.{Option, Result, Ok, Err, slice_index}
use Rattle.std.specs.List.{sum_by}
use Rattle.std.proofs.lemmas.List.Prefix.{front_rest}
use mathlib.Core.Option.{some, none}
use mathlib.Core.Option as maybe
use mathlib.Core.List.{IsPrefix}
use native.Mathlib.Decide.{ℕ_discrete}
use lib.ListN.{get_elem?}
use prog.Atomic.{either}
use Rattle.atomic_table.specs.Table.{State, Me, Step, Act, Allows, Valid, stepped, carried_after, keeps as stays, takes, gives}
use Rattle.atomic_table.proofs.Lists.{set_again, set_else, exchanged}
use Rattle.turn_lock.specs.declared.view.View.{View}
use Rattle.turn_lock.specs.declared.view.Terms.{Terms}
use Rattle.turn_lock.specs.declared.sent.Sent.{Sent}
use Rattle.turn_lock.specs.declared.sent.Sent.TheVariants.{Accepted, Unlawful}
use Rattle.turn_lock.specs.History.{made_by, IsLegal}
use Rattle.turn_lock.specs.Answers.{Answers, added}
use Rattle.turn_lock.specs.Passes.{HasTurn}
use Rattle.turn_lock.specs.Turns.{kept_count, keeps, made_count, SeatHas, IsCounted, Fits, HasSeen, Place, free, taken, Kept}
use Rattle.turn_lock.specs.Steps.{begun, resting, ended, found_in, Finds, Begins, Follows, same, more, MayGive, Ends, Counts}
use Rattle.turn_lock.proofs.Seats.{sum_set, sum_same, sum_at, sum_two, sum_few, each_set, get_set, one_view}
use Rattle.turn_lock.proofs.Entries.{prefix_self, prefix_more, made_append, made_else, legal_snoc}

-- each of the two marks tells that somebody has the turn
pub marks : (n : ℕ) → 0 < either (eqb n 0) 1 n
marks n = exchanged n 0 1 (λ (m : ℕ). 0 < m) (λ e. omega arith) (λ other. omega (arith, other))

same_slot : {S : Type 0} (x y : S) → (let l : List (ℕ × Option S) = (0, Some x) ∷ [] in l) ≡ (0, Some y) ∷ [] → x ≡ y
same_slot {S} x y e = let p : (let q : ℕ × Option S = (0, Some x) in q) ≡ (0, Some y) = cc in let r : Some x ≡ Some y = ap (λ (z : ℕ × Option S). z.1) p in cc

module _ {E F : Type 0} where
  -- a change of one view that leaves both counts
  counted_kept : (n : ℕ) (h : List E) (views : List (View E F)) (k : ℕ) (v w : View E F) → IsCounted n h views → SeatHas views k v → kept_count w ≡ kept_count v → made_count w ≡ made_count v
      → IsCounted n h (set views k w)
  counted_kept n h views k v w c at kept made = record {
    numbers = sum_same kept_count views k v w at kept ∙ c.numbers;
    most = c.most;
    entries = c.entries ∙ sym (sum_same made_count views k v w at made);
    few = each_set (λ (j : ℕ) (u : View E F). made_count u ≤ kept_count u * 1048576) views k w (omega (arith, kept, made, c.few k v at)) (λ j u other. c.few j u);
  }

  -- one more entry, which a seat made
  counted_more : (n : ℕ) (h : List E) (views : List (View E F)) (k : ℕ) (v : View E F) (e : E) (seen : List E) → IsCounted n h views → SeatHas views k v → made_count v + 1 ≤ kept_count v * 1048576
      → IsCounted n (h ++ e ∷ []) (set views k (resting v (e ∷ []) seen))
  counted_more n h views k v e seen c at room =
      let w = resting v (e ∷ []) seen in
      let one : made_count w ≡ made_count v + 1 = omega (arith, length-append v.made (e ∷ [])) in
      record {
        numbers = sum_same kept_count views k v w at refl ∙ c.numbers;
        most = c.most;
        entries = omega (arith, sum_set made_count views k v w at, c.entries, one, length-append h (e ∷ []));
        few = each_set (λ (j : ℕ) (u : View E F). made_count u ≤ kept_count u * 1048576) views k w (omega (arith, one, room)) (λ j u other. c.few j u);
      }

  short : (n : ℕ) (h : List E) (views : List (View E F)) → IsCounted n h views → length h ≤ 2 ^ 24
  short n h views c = omega (arith, sum_few made_count kept_count 1048576 views c.few, c.entries, c.numbers, c.most)

module _ {S E F : Type 0} (history_of : S → List E) (fixed_of : S → F) where
  -- no other seat has a turn beside a seat that has one, and the slot is with that
  alone : (h : List E) (fixed : F) (word : ℕ) (homes : List (maybe.Option (Option S))) (views : List (View E F)) (k : ℕ) (v : View E F) (t : List E × F) → Place history_of fixed_of h fixed word homes views → SeatHas views k v → v.turn ≡ Some t
      → (homes ≡ none ∷ []) × (t ≡ (h, fixed)) × ((i : ℕ) (u : View E F) → i ≢ k → SeatHas views i u → u.turn ≡ None)
  alone h fixed word homes views k v t (free x is_free home hist fix idle) at up = absurd (cc (up, idle k v at))
  alone h fixed word homes views k v t (taken j u held home there some_kept turn idle) at up = go (ℕ_discrete k j)
    where
      go : Dec (k ≡ j) → (homes ≡ none ∷ []) × (t ≡ (h, fixed)) × ((i : ℕ) (u : View E F) → i ≢ k → SeatHas views i u → u.turn ≡ None)
      go (yes one) =
          let is : v ≡ u = one_view views k j v u at there one in
          let turns : Some t ≡ Some (h, fixed) = sym up ∙ (ap (λ (x : View E F). x.turn) is ∙ turn) in
          (home, cc turns, (λ i w other at'. idle i w (λ e. other (e ∙ sym one)) at'))
      go (no apart) = absurd (cc (up, idle k v apart at))

module _ {E F : Type 0} (artist : E → ℕ) (lawful : List E → E → Bool) where
  -- a seat takes the turn
  known_begun : (h : List E) (views : List (View E F)) (k : ℕ) (v : View E F) (found : List E) (fixed : F) → HasSeen artist lawful h views → SeatHas views k v → HasSeen artist lawful h (set views k (begun v found fixed))
  known_begun h views k v found fixed known at =
      let w = begun v found fixed in
      let f = known.fits k v at in
      let still : (i : ℕ) → sum_by (keeps i) (set views k w) ≡ sum_by (keeps i) views = λ i. sum_same (keeps i) views k v w at refl in
      record {
        legal = known.legal;
        fits = each_set (λ (j : ℕ) (u : View E F). Fits artist h u) views k w (record { begins = f.begins; own = f.own; no_other = f.no_other }) (λ j u other. known.fits j u);
        once = λ i. subst (λ (x : ℕ). x ≤ 1) (sym (still i)) (known.once i);
        others = λ i zeros. known.others i (sym (still i) ∙ zeros);
      }

  -- a turn ends without an entry
  known_same : (h : List E) (views : List (View E F)) (k : ℕ) (v : View E F) → HasSeen artist lawful h views → SeatHas views k v → HasSeen artist lawful h (set views k (resting v [] h))
  known_same h views k v known at =
      let w = resting v [] h in
      let f = known.fits k v at in
      let still : (i : ℕ) → sum_by (keeps i) (set views k w) ≡ sum_by (keeps i) views = λ i. sum_same (keeps i) views k v w at refl in
      let all : (i : ℕ) → 0 < keeps i v → made_by artist i h ≡ made_by artist i (v.made ++ []) = λ i mine. (f.own i mine).0 ∙ ap (made_by artist i) (sym (append-nil v.made)) in
      record {
        legal = known.legal;
        fits = each_set (λ (j : ℕ) (u : View E F). Fits artist h u) views k w
            (record { begins = prefix_self h; own = λ i mine. (all i mine, all i mine); no_other = λ i zeros. ap (made_by artist i) (append-nil v.made) ∙ f.no_other i zeros })
            (λ j u other. known.fits j u);
        once = λ i. subst (λ (x : ℕ). x ≤ 1) (sym (still i)) (known.once i);
        others = λ i zeros. known.others i (sym (still i) ∙ zeros);
      }

  -- a turn ends with an entry of an artist whose number the seat keeps
  known_more : (h : List E) (views : List (View E F)) (k : ℕ) (v : View E F) (e : E) → HasSeen artist lawful h views → SeatHas views k v → 0 < keeps (artist e) v → lawful h e ≡ true
      → HasSeen artist lawful (h ++ e ∷ []) (set views k (resting v (e ∷ []) (h ++ e ∷ [])))
  known_more h views k v e known at mine may =
      let g = h ++ e ∷ [] in
      let w = resting v (e ∷ []) g in
      let f = known.fits k v at in
      let still : (i : ℕ) → sum_by (keeps i) (set views k w) ≡ sum_by (keeps i) views = λ i. sum_same (keeps i) views k v w at refl in
      let here : (i : ℕ) → artist e ≡ i → 0 < keeps i v = λ i is. subst (λ (x : ℕ). 0 < keeps x v) is mine in
      let all : (i : ℕ) → 0 < keeps i v → made_by artist i g ≡ made_by artist i (v.made ++ e ∷ []) = λ i own. made_append artist i h (e ∷ []) ∙ (ap (λ l. l ++ made_by artist i (e ∷ [])) (f.own i own).0 ∙ sym (made_append artist i v.made (e ∷ []))) in
      let other_fits : (j : ℕ) (u : View E F) → j ≢ k → SeatHas views j u → Fits artist g u = λ j u other there.
      let r = known.fits j u there in
      record {
        begins = prefix_more u.seen h (e ∷ []) r.begins;
        own = λ i theirs. (
          made_else artist i h e
              (λ (is : artist e ≡ i).
              let two = sum_two (keeps i) views j k u v other there at in
              let one = known.once i in
              let z = here i is in
              omega arith)
              ∙ (r.own i theirs).0,
          (r.own i theirs).1,
        );
        no_other = r.no_other;
      } in
      record {
        legal = legal_snoc lawful h e known.legal may;
        fits = each_set (λ (j : ℕ) (u : View E F). Fits artist g u) views k w
            (record {
              begins = prefix_self g;
              own = λ i own. (all i own, all i own);
              no_other = λ i zeros. made_else artist i v.made e (λ (is : artist e ≡ i). let z = here i is in omega (arith, z, zeros)) ∙ f.no_other i zeros;
            })
            other_fits;
        once = λ i. subst (λ (x : ℕ). x ≤ 1) (sym (still i)) (known.once i);
        others = λ i zeros.
            let zeros' : sum_by (keeps i) views ≡ 0 = sym (still i) ∙ zeros in
            made_else artist i h e
            (λ (is : artist e ≡ i).
            let one = sum_at (keeps i) views k v at in
            let z = here i is in
            omega arith)
            ∙ known.others i zeros';
      }

module _ {S E F : Type 0} (artist : E → ℕ) (lawful : List E → E → Bool) (history_of : S → List E) (fixed_of : S → F) (terms : Terms F) where
  abbrev Rule : State (Option S) (View E F) → Type 0
  Rule = Kept artist lawful history_of fixed_of terms

  begins_by : (f : ℕ → ℕ) → ((n : ℕ) → 0 < f n) → (k : ℕ) (me : Me (Option S) (View E F)) (st : Step (Option S)) (s : State (Option S) (View E F)) (h : Rule s) → SeatHas s.views k me.0 → 0 < kept_count me.0
      → (found : ℕ) → slice_index s.words 0 ≡ found → Place history_of fixed_of h.history terms.fixed h.word s.homes s.views
      → (w : View E F) × (a : Act (Option S)) × Valid s.homes me.1 a × Rule (stepped s 0 (f found) k me.1 w a) × Begins artist lawful history_of fixed_of st me found (w, carried_after me.1 a)
  begins_by f held k me st s h at keeps_some found word (free x is_free home hist fix idle) =
      let is : found ≡ 0 = sym word ∙ (ap (λ (l : List ℕ). slice_index l 0) h.words ∙ is_free) in
      let test : eqb found 0 ≡ true = eq-eqb found 0 is in
      let w = begun me.0 (history_of x) (fixed_of x) in
      let fit = h.known.fits k me.0 at in (
        w,
        takes 0 (Some x),
        ap (λ (l : List (maybe.Option (Option S))). get_elem? l 0) home,
        record {
          word = f found;
          history = h.history;
          words = ap (λ (l : List ℕ). set l 0 (f found)) h.words;
          counted = counted_kept terms.artists h.history s.views k me.0 w h.counted at refl refl;
          known = known_begun artist lawful h.history s.views k me.0 (history_of x) (fixed_of x) h.known at;
          place = taken k w (held found) (ap (λ (l : List (maybe.Option (Option S))). set l 0 none) home) (get_set s.views k me.0 w at) keeps_some (rw (hist, fix) refl)
              (λ i u other there. idle i u (sym (set_else s.views k i w other) ∙ there));
        },
        rw test (
          x,
          refl,
          record {
            few = subst (λ (l : List E). length l ≤ 2 ^ 24) (sym hist) (short terms.artists h.history s.views h.counted);
            continues = record {
              legal = subst (λ (l : List E). IsLegal lawful l) (sym hist) h.known.legal;
              begins = subst (λ (l : List E). IsPrefix me.0.seen l) (sym hist) fit.begins;
              own = λ i mine. ap (made_by artist i) hist ∙ (fit.own i mine).0;
            };
          },
        ),
      )
  begins_by f held k me st s h at keeps_some found word (taken j u there home seat some_kept turn idle) =
      let is : found ≡ h.word = sym word ∙ ap (λ (l : List ℕ). slice_index l 0) h.words in
      let test : eqb found 0 ≡ false = ne_eqb found 0 (λ e. omega (arith, e, is, there)) in
      let again = set_again s.views k me.0 at in (
        me.0,
        stays,
        tt,
        record {
          word = f found;
          history = h.history;
          words = ap (λ (l : List ℕ). set l 0 (f found)) h.words;
          counted = subst (λ vs. IsCounted terms.artists h.history vs) (sym again) h.counted;
          known = subst (λ vs. HasSeen artist lawful h.history vs) (sym again) h.known;
          place = subst (λ vs. Place history_of fixed_of h.history terms.fixed (f found) s.homes vs) (sym again) (taken j u (held found) home seat some_kept turn idle);
        },
        rw test refl,
      )

  -- A step that marks the word: it takes the turn where nobody has it.
  pub begins : (f : ℕ → ℕ) → ((n : ℕ) → 0 < f n) → (slots k : ℕ) (me : Me (Option S) (View E F)) (st : Step (Option S)) → 0 < kept_count me.0 → Allows Rule slots k me 0 f (Begins artist lawful history_of fixed_of st me)
  begins f held slots k me st keeps_some s h wide at word = begins_by f held k me st s h at keeps_some (slice_index s.words 0) refl h.place

  -- what the rule says once a turn has ended
  ends_to : (k : ℕ) (me : Me (Option S) (View E F)) (x : S) (s : State (Option S) (View E F)) (h : Rule s) → SeatHas s.views k me.0 → me.0.turn ≡ Some (h.history, terms.fixed) → fixed_of x ≡ terms.fixed
      → s.homes ≡ none ∷ [] → ((i : ℕ) (u : View E F) → i ≢ k → SeatHas s.views i u → u.turn ≡ None) → Follows artist lawful history_of fixed_of me.0 h.history x
      → Rule record { words = set s.words 0 0; homes = set s.homes 0 (some (Some x)); views = set s.views k (ended me.0 (history_of x)) }
  ends_to k me x s h at up fix out idle (same hist) =
      let w = ended me.0 (history_of x) in
      let entries : drop (length (found_in me.0.turn)) (history_of x) ≡ [] = rw up (front_rest (history_of x) h.history [] (hist ∙ sym (append-nil h.history))) in
      let is : resting me.0 [] h.history ≡ w = sym (rw (entries, hist) refl) in
      record {
        word = 0;
        history = h.history;
        words = ap (λ (l : List ℕ). set l 0 0) h.words;
        counted = subst (λ (y : View E F). IsCounted terms.artists h.history (set s.views k y)) is (counted_kept terms.artists h.history s.views k me.0 (resting me.0 [] h.history) h.counted at refl (ap length (append-nil me.0.made)));
        known = subst (λ (y : View E F). HasSeen artist lawful h.history (set s.views k y)) is (known_same artist lawful h.history s.views k me.0 h.known at);
        place = free x refl (ap (λ (l : List (maybe.Option (Option S))). set l 0 (some (Some x))) out) hist fix (each_set (λ (j : ℕ) (u : View E F). u.turn ≡ None) s.views k w refl idle);
      }
  ends_to k me x s h at up fix out idle (more e hist mine may room) =
      let w = ended me.0 (history_of x) in
      let entries : drop (length (found_in me.0.turn)) (history_of x) ≡ e ∷ [] = rw up (front_rest (history_of x) h.history (e ∷ []) hist) in
      let is : resting me.0 (e ∷ []) (h.history ++ e ∷ []) ≡ w = sym (rw (entries, hist) refl) in
      record {
        word = 0;
        history = h.history ++ e ∷ [];
        words = ap (λ (l : List ℕ). set l 0 0) h.words;
        counted = subst (λ (y : View E F). IsCounted terms.artists (h.history ++ e ∷ []) (set s.views k y)) is (counted_more terms.artists h.history s.views k me.0 e (h.history ++ e ∷ []) h.counted at room);
        known = subst (λ (y : View E F). HasSeen artist lawful (h.history ++ e ∷ []) (set s.views k y)) is (known_more artist lawful h.history s.views k me.0 e h.known at mine may);
        place = free x refl (ap (λ (l : List (maybe.Option (Option S))). set l 0 (some (Some x))) out) hist fix (each_set (λ (j : ℕ) (u : View E F). u.turn ≡ None) s.views k w refl idle);
      }

  pub ends : (slots k : ℕ) (me : Me (Option S) (View E F)) (st : Step (Option S)) (x : S) → me.1 ≡ (0, Some x) ∷ [] → MayGive artist lawful history_of fixed_of me.0 x → Allows Rule slots k me 0 (λ _. 0) (Ends artist lawful history_of fixed_of st me)
  ends slots k me st x slot give s h wide at word =
      let a = alone history_of fixed_of h.history terms.fixed h.word s.homes s.views k me.0 (give.history, fixed_of x) h.place at give.has in
      let hist : give.history ≡ h.history = ap (λ (z : List E × F). z.0) a.1 in
      let fix : fixed_of x ≡ terms.fixed = ap (λ (z : List E × F). z.1) a.1 in
      let up : me.0.turn ≡ Some (h.history, terms.fixed) = give.has ∙ ap (λ (z : List E × F). Some z) a.1 in
      let follows = subst (λ (l : List E). Follows artist lawful history_of fixed_of me.0 l x) hist give.follows in (
        ended me.0 (history_of x),
        gives,
        tt,
        rw slot (ends_to k me x s h at up fix a.0 a.2 follows),
        (λ y is. let e : x ≡ y = same_slot x y (sym slot ∙ is) in rw slot (ap (λ (z : S). let r : Me (Option S) (View E F) = (ended me.0 (history_of z), []) in r) e)),
      )

  -- a look that tells how many numbers a seat keeps
  pub counts : (slots k : ℕ) (me : Me (Option S) (View E F)) (st : Step (Option S)) → Allows Rule slots k me 0 (λ n. n) (Counts st me)
  counts slots k me st s h wide at word =
      let found : slice_index s.words 0 ≡ h.word = ap (λ (l : List ℕ). slice_index l 0) h.words in
      let again = set_again s.views k me.0 at in (
        me.0,
        stays,
        tt,
        record {
          word = h.word;
          history = h.history;
          words = rw found (ap (λ (l : List ℕ). set l 0 h.word) h.words);
          counted = subst (λ vs. IsCounted terms.artists h.history vs) (sym again) h.counted;
          known = subst (λ vs. HasSeen artist lawful h.history vs) (sym again) h.known;
          place = subst (λ vs. Place history_of fixed_of h.history terms.fixed h.word s.homes vs) (sym again) h.place;
        },
        (refl, omega (arith, sum_at kept_count s.views k me.0 at, h.counted.numbers, h.counted.most)),
      )

module _ {S E F X : Type 0} (artist : E → ℕ) (lawful : List E → E → Bool) (history_of : S → List E) (fixed_of : S → F) where
  followed : (v : View E F) (x y : S) (e : E) (r : Result Sent X) → Answers lawful (history_of x) e r (history_of y) → 0 < keeps (artist e) v → made_count v + 1 ≤ kept_count v * 1048576 → Follows artist lawful history_of fixed_of v (history_of x) y
  followed v x y e (Ok (Accepted place)) answer mine room = more e answer.2 mine answer.0 room
  followed v x y e (Ok Unlawful) answer mine room = same answer.1
  followed v x y e (Err f) answer mine room = same answer

  after_is : (x y : S) (e : E) (r : Result Sent X) → Answers lawful (history_of x) e r (history_of y) → history_of y ≡ history_of x ++ added e r
  after_is x y e (Ok (Accepted place)) answer = answer.2
  after_is x y e (Ok Unlawful) answer = answer.1 ∙ sym (append-nil (history_of x))
  after_is x y e (Err f) answer = answer ∙ sym (append-nil (history_of x))

module _ {S E F X : Type 0} (artist : E → ℕ) (lawful : List E → E → Bool) (history_of : S → List E) (fixed_of : S → F) where
  -- what a seat with the turn may give back
  pub gives_back : (m0 m1 : Me (Option S) (View E F)) (x y : S) (e : E) (r : Result Sent X) → m1 ≡ (begun m0.0 (history_of x) (fixed_of x), (0, None) ∷ []) → Answers lawful (history_of x) e r (history_of y) → fixed_of y ≡ fixed_of x
      → 0 < keeps (artist e) m0.0 → made_count m0.0 + 1 ≤ kept_count m0.0 * 1048576 → MayGive artist lawful history_of fixed_of m1.0 y
  gives_back m0 m1 x y e r is answer fix mine room =
      let view : m1.0 ≡ begun m0.0 (history_of x) (fixed_of x) = ap (λ (m : Me (Option S) (View E F)). m.0) is in
      record {
        history = history_of x;
        has = ap (λ (v : View E F). v.turn) view ∙ ap (λ (z : F). let t : Option (List E × F) = Some (history_of x, z) in t) (sym fix);
        follows = subst (λ (v : View E F). Follows artist lawful history_of fixed_of v (history_of x) y) (sym view) (followed artist lawful history_of fixed_of (begun m0.0 (history_of x) (fixed_of x)) x y e r answer mine room);
      }

  -- what a whole call tells
  pub calls_end : (m0 m1 m2 : Me (Option S) (View E F)) (x y : S) (e : E) (r : Result Sent X) → m1 ≡ (begun m0.0 (history_of x) (fixed_of x), (0, None) ∷ []) → Finds artist lawful history_of fixed_of m0.0 x
      → Answers lawful (history_of x) e r (history_of y) → m2 ≡ (ended m1.0 (history_of y), [])
      → HasTurn artist lawful m0.0.kept m0.0.made m0.0.seen e r m2.0.seen × (m2 ≡ (resting m0.0 (added e r) m2.0.seen, []))
  calls_end m0 m1 m2 x y e r is found answer is' =
      let made = drop (length (history_of x)) (history_of y) in
      let full : m2 ≡ (resting m0.0 made (history_of y), []) = is' ∙ ap (λ (m : Me (Option S) (View E F)). let z : Me (Option S) (View E F) = (ended m.0 (history_of y), []) in z) is in
      let seen : m2.0.seen ≡ history_of y = ap (λ (m : Me (Option S) (View E F)). m.0.seen) full in
      let entries : made ≡ added e r = front_rest (history_of y) (history_of x) (added e r) (after_is artist lawful history_of fixed_of x y e r answer) in (
        record { history = history_of x; continues = found.continues; answers = subst (λ (l : List E). Answers lawful (history_of x) e r l) (sym seen) answer },
        full
            ∙ (ap (λ (l : List E). let z : Me (Option S) (View E F) = (resting m0.0 l (history_of y), []) in z) entries
            ∙ ap (λ (l : List E). let z : Me (Option S) (View E F) = (resting m0.0 (added e r) l, []) in z) (sym seen)),
      )
