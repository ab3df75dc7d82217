-- What one change under a key does to the entries.
use Rattle.std.proofs.Common.{◌≡◌, ◌≢◌, ℕ, Bool, true, false, List, [], ◌∷◌, ◌++◌, map, Option, Some, None, is_some, refl, sym, ap, ◌∙◌, subst, eqb, inl, inr, arith, length, drop, suc, ◌<◌}
use Rattle.slab.specs.Slab.{Slab, get, Updates}
use Rattle.std.specs.Prelude.{nat_lt, slice_index_or, Result, Ok, Err, OnOk, OnErr}
use Rattle.std.specs.Ordering.{nat_cmp}
use Rattle.std.specs.BTreeMap.{is_at}
use Rattle.std.proofs.lemmas.Grind.{common_steps}
use Rattle.std.specs.List.{AllByRecursion, list_any}
use Rattle.std.proofs.lemmas.Bool.Decides.{nat_tests}
use Rattle.geom_core.proofs.Tests.{true_or_false, and_left, and_right, kept, or_cases, none_right, taken}
use Rattle.geom_core.proofs.Tests as tests
use Rattle.doc_model.specs.declared.job.Job.{Job}
use Rattle.doc_model.specs.declared.job.Kind.{Kind}
use Rattle.doc_model.specs.declared.command.Command.{Command}
use Rattle.doc_model.specs.declared.command.Command.TheVariants as command
use Rattle.stroke_core.specs.Fed.{Fed, Closed}
use Rattle.entry_queue.specs.declared.entry.Entry.{Entry}
use Rattle.entry_queue.specs.declared.entry.Entry.TheVariants.{Waiting, Whole, Other}
use Rattle.entry_queue.specs.Pushed.{closed, grown, has_room, is_waiting, is_numbered, pushed, with_job}
use Rattle.entry_queue.specs.Keys.{entries_at, with_first, Differ, IsFound, IsIndexed}
use Rattle.std.proofs.lemmas.Bool.{eqb-true, eq-eqb}

unequal : (a b : ℕ) → eqb a b ≡ false → a ≢ b
unequal a b e = grind (arith, nat_tests)

all_map : (P Q : ℕ → Type 0) (ks : List ℕ) → ((k : ℕ) → P k → Q k) → AllByRecursion P ks → AllByRecursion Q ks
all_map P Q [] f all = tt
all_map P Q (k ∷ ks) f all = (f k all.0, all_map P Q ks f all.1)

all_last : (P : ℕ → Type 0) (ks : List ℕ) (k : ℕ) → AllByRecursion P ks → P k → AllByRecursion P (ks ++ k ∷ [])
all_last P [] k all p = (p, tt)
all_last P (j ∷ ks) k all p = (all.0, all_last P ks k all.1 p)

differ_last : (ks : List ℕ) (k : ℕ) → Differ ks → AllByRecursion (λ other. other ≢ k) ks → Differ (ks ++ k ∷ [])
differ_last [] k d new = (tt, tt)
differ_last (j ∷ ks) k d new = (all_last (λ other. other ≢ j) ks k d.0 (λ e. new.0 (sym e)), differ_last ks k d.1 new.1)

some_not_none : {A : Type 0} (o : Option A) → is_some o ≡ true → o ≡ None → ⊥
some_not_none None h e = cc
some_not_none (Some x) h e = cc

-- keys with entries aren't free
others_of : (slots : ℕ → Option Entry) (waiting : ℕ → Option ℕ) (ks : List ℕ) (key : ℕ) → AllByRecursion (IsFound slots waiting) ks → slots key ≡ None → AllByRecursion (λ other. other ≢ key) ks
others_of slots waiting ks key all free = all_map (IsFound slots waiting) (λ other. other ≢ key) ks (λ k found e. some_not_none (slots k) found.held (ap slots e ∙ free)) all

-- entries under other keys stay
entries_same : (slots new : ℕ → Option Entry) (ks : List ℕ) (key : ℕ) → ((k : ℕ) → k ≢ key → new k ≡ slots k) → AllByRecursion (λ other. other ≢ key) ks → entries_at new ks ≡ entries_at slots ks
entries_same slots new [] key same others = refl
entries_same slots new (k ∷ ks) key same others = (λ i. with_first (same k others.0 i) (entries_same slots new ks key same others.1 i))

entries_last : (slots : ℕ → Option Entry) (ks : List ℕ) (key : ℕ) (e : Entry) → slots key ≡ Some e → entries_at slots (ks ++ key ∷ []) ≡ entries_at slots ks ++ e ∷ []
entries_last slots [] key e h = ap (λ o. with_first o []) h
entries_last slots (k ∷ ks) key e h = ap (with_first (slots k)) (entries_last slots ks key e h) ∙ out (slots k) (entries_at slots ks)
  where
    out : (o : Option Entry) (es : List Entry) → with_first o (es ++ e ∷ []) ≡ with_first o es ++ e ∷ []
    out None es = refl
    out (Some x) es = refl

-- a new entry under a free key
pub entries_pushed : (slots new : ℕ → Option Entry) (waiting : ℕ → Option ℕ) (ks : List ℕ) (key : ℕ) (e : Entry) → AllByRecursion (IsFound slots waiting) ks → slots key ≡ None → new key ≡ Some e → ((k : ℕ) → k ≢ key → new k ≡ slots k) → entries_at new (ks ++ key ∷ []) ≡ entries_at slots ks ++ e ∷ []
entries_pushed slots new waiting ks key e all free now same = entries_last new ks key e now ∙ ap (λ es. es ++ e ∷ []) (entries_same slots new ks key same (others_of slots waiting ks key all free))

-- the change of one waiting stroke changes no other entry
pub entries_changed : (slots new : ℕ → Option Entry) (waiting : ℕ → Option ℕ) (ks : List ℕ) (n key : ℕ) (change : Entry → Entry) (e : Entry) → AllByRecursion (IsFound slots waiting) ks → waiting n ≡ Some key → slots key ≡ Some e → new key ≡ Some (change e) → ((k : ℕ) → k ≢ key → new k ≡ slots k) → ((other : Entry) → is_waiting n other ≡ false → change other ≡ other) → entries_at new ks ≡ map change (entries_at slots ks)
entries_changed slots new waiting [] n key change e all known old now same stays = refl
entries_changed slots new waiting (k ∷ ks) n key change e all known old now same stays =
    let rest : entries_at new ks ≡ map change (entries_at slots ks) = entries_changed slots new waiting ks n key change e all.1 known old now same stays in
    elim (true_or_false (eqb k key)) [
      | inl h ↦ (let is_key : k ≡ key = eqb-true k key h in (λ i. with_first ((ap new is_key ∙ now) i) (rest i)) ∙ sym (ap (λ o. map change (with_first o (entries_at slots ks))) (ap slots is_key ∙ old)))
      | inr h ↦ (let other : k ≢ key = unequal k key h in (λ i. with_first (same k other i) (rest i)) ∙ here other (slots k) refl)
    ]
  where
    here : k ≢ key → (o : Option Entry) → slots k ≡ o → with_first o (map change (entries_at slots ks)) ≡ map change (with_first o (entries_at slots ks))
    here other None h = refl
    here other (Some x) h = (λ i. sym (stays x (elim (true_or_false (is_waiting n x)) [ inl w ↦ absurd (other (is_key x h w)) | inr w ↦ w ])) i ∷ map change (entries_at slots ks))
      where
        is_key : (x : Entry) → slots k ≡ Some x → is_waiting n x ≡ true → k ≡ key
        is_key (Waiting s) h w = let number : s.no ≡ n = eqb-true s.no n w in let found : Some k ≡ Some key = sym (all.0.known s h) ∙ ap waiting number ∙ known in cc
        is_key (Whole c) h w = cc
        is_key (Other c) h w = cc

-- a stroke that waits with a number, under its key
pub record IsAt (slots : ℕ → Option Entry) (waiting : ℕ → Option ℕ) (n : ℕ) (test : Entry → Bool) : Type 0 where
  pub key : ℕ
  pub stroke : Fed
  pub number : stroke.no ≡ n
  pub known : waiting n ≡ Some key
  pub held : slots key ≡ Some (Waiting stroke)
  pub passes : test (Waiting stroke) ≡ true

pub find_waiting : (slots : ℕ → Option Entry) (waiting : ℕ → Option ℕ) (ks : List ℕ) (n : ℕ) (test : Entry → Bool) → AllByRecursion (IsFound slots waiting) ks → ((e : Entry) → test e ≡ true → is_waiting n e ≡ true) → list_any test (entries_at slots ks) ≡ true → IsAt slots waiting n test
find_waiting slots waiting [] n test all tests h = cc
find_waiting slots waiting (k ∷ ks) n test all tests h = go (find_waiting slots waiting ks n test all.1 tests) (slots k) refl h
  where
    here : (e : Entry) → slots k ≡ Some e → test e ≡ true → is_waiting n e ≡ true → IsAt slots waiting n test
    here (Waiting s) e t w = let number : s.no ≡ n = eqb-true s.no n w in record { key = k; stroke = s; number = number; known = ap waiting (sym number) ∙ all.0.known s e; held = e; passes = t }
    here (Whole c) e t w = cc
    here (Other c) e t w = cc

    go : (list_any test (entries_at slots ks) ≡ true → IsAt slots waiting n test) → (o : Option Entry) → slots k ≡ o → list_any test (with_first o (entries_at slots ks)) ≡ true → IsAt slots waiting n test
    go find_later None e h = find_later h
    go find_later (Some x) e h = elim (or_cases (test x) _ h) [ inl t ↦ here x e t (tests x t) | inr l ↦ find_later l ]

-- it stands under the key that is known by its number
pub held_at : (slots : ℕ → Option Entry) (waiting : ℕ → Option ℕ) (n : ℕ) (test : Entry → Bool) (there : IsAt slots waiting n test) (key : ℕ) → waiting n ≡ Some key → slots key ≡ Some (Waiting there.stroke)
held_at slots waiting n test there key known = let same : Some key ≡ Some there.key = sym known ∙ there.known in let is_key : key ≡ there.key = cc in ap slots is_key ∙ there.held

-- an index goes on where one stroke that waits has one more job, and nothing else has changed
found_grown : (slots new : ℕ → Option Entry) (waiting : ℕ → Option ℕ) (ks : List ℕ) (key : ℕ) (job : Kind × Job) (s : Fed) → AllByRecursion (IsFound slots waiting) ks → slots key ≡ Some (Waiting s) → new key ≡ Some (Waiting (grown s job)) → ((k : ℕ) → k ≢ key → new k ≡ slots k) → AllByRecursion (IsFound new waiting) ks
found_grown slots new waiting ks key job s all old now same = all_map (IsFound slots waiting) (IsFound new waiting) ks each all
  where
    each : (k : ℕ) → IsFound slots waiting k → IsFound new waiting k
    each k found = elim (true_or_false (eqb k key)) [
      | inl h ↦ (let is_key : k ≡ key = eqb-true k key h in record {
        held = ap is_some (ap new is_key ∙ now);
        known = λ u e. let w : Some (Waiting u) ≡ Some (Waiting (grown s job)) = sym e ∙ ap new is_key ∙ now in let v : u ≡ grown s job = cc in ap (λ (x : Fed). waiting x.no) v ∙ found.known s (ap slots is_key ∙ old);
      })
      | inr h ↦ (let other : k ≢ key = unequal k key h in record {
        held = ap is_some (same k other) ∙ found.held;
        known = λ u e. found.known u (sym (same k other) ∙ e);
      })
    ]

-- and where it was closed and is no more known by its number
pub found_closed : (slots new : ℕ → Option Entry) (waiting less : ℕ → Option ℕ) (ks : List ℕ) (n key : ℕ) (e : Entry) → AllByRecursion (IsFound slots waiting) ks → waiting n ≡ Some key → new key ≡ Some e → ((s : Fed) → e ≡ Waiting s → ⊥) → ((k : ℕ) → k ≢ key → new k ≡ slots k) → ((m : ℕ) → m ≢ n → less m ≡ waiting m) → AllByRecursion (IsFound new less) ks
found_closed slots new waiting less ks n key e all known now closed same rest = all_map (IsFound slots waiting) (IsFound new less) ks each all
  where
    each : (k : ℕ) → IsFound slots waiting k → IsFound new less k
    each k found = elim (true_or_false (eqb k key)) [
      | inl h ↦ (let is_key : k ≡ key = eqb-true k key h in record {
        held = ap is_some (ap new is_key ∙ now);
        known = λ u f. absurd (let g : Some e ≡ Some (Waiting u) = sym (ap new is_key ∙ now) ∙ f in let v : e ≡ Waiting u = cc in closed u v);
      })
      | inr h ↦ (let other : k ≢ key = unequal k key h in record {
        held = ap is_some (same k other) ∙ found.held;
        known = λ u f. (let old : waiting u.no ≡ Some k = found.known u (sym (same k other) ∙ f) in rest u.no (λ number. other (let g : Some k ≡ Some key = sym old ∙ ap waiting number ∙ known in cc)) ∙ old);
      })
    ]

-- and where an entry is new under a free key
pub found_pushed : (slots new : ℕ → Option Entry) (waiting more : ℕ → Option ℕ) (ks : List ℕ) (key : ℕ) (e : Entry) → AllByRecursion (IsFound slots waiting) ks → slots key ≡ None → new key ≡ Some e → ((k : ℕ) → k ≢ key → new k ≡ slots k) → ((s : Fed) → e ≡ Waiting s → more s.no ≡ Some key) → AllByRecursion (λ k. (s : Fed) → slots k ≡ Some (Waiting s) → more s.no ≡ waiting s.no) ks → AllByRecursion (IsFound new more) (ks ++ key ∷ [])
found_pushed slots new waiting more ks key e all free now same last stay = all_last (IsFound new more) ks key (both ks all stay) (record {
  held = ap is_some now;
  known = λ s f. let g : Some e ≡ Some (Waiting s) = sym now ∙ f in let v : e ≡ Waiting s = cc in last s v;
})
  where
    each : (k : ℕ) → IsFound slots waiting k → ((s : Fed) → slots k ≡ Some (Waiting s) → more s.no ≡ waiting s.no) → IsFound new more k
    each k found stays =
        let other : k ≢ key = λ h. some_not_none (slots k) found.held (ap slots h ∙ free) in
        record {
          held = ap is_some (same k other) ∙ found.held;
          known = λ u f. let old : slots k ≡ Some (Waiting u) = sym (same k other) ∙ f in stays u old ∙ found.known u old;
        }

    both : (js : List ℕ) → AllByRecursion (IsFound slots waiting) js → AllByRecursion (λ k. (s : Fed) → slots k ≡ Some (Waiting s) → more s.no ≡ waiting s.no) js → AllByRecursion (IsFound new more) js
    both [] a b = tt
    both (j ∷ js) a b = (each j a.0 b.0, both js a.1 b.1)

-- no stroke that is left has a new number
pub not_numbered : (slots : ℕ → Option Entry) (ks : List ℕ) (n : ℕ) → list_any (is_numbered n) (entries_at slots ks) ≡ false → AllByRecursion (λ k. (s : Fed) → slots k ≡ Some (Waiting s) → s.no ≢ n) ks
not_numbered slots [] n h = tt
not_numbered slots (k ∷ ks) n h = (first (slots k) h, not_numbered slots ks n (later (slots k) h))
  where
    first : (o : Option Entry) → list_any (is_numbered n) (with_first o (entries_at slots ks)) ≡ false → (s : Fed) → o ≡ Some (Waiting s) → s.no ≢ n
    first None h s e = cc
    first (Some x) h s e = let v : x ≡ Waiting s = cc in unequal s.no n (sym (ap (is_numbered n) v) ∙ tests.none_left (is_numbered n x) _ h)

    later : (o : Option Entry) → list_any (is_numbered n) (with_first o (entries_at slots ks)) ≡ false → list_any (is_numbered n) (entries_at slots ks) ≡ false
    later None h = h
    later (Some x) h = none_right (is_numbered n x) _ h

pub indexed_pushed : (slots new : ℕ → Option Entry) (waiting more : ℕ → Option ℕ) (ks : List ℕ) (key : ℕ) → IsIndexed slots waiting ks → slots key ≡ None → AllByRecursion (IsFound new more) (ks ++ key ∷ []) → IsIndexed new more (ks ++ key ∷ [])
indexed_pushed slots new waiting more ks key h free all = record { each = all; differ = differ_last ks key h.differ (others_of slots waiting ks key h.each free) }

found_others : (slots new : ℕ → Option Entry) (waiting : ℕ → Option ℕ) (ks : List ℕ) (key : ℕ) → AllByRecursion (IsFound slots waiting) ks → AllByRecursion (λ other. other ≢ key) ks → ((k : ℕ) → k ≢ key → new k ≡ slots k) → AllByRecursion (IsFound new waiting) ks
found_others slots new waiting [] key all others same = tt
found_others slots new waiting (k ∷ ks) key all others same = (
  record { held = ap is_some (same k others.0) ∙ all.0.held; known = λ s e. all.0.known s (sym (same k others.0) ∙ e) },
  found_others slots new waiting ks key all.1 others.1 same,
)

-- the first entry leaves
pub indexed_popped : (slots new : ℕ → Option Entry) (waiting : ℕ → Option ℕ) (ks js : List ℕ) (key : ℕ) → IsIndexed slots waiting ks → ks ≡ key ∷ js → ((k : ℕ) → k ≢ key → new k ≡ slots k) → IsIndexed new waiting js
indexed_popped slots new waiting ks js key h e same =
    let t : IsIndexed slots waiting (key ∷ js) = subst (IsIndexed slots waiting) e h in
    record { each = found_others slots new waiting js key t.each.1 t.differ.0 same; differ = t.differ.1 }

pub entries_popped : (slots new : ℕ → Option Entry) (waiting : ℕ → Option ℕ) (ks js : List ℕ) (key : ℕ) → IsIndexed slots waiting ks → ks ≡ key ∷ js → ((k : ℕ) → k ≢ key → new k ≡ slots k) → entries_at new js ≡ drop 1 (entries_at slots ks)
entries_popped slots new waiting ks js key h e same =
    let t : IsIndexed slots waiting (key ∷ js) = subst (IsIndexed slots waiting) e h in
    entries_same slots new js key same t.differ.0 ∙ go (slots key) t.each.0.held ∙ sym (ap (λ ls. drop 1 (entries_at slots ls)) e)
  where
    go : (o : Option Entry) → is_some o ≡ true → entries_at slots js ≡ drop 1 (with_first o (entries_at slots js))
    go None h = cc
    go (Some x) h = refl

-- an entry that stands under a key in the place of another
pub record IsReplaced (slots new : ℕ → Option Entry) (key : ℕ) (e : Entry) : Type 0 where
  pub now : new key ≡ Some e
  pub others : (k : ℕ) → k ≢ key → new k ≡ slots k

pub updated : (old new : Slab Entry) (key : ℕ) (e : Entry) → Updates old new key (Some e) → IsReplaced (get old) (get new) key e
updated old new key e u = record { now = u.changed; others = u.others }

pub replaced : (old mid new : Slab Entry) (key at : ℕ) (e : Entry) → Updates old mid key None → at ≡ key → Updates mid new at (Some e) → IsReplaced (get old) (get new) key e
replaced old mid new key at e first same second = record {
  now = ap (get new) (sym same) ∙ second.changed;
  others = λ k apart. second.others k (λ h. apart (h ∙ same)) ∙ first.others k apart;
}

pub slots_same : (a b : Slab Entry) → a.slots ≡ b.slots → get a ≡ get b
slots_same a b h = λ i key. slice_index_or (h i) key None

-- one more entry under a free key
pub record IsPushed (slots mid new : ℕ → Option Entry) (ks js ls : List ℕ) (key : ℕ) (e : Entry) : Type 0 where
  pub slots_are : mid ≡ slots
  pub keys_are : js ≡ ks
  pub keys_then : ls ≡ js ++ key ∷ []
  pub free : mid key ≡ None
  pub now : new key ≡ Some e
  pub others : (k : ℕ) → k ≢ key → new k ≡ mid k

pub entries_more : (slots mid new : ℕ → Option Entry) (waiting : ℕ → Option ℕ) (ks js ls : List ℕ) (key : ℕ) (e : Entry) → IsIndexed slots waiting ks → IsPushed slots mid new ks js ls key e → entries_at new ls ≡ entries_at slots ks ++ e ∷ []
entries_more slots mid new waiting ks js ls key e h p =
    ap (entries_at new) (p.keys_then ∙ ap (λ xs. xs ++ key ∷ []) p.keys_are)
    ∙ entries_pushed mid new waiting ks key e (subst (λ s. AllByRecursion (IsFound s waiting) ks) (sym p.slots_are) h.each) p.free p.now p.others
    ∙ ap (λ s. entries_at s ks ++ e ∷ []) p.slots_are

pub indexed_more : (slots mid new : ℕ → Option Entry) (waiting more : ℕ → Option ℕ) (ks js ls : List ℕ) (key : ℕ) (e : Entry) → IsIndexed slots waiting ks → IsPushed slots mid new ks js ls key e → ((s : Fed) → e ≡ Waiting s → more s.no ≡ Some key) → AllByRecursion (λ k. (s : Fed) → slots k ≡ Some (Waiting s) → more s.no ≡ waiting s.no) ks → IsIndexed new more ls
indexed_more slots mid new waiting more ks js ls key e h p last stay =
    let old : IsIndexed mid waiting ks = subst (λ s. IsIndexed s waiting ks) (sym p.slots_are) h in
    let kept : AllByRecursion (λ k. (s : Fed) → mid k ≡ Some (Waiting s) → more s.no ≡ waiting s.no) ks = subst (λ m. AllByRecursion (λ k. (s : Fed) → m k ≡ Some (Waiting s) → more s.no ≡ waiting s.no) ks) (sym p.slots_are) stay in
    subst (IsIndexed new more) (sym (p.keys_then ∙ ap (λ xs. xs ++ key ∷ []) p.keys_are)) (indexed_pushed mid new waiting more ks key old p.free (found_pushed mid new waiting more ks key e old.each p.free p.now p.others last kept))

pub all_stay : (slots : ℕ → Option Entry) (waiting : ℕ → Option ℕ) (ks : List ℕ) → AllByRecursion (λ k. (s : Fed) → slots k ≡ Some (Waiting s) → waiting s.no ≡ waiting s.no) ks
all_stay slots waiting [] = tt
all_stay slots waiting (k ∷ ks) = ((λ s e. refl), all_stay slots waiting ks)

-- where the new number is no other's
pub others_stay : (slots : ℕ → Option Entry) (waiting more : ℕ → Option ℕ) (ks : List ℕ) (n : ℕ) → AllByRecursion (λ k. (s : Fed) → slots k ≡ Some (Waiting s) → s.no ≢ n) ks → ((m : ℕ) → m ≢ n → more m ≡ waiting m) → AllByRecursion (λ k. (s : Fed) → slots k ≡ Some (Waiting s) → more s.no ≡ waiting s.no) ks
others_stay slots waiting more [] n new rest = tt
others_stay slots waiting more (k ∷ ks) n new rest = ((λ s e. rest s.no (new.0 s e)), others_stay slots waiting more ks n new.1 rest)

pub length_key : (ks : List ℕ) (k : ℕ) → length (ks ++ k ∷ []) ≡ suc (length ks)
length_key [] k = refl
length_key (j ∷ ks) k = ap suc (length_key ks k)

room_waits : (n : ℕ) (e : Entry) → has_room n e ≡ true → is_waiting n e ≡ true
room_waits n (Waiting s) h = and_left (eqb s.no n) _ h
room_waits n (Whole c) h = h
room_waits n (Other c) h = h

pub find_room : (slots : ℕ → Option Entry) (waiting : ℕ → Option ℕ) (ks : List ℕ) (n : ℕ) → IsIndexed slots waiting ks → list_any (has_room n) (entries_at slots ks) ≡ true → IsAt slots waiting n (has_room n)
find_room slots waiting ks n h any = find_waiting slots waiting ks n (has_room n) h.each (room_waits n) any

pub find_stroke : (slots : ℕ → Option Entry) (waiting : ℕ → Option ℕ) (ks : List ℕ) (n : ℕ) → IsIndexed slots waiting ks → list_any (is_waiting n) (entries_at slots ks) ≡ true → IsAt slots waiting n (is_waiting n)
find_stroke slots waiting ks n h any = find_waiting slots waiting ks n (is_waiting n) h.each (λ e t. t) any

pub room_of : (n : ℕ) (s : Fed) → has_room n (Waiting s) ≡ true → length s.jobs < 4096
room_of n s h = let t : nat_lt (length s.jobs) 4096 ≡ true = and_right (eqb s.no n) _ h in grind (arith, nat_tests)

job_stays : (n : ℕ) (job : Kind × Job) (e : Entry) → is_waiting n e ≡ false → with_job n job e ≡ e
job_stays n job (Waiting s) h = kept (eqb s.no n) (Waiting (grown s job)) (Waiting s) h
job_stays n job (Whole c) h = refl
job_stays n job (Other c) h = refl

close_stays : (n : ℕ) (cancelled : Bool) (e : Entry) → is_waiting n e ≡ false → closed n cancelled e ≡ e
close_stays n cancelled (Waiting s) h = kept (eqb s.no n) (Whole (record { stroke = s; cancelled = cancelled })) (Waiting s) h
close_stays n cancelled (Whole c) h = refl
close_stays n cancelled (Other c) h = refl

-- one more job of the stroke under a key
pub left_added : (slots new : ℕ → Option Entry) (waiting : ℕ → Option ℕ) (ks : List ℕ) (n key : ℕ) (job : Kind × Job) (s : Fed) → IsIndexed slots waiting ks → waiting n ≡ Some key → slots key ≡ Some (Waiting s) → s.no ≡ n → IsReplaced slots new key (Waiting (grown s job)) → entries_at new ks ≡ map (with_job n job) (entries_at slots ks)
left_added slots new waiting ks n key job s h known old number r =
    entries_changed slots new waiting ks n key (with_job n job) (Waiting s) h.each known old (r.now ∙ sym (ap Some (taken (eqb s.no n) (Waiting (grown s job)) (Waiting s) (eq-eqb s.no n number)))) r.others (job_stays n job)

-- the close of the stroke under a key
pub left_closed : (slots new : ℕ → Option Entry) (waiting : ℕ → Option ℕ) (ks : List ℕ) (n key : ℕ) (cancelled : Bool) (s : Fed) (c : Closed) → IsIndexed slots waiting ks → waiting n ≡ Some key → slots key ≡ Some (Waiting s) → s.no ≡ n → IsReplaced slots new key (Whole c) → c ≡ record { stroke = s; cancelled = cancelled } → entries_at new ks ≡ map (closed n cancelled) (entries_at slots ks)
left_closed slots new waiting ks n key cancelled s c h known old number r same =
    entries_changed slots new waiting ks n key (closed n cancelled) (Waiting s) h.each known old (r.now ∙ ap (λ f. Some (Whole f)) same ∙ sym (ap Some (taken (eqb s.no n) (Whole (record { stroke = s; cancelled = cancelled })) (Waiting s) (eq-eqb s.no n number)))) r.others (close_stays n cancelled)

pub indexed_grown : (slots new : ℕ → Option Entry) (waiting : ℕ → Option ℕ) (ks : List ℕ) (key : ℕ) (job : Kind × Job) (s : Fed) → IsIndexed slots waiting ks → slots key ≡ Some (Waiting s) → IsReplaced slots new key (Waiting (grown s job)) → IsIndexed new waiting ks
indexed_grown slots new waiting ks key job s h old r = record { each = found_grown slots new waiting ks key job s h.each old r.now r.others; differ = h.differ }

pub indexed_same : (slots new : ℕ → Option Entry) (waiting : ℕ → Option ℕ) (ks : List ℕ) → IsIndexed slots waiting ks → ((k : ℕ) → new k ≡ slots k) → IsIndexed new waiting ks
indexed_same slots new waiting ks h same = subst (λ s. IsIndexed s waiting ks) (λ i k. sym (same k) i) h

pub indexed_closed : (slots new : ℕ → Option Entry) (waiting less : ℕ → Option ℕ) (ks : List ℕ) (n key : ℕ) (c : Closed) → IsIndexed slots waiting ks → waiting n ≡ Some key → IsReplaced slots new key (Whole c) → ((m : ℕ) → m ≢ n → less m ≡ waiting m) → IsIndexed new less ks
indexed_closed slots new waiting less ks n key c h known r rest = record { each = found_closed slots new waiting less ks n key (Whole c) h.each known r.now (λ s e. cc) r.others rest; differ = h.differ }

-- what a change under one number leaves
pub at_other : (n m : ℕ) → m ≢ n → is_at (nat_cmp n) m ≡ false
at_other n m apart = grind (arith, common_steps)

pub on_ok : {A E : Type 0} (r : Result A E) (P Q : Type 0) → (P → Q) → OnOk r P → OnOk r Q
on_ok (Ok x) P Q f p = f p
on_ok (Err e) P Q f p = tt

pub on_either : {A E : Type 0} (r : Result A E) (P Q R : Type 0) → (P → R) → (Q → R) → OnOk r P → OnErr r Q → R
on_either (Ok x) P Q R f g p q = f p
on_either (Err e) P Q R f g p q = g q

-- what is pushed that is neither a stroke's nor a new stroke
pub pushed_other : (es : List Entry) (c : Command) → ((n layer : ℕ) (exclusive : Bool) → c ≡ command.Stroke n layer exclusive → ⊥) → ((n : ℕ) (kind : Kind) (job : Job) → c ≡ command.Add n kind job → ⊥) → ((n : ℕ) → c ≡ command.End n → ⊥) → ((n : ℕ) → c ≡ command.Cancel n → ⊥) → pushed es c ≡ es ++ Other c ∷ []
pushed_other es (command.Change change) a b d e = refl
pushed_other es (command.Stroke n layer exclusive) a b d e = absurd (a n layer exclusive refl)
pushed_other es (command.Add n kind job) a b d e = absurd (b n kind job refl)
pushed_other es (command.End n) a b d e = absurd (d n refl)
pushed_other es (command.Cancel n) a b d e = absurd (e n refl)
pushed_other es command.Undo a b d e = refl
pushed_other es command.Redo a b d e = refl
pushed_other es (command.Purge k) a b d e = refl
pushed_other es command.Export a b d e = refl
