-- Points of a polyline, read pair by pair.
use Rattle.std.proofs.Common.{◌≡◌, ℕ, suc, ◌+◌, ◌*◌, ◌-◌, ◌%◌, ◌≤◌, ◌<◌, nat_le, Bool, true, false, ◌&&◌, cond, List, [], ◌∷◌, ◌++◌, map, take, drop, length, get_or, Ok, Err, refl, sym, ap, ◌∙◌, subst, append_assoc, arith}
use Rattle.std.specs.Prelude.{ℤ, pos, Result}
use Rattle.std.specs.List.{list_all}
use Rattle.std.specs.Borrow.{Bor}
use Rattle.std.proofs.Math.ListN.{set}
use Rattle.std.proofs.Math.Seq.{drop-cons, drop-length}
use Rattle.std.proofs.lemmas.List.{take_more_set, length-set, map-append, get_or-map, length-map}
use Rattle.std.proofs.lemmas.Bool.Decides.{nat_tests}
use Rattle.geom_core.specs.Areas.{Point}
use Rattle.doc_model.proofs.Patches.{all_append}
use Rattle.doc_model.specs.declared.track.Stamp.{Stamp}
use Rattle.doc_model.specs.Trails.{Trail, trail, centres}
use Rattle.doc_model.specs.Tracks.{point_of}
use Rattle.script_lines.specs.declared.cause.Cause.{Cause}
use Rattle.script_lines.specs.declared.cause.Cause.TheVariants.{FieldCount, TooManyDabs}
use Rattle.script_lines.specs.Values.{◌>>=◌}
use Rattle.script_lines.specs.Fronts.{pointed}
use Rattle.script_forms.specs.Ranges.{is_short}
use Rattle.script_forms.specs.Jobs.{Fields, points_at, point_at, are_points, polyline, along, measured}

-- points before those that are told
abbrev pub led : List Point → Result (List Point) Cause → Result (List Point) Cause
led front (Ok ps) = Ok (front ++ ps)
led front (Err c) = Err c

-- so many pairs are read
pub record PairsRead (fields : Fields) (i : ℕ) (points : List (ℤ × ℤ)) : Type 0 where
  pub told : led (map point_of (take i points)) (points_at (drop (2 * i) fields)) ≡ points_at fields
  pub short : list_all is_short (map point_of (take i points)) ≡ true
  pub whole : length points ≡ 8

-- a field by its reference
field_at : (refs : List (Bor (List ℕ))) (k : ℕ) (r : Bor (List ℕ)) → k < length refs → get_or (pointed refs) k [] ≡ (get_or refs k r).now
field_at refs k r h = get_or-map (λ (s : Bor (List ℕ)). s.now) refs k r [] h

-- the next pair of fields
next_pair : (fields : Fields) (i : ℕ) → 2 * i + 1 < length fields → drop (2 * i) fields ≡ get_or fields (2 * i) [] ∷ get_or fields (2 * i + 1) [] ∷ drop (2 * (i + 1)) fields
next_pair fields i h =
    let one : suc (2 * i) ≡ 2 * i + 1 = omega arith in
    let two : suc (2 * i + 1) ≡ 2 * (i + 1) = omega arith in
    drop-cons fields (2 * i) [] (omega arith)
    ∙ ap (λ fs. get_or fields (2 * i) [] ∷ fs) (ap (λ n. drop n fields) one ∙ drop-cons fields (2 * i + 1) [] h ∙ ap (λ n. get_or fields (2 * i + 1) [] ∷ drop n fields) two)

next_points : (fields : Fields) (i : ℕ) → 2 * i + 1 < length fields → points_at (drop (2 * i) fields) ≡ (point_at (get_or fields (2 * i) []) (get_or fields (2 * i + 1) []) >>= λ p. points_at (drop (2 * (i + 1)) fields) >>= λ ps. Ok (p ∷ ps))
next_points fields i h = ap points_at (next_pair fields i h)

-- the point of a pair of references
told_at : (refs : List (Bor (List ℕ))) (i : ℕ) (r : Bor (List ℕ)) (told : Result Point Cause) → 2 * i + 1 < length refs → point_at (get_or refs (2 * i) r).now (get_or refs (2 * i + 1) r).now ≡ told → points_at (drop (2 * i) (pointed refs)) ≡ (told >>= λ p. points_at (drop (2 * (i + 1)) (pointed refs)) >>= λ ps. Ok (p ∷ ps))
told_at refs i r told h e =
    let long : length (pointed refs) ≡ length refs = length-map refs (λ (s : Bor (List ℕ)). s.now) in
    next_points (pointed refs) i (omega arith)
    ∙ ap (λ t. t >>= λ p. points_at (drop (2 * (i + 1)) (pointed refs)) >>= λ ps. Ok (p ∷ ps)) ((λ j. point_at (field_at refs (2 * i) r (omega arith) j) (field_at refs (2 * i + 1) r h j)) ∙ e)

led_more : (front : List Point) (p : Point) (told : Result (List Point) Cause) → led (front ++ p ∷ []) told ≡ led front (told >>= λ ps. Ok (p ∷ ps))
led_more front p (Ok ps) = ap Ok (append_assoc front (p ∷ []) ps)
led_more front p (Err c) = refl

-- one pair more
pub pair_read : (refs : List (Bor (List ℕ))) (i : ℕ) (points : List (ℤ × ℤ)) (p : ℤ × ℤ) (r : Bor (List ℕ)) → i < 8 → 2 * i + 1 < length refs → point_at (get_or refs (2 * i) r).now (get_or refs (2 * i + 1) r).now ≡ Ok (point_of p) → is_short (point_of p) ≡ true
    → PairsRead (pointed refs) i points → PairsRead (pointed refs) (i + 1) (set points i p)
pair_read refs i points p r few h e s so =
    let front : map point_of (take (i + 1) (set points i p)) ≡ map point_of (take i points) ++ point_of p ∷ [] =
    ap (map point_of) (take_more_set points i p (omega (arith, so.whole))) ∙ map-append point_of (take i points) (p ∷ []) in
    record {
      told = ap (λ ps. led ps (points_at (drop (2 * (i + 1)) (pointed refs)))) front
          ∙ led_more (map point_of (take i points)) (point_of p) (points_at (drop (2 * (i + 1)) (pointed refs)))
          ∙ ap (led (map point_of (take i points))) (sym (told_at refs i r (Ok (point_of p)) h e))
          ∙ so.told;
      short = ap (list_all is_short) front ∙ all_append is_short (map point_of (take i points)) (point_of p ∷ []) so.short (alone (is_short (point_of p)) s);
      whole = length-set points i p ∙ so.whole;
    }
  where
    alone : (b : Bool) → b ≡ true → (b && true) ≡ true
    alone true e = refl
    alone false e = e

-- a pair that isn't a point
pub pair_failed : (refs : List (Bor (List ℕ))) (i : ℕ) (points : List (ℤ × ℤ)) (c : Cause) (r : Bor (List ℕ)) → 2 * i + 1 < length refs → point_at (get_or refs (2 * i) r).now (get_or refs (2 * i + 1) r).now ≡ Err c
    → PairsRead (pointed refs) i points → points_at (pointed refs) ≡ Err c
pair_failed refs i points c r h e so = sym so.told ∙ ap (led (map point_of (take i points))) (told_at refs i r (Err c) h e)

-- all pairs
pub all_read : (refs : List (Bor (List ℕ))) (n : ℕ) (points : List (ℤ × ℤ)) → length refs ≡ 2 * n → PairsRead (pointed refs) n points → points_at (pointed refs) ≡ Ok (map point_of (take n points))
all_read refs n points e so =
    let long : length (pointed refs) ≡ 2 * n = length-map refs (λ (s : Bor (List ℕ)). s.now) ∙ e in
    let none : drop (2 * n) (pointed refs) ≡ [] = ap (λ k. drop k (pointed refs)) (sym long) ∙ drop-length (pointed refs) in
    sym so.told ∙ ap (λ fs. led (map point_of (take n points)) (points_at fs)) none ∙ ap Ok (Rattle.std.proofs.Common.append-nil (map point_of (take n points)))

-- tracks along points

counted : (refs : List (Bor (List ℕ))) (b : Bool) → b ≡ are_points (length refs) → are_points (length (pointed refs)) ≡ b
counted refs b e = ap are_points (length-map refs (λ (s : Bor (List ℕ)). s.now)) ∙ sym e

pub not_counted : (refs : List (Bor (List ℕ))) (gap : ℕ) (s : Stamp) → false ≡ are_points (length refs) → Err FieldCount ≡ along gap s (polyline (pointed refs))
unfolding polyline
not_counted refs gap s e = sym (ap (λ b. along gap s (cond b (points_at (pointed refs)) (Err FieldCount))) (counted refs false e))

along_told : (refs : List (Bor (List ℕ))) (gap : ℕ) (s : Stamp) (told : Result (List Point) Cause) → true ≡ are_points (length refs) → points_at (pointed refs) ≡ told → along gap s (polyline (pointed refs)) ≡ along gap s told
unfolding polyline
along_told refs gap s told e h = ap (λ b. along gap s (cond b (points_at (pointed refs)) (Err FieldCount))) (counted refs true e) ∙ ap (along gap s) h

pub not_points : (refs : List (Bor (List ℕ))) (gap : ℕ) (s : Stamp) (c : Cause) → true ≡ are_points (length refs) → points_at (pointed refs) ≡ Err c → Err c ≡ along gap s (polyline (pointed refs))
not_points refs gap s c e h = sym (along_told refs gap s (Err c) e h)

few_dabs : (n : ℕ) → n ≤ 4096 → nat_le n 4096 ≡ true
few_dabs n h = grind (arith, nat_tests)

many_dabs : (n : ℕ) → 4096 < n → nat_le n 4096 ≡ false
many_dabs n h = grind (arith, nat_tests)

pub track_told : (refs : List (Bor (List ℕ))) (gap : ℕ) (s : Stamp) (ps : List Point) (t : Trail) (n : ℕ) → true ≡ are_points (length refs) → points_at (pointed refs) ≡ Ok ps → t ≡ trail ps gap s → n ≡ length (centres t) → n ≤ 4096
    → Ok t ≡ along gap s (polyline (pointed refs))
track_told refs gap s ps t n e h is long few =
    sym (along_told refs gap s (Ok ps) e h ∙ ap measured (sym is) ∙ ap (λ b. cond b (Ok t) (Err TooManyDabs)) (ap (λ k. nat_le k 4096) (sym long) ∙ few_dabs n few))

pub too_many : (refs : List (Bor (List ℕ))) (gap : ℕ) (s : Stamp) (ps : List Point) (t : Trail) (n : ℕ) → true ≡ are_points (length refs) → points_at (pointed refs) ≡ Ok ps → t ≡ trail ps gap s → n ≡ length (centres t) → 4096 < n
    → Err TooManyDabs ≡ along gap s (polyline (pointed refs))
too_many refs gap s ps t n e h is long many =
    sym (along_told refs gap s (Ok ps) e h ∙ ap measured (sym is) ∙ ap (λ b. cond b (Ok t) (Err TooManyDabs)) (ap (λ k. nat_le k 4096) (sym long) ∙ many_dabs n many))
