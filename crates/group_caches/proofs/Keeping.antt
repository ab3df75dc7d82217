-- The caches that are kept.
use Rattle.std.proofs.Common.{◌≡◌, ℕ, zero, suc, ◌+◌, ◌<◌, false, ◌||◌, List, [], ◌∷◌, ◌++◌, length, get_or, take, refl, sym, ap, subst, ◌∙◌, arith, eqb}
use Rattle.std.specs.Prelude.{All, nat_eq}
use Rattle.std.proofs.lemmas.List.Elements.{All-append}
use Rattle.std.specs.Ordering.{nat_cmp}
use Rattle.std.specs.FinMap as map
use Rattle.std.specs.FinMap.{FinMap}
use Rattle.std.specs.Option.{unwrap_or}
use Rattle.std.proofs.lemmas.List.{take_more}
use Rattle.std.specs.List.{IsDistinct}
use Rattle.std.proofs.lemmas.Map.Keys.{IsDistinct-tail, apart_from_distinct}
use Rattle.std.proofs.lemmas.List.Folds.{list_any_more}
use Rattle.std.proofs.lemmas.Bool.Decides.{nat_tests}
use Rattle.geom_core.proofs.Tests.{none_left, none_right}
use Rattle.pixel_core.specs.Rgba.{clear}
use Rattle.doc_model.specs.Layers.{Layer, plain}
use Rattle.doc_model.specs.Readers.{order}
use Rattle.doc_model.specs.Picture.{Doc}
use Rattle.machine_model.specs.Groups.{cache, on}
use Rattle.machine_model.specs.Effects.{caches_for}
use Rattle.paint_device.specs.Seen.{layer_of}
use Rattle.group_caches.specs.declared.places.Place.{Place}
use Rattle.group_caches.specs.Entries.{entries_of, IsClear}
use Rattle.group_caches.specs.Kept.{kept_entries}

kept_more : (caches : FinMap nat_cmp Layer) (gs : List ℕ) (g : ℕ) → kept_entries caches (gs ++ g ∷ []) ≡ kept_entries caches gs ++ (g, cache caches g) ∷ []
kept_more caches [] g = refl
kept_more caches (h ∷ gs) g = ap (λ es. (h, cache caches h) ∷ es) (kept_more caches gs g)

-- they are the caches of a document
pub for_doc : (caches : FinMap nat_cmp Layer) (doc : Doc) (gs : List ℕ) → gs ≡ order doc ++ 0 ∷ [] → map.from_entries (kept_entries caches gs) ≡ caches_for caches doc
for_doc caches doc gs e = ap (λ hs. map.from_entries (kept_entries caches hs)) e

entries_more : (cs : List Place) (c : Place) → entries_of (cs ++ c ∷ []) ≡ entries_of cs ++ entries_of (c ∷ [])
entries_more [] c = refl
entries_more (d ∷ cs) c = ap (λ es. entries_of (d ∷ []) ++ es) (entries_more cs c)

other_way : (g h : ℕ) → eqb g h ≡ false → eqb h g ≡ false
other_way g h e = grind (arith, nat_tests)

-- a group doesn't stand before itself
pub once_before : (gs : List ℕ) (i : ℕ) → IsDistinct nat_eq gs → i < length gs → on (get_or gs i 0) (take i gs) ≡ false
once_before [] i once h = absurd (omega arith)
once_before (g ∷ gs) zero once h = refl
once_before (g ∷ gs) (suc i) once h =
    let apart : eqb g (get_or gs i 0) ≡ false = apart_from_distinct nat_eq (g ∷ gs) 0 (suc i) 0 once (omega arith) (omega arith) in
    let rest : on (get_or gs i 0) (take i gs) ≡ false = once_before gs i (IsDistinct-tail nat_eq g gs once) (omega arith) in
    (λ j. apart j || rest j)

-- one group more in its new place
pub entry_more : (caches now : FinMap nat_cmp Layer) (gs : List ℕ) (i g : ℕ) (cs new : List Place) (c : Place) → new ≡ cs ++ c ∷ [] → i < length gs → g ≡ get_or gs i 0 → IsDistinct nat_eq gs → c.group ≡ g → layer_of c.device ≡ cache now g
    → ((q : ℕ) → on q (take i gs) ≡ false → map.get now q ≡ map.get caches q) → entries_of cs ≡ kept_entries caches (take i gs) → entries_of new ≡ kept_entries caches (take (i + 1) gs)
entry_more caches now gs i g cs new c e h at once group layer same so_far =
    ap entries_of e ∙ entries_more cs c ∙ (λ j. so_far j ++ (group j, whole j) ∷ []) ∙ sym (kept_more caches (take i gs) g) ∙ ap (kept_entries caches) (ap (λ q. take i gs ++ q ∷ []) at ∙ sym (take_more gs i 0 h))
  where
    whole : layer_of c.device ≡ cache caches g
    whole = layer ∙ ap (λ o. unwrap_or o (plain clear)) (same g (ap (λ q. on q (take i gs)) at ∙ once_before gs i once h))

-- the others stay
pub others_more : (caches now new : FinMap nat_cmp Layer) (gs : List ℕ) (i g : ℕ) → i < length gs → g ≡ get_or gs i 0 → ((q : ℕ) → eqb q g ≡ false → map.get new q ≡ map.get now q) → ((q : ℕ) → on q (take i gs) ≡ false → map.get now q ≡ map.get caches q)
    → (q : ℕ) → on q (take (i + 1) gs) ≡ false → map.get new q ≡ map.get caches q
others_more caches now new gs i g h at others so_far q out =
    let both : (on q (take i gs) || eqb (get_or gs i 0) q) ≡ false = sym (list_any_more (λ x. eqb x q) gs i 0 h) ∙ out in
    others q (other_way g q (ap (λ x. eqb x q) at ∙ none_right (on q (take i gs)) _ both)) ∙ so_far q (none_left (on q (take i gs)) _ both)

lone_clear : (c : Place) → IsClear c → (k : ℕ) (d : Place) → k < 1 → IsClear (get_or (c ∷ []) k d)
lone_clear c h zero d lt = h
lone_clear c h (suc k) d lt = absurd (omega arith)

-- one clear place more
pub clear_more : (cs new : List Place) (c : Place) → new ≡ cs ++ c ∷ [] → All IsClear cs → IsClear c → All IsClear new
clear_more cs new c e all h = subst (All IsClear) (sym e) (All-append IsClear cs (c ∷ []) all (λ k d lt. lone_clear c h k d lt))
