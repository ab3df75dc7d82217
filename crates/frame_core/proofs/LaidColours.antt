-- Colours of pixels, written in rows.
use Rattle.std.proofs.Common.{◌≡◌, ℕ, suc, zero, ◌+◌, ◌-◌, ◌*◌, ◌≤◌, ◌<◌, List, [], ◌∷◌, ◌++◌, length, get_or, take, drop, map, replicate, refl, sym, ap, ◌∙◌, arith, append_assoc}
use Rattle.std.specs.List.{flat_map}
use borrow.Rule.Slice.PartMut.{put_mid}
use Rattle.std.proofs.Math.Seq.{take-append-add}
use Rattle.std.proofs.lemmas.List.{length-map, length-take-le, take_all, take_more, take-replicate, drop-drop, ext_get_or, get_or-map}
use Rattle.std.proofs.lemmas.List.Folds.{flat_map-map}
use Rattle.std.proofs.lemmas.Grind.{flat_map-append}
use Rattle.pixel_core.specs.declared.blending.Op.TheVariants.{Over}
use Rattle.pixel_core.specs.Rgba.{Rgba, clear}
use Rattle.pixel_core.specs.Words.{bytes_of}
use Rattle.pixel_core.specs.Compose.{compose, on_paper}
use Rattle.frame_core.specs.Frames.{colours, colours_on, WritesAt}
use Rattle.frame_core.proofs.OnPaper.{paper_shows}

-- a part is written in the middle of bytes
pub put_row : (old new : List ℕ) (at across k : ℕ) → across ≡ at + k → put_mid at (across - at) old new ≡ take at old ++ new ++ drop (at + k) old
put_row old new at across k e =
    let z : across - at ≡ k = omega arith in
    ap (λ i. put_mid at i old new) z ∙ ap (λ zs. take at old ++ (new ++ zs)) (drop-drop k at old) ∙ sym (append_assoc (take at old) new (drop (at + k) old))

-- one more pixel's colours, with its alpha behind them
pub colours_next : (old : List ℕ) (ps : List Rgba) (i k : ℕ) (p : Rgba) → take (3 * i) old ≡ flat_map colours (take i ps) → i < length ps → p ≡ get_or ps i p → 3 * i ≤ length old
    → take (3 * (i + 1)) (put_mid (3 * i) k old (bytes_of p)) ≡ flat_map colours (take (i + 1) ps)
colours_next old ps i k p e h is room =
    let front : length (take (3 * i) old) ≡ 3 * i = length-take-le (3 * i) old room in
    let n : 3 * (i + 1) ≡ length (take (3 * i) old) + 3 = omega arith in
    ap (λ m. take m (put_mid (3 * i) k old (bytes_of p))) n ∙ take-append-add (take (3 * i) old) _ 3 ∙ ap (λ v. v ++ colours p) e
    ∙ sym (ap (flat_map colours) (take_more ps i p h ∙ ap (λ q. take i ps ++ q ∷ []) (sym is)) ∙ flat_map-append colours (take i ps) (p ∷ []))

-- the first bytes are the colours of the first pixels
pub take_colours : (ps : List Rgba) (n : ℕ) → take (3 * n) (flat_map colours ps) ≡ flat_map colours (take n ps)
take_colours ps zero = refl
take_colours [] (suc n) = take_all (3 * suc n) [] (omega arith)
take_colours (p ∷ ps) (suc n) =
    let e : 3 * suc n ≡ 3 + 3 * n = omega arith in
    ap (λ m. take m (colours p ++ flat_map colours ps)) e ∙ take-append-add (colours p) (flat_map colours ps) (3 * n) ∙ ap (λ v. colours p ++ v) (take_colours ps n)

-- pixels laid on the paper have the colours that they show there
pub laid_colours : (paper : Rgba) (ps laid : List Rgba) → length laid ≡ length ps → ((k : ℕ) → k < length ps → get_or laid k clear ≡ compose Over (get_or ps k clear) paper 255) → flat_map colours laid ≡ flat_map (λ p. on_paper p paper) ps
laid_colours paper ps laid n each =
    let f : Rgba → Rgba = (λ p. compose Over p paper 255) in
    let same : laid ≡ map f ps =
    ext_get_or clear laid (map f ps) (n ∙ sym (length-map ps f)) (λ k t. each k (omega (arith, n, t)) ∙ sym (get_or-map f ps k clear clear (omega (arith, n, t)))) in
    ap (flat_map colours) same ∙ flat_map-map colours f ps

-- bare paper has the colours that clear pixels show there
pub paper_colours : (paper : Rgba) (n : ℕ) → paper.a ≡ 255 → n ≤ 64 → flat_map colours (take n (replicate 64 paper)) ≡ flat_map (λ p. on_paper p paper) (replicate n clear)
paper_colours paper n e h = ap (flat_map colours) (take-replicate n 64 paper h) ∙ go n
  where
    go : (n : ℕ) → flat_map colours (replicate n paper) ≡ flat_map (λ p. on_paper p paper) (replicate n clear)
    go zero = refl
    go (suc n) = ap (λ v. v ++ flat_map colours (replicate n paper)) (paper_shows paper e) ∙ ap (λ v. on_paper clear paper ++ v) (go n)

-- the colours of the pixels of a part of a row
pub row_laid : (old new : List ℕ) (at n : ℕ) (paper : Rgba) (ps qs : List Rgba) → ps ≡ qs → length ps ≡ n → WritesAt old new at (3 * length ps) (colours_on paper ps) → WritesAt old new at (3 * n) (colours_on paper qs)
row_laid old new at n paper ps qs e many w =
    w ∙ ap (λ v. take at old ++ colours_on paper v ++ drop (at + 3 * length ps) old) e ∙ ap (λ m. take at old ++ colours_on paper qs ++ drop (at + 3 * m) old) many
