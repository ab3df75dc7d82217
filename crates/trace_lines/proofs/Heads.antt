-- The first two lines of a trace keep to the limits.
use Rattle.std.proofs.Common.{◌≡◌, ℕ, ◌≤◌, Bool, true, false, ◌&&◌, cond, List, [], ◌∷◌, Result, Ok, Err, refl, sym, ap, subst, ◌∙◌, arith, leb, codes}
use Rattle.std.specs.Prelude.{ℤ, pos, negsuc, nat_abs, int_le}
use Rattle.std.proofs.lemmas.Bool.Decides.{nat_tests}
use Rattle.geom_core.proofs.Tests.{and_left, and_right}
use Rattle.pixel_core.specs.Rgba.{Rgba, if_canonical, rgba as pixel}
use Rattle.doc_model.specs.declared.canvas.Canvas.{Canvas}
use Rattle.doc_model.specs.Canvases.{IsOfLimits}
use Rattle.script_lines.specs.declared.cause.Cause.{Cause}
use Rattle.script_lines.specs.declared.cause.Cause.TheVariants.{Range}
use Rattle.script_lines.specs.Values.{◌>>=◌, natural, number, number_in, rgb, rgba, hex_byte}
use Rattle.script_forms.specs.Forms.{canvas, sides, canvas_text}
use Rattle.script_forms.specs.Jobs.{Fields}
use Rattle.trace_lines.specs.Forms.{slots, canvas_line, word}

-- what a chain of steps gave came from what its first step gave
pub first_ok : {A B : Type 0} (r : Result A Cause) (f : A → Result B Cause) (y : B) → (r >>= f) ≡ Ok y → (x : A) × (r ≡ Ok x) × (f x ≡ Ok y)
first_ok (Ok x) f y e = (x, refl, e)
first_ok (Err c) f y e = no_ok c y e
  where
    no_ok : {A B : Type 0} (c : Cause) (y : B) → ◌≡◌ {A = Result B Cause} (Err c) (Ok y) → A
    no_ok c y e = cc

in_range_by : (low high y z : ℤ) (b : Bool) → (int_le low y && int_le y high) ≡ b → ◌≡◌ {A = Result ℤ Cause} (cond b (Ok y) (Err Range)) (Ok z) → (int_le low z && int_le z high) ≡ true
in_range_by low high y z true t e = let same : y ≡ z = cc in ap (λ k. int_le low k && int_le k high) (sym same) ∙ t
in_range_by low high y z false t e = cc

number_in_ok : (low high z : ℤ) (bytes : List ℕ) → number_in low high bytes ≡ Ok z → (int_le low z && int_le z high) ≡ true
unfolding number_in
number_in_ok low high z bytes e =
    let a = first_ok (number bytes) _ z e in
    in_range_by low high a.0 z (int_le low a.0 && int_le a.0 high) refl a.2

size_ok : (low high : ℕ) (z : ℤ) → (int_le (pos low) z && int_le z (pos high)) ≡ true → (low ≤ nat_abs z) × (nat_abs z ≤ high)
size_ok low high (pos m) t =
    let l : leb low m ≡ true = and_left (leb low m) _ t in
    let h : leb m high ≡ true = and_right (leb low m) _ t in
    (grind (arith, nat_tests), grind (arith, nat_tests))
size_ok low high (negsuc m) t = cc

pub natural_ok : (low high : ℕ) (bytes : List ℕ) (n : ℕ) → natural low high bytes ≡ Ok n → (low ≤ n) × (n ≤ high)
unfolding natural
natural_ok low high bytes n e =
    let a = first_ok (number_in (pos low) (pos high) bytes) _ n e in
    let same : nat_abs a.0 ≡ n = (let f : ◌≡◌ {A = Result ℕ Cause} (Ok (nat_abs a.0)) (Ok n) = a.2 in cc) in
    let r = size_ok low high a.0 (number_in_ok (pos low) (pos high) a.0 bytes a.1) in
    (subst (λ k. low ≤ k) same r.0, subst (λ k. k ≤ high) same r.1)

sides_ok : (w h : List ℕ) (s : ℕ × ℕ) → sides w h ≡ Ok s → ((1 ≤ s.0) × (s.0 ≤ 2048)) × ((1 ≤ s.1) × (s.1 ≤ 2048))
unfolding sides
sides_ok w h s e =
    let a = first_ok (natural 1 2048 w) _ s e in
    let b = first_ok (natural 1 2048 h) _ s a.2 in
    let same : ◌≡◌ {A = ℕ × ℕ} (a.0, b.0) s = (let f : ◌≡◌ {A = Result (ℕ × ℕ) Cause} (Ok (a.0, b.0)) (Ok s) = b.2 in cc) in
    let x = natural_ok 1 2048 w a.0 a.1 in
    let y = natural_ok 1 2048 h b.0 b.1 in
    let p : a.0 ≡ s.0 = ap (λ (t : ℕ × ℕ). t.0) same in
    let q : b.0 ≡ s.1 = ap (λ (t : ℕ × ℕ). t.1) same in
    ((omega (arith, x.0), omega (arith, x.1)), (omega (arith, y.0), omega (arith, y.1)))

-- the pixel of eight digits has the alpha of the last two
alpha_ok : (a b c d e f g h : ℕ) (p : Rgba) → rgba (a ∷ b ∷ c ∷ d ∷ e ∷ f ∷ g ∷ h ∷ []) ≡ Ok p → (x : ℕ) × (y : ℕ) × (z : ℕ) × (w : ℕ) × (hex_byte g h ≡ Ok w) × (if_canonical x y z w ≡ p)
unfolding rgba
alpha_ok a b c d e f g h p k =
    let x = first_ok (hex_byte a b) _ p k in
    let y = first_ok (hex_byte c d) _ p x.2 in
    let z = first_ok (hex_byte e f) _ p y.2 in
    let w = first_ok (hex_byte g h) _ p z.2 in
    (x.0, y.0, z.0, w.0, w.1, ok_same (if_canonical x.0 y.0 z.0 w.0) p w.2)
  where
    ok_same : (q p : Rgba) → ◌≡◌ {A = Result Rgba Cause} (Ok q) (Ok p) → q ≡ p
    ok_same q p e = cc

full_alpha : hex_byte 102 102 ≡ Ok 255
unfolding hex_byte
full_alpha = refl

opaque_by : (x y z w : ℕ) (p : Rgba) → hex_byte 102 102 ≡ Ok w → if_canonical x y z w ≡ p → p.a ≡ 255
opaque_by x y z w p e k = ap (λ (q : Rgba). q.a) (sym k ∙ ap (if_canonical x y z) (sym (same (sym full_alpha ∙ e))))
  where
    same : {m n : ℕ} → ◌≡◌ {A = Result ℕ Cause} (Ok m) (Ok n) → m ≡ n
    same h = cc

rgb_ok : (bytes : List ℕ) (p : Rgba) → rgb bytes ≡ Ok p → p.a ≡ 255
unfolding rgb rgba
rgb_ok (a ∷ b ∷ c ∷ d ∷ e ∷ f ∷ []) p h = let q = alpha_ok a b c d e f 102 102 p h in opaque_by q.0 q.1 q.2 q.3 p q.4 q.5
rgb_ok [] p h = cc
rgb_ok (a ∷ []) p h = cc
rgb_ok (a ∷ b ∷ []) p h = cc
rgb_ok (a ∷ b ∷ c ∷ []) p h = cc
rgb_ok (a ∷ b ∷ c ∷ d ∷ []) p h = cc
rgb_ok (a ∷ b ∷ c ∷ d ∷ e ∷ []) p h = cc
rgb_ok (a ∷ b ∷ c ∷ d ∷ e ∷ f ∷ g ∷ []) p h = cc
rgb_ok (a ∷ b ∷ c ∷ d ∷ e ∷ f ∷ g ∷ i ∷ []) p h = cc
rgb_ok (a ∷ b ∷ c ∷ d ∷ e ∷ f ∷ g ∷ i ∷ j ∷ more) p h = cc

of_limits : (w h : List ℕ) (s : ℕ × ℕ) (p : Rgba) (c : Canvas) → sides w h ≡ Ok s → p.a ≡ 255 → ◌≡◌ {A = Result Canvas Cause} (Ok (record { w = s.0; h = s.1; paper = p })) (Ok c) → IsOfLimits c
of_limits w h s p c e opaque f =
    let r = sides_ok w h s e in
    let same : ◌≡◌ {A = Canvas} (record { w = s.0; h = s.1; paper = p }) c = cc in
    let x : s.0 ≡ c.w = ap (λ (t : Canvas). t.w) same in
    let y : s.1 ≡ c.h = ap (λ (t : Canvas). t.h) same in
    record { w = (omega (arith, r.0.0), omega (arith, r.0.1)); h = (omega (arith, r.1.0), omega (arith, r.1.1)); paper = ap (λ (t : Canvas). t.paper.a) (sym same) ∙ opaque }

canvas_ok : (fields : Fields) (c : Canvas) → canvas fields ≡ Ok c → IsOfLimits c
unfolding canvas
canvas_ok (w ∷ h ∷ []) c e =
    let a = first_ok (sides w h) _ c e in
    of_limits w h a.0 (pixel 255 255 255 255) c a.1 refl a.2
canvas_ok (w ∷ h ∷ colour ∷ []) c e =
    let a = first_ok (sides w h) _ c e in
    let b = first_ok (rgb colour) _ c a.2 in
    of_limits w h a.0 b.0 c a.1 (rgb_ok colour b.0 b.1) b.2
canvas_ok [] c e = cc
canvas_ok (w ∷ []) c e = cc
canvas_ok (w ∷ h ∷ colour ∷ x ∷ more) c e = cc

-- the canvas of a trace is one of the limits
pub canvas_line_ok : (fields : Fields) (c : Canvas) → canvas_line fields ≡ Ok c → IsOfLimits c
unfolding canvas_line
canvas_line_ok [] c e = cc
canvas_line_ok (name ∷ others) c e = let a = first_ok (word canvas_text name) _ c e in canvas_ok others c a.2

-- it has 1 to 17 slots
pub slots_ok : (fields : Fields) (n : ℕ) → slots fields ≡ Ok n → (1 ≤ n) × (n ≤ 17)
unfolding slots
slots_ok (name ∷ number ∷ []) n e = let a = first_ok (word (codes "trace") name) _ n e in natural_ok 1 17 number n a.2
slots_ok [] n e = cc
slots_ok (name ∷ []) n e = cc
slots_ok (name ∷ number ∷ x ∷ more) n e = cc
