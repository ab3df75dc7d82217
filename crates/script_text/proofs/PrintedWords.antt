-- Printed words, numbers and colours are fields.
use Rattle.std.proofs.Common.{◌≡◌, ℕ, ◌+◌, ◌/◌, ◌%◌, ◌<◌, ◌≤◌, ◌^◌, suc, Bool, true, false, not, ◌&&◌, nat_le, nat_lt, Some, List, [], ◌∷◌, length, Ok, refl, arith, cond}
use Rattle.std.specs.Prelude.{ℤ, pos, negsuc, int_le, ◌==◌}
use Rattle.std.specs.List.{list_all}
use Rattle.std.specs.Str.{bytes_eq}
use Rattle.std.specs.Char.{is_ascii_digit, digit_char}
use Rattle.std.specs.Fmt.{decimal, signed_decimal}
use Rattle.std.proofs.lemmas.Bool.Decides.{nat_tests}
use Rattle.std.proofs.lemmas.Fmt.{decimal_nonempty}
use Rattle.std.proofs.lemmas.Grind.{common_steps}
use Rattle.pixel_core.specs.Rgba.{Rgba}
use Rattle.pixel_core.specs.declared.blending.Op.{Op}
use Rattle.pixel_core.specs.declared.blending.Op.TheVariants.{Over, Erase, Multiply, Screen, Addition}
use Rattle.doc_model.specs.declared.job.Kind.{Kind}
use Rattle.doc_model.specs.declared.job.Kind.TheVariants.{Con, Seq, Bar, Uni}
use Rattle.script_lines.specs.Lines.{is_command}
use Rattle.script_lines.specs.Fronts.{is_plain, is_field}
use Rattle.script_lines.specs.Values.{natural}
use Rattle.script_forms.specs.declared.words.JobWord.TheVariants.{Fill, Dab, Move, Blur, Track}
use Rattle.script_forms.specs.declared.words.Word.{Word}
use Rattle.script_forms.specs.declared.words.Word.TheVariants.{Layer, Group, Remove, Place, Look, Stroke, Paint, End, Cancel, Undo, Redo, Purge, Export}
use Rattle.script_forms.specs.Jobs.{kind_of, op_of, edge_of}
use Rattle.script_forms.specs.Forms.{canvas_text, path_text, word_of, seen_of, exclusive_of}
use Rattle.script_forms.specs.Texts.{word_text, kind_text, op_text, edge_text, seen_text, exclusive_text}
use Rattle.script_text.specs.Text.{rgb_text, rgba_text}
use Rattle.script_text.proofs.PrintedFields.{digits_of, natural_back}
use Rattle.script_lines.proofs.FieldLemmas.{first, second, both}

-- what is told of a word
pub record IsWord (w : Word) : Type 0 where
  pub is_field : is_field (word_text w) ≡ true
  pub begins : (others : List (List ℕ)) → is_command (word_text w ∷ others) ≡ true
  pub no_canvas : bytes_eq (word_text w) canvas_text ≡ false
  pub no_path : bytes_eq (word_text w) path_text ≡ false
  pub back : word_of (word_text w) ≡ Some w

pub words : (w : Word) → IsWord w
unfolding word_of
words Layer = record { is_field = refl; begins = λ _. refl; no_canvas = refl; no_path = refl; back = refl }
words Group = record { is_field = refl; begins = λ _. refl; no_canvas = refl; no_path = refl; back = refl }
words Remove = record { is_field = refl; begins = λ _. refl; no_canvas = refl; no_path = refl; back = refl }
words Place = record { is_field = refl; begins = λ _. refl; no_canvas = refl; no_path = refl; back = refl }
words Look = record { is_field = refl; begins = λ _. refl; no_canvas = refl; no_path = refl; back = refl }
words Stroke = record { is_field = refl; begins = λ _. refl; no_canvas = refl; no_path = refl; back = refl }
words (Paint Fill) = record { is_field = refl; begins = λ _. refl; no_canvas = refl; no_path = refl; back = refl }
words (Paint Dab) = record { is_field = refl; begins = λ _. refl; no_canvas = refl; no_path = refl; back = refl }
words (Paint Move) = record { is_field = refl; begins = λ _. refl; no_canvas = refl; no_path = refl; back = refl }
words (Paint Blur) = record { is_field = refl; begins = λ _. refl; no_canvas = refl; no_path = refl; back = refl }
words (Paint Track) = record { is_field = refl; begins = λ _. refl; no_canvas = refl; no_path = refl; back = refl }
words End = record { is_field = refl; begins = λ _. refl; no_canvas = refl; no_path = refl; back = refl }
words Cancel = record { is_field = refl; begins = λ _. refl; no_canvas = refl; no_path = refl; back = refl }
words Undo = record { is_field = refl; begins = λ _. refl; no_canvas = refl; no_path = refl; back = refl }
words Redo = record { is_field = refl; begins = λ _. refl; no_canvas = refl; no_path = refl; back = refl }
words Purge = record { is_field = refl; begins = λ _. refl; no_canvas = refl; no_path = refl; back = refl }
words Export = record { is_field = refl; begins = λ _. refl; no_canvas = refl; no_path = refl; back = refl }

pub kind_back : (k : Kind) → kind_of (kind_text k) ≡ Ok k
unfolding kind_of
kind_back Con = refl
kind_back Seq = refl
kind_back Bar = refl
kind_back Uni = refl

pub kind_field : (k : Kind) → is_field (kind_text k) ≡ true
kind_field Con = refl
kind_field Seq = refl
kind_field Bar = refl
kind_field Uni = refl

pub op_back : (op : Op) → op_of (op_text op) ≡ Ok op
unfolding op_of
op_back Over = refl
op_back Erase = refl
op_back Multiply = refl
op_back Screen = refl
op_back Addition = refl

pub op_field : (op : Op) → is_field (op_text op) ≡ true
op_field Over = refl
op_field Erase = refl
op_field Multiply = refl
op_field Screen = refl
op_field Addition = refl

pub edge_back : (soft : Bool) → edge_of (edge_text soft) ≡ Ok soft
unfolding edge_of
edge_back true = refl
edge_back false = refl

pub edge_field : (soft : Bool) → is_field (edge_text soft) ≡ true
edge_field true = refl
edge_field false = refl

pub seen_back : (seen : Bool) → seen_of (seen_text seen) ≡ Ok seen
unfolding seen_of
seen_back true = refl
seen_back false = refl

pub seen_field : (seen : Bool) → is_field (seen_text seen) ≡ true
seen_field true = refl
seen_field false = refl

pub mark_back : exclusive_of exclusive_text ≡ Ok true
unfolding exclusive_of
mark_back = refl

plain_above : (x : ℕ) → 32 < x → is_plain x ≡ true
plain_above x h =
    let a : (x == 32) ≡ false = grind (arith, nat_tests) in
    let b : (x == 9) ≡ false = grind (arith, nat_tests) in
    let c : (x == 13) ≡ false = grind (arith, nat_tests) in
    let d : (x == 10) ≡ false = grind (arith, nat_tests) in
    rw (a, b, c, d) refl

digit_above : (c : ℕ) → is_ascii_digit c ≡ true → 32 < c
digit_above c h = grind (arith, nat_tests, common_steps)

plain_digits : (ds : List ℕ) → list_all is_ascii_digit ds ≡ true → list_all is_plain ds ≡ true
plain_digits [] h = refl
plain_digits (c ∷ cs) h = both _ _ (plain_above c (digit_above c (first (is_ascii_digit c) (list_all is_ascii_digit cs) h))) (plain_digits cs (second (is_ascii_digit c) (list_all is_ascii_digit cs) h))

some_by : (k : ℕ) → 0 < k → not (k == 0) ≡ true
some_by k h = rw (let e : (k == 0) ≡ false = grind (arith, nat_tests) in e) refl

number_field : (n : ℕ) → n < 2 ^ 64 → is_field (decimal n) ≡ true
number_field n h = both _ _ (some_by (length (decimal n)) (decimal_nonempty n h)) (plain_digits (decimal n) (digits_of n h))

-- a number up to another
pub natural_field : (high n : ℕ) → high < 10 ^ 10 → nat_le n high ≡ true → is_field (decimal n) ≡ true
natural_field high n h k =
    let le : n ≤ high = grind (arith, nat_tests) in
    number_field n (omega arith)

minus_field : (n : ℕ) → n < 2 ^ 64 → is_field (45 ∷ decimal n) ≡ true
minus_field n h = both _ _ (some_by (length (45 ∷ decimal n)) (omega arith)) (plain_digits (decimal n) (digits_of n h))

-- a number between two
pub signed_field : (k l : ℕ) (z : ℤ) → k < 10 ^ 9 → l < 10 ^ 9 → int_le (negsuc k) z ≡ true → int_le z (pos l) ≡ true → is_field (signed_decimal z) ≡ true
signed_field k l (pos n) h m a b = number_field n (let le : n ≤ l = grind (arith, nat_tests) in omega arith)
signed_field k l (negsuc n) h m a b = minus_field (suc n) (let le : n ≤ k = grind (arith, nat_tests) in omega arith)

digit_by : (b : Bool) (d : ℕ) → 32 < cond {A = ℕ} b (48 + d) (87 + d)
digit_by true d = omega arith
digit_by false d = omega arith

plain_digit : (d : ℕ) → is_plain (digit_char d) ≡ true
plain_digit d = plain_above (digit_char d) (digit_by (nat_lt d 10) d)

pub rgba_field : (p : Rgba) → is_field (rgba_text p) ≡ true
rgba_field p = rw (plain_digit (p.r / 16), plain_digit (p.r % 16), plain_digit (p.g / 16), plain_digit (p.g % 16), plain_digit (p.b / 16), plain_digit (p.b % 16), plain_digit (p.a / 16), plain_digit (p.a % 16)) refl

pub rgb_field : (p : Rgba) → is_field (rgb_text p) ≡ true
rgb_field p = rw (plain_digit (p.r / 16), plain_digit (p.r % 16), plain_digit (p.g / 16), plain_digit (p.g % 16), plain_digit (p.b / 16), plain_digit (p.b % 16)) refl

-- a number up to another reads back
pub upto_back : (high n : ℕ) → high < 10 ^ 10 → nat_le n high ≡ true → natural 0 high (decimal n) ≡ Ok n
upto_back high n h k =
    let le : n ≤ high = grind (arith, nat_tests) in
    let low : nat_le 0 n ≡ true = grind (arith, nat_tests) in
    natural_back 0 high n (omega arith) low k

-- a number from 1 on
pub from_one_back : (high n : ℕ) → high < 10 ^ 10 → (nat_le 1 n && nat_le n high) ≡ true → natural 1 high (decimal n) ≡ Ok n
from_one_back high n h k =
    let up = second (nat_le 1 n) (nat_le n high) k in
    let le : n ≤ high = grind (arith, nat_tests) in
    natural_back 1 high n (omega arith) (first (nat_le 1 n) (nat_le n high) k) up
