-- Bits gathered in the two low bytes of a number.
use Rattle.std.proofs.Common.{◌≡◌, ℕ, ◌/◌, ◌%◌, ◌∙◌, ap, bit_or}
use Rattle.std.proofs.lemmas.Nat.{or_mod, or_shr}

pub low_byte : (a b : ℕ) → bit_or a b % 256 ≡ bit_or (a % 256) (b % 256)
low_byte a b = or_mod a b 8

pub high_byte : (a b : ℕ) → bit_or a b / 256 % 256 ≡ bit_or (a / 256 % 256) (b / 256 % 256)
high_byte a b = ap (λ n. n % 256) (or_shr a b 8) ∙ low_byte (a / 256) (b / 256)
