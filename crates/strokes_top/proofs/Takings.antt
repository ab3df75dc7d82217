-- A source whose bytes are taken while they come in.
use Rattle.std.proofs.Common.{◌≡◌, ◌∙◌, ℕ, ◌+◌, ◌≤◌, List, [], ◌∷◌, ◌++◌, length, length-append, length-take-le, append-nil, take, Option, refl, sym, subst, arith}
use Rattle.std.specs.Io.KnownBytes.{Consumes, IsAtEnd}
use Rattle.std.proofs.KnownBytes.{Consumes-nil, Consumes-trans}
use Rattle.strokes_top.specs.declared.intake.Intake.{Intake}
use Rattle.strokes_top.specs.Reading.{WasRead}
use Rattle.strokes_top.specs.Intakes.{HasTaken}
use Rattle.strokes_top.proofs.Transfers.{IsCounted, more_counted}

-- so many bytes of a source were read, and the intake has taken them
pub record IsTaking (before now : Option (List ℕ)) (intake : Intake) (count : ℕ) : Type 0 where
  pub got : List ℕ
  pub consumed : Consumes before now got
  pub size : length got ≡ count
  pub taken : HasTaken intake got

pub none_taking : (before : Option (List ℕ)) (i : Intake) → HasTaken i [] → IsTaking before before i 0
none_taking before i h = record { got = []; consumed = Consumes-nil before; size = refl; taken = h }

module _ (before now : Option (List ℕ)) (i : Intake) (count : ℕ) (t : IsTaking before now i count) where
  -- the bytes are so many
  pub counted : IsCounted 0 before now count
  counted = record { got = t.got; consumed = t.consumed; size = omega (arith, t.size) }

  -- they are so many when a piece was read and not taken yet
  pub counted_with : (next : Option (List ℕ)) (chunk : List ℕ) (n : ℕ) → Consumes now next (take n chunk) → n ≤ length chunk → IsCounted 0 before next (count + n)
  counted_with next chunk n h within = more_counted 0 before now count counted next (take n chunk) n h (length-take-le n chunk within)

  -- a piece more was read and taken
  pub more_taking : (next : Option (List ℕ)) (new : Intake) (chunk : List ℕ) (n : ℕ) → Consumes now next (take n chunk) → n ≤ length chunk → HasTaken new (t.got ++ take n chunk) → IsTaking before next new (count + n)
  more_taking next new chunk n h within taken = record {
    got = t.got ++ take n chunk;
    consumed = Consumes-trans before now next t.got (take n chunk) t.consumed h;
    size = omega (arith, length-append t.got (take n chunk), length-take-le n chunk within, t.size);
    taken = taken;
  }

-- what was read and gives a script
pub read_gives : (before after : Option (List ℕ)) (bytes : List ℕ) (P : List ℕ → Type 0) → WasRead before after (λ b. b ≡ bytes) → P bytes → WasRead before after P
read_gives before after bytes P r h = (r.0, r.1, r.2, subst P (sym r.3) h)

empty : (l : List ℕ) → length l ≡ 0 → l ≡ []
empty [] h = refl
empty (b ∷ l) h = absurd (omega arith)

-- when no byte comes any more, all that was read are the bytes so far
pub read_whole : (before now next : Option (List ℕ)) (bytes chunk : List ℕ) (n : ℕ) → n ≤ length chunk → n ≡ 0 → Consumes before now bytes → Consumes now next (take n chunk) → IsAtEnd next → WasRead before next (λ b. b ≡ bytes)
read_whole before now next bytes chunk n within none h k end =
    let short : length (take n chunk) ≡ 0 = length-take-le n chunk within ∙ none in
    let last : Consumes now next [] = subst (λ l. Consumes now next l) (empty (take n chunk) short) k in
    let all : Consumes before next (bytes ++ []) = Consumes-trans before now next bytes [] h last in
    (bytes, subst (λ l. Consumes before next l) (append-nil bytes) all, end, refl)
