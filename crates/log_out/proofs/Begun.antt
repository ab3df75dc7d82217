-- Bytes that are written part by part.
use Rattle.std.proofs.Common.{◌≡◌, ℕ, List, [], ◌++◌, Option, sym, subst, ◌∙◌, append_assoc, append-nil}
use Rattle.std.specs.Io.KnownBytes.{Appends}
use Rattle.std.proofs.KnownBytes.{Appends-trans}
use Rattle.io_edge.specs.Told.{AppendsPrefix}
use Rattle.io_edge.proofs.Written.{prefix_behind}

-- all of the whole but the rest was written
pub record Begun (old new : Option (List ℕ)) (rest whole : List ℕ) : Type 0 where
  pub front : List ℕ
  pub is : whole ≡ front ++ rest
  pub added : Appends old new front

pub begun_now : (a b : Option (List ℕ)) (front rest whole : List ℕ) → Appends a b front → whole ≡ front ++ rest → Begun a b rest whole
begun_now a b front rest whole h e = record { front = front; is = e; added = h }

pub begun_next : (a b c : Option (List ℕ)) (part rest whole : List ℕ) → Begun a b (part ++ rest) whole → Appends b c part → Begun a c rest whole
begun_next a b c part rest whole h k = record {
  front = h.front ++ part;
  is = h.is ∙ sym (append_assoc h.front part rest);
  added = Appends-trans a b c h.front part h.added k;
}

pub begun_fails : (a b c : Option (List ℕ)) (part rest whole : List ℕ) → Begun a b (part ++ rest) whole → AppendsPrefix b c part → AppendsPrefix a c whole
begun_fails a b c part rest whole h p = prefix_behind a b c h.front part rest whole h.added p h.is

pub begun_ends : (a b : Option (List ℕ)) (whole : List ℕ) → Begun a b [] whole → Appends a b whole
begun_ends a b whole h = subst (Appends a b) (sym (h.is ∙ append-nil h.front)) h.added

pub begun_is : (a b : Option (List ℕ)) (rest other whole : List ℕ) → Begun a b rest whole → rest ≡ other → Begun a b other whole
begun_is a b rest other whole h e = subst (λ l. Begun a b l whole) e h
