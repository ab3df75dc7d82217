-- What is answered where an entry is offered at a history.
use Rattle.std.specs.Prelude.{◌≡◌, Bool, true, false, List, [], ◌∷◌, ◌++◌, length, Result, Ok, Err}
use Rattle.turn_lock.specs.declared.sent.Sent.{Sent}
use Rattle.turn_lock.specs.declared.sent.Sent.TheVariants.{Accepted, Unlawful}

module _ {E X : Type 0} (lawful : List E → E → Bool) where
  -- It is accepted exactly where it is lawful, and stands in the history then, behind all others. Else nothing is added, and so where the answer is an error.
  abbrev pub Answers : List E → E → Result Sent X → List E → Type 0
  Answers history e (Ok (Accepted place)) after = (lawful history e ≡ true) × (place ≡ length history) × (after ≡ history ++ e ∷ [])
  Answers history e (Ok Unlawful) after = (lawful history e ≡ false) × (after ≡ history)
  Answers history e (Err x) after = after ≡ history

-- the entries that were added
abbrev pub added : {E X : Type 0} → E → Result Sent X → List E
added e (Ok (Accepted place)) = e ∷ []
added e (Ok Unlawful) = []
added e (Err x) = []
