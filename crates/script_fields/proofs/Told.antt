-- Steps of reading a line, and the first field at which they fail.
use Rattle.std.proofs.Common.{◌≡◌, ℕ, inl, inr, Bool, true, false, cond, Option, Some, refl, ap, subst}
use Rattle.std.specs.Prelude.{Result, Ok, Err}
use Rattle.std.specs.Result.{result_err}
use Rattle.script_lines.specs.declared.cause.Cause.{Cause}
use Rattle.script_lines.specs.declared.cause.Cause.TheVariants.{FieldCount}
use Rattle.script_lines.specs.Values.{◌>>=◌}
use Rattle.script_fields.specs.Fields.{or_later}
use Rattle.script_fields.specs.Laws.{IsOfLine, IsTold}

-- a field's fault
pub failed : {A : Type 0} (n : ℕ) (c : Cause) → IsTold {A = A} (Err c) (Some (n, c))
failed n c c' e = let same : c ≡ c' = cc in inr (n, ap (λ v. Some (n, v)) same)

-- a cause of the whole line
pub of_line : {A : Type 0} (c : Cause) (fault : Option (ℕ × Cause)) → IsOfLine c → IsTold {A = A} (Err c) fault
of_line c fault l c' e = let same : c ≡ c' = cc in inl (subst IsOfLine same l)

-- nothing fails
pub fine : {A : Type 0} (x : A) (fault : Option (ℕ × Cause)) → IsTold (Ok x) fault
fine {A} x fault c e = let no : ⊥ = cc in absurd no

-- a field, and then the others
pub told_then : {A B : Type 0} (a : Result A Cause) (h : A → Result B Cause) (n : ℕ) (later : Option (ℕ × Cause)) → ((x : A) → IsTold (h x) later) → IsTold (a >>= h) (or_later n (result_err a) later)
told_then (Ok x) h n later f = f x
told_then (Err c) h n later f = failed n c

-- steps in steps are steps one after another
pub told_assoc : {A B C : Type 0} (a : Result A Cause) (k : A → Result B Cause) (h : B → Result C Cause) (fault : Option (ℕ × Cause)) → IsTold (a >>= λ x. k x >>= h) fault → IsTold ((a >>= k) >>= h) fault
told_assoc (Ok x) k h fault t = t
told_assoc (Err c) k h fault t = t

-- a line with another number of fields
pub told_if : {A : Type 0} (b : Bool) (told : Result A Cause) (fault : Option (ℕ × Cause)) → IsTold told fault → IsTold (cond b told (Err FieldCount)) fault
told_if true told fault t = t
told_if false told fault t = of_line FieldCount fault (inl refl)
