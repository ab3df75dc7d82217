-- What a table of strokes tells after one more command.
use Rattle.std.proofs.Common.{◌≡◌, ℕ, ◌+◌, suc, Bool, true, false, ◌&&◌, nat_lt, if◌then◌else◌, List, [], ◌∷◌, ◌++◌, length, map, filter, refl, ap, arith}
use Rattle.std.specs.Prelude.{◌==◌}
use Rattle.std.specs.List.{list_any}
use Rattle.std.proofs.lemmas.List.{length-append}
use Rattle.std.proofs.lemmas.Bool.Decides.{nat_tests}
use Rattle.doc_model.specs.declared.job.Job.{Job}
use Rattle.doc_model.specs.declared.job.Kind.{Kind}
use Rattle.doc_model.specs.Strokes.{Entry, Strokes, Changes, Undoes, Redoes, Purges, Exports, Fate, with_job, with_fate, is_stroke, is_open_stroke, is_export, is_open as is_open_fate}
use Rattle.command_log.specs.Table.{fewer}
use Rattle.geom_core.proofs.Tests.{and-false}

-- a test of entries that are changed one by one
pub same_any : (p q : Entry → Bool) (f : Entry → Entry) → ((e : Entry) → p (f e) ≡ q e) → (es : List Entry) → list_any p (map f es) ≡ list_any q es
same_any p q f h [] = refl
same_any p q f h (e ∷ es) = rw (h e, same_any p q f h es) refl

pub none_any : (p : Entry → Bool) → ((e : Entry) → p e ≡ false) → (es : List Entry) → list_any p es ≡ false
none_any p h [] = refl
none_any p h (e ∷ es) = rw (h e, none_any p h es) refl

pub same_filter : (p : Entry → Bool) (f : Entry → Entry) → ((e : Entry) → p (f e) ≡ p e) → (es : List Entry) → length (filter p (map f es)) ≡ length (filter p es)
same_filter p f h [] = refl
same_filter p f h (e ∷ es) = rw (h e) (go (p e) (same_filter p f h es))
  where
    go : (b : Bool) → length (filter p (map f es)) ≡ length (filter p es) → length (if b then f e ∷ filter p (map f es) else filter p (map f es)) ≡ length (if b then e ∷ filter p es else filter p es)
    go true k = ap suc k
    go false k = k

-- a job more
pub job_started : (n m : ℕ) (k : Kind) (j : Job) (e : Entry) → is_stroke m (with_job n k j e) ≡ is_stroke m e
job_started n m k j (Strokes s) = go (s.no == n)
  where
    go : (b : Bool) → is_stroke m (if b then Strokes (record s { jobs = s.jobs ++ (k, j) ∷ [] }) else Strokes s) ≡ (s.no == m)
    go true = refl
    go false = refl
job_started n m k j (Changes c) = refl
job_started n m k j Undoes = refl
job_started n m k j Redoes = refl
job_started n m k j (Purges keep) = refl
job_started n m k j Exports = refl

pub job_open : (n m : ℕ) (k : Kind) (j : Job) (e : Entry) → is_open_stroke m (with_job n k j e) ≡ is_open_stroke m e
job_open n m k j (Strokes s) = go (s.no == n)
  where
    go : (b : Bool) → is_open_stroke m (if b then Strokes (record s { jobs = s.jobs ++ (k, j) ∷ [] }) else Strokes s) ≡ ((s.no == m) && is_open_fate s.fate)
    go true = refl
    go false = refl
job_open n m k j (Changes c) = refl
job_open n m k j Undoes = refl
job_open n m k j Redoes = refl
job_open n m k j (Purges keep) = refl
job_open n m k j Exports = refl

pub job_export : (n : ℕ) (k : Kind) (j : Job) (e : Entry) → is_export (with_job n k j e) ≡ is_export e
job_export n k j (Strokes s) = go (s.no == n)
  where
    go : (b : Bool) → is_export (if b then Strokes (record s { jobs = s.jobs ++ (k, j) ∷ [] }) else Strokes s) ≡ false
    go true = refl
    go false = refl
job_export n k j (Changes c) = refl
job_export n k j Undoes = refl
job_export n k j Redoes = refl
job_export n k j (Purges keep) = refl
job_export n k j Exports = refl

-- tests of numbers
lt_zero : (a : ℕ) → nat_lt a 0 ≡ false
lt_zero a = grind (arith, nat_tests)

pub lt_more : (a b k : ℕ) → b ≡ a + 1 → nat_lt b (suc k) ≡ nat_lt a k
lt_more a b k h = grind (arith, nat_tests)

pub same_number : (a b : ℕ) → (a == b) ≡ true → a ≡ b
same_number a b h = grind (arith, nat_tests)

-- the stroke with its number has one job more
pub job_room : (n k : ℕ) (kind : Kind) (j : Job) (e : Entry) → fewer (suc k) n (with_job n kind j e) ≡ fewer k n e
job_room n k kind j (Strokes s) = go (s.no == n) refl
  where
    more : length (s.jobs ++ (kind, j) ∷ []) ≡ length s.jobs + 1
    more = length-append s.jobs ((kind, j) ∷ [])

    go : (b : Bool) → (s.no == n) ≡ b → fewer (suc k) n (if b then Strokes (record s { jobs = s.jobs ++ (kind, j) ∷ [] }) else Strokes s) ≡ ((s.no == n) && nat_lt (length s.jobs) k)
    go true h = ap (λ t. (s.no == n) && t) (lt_more (length s.jobs) _ k more)
    go false h = rw h refl
job_room n k kind j (Changes c) = refl
job_room n k kind j Undoes = refl
job_room n k kind j Redoes = refl
job_room n k kind j (Purges keep) = refl
job_room n k kind j Exports = refl

-- another stroke has as many as before
pub job_other : (n m k : ℕ) → (n == m) ≡ false → (kind : Kind) (j : Job) (e : Entry) → fewer k m (with_job n kind j e) ≡ fewer k m e
job_other n m k h kind j (Strokes s) = go (s.no == n) refl
  where
    go : (b : Bool) → (s.no == n) ≡ b → fewer k m (if b then Strokes (record s { jobs = s.jobs ++ (kind, j) ∷ [] }) else Strokes s) ≡ ((s.no == m) && nat_lt (length s.jobs) k)
    go true e = let no : (s.no == m) ≡ false = rw (same_number s.no n e) h in rw no refl
    go false e = refl
job_other n m k h kind j (Changes c) = refl
job_other n m k h kind j Undoes = refl
job_other n m k h kind j Redoes = refl
job_other n m k h kind j (Purges keep) = refl
job_other n m k h kind j Exports = refl

pub none_fewer : (n : ℕ) (e : Entry) → fewer 0 n e ≡ false
none_fewer n (Strokes s) = rw (lt_zero (length s.jobs)) (and-false (s.no == n))
none_fewer n (Changes c) = refl
none_fewer n Undoes = refl
none_fewer n Redoes = refl
none_fewer n (Purges keep) = refl
none_fewer n Exports = refl

-- a stroke is closed
pub close_started : (n m : ℕ) (f : Fate) (e : Entry) → is_stroke m (with_fate n f e) ≡ is_stroke m e
close_started n m f (Strokes s) = go (s.no == n)
  where
    go : (b : Bool) → is_stroke m (if b then Strokes (record s { fate = f }) else Strokes s) ≡ (s.no == m)
    go true = refl
    go false = refl
close_started n m f (Changes c) = refl
close_started n m f Undoes = refl
close_started n m f Redoes = refl
close_started n m f (Purges keep) = refl
close_started n m f Exports = refl

pub close_room : (n m k : ℕ) (f : Fate) (e : Entry) → fewer k m (with_fate n f e) ≡ fewer k m e
close_room n m k f (Strokes s) = go (s.no == n)
  where
    go : (b : Bool) → fewer k m (if b then Strokes (record s { fate = f }) else Strokes s) ≡ ((s.no == m) && nat_lt (length s.jobs) k)
    go true = refl
    go false = refl
close_room n m k f (Changes c) = refl
close_room n m k f Undoes = refl
close_room n m k f Redoes = refl
close_room n m k f (Purges keep) = refl
close_room n m k f Exports = refl

pub close_export : (n : ℕ) (f : Fate) (e : Entry) → is_export (with_fate n f e) ≡ is_export e
close_export n f (Strokes s) = go (s.no == n)
  where
    go : (b : Bool) → is_export (if b then Strokes (record s { fate = f }) else Strokes s) ≡ false
    go true = refl
    go false = refl
close_export n f (Changes c) = refl
close_export n f Undoes = refl
close_export n f Redoes = refl
close_export n f (Purges keep) = refl
close_export n f Exports = refl

pub close_itself : (n : ℕ) (f : Fate) → is_open_fate f ≡ false → (e : Entry) → is_open_stroke n (with_fate n f e) ≡ false
close_itself n f h (Strokes s) = go (s.no == n) refl
  where
    go : (b : Bool) → (s.no == n) ≡ b → is_open_stroke n (if b then Strokes (record s { fate = f }) else Strokes s) ≡ false
    go true e = rw h (and-false (s.no == n))
    go false e = rw e refl
close_itself n f h (Changes c) = refl
close_itself n f h Undoes = refl
close_itself n f h Redoes = refl
close_itself n f h (Purges keep) = refl
close_itself n f h Exports = refl

pub close_other : (n m : ℕ) (f : Fate) → (n == m) ≡ false → (e : Entry) → is_open_stroke m (with_fate n f e) ≡ is_open_stroke m e
close_other n m f h (Strokes s) = go (s.no == n) refl
  where
    go : (b : Bool) → (s.no == n) ≡ b → is_open_stroke m (if b then Strokes (record s { fate = f }) else Strokes s) ≡ ((s.no == m) && is_open_fate s.fate)
    go true e = let no : (s.no == m) ≡ false = rw (same_number s.no n e) h in rw no refl
    go false e = refl
close_other n m f h (Changes c) = refl
close_other n m f h Undoes = refl
close_other n m f h Redoes = refl
close_other n m f h (Purges keep) = refl
close_other n m f h Exports = refl
