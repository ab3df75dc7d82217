-- One dab and one block more.
use Rattle.std.proofs.Common.{◌≡◌, ℕ, suc, ◌+◌, ◌++◌, ◌∷◌, [], refl, arith, append_assoc, sym, ap, ◌∙◌, append-nil, List}
use Rattle.doc_model.specs.declared.command.Command.{Command}
use Rattle.demo_gen.specs.Demo.{later, dabs, after_dabs, block, blocks, after_block, after_blocks}
use Rattle.demo_gen.specs.Adds.{dab}

pub no_dabs : (k s : ℕ) (front : List Command) → front ≡ front ++ dabs k 0 s
unfolding dabs
no_dabs k s front = sym (append-nil front)

pub from_dabs : (s : ℕ) → s ≡ after_dabs 0 s
unfolding after_dabs
from_dabs s = refl

pub more_dabs : (k i s : ℕ) → dabs k (suc i) s ≡ dabs k i s ++ dab k i (after_dabs i s) ∷ []
unfolding dabs
more_dabs k i s = refl

later_dabs : (i s : ℕ) → after_dabs (suc i) s ≡ later 6 (after_dabs i s)
unfolding after_dabs
later_dabs i s = refl

one_more : (i : ℕ) → suc i ≡ i + 1
one_more i = omega arith

-- the state after one dab more
pub next_dab : (i s state new : ℕ) → state ≡ after_dabs i s → new ≡ later 6 state → new ≡ after_dabs (i + 1) s
next_dab i s state new e h = h ∙ ap (later 6) e ∙ sym (later_dabs i s) ∙ ap (λ n. after_dabs n s) (one_more i)

-- the commands after one dab more
pub dab_added : (k i s state : ℕ) (front items new : List Command) → state ≡ after_dabs i s → items ≡ front ++ dabs k i s → new ≡ items ++ dab k i state ∷ [] → new ≡ front ++ dabs k (i + 1) s
dab_added k i s state front items new e h added =
    added
    ∙ ap (λ l. l ++ dab k i state ∷ []) h
    ∙ ap (λ n. (front ++ dabs k i s) ++ dab k i n ∷ []) e
    ∙ append_assoc front (dabs k i s) (dab k i (after_dabs i s) ∷ [])
    ∙ ap (λ l. front ++ l) (sym (more_dabs k i s))
    ∙ ap (λ n. front ++ dabs k n s) (one_more i)

pub no_blocks : (s : ℕ) (front : List Command) → front ≡ front ++ blocks 0 s
unfolding blocks
no_blocks s front = sym (append-nil front)

pub from_blocks : (s : ℕ) → s ≡ after_blocks 0 s
unfolding after_blocks
from_blocks s = refl

pub more_blocks : (n s : ℕ) → blocks (suc n) s ≡ blocks n s ++ block (suc n) (after_blocks n s)
unfolding blocks
more_blocks n s = refl

pub later_blocks : (n s : ℕ) → after_blocks (suc n) s ≡ after_block (suc n) (after_blocks n s)
unfolding after_blocks
later_blocks n s = refl

-- the state after one block more
pub next_block : (n s state new : ℕ) → state ≡ after_blocks n s → new ≡ after_block (n + 1) state → new ≡ after_blocks (n + 1) s
next_block n s state new e h =
    h
    ∙ ap (λ m. after_block (n + 1) m) e
    ∙ ap (λ m. after_block m (after_blocks n s)) (sym (one_more n))
    ∙ sym (later_blocks n s)
    ∙ ap (λ m. after_blocks m s) (one_more n)

-- the commands after one block more
pub block_added : (n s state : ℕ) (front items new : List Command) → state ≡ after_blocks n s → items ≡ front ++ blocks n s → new ≡ items ++ block (n + 1) state → new ≡ front ++ blocks (n + 1) s
block_added n s state front items new e h added =
    added
    ∙ ap (λ l. l ++ block (n + 1) state) h
    ∙ ap (λ m. (front ++ blocks n s) ++ block (n + 1) m) e
    ∙ append_assoc front (blocks n s) (block (n + 1) (after_blocks n s))
    ∙ ap (λ m. front ++ (blocks n s ++ block m (after_blocks n s))) (sym (one_more n))
    ∙ ap (λ l. front ++ l) (sym (more_blocks n s))
    ∙ ap (λ m. front ++ blocks m s) (one_more n)
