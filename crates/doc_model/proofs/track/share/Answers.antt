use Rattle.std.proofs.Common.{◌≡◌, ◌≤◌, ◌*◌, pos, negsuc, nat_abs, ◌-ℤ◌, ◌≤ℤ◌, to_z, of_z, w32, arith, sym, ◌∙◌, ap}
use borrow.Author.Differences.{ints}
use Rattle.doc_model.proofs.Shares.{up, back_is, below_negative}
use Rattle.doc_model.proofs.track.share.Goals as goal

back : (c : goal.Then-d-lt0) → c.args.d ≤ℤ negsuc 0
back c = grind (arith, ints)

length_is : (c : goal.Then-d-lt0) → c.unsigned_abs.result ≡ nat_abs c.args.d
length_is c = let e : to_z w32 (of_z w32 c.args.d) ≡ c.args.d = omega (arith, ints) in c.unsigned_abs.ensures.value ∙ ap nat_abs e

few : (c : goal.Then-d-lt0) → up (c.unsigned_abs.result * c.args.n) c.args.steps ≤ 65535
few c =
    let e : c.unsigned_abs.result ≡ nat_abs c.args.d = length_is c in
    let f : up (c.unsigned_abs.result * c.args.n) c.args.steps ≤ c.unsigned_abs.result = below_negative c.unsigned_abs.result c.args.n c.args.steps (omega arith) (omega arith) in
    omega arith

plain : (c : goal.Then-d-lt0) → to_z w32 (of_z w32 (pos 0 -ℤ to_z w32 (up (c.unsigned_abs.result * c.args.n) c.args.steps))) ≡ pos 0 -ℤ pos (up (c.unsigned_abs.result * c.args.n) c.args.steps)
plain c = go (up (c.unsigned_abs.result * c.args.n) c.args.steps) (few c)
  where
    go : (k : _) → k ≤ 65535 → to_z w32 (of_z w32 (pos 0 -ℤ to_z w32 k)) ≡ pos 0 -ℤ pos k
    go k h = omega (arith, ints)

pub returns-then-d-lt0-clause-value : goal.returns-then-d-lt0-clause-value
returns-then-d-lt0-clause-value c = plain c ∙ sym (back_is c.args.d c.unsigned_abs.result c.args.n c.args.steps (back c) (length_is c) (omega arith))

pub returns-then-d-lt0-clause-far : goal.returns-then-d-lt0-clause-far
returns-then-d-lt0-clause-far c = let h = plain c in let f = few c in omega (arith, ints, ap nat_abs h)
