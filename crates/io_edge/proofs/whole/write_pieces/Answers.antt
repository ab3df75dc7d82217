use Rattle.std.proofs.Common.{◌≡◌, ℕ, suc, ◌+◌, List, Bor, [], take, drop, ap, ◌∙◌, arith}
use Rattle.io_edge.specs.Bytes.{joined}
use Rattle.io_edge.proofs.Written.{prefix_behind, appends_to, on_err_any, flat_at, flat_more}
use Rattle.io_edge.proofs.whole.write_pieces.Goals as goal

pub returns-in_err-write_all-clause-err : goal.returns-in_err-write_all-clause-err
returns-in_err-write_all-clause-err g c =
    let pieces = c.args.pieces.now in
    let i = c.loop-piece.piece-index in
    on_err_any c.from_residual.result
    (prefix_behind _ _ _ _ _ (joined (drop (suc i) pieces)) (joined pieces) c.loop-piece.invariant.so_far c.in_err-write_all.ensures.err
    (flat_at (λ (p : Bor (List ℕ)). p.now) pieces i (record { ref_ptr = (0, 0); now = [] }) c.loop-piece-test.true))

pub loop-piece-preserved : goal.loop-piece-preserved
loop-piece-preserved g c =
    let pieces = c.args.pieces.now in
    let i = c.loop-piece.piece-index in
    let next : suc i ≡ i + 1 = omega arith in
    record {
      later = omega (arith, c.loop-piece.invariant.later, c.write_all.ensures.cause.later);
      so_far = appends_to _ _ _ _ _ _ c.loop-piece.invariant.so_far c.in_ok-write_all.ensures.ok
          (flat_more (λ (p : Bor (List ℕ)). p.now) pieces i (record { ref_ptr = (0, 0); now = [] }) c.loop-piece-test.true ∙ ap (λ n. joined (take n pieces)) next);
    }
