use Rattle.std.proofs.Common.{◌≡◌, ◌+◌, ◌-◌, ◌++◌, ◌∷◌, [], sym, ap, ◌∙◌, arith}
use Rattle.std.proofs.lemmas.List.FromFn.{map-range_with_len_more}
use Rattle.turn_lock.specs.Turns.{start_view}
use Rattle.turn_lock.specs.Passes.{fresh, all_fresh}
use Rattle.turn_lock.proofs.lock.deal.Goals as goal

pub cut-next-requires-clause-start : goal.cut-next-requires-clause-start
cut-next-requires-clause-start g c =
    let n = c.loop-number.number in
    let e : c.args.artists - n ≡ c.args.artists - (n + 1) + 1 = omega arith in
    (n, c.args.artists - (n + 1), c.loop-number.invariant.seat ∙ ap (λ k. (start_view n k, [])) e)

pub first_pass-requires : goal.first_pass-requires
first_pass-requires g c =
    let n = c.loop-number.number in
    let e : c.args.artists - n ≡ c.args.artists - (n + 1) + 1 = omega arith in
    let v = c.cut-next.ensures.views n (c.args.artists - (n + 1)) (c.loop-number.invariant.seat ∙ ap (λ k. (start_view n k, [])) e) in
    v.0 ∙ ap (λ k. (start_view k 1, [])) (sym c.from.ensures)

pub loop-number-preserved : goal.loop-number-preserved
loop-number-preserved g c =
    let n = c.loop-number.number in
    let e : c.args.artists - n ≡ c.args.artists - (n + 1) + 1 = omega arith in
    let v = c.cut-next.ensures.views n (c.args.artists - (n + 1)) (c.loop-number.invariant.seat ∙ ap (λ k. (start_view n k, [])) e) in
    let id = c.args.table.now.table_id in
    let owner : c.cut-next.result.table_id ≡ id = c.cut-next.ensures.table.1 ∙ (c.loop-number.invariant.table ∙ c.requires.table.0) in
    let one : c.first_pass.result ≡ fresh id n = c.first_pass.ensures ∙ (ap (λ i. fresh i c.from.result) owner ∙ ap (fresh id) c.from.ensures) in
    let more : all_fresh id (n + 1) ≡ all_fresh id n ++ fresh id n ∷ [] = map-range_with_len_more (fresh id) 0 n n (let e : 0 + n ≡ n = omega arith in e) in
    record {
      table = c.cut-next.ensures.table.0 ∙ c.loop-number.invariant.table;
      seat = v.1;
      passes = c.in_ok-push.ensures.items ∙ (ap (λ l. l ++ c.first_pass.result ∷ []) c.loop-number.invariant.passes ∙ (ap (λ p. all_fresh id n ++ p ∷ []) one ∙ sym more));
    }
