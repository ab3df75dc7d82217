use Rattle.std.proofs.Common.{◌≡◌, ◌+◌, ◌<◌, ◌∙◌, ℕ, [], List, ap, sym, subst, arith, take, length, refl}
use Rattle.std.proofs.lemmas.List.{take_all, length-map, length-take-le}
use Rattle.machine_model.specs.State.{Child}
use Rattle.machine_model.specs.Walks.{walk_values}
use Rattle.walker_core.specs.Readings.{path_in}
use Rattle.walker_core.specs.Rows.{given_values, values_of}
use Rattle.walker_core.specs.Knowing.{value_at}
use Rattle.walker_core.proofs.Given.{row_next}
use Rattle.walker_core.proofs.row.compose_row.Goals as goal

pub compose_next-requires-clause-below : goal.compose_next-requires-clause-below
compose_next-requires-clause-below c =
    let on_path : c.loop-i.i < length c.path-path.result.now = omega arith in
    let count : length c.deref.result.now ≡ c.loop-i.i = ap length c.deref.ensures.value ∙ c.loop-i.invariant.many in
    record {
      paired = count ∙ sym (length-take-le c.loop-i.i c.path-path.result.now (omega (arith, on_path)));
      next = subst (λ (ps : List ℕ). length c.deref.result.now < length ps) c.path-path.ensures (omega (arith, on_path, count));
      values = λ p h k. (λ j. values_of (take c.loop-i.i (c.path-path.ensures j)) (c.deref.ensures.value j) p) ∙ c.loop-i.invariant.values p h k ∙ ap (λ n. walk_values (take n c.args.inputs.now.groups) [] p) (sym count);
    }

pub loop-i-preserved : goal.loop-i-preserved
loop-i-preserved c =
    let on_path : c.loop-i.i < length (path_in c.args.inputs.now) = subst (λ (ps : List ℕ). c.loop-i.i < length ps) c.path-path.ensures (omega arith) in
    let groups : length (path_in c.args.inputs.now) ≡ length c.args.inputs.now.groups = length-map c.args.inputs.now.groups (λ (e : ℕ × List Child). e.0) in
    let few : c.loop-i.i < length c.args.inputs.now.groups = omega (arith, on_path, groups) in
    record {
      many = omega (arith, c.in_ok-push.ensures.len, c.loop-i.invariant.many);
      values = λ p h k.
          ap (λ zs. given_values (take (c.loop-i.i + 1) (path_in c.args.inputs.now)) zs [] p) c.in_ok-push.ensures.items
          ∙ row_next c.args.inputs.now.groups (path_in c.args.inputs.now) c.loop-i.given.items c.in_ok-made.made.given c.loop-i.i p refl few c.loop-i.invariant.many (c.loop-i.invariant.values p h k)
          (c.in_ok-made.ensures.given p h k ∙ ap (λ n. value_at c.args.inputs.now.groups n p) (ap length c.deref.ensures.value ∙ c.loop-i.invariant.many));
      folds = c.in_ok-push_some.ensures c.args.inputs.now c.args.key c.loop-i.invariant.folds c.in_ok-made.ensures.fold;
    }

pub returns-clause-of : goal.returns-clause-of
returns-clause-of c =
    let all : c.loop-i.i ≡ length (path_in c.args.inputs.now) = subst (λ (ps : List ℕ). c.loop-i.i ≡ length ps) c.path-path.ensures (omega arith) in
    let groups : length (path_in c.args.inputs.now) ≡ length c.args.inputs.now.groups = length-map c.args.inputs.now.groups (λ (e : ℕ × List Child). e.0) in
    record {
      values = record {
        all = c.loop-i.invariant.many ∙ all ∙ groups;
        values = λ p h k. ap (λ ps. given_values ps c.loop-i.given.items [] p) (sym (take_all c.loop-i.i (path_in c.args.inputs.now) (omega arith))) ∙ c.loop-i.invariant.values p h k ∙ ap (λ es. walk_values es [] p) (take_all c.loop-i.i c.args.inputs.now.groups (omega (arith, all, groups)));
      };
      folds = c.loop-i.invariant.folds;
    }
