use Rattle.std.proofs.Common.{rules, arith, drop, ◌≡◌, ◌+◌}
use Rattle.std.proofs.lemmas.Grind.{common_steps}
use Rattle.std.proofs.Math.ListN.{drop_of_length-le}
use Rattle.io_edge.proofs.MemoryLemmas.{front_of_rest}
use Rattle.io_edge.proofs.memory.MemSourceSource.read.Goals as goal

pub returns-clause-bytes : goal.returns-clause-bytes
returns-clause-bytes c =
    let same : c.args.self.now.left ≡ drop c.self.inside.at c.self.inside.bytes.items = search rules in
    rw same (
      front_of_rest c.self.inside.at c.min-n.result c.self.inside.bytes.items c.deref-2.result.now c.copy_from_slice.new.self (drop c.min-n.result c.args.buf.now) c.copy_from_slice.ensures.after c.deref-2.ensures.value (grind (arith, common_steps)),
      λ none room. drop_of_length-le _ {i = c.self.inside.at + c.min-n.result} (omega arith),
    )
