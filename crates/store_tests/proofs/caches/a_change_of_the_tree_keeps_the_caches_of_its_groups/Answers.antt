use Rattle.std.proofs.Common.{refl}
use Rattle.store_tests.proofs.Groups.{three_groups}
use Rattle.store_tests.proofs.caches.a_change_of_the_tree_keeps_the_caches_of_its_groups.Goals as goal

pub keep-requires-clause-once : goal.keep-requires-clause-once
keep-requires-clause-once g c = three_groups c.as_slice.result.now 7 5 0 c.as_slice.ensures refl refl refl

pub keep-requires-2-clause-once : goal.keep-requires-2-clause-once
keep-requires-2-clause-once g c = three_groups c.as_slice-2.result.now 7 2 0 c.as_slice-2.ensures refl refl refl
