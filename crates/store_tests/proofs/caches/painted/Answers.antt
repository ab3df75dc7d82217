use Rattle.std.proofs.Common.{refl}
use Rattle.store_tests.proofs.Groups.{three_groups}
use Rattle.store_tests.proofs.caches.painted.Goals as goal

pub keep-requires-clause-once : goal.keep-requires-clause-once
keep-requires-clause-once g c = three_groups c.as_slice.result.now 7 2 0 c.as_slice.ensures refl refl refl
