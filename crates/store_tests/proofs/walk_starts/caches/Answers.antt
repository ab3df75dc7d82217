use Rattle.std.proofs.Common.{refl}
use Rattle.store_tests.proofs.Groups.{two_groups}
use Rattle.store_tests.proofs.walk_starts.caches.Goals as goal

pub keep-requires-clause-once : goal.keep-requires-clause-once
keep-requires-clause-once g c = two_groups c.as_slice.result.now 2 0 c.as_slice.ensures refl
