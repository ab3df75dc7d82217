use Rattle.std.proofs.Common.{subst}
use Rattle.std.specs.Prelude.{IfOk}
use Rattle.desk_state.specs.Cached.{ShowsCache}
use Rattle.filmed_caches.specs.Filmed.{Filmed}
use Rattle.filmed_caches.proofs.filmed.FilmedCaches.root_frame.Goals as goal

pub returns : goal.returns
returns c = subst (λ (f : Filmed). IfOk c.frame_of_cache.result (ShowsCache f.caches c.args.canvas)) c.self.view_is c.frame_of_cache.ensures
