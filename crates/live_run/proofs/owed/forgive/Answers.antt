use Rattle.std.proofs.Common.{List, sym, ap, ◌∙◌}
use Rattle.std.specs.Prelude.{slice_get}
use Rattle.live_run.specs.declared.owed.Owed.{Owed}
use Rattle.live_run.specs.Owing.{owes}
use Rattle.live_run.proofs.Owing.{owed_less}
use Rattle.live_run.proofs.owed.forgive.Goals as goal

pub returns-in-Some : goal.returns-in-Some
returns-in-Some c = λ k none other.
    owed_less c.args.owed.now.items c.in-Some.place c.args.key (ap (λ (xs : List Owed). slice_get xs c.in-Some.place) (sym c.deref.ensures.0) ∙ c.in-Some.ensures.there) k (ap (λ (xs : List Owed). owes xs k) (sym c.remove.ensures.items) ∙ none) other
