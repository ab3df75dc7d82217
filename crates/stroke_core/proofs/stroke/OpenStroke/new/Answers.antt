use Rattle.std.proofs.Common.{sym, ap, ◌∙◌, []}
use Rattle.doc_model.specs.Kept.{up_to}
use Rattle.stroke_core.proofs.MoreJobs.{conflict_nil}
use Rattle.stroke_core.proofs.RunFacts.{kept_none}
use Rattle.stroke_core.proofs.stroke.OpenStroke.new.Goals as goal

pub invariant_of-result : goal.invariant_of-result
invariant_of-result c = rw (c.new.ensures.items, c.new-2.ensures) kept_none

pub returns-clause-stands : goal.returns-clause-stands
returns-clause-stands c = record { kept_is = c.new.ensures.items ∙ sym (ap (up_to []) conflict_nil); conflict_is = sym conflict_nil }
