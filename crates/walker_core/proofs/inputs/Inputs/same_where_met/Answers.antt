use Rattle.std.proofs.Common.{◌≡◌, false, refl, sym, subst, ◌∙◌}
use Rattle.tile_core.proofs.SameParts.{not_true, is_true}
use Rattle.walker_core.specs.Alike.{AlikeGroups}
use Rattle.walker_core.specs.Readings.{path_in}
use Rattle.walker_core.proofs.SameReadings.{path_told, readings_same, groups_told}
use Rattle.walker_core.proofs.inputs.Inputs.same_where_met.Goals as goal

pub returns-then-not-same_path : goal.returns-then-not-same_path
returns-then-not-same_path c = (
  (λ t. not_true false refl t),
  (λ same. not_true c.same_path.result c.if-not-same_path.true (c.same_path.ensures.1 (c.path.ensures ∙ path_told c.args.self.now c.args.other.now c.args.key c.requires.met same ∙ sym c.path-2.ensures))),
)

pub returns : goal.returns
returns c =
    let paths : path_in c.args.self.now ≡ path_in c.args.other.now = sym c.path.ensures ∙ c.same_path.ensures.0 (is_true c.same_path.result c.if-not-same_path.false) ∙ c.path-2.ensures in
    let told : AlikeGroups c.patch-rect.result.rect c.args.key c.path-3.result.now c.sources.result.now c.sources-2.result.now ≡ AlikeGroups c.args.self.now.patch.rect c.args.key (path_in c.args.self.now) c.sources.result.now c.sources-2.result.now
    = λ i. AlikeGroups (c.patch-rect.ensures i).rect c.args.key (c.path-3.ensures i) c.sources.result.now c.sources-2.result.now in (
      (λ t. readings_same c.args.self.now c.args.other.now c.args.key c.sources.result.now c.sources-2.result.now c.sources.ensures c.sources-2.ensures c.requires.patch paths (subst (λ P. P) told (c.same_groups.ensures.0 t))),
      (λ same. c.same_groups.ensures.1 (subst (λ P. P) (sym told) (groups_told c.args.self.now c.args.other.now c.args.key c.sources.result.now c.sources-2.result.now c.sources.ensures c.sources-2.ensures c.requires.patch paths same))),
    )
