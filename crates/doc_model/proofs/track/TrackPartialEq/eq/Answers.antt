use Rattle.std.proofs.Common.{◌≡◌, ◌&&◌, Bool, nat_eq, ℤ, ap, sym, ◌∙◌, rules}
use Rattle.std.specs.Bool as bool
use Rattle.std.specs.Cmp.Rules.{comparing}
use lib.Pointwise.{pointwise}
use Rattle.std.specs.contracts.prelude.I16PartialEq.TheImpl as short
use Rattle.pixel_core.specs.contracts.blending.Op as op
use Rattle.doc_model.specs.declared.track.Track.TheInside.{Inside}
use Rattle.doc_model.specs.Tracks.{kept, kept-seen}
use Rattle.doc_model.proofs.track.TrackPartialEq.eq.Goals as goal

abbrev same : Inside → Inside → Bool
same x y =
    pointwise {A = ℤ × ℤ} {B = ℤ × ℤ} (λ s t. (short.ghosts).eq s.0 t.0 && (short.ghosts).eq s.1 t.1) x.points y.points &&
    (nat_eq x.len y.len &&
    (nat_eq x.gap y.gap &&
    (nat_eq x.stamp.r y.stamp.r &&
    (mathlib.Core.Bool.beq x.stamp.soft y.stamp.soft &&
    ((bool.◌==◌ x.stamp.colour.r y.stamp.colour.r &&
    bool.◌==◌ x.stamp.colour.g y.stamp.colour.g) &&
    (bool.◌==◌ x.stamp.colour.b y.stamp.colour.b &&
    bool.◌==◌ x.stamp.colour.a y.stamp.colour.a) &&
    (denote.Enum.Bare.sameb op.the_type x.stamp.op y.stamp.op &&
    nat_eq x.stamp.strength y.stamp.strength))))))

pub returns : goal.returns
returns c =
    let a : c.t1-1.inside ≡ kept c.args.self.now = sym (kept-seen c.t1-1.inside c.t1-1.invariant) ∙ ap kept c.t1-1.view_is in
    let b : c.t2-1.inside ≡ kept c.args.other.now = sym (kept-seen c.t2-1.inside c.t2-1.invariant) ∙ ap kept c.t2-1.view_is in
    let plain : c.and_eq-3.result ≡ same c.t1-1.inside c.t2-1.inside = search (comparing, rules) in
    plain ∙ (λ i. same (a i) (b i))
