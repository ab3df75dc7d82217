use Rattle.std.proofs.Common.{◌∙◌, ap, sym, length, get_or}
use Rattle.std.specs.Prelude.{nat_lt}
use Rattle.frame_core.specs.Damage.{part_has}
use Rattle.walker_core.proofs.Kept.{kept_here, outside_spot}
use Rattle.walker_core.proofs.inputs.kept_of.Goals as goal

pub returns-in_ok-given-in-Some-part : goal.returns-in_ok-given-in-Some-part
returns-in_ok-given-in-Some-part c = λ r known n. (
  c.new-spot.ensures.known,
  c.new-spot.ensures.key,
  λ p h k out. kept_here r c.args.known.now c.args.key c.args.place c.in-Some.shot.now c.in_ok-given-in-Some-part.given p known n
      (c.in-Some.ensures.lookup.0 ∙ ap (λ ss. nat_lt c.args.place (length ss)) c.deref.ensures.value) (c.in-Some.ensures.lookup.1 ∙ ap (λ ss. get_or ss c.args.place c.in-Some.shot.now) c.deref.ensures.value) c.in_ok-given-in-Some-part.ensures h k
      (outside_spot _ c.in-Some-part.part c.new-spot.result c.args.key p (sym c.in-Some-part.ensures) c.new-spot.ensures.catches c.new-spot.ensures.key k out),
)

pub returns-in_ok-shown_on-in-None : goal.returns-in_ok-shown_on-in-None
returns-in_ok-shown_on-in-None c = λ r known n p h k. kept_here r c.args.known.now c.args.key c.args.place c.in-Some.shot.now c.in_ok-shown_on-in-None.field-0 p known n
    (c.in-Some.ensures.lookup.0 ∙ ap (λ ss. nat_lt c.args.place (length ss)) c.deref.ensures.value) (c.in-Some.ensures.lookup.1 ∙ ap (λ ss. get_or ss c.args.place c.in-Some.shot.now) c.deref.ensures.value) c.in_ok-shown_on-in-None.ensures h k
    (ap (λ o. part_has o p) (sym c.in-None.ensures))
