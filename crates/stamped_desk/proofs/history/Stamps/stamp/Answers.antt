use Rattle.std.proofs.Common.{sym, ◌∙◌, ap}
use Rattle.stamped_desk.proofs.Adding.{adds_moves}
use Rattle.stamped_desk.proofs.history.Stamps.stamp.Goals as goal

pub compare_exchange-found-requires : goal.compare_exchange-found-requires
compare_exchange-found-requires g c =
    let h = c.self.invariant.2 in
    let offer = c.plain-offer.ensures in
    let pen = c.no_pen-pen.ensures in (
      ap (λ w. w.tracked) h,
      ap (λ s. s.book) c.again-seen.ensures ∙ c.self.invariant.1 ∙ sym (ap (λ w. w.book) h),
      pen.0 ∙ (c.self.invariant.1 ∙ sym (ap (λ w. w.book) h)),
      offer.0 ∙ sym (ap (λ s. s.names) c.again-seen.ensures),
      rw (ap (λ w. w.key) h, pen.1, offer.1, offer.3, c.again-seen.ensures) (adds_moves c.self.inside.seen.log c.args.value.now c.self.inside.made (sym c.self.invariant.0)),
    )
