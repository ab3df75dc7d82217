use Rattle.std.proofs.Common.{arith, refl, sym, ap, ◌∙◌, [], ◌∷◌, ◌++◌}
use Rattle.std.proofs.lemmas.List.{map-append}
use Rattle.std.proofs.lemmas.List.Elements.{All-nil, All-cons, All-append, All-same}
use Rattle.whole_tiles.specs.Plans.{tiles_of}
use Rattle.whole_tiles.specs.Wholes.{Entire}
use Rattle.slot_work.specs.Lacking.{keys_of_tiles}
use Rattle.stamped_desk.specs.Stamped.{IsMadeOf}
use Rattle.stamped_desk.proofs.ListParts.{part_none, part_more, part_all}
use Rattle.stamped_desk.proofs.painting.paint_all.Goals as goal

pub loop-i-init : goal.loop-i-init
loop-i-init c = record {
  keys = ap keys_of_tiles c.in_ok-made.ensures.items ∙ part_none (tiles_of c.args.painting.now.job) c.args.from c.args.from refl;
  made = All-same (IsMadeOf c.args.painting.now.job c.args.painting.now.shot) c.in_ok-made.made.items [] c.in_ok-made.ensures.items (All-nil (IsMadeOf c.args.painting.now.job c.args.painting.now.shot));
}

pub loop-i-preserved : goal.loop-i-preserved
loop-i-preserved c =
    let made = IsMadeOf c.args.painting.now.job c.args.painting.now.shot in
    let here : IsMadeOf c.args.painting.now.job c.args.painting.now.shot c.in_ok-whole.whole = record { of = record { of_job = c.in_ok-whole.ensures.of.job; shows = c.in_ok-whole.ensures.of.shows }; own = c.in_ok-whole.ensures.own } in
    record {
      keys = ap keys_of_tiles c.in_ok-push.ensures.items
          ∙ map-append (λ (x : Entire). x.key) c.loop-i.made.items (c.in_ok-whole.whole ∷ [])
          ∙ ap (λ ks. ks ++ c.in_ok-whole.whole.key ∷ []) c.loop-i.invariant.keys
          ∙ sym (part_more (tiles_of c.args.painting.now.job) c.args.from c.loop-i.i c.in_ok-whole.whole.key c.loop-i.auto.i c.in_ok-whole.ensures.key);
      made = All-same made c.push.new.self.items _ c.in_ok-push.ensures.items (All-append made c.loop-i.made.items (c.in_ok-whole.whole ∷ []) c.loop-i.invariant.made (All-cons made c.in_ok-whole.whole [] here (All-nil made)));
    }

pub returns-clause-keys : goal.returns-clause-keys
returns-clause-keys c = c.loop-i.invariant.keys ∙ part_all (tiles_of c.args.painting.now.job) c.args.from c.loop-i.i c.args.to c.max-end.result (omega (arith, c.tile_count.ensures, c.min.ensures, c.max-end.ensures)) c.loop-i-test.false c.loop-i.auto.i-end
