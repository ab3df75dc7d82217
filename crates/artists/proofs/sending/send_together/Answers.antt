use Rattle.std.proofs.Common.{◌≡◌, ap, length, arith}
use denote.Param.Send.{sendable}
use Rattle.turn_lock.specs.Passes.{Known}
use Rattle.studio.specs.declared.signed.Signed.{Signed}
use Rattle.artists.proofs.Handing.{pass_is, pass_count, are_senders}
use Rattle.artists.proofs.sending.send_together.Goals as goal

pub map_vec-requires-after_bounds : goal.map_vec-requires-after_bounds
map_vec-requires-after_bounds g c κs within = λ i x lt at.
    let e = pass_is c.args.studio.now.id c.args.artists c.args.passes.items i x c.requires.passes lt at in
    let rt = c.type_bounds.sync-R in
    let gate = c.type_bounds.sync-G in
    ((c.requires.some, ap (λ (p : Known Signed). p.lock) e, ap (λ (p : Known Signed). p.made) e), (search sendable depth 20, search sendable depth 20))

pub returns-clause-each : goal.returns-clause-each
returns-clause-each g c =
    let count : length c.in_ok-senders.senders.items ≡ length c.args.passes.items = omega (arith, c.in_ok-senders.ensures.len, c.in_ok-senders.senders.ok.0, c.args.passes.ok.0) in
    are_senders c.args.studio.now.id c.args.artists c.args.commands.now c.args.passes.items c.in_ok-senders.senders.items c.requires.passes count
    (λ i d lt. let k = (c.in_ok-senders.ensures.each i d lt).1 in
    (k.job, k.job_read, record { studio = k.call.met.0; numbers = k.call.met.1.0; made = k.call.met.1.1 }))

pub returns-clause-all : goal.returns-clause-all
returns-clause-all g c = omega (arith, c.in_ok-senders.ensures.len, c.args.passes.ok.0, ap length c.requires.passes, pass_count c.args.studio.now.id c.args.artists)
