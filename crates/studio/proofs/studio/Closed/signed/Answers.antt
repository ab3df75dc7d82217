use Rattle.std.proofs.Common.{rules, ◌≡◌, ◌≤◌, ◌∙◌, None, Some, length, slice_get, refl, subst}
use Rattle.std.proofs.lemmas.Option.{slice_get_past, slice_get_read}
use Rattle.studio.proofs.Signing.{signed_at, without_number, without_command}
use Rattle.studio.proofs.studio.Closed.signed.Goals as goal

pub returns-in_err-artist : goal.returns-in_err-artist
returns-in_err-artist c =
    let s = c.args.self.now in
    let past : length s.signers.items ≤ c.args.i = subst (λ l. length l ≤ c.args.i) c.deref.ensures.value c.in_err-artist.ensures.lookup.3 in
    let told : c.from_residual.result ≡ None = search rules in
    told ∙ without_number s.signers.items s.desk.fed c.args.i (slice_get_past s.signers.items c.args.i past)

pub returns-in_err-command : goal.returns-in_err-command
returns-in_err-command c =
    let s = c.args.self.now in
    let fed : c.commands.result.now ≡ s.desk.fed = search rules in
    let past : length s.desk.fed ≤ c.args.i = subst (λ l. length l ≤ c.args.i) fed c.in_err-command.ensures.lookup.3 in
    let told : c.from_residual-in_err-command.result ≡ None = search rules in
    told ∙ without_command s.signers.items s.desk.fed c.args.i (slice_get_past s.desk.fed c.args.i past)

pub returns : goal.returns
returns c =
    let s = c.args.self.now in
    let k = c.in_ok-artist.field-0.now in
    let m = c.in_ok-command.field-0.now in
    let number : slice_get s.signers.items c.args.i ≡ Some k = subst (λ l. slice_get l c.args.i ≡ Some k) c.deref.ensures.value
    (slice_get_read c.deref.result.now (length c.deref.result.now) c.args.i k refl c.in_ok-artist.ensures.lookup.3.0 c.in_ok-artist.ensures.lookup.1) in
    let fed : c.commands.result.now ≡ s.desk.fed = search rules in
    let command : slice_get s.desk.fed c.args.i ≡ Some m = subst (λ l. slice_get l c.args.i ≡ Some m) fed
    (slice_get_read c.commands.result.now (length c.commands.result.now) c.args.i m refl c.in_ok-command.ensures.lookup.3.0 c.in_ok-command.ensures.lookup.1) in
    signed_at s.signers.items s.desk.fed c.args.i k m number command
