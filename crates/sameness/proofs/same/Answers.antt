-- `same`: member by member.
use Rattle.std.proofs.Common.{rules, ◌≡◌, true}
use Rattle.sameness.proofs.Deciding.{decides_as, decides_both}
use Rattle.sameness.specs.Decides.{Decides}
use Rattle.sameness.proofs.same.Goals as goal

pub returns : goal.returns
returns c =
    let a = c.args.a.interpolation in
    let b = c.args.b.interpolation in
    let f : c.eq.result ≡ true → a ≡ b = search rules in
    let g : a ≡ b → c.eq.result ≡ true = search rules in
    let e : Decides (a ≡ b) c.eq.result = record { sound = f; complete = g } in
    decides_as
    (λ e. record { master = e.0.0.0.0; red = e.0.0.0.1; green = e.0.0.1; blue = e.0.1; kind = e.1 })
    (λ s. ((((s.master, s.red), s.green), s.blue), s.kind))
    (decides_both
    (decides_both
    (decides_both (decides_both c.same_curve-master.ensures c.same_channel-red.ensures)
    c.same_channel-green.ensures)
    c.same_channel-blue.ensures) e)
