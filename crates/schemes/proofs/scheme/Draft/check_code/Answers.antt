use Rattle.std.proofs.Common.{sym, ap, arith}
use Rattle.std.specs.Option.{option_map}
use Rattle.promises.specs.Scheme.{Plan, plan, Handed, handing}
use Rattle.promises.proofs.Trying.{fit_permutes, enough_places}
use Rattle.schemes.proofs.scheme.Draft.check_code.Goals as goal

pub unkept-requires : goal.unkept-requires
unkept-requires g c =
    let d = c.args.self.now in
    let D : Plan = plan d.n d.k d.t d.q in
    let h : Handed = handing (g.K.Kind.ring c.args.handed.now.kind.now) c.args.handed.now.rows.now (g.L.Permutations.meaning c.args.handed.now.list.now) in
    record { permutations = fit_permutes D h c.requires }

pub first_uncleared-requires : goal.first_uncleared-requires
first_uncleared-requires g c =
    let d = c.args.self.now in
    let D : Plan = plan d.n d.k d.t d.q in
    let h : Handed = handing (g.K.Kind.ring c.args.handed.now.kind.now) c.args.handed.now.rows.now (g.L.Permutations.meaning c.args.handed.now.list.now) in
    let none = ap (option_map _) (sym c.in_default-first_light.ensures) in
    (omega arith, omega arith, enough_places D h c.requires (g.met.K.Kind.rules c.args.handed.now.kind.now) (omega arith) (omega arith) none)
