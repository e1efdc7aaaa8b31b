use Rattle.std.proofs.Common.{◌≡◌, ℕ, ◌<◌, length, get_or, take, sym, ap, ◌∙◌, subst, arith}
use Rattle.std.specs.Option.{option_map}
use Rattle.std.proofs.lemmas.List.{get_or-take, length-take-le}
use Rattle.lists.specs.Meaning.{Meaning}
use Rattle.codes.specs.Sets.{bits, uncleared}
use Rattle.codes.specs.Steps.{MaskOf}
use Rattle.schemes.proofs.Clearing.{found_uncleared}
use Rattle.schemes.proofs.scheme.permuting.Listed.first_uncleared.Goals as goal

pub returns : goal.returns
returns g c =
    let M : Meaning = g.L.Permutations.meaning c.args.self.now.list.now in
    let n = c.args.self.now.n in
    let m = c.count.result in
    let all = c.masks-masks.result in
    let masks = take m all in
    let few = (g.L.Permutations.bounds c.args.self.now.list.now).few in
    let long : length masks ≡ m = length-take-le m all (omega arith) in
    let are : (i : ℕ) → i < length masks → MaskOf n c.args.k (M.target i) (get_or masks i 0) =
    λ i h. subst (MaskOf n c.args.k (M.target i)) (sym (get_or-take m all i 0 (omega arith))) (c.masks-masks.ensures i (omega arith)) in
    found_uncleared n c.args.k c.args.t (length masks) M.target masks are c.first_met.result c.first_met.ensures
    ∙ ap (λ m. option_map bits (uncleared n c.args.k c.args.t m M.target)) (long ∙ c.count.ensures)
