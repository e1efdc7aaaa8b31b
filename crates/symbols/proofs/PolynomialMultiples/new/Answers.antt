use Rattle.std.proofs.Common.{ℕ, List, [], ◌∷◌, ◌%◌, ◌^◌, mod-lt}
use Rattle.std.proofs.lemmas.Nat.{pow_pos}
use Rattle.symbols.proofs.Packing.{multiples_are}
use Rattle.symbols.proofs.PolynomialMultiples.new.Goals as goal

-- the table in the source
abbrev table : List (List ℕ)
table =
    (0x3210 ∷ 0x1320 ∷ 0 ∷ 0 ∷ [])
    ∷ (0x7654_3210 ∷ 0x5713_6420 ∷ 0x1526_7340 ∷ 0 ∷ [])
    ∷ (0xfedc_ba98_7654_3210 ∷ 0xdf9b_5713_eca8_6420 ∷ 0x9d15_ae26_fb73_c840 ∷ 0x192a_7f4c_d5e6_b380 ∷ [])
    ∷ []

pub invariant_of-result : goal.invariant_of-result
invariant_of-result c =
    let k = c.args.kind in
    record { right = rw c.reduced-f.ensures.value (multiples_are table tt k.w (c.args.factor % 2 ^ k.w) k.low k.high (mod-lt c.args.factor (pow_pos k.w))) }
