-- The ring rules by one computed test.
use Rattle.std.specs.Prelude.{ℕ, ◌<◌, Bool, T, List, [], ◌∷◌, ◌==◌, nat_le, nat_lt}
use Rattle.std.proofs.Common.{eqb→eq, ltb→lt, leb→le}
use Rattle.symbols.specs.Ring.{Ring, RingRules}
use Rattle.symbols.specs.Tests.{conj, pick, all, all₂, all₃, at, at₂, at₃}

-- the rules of one code, of two and of three, as tests
abbrev one : Ring → ℕ → List Bool
one R a = nat_lt (R.neg a) R.q ∷ (R.add 0 a == a) ∷ (R.add a (R.neg a) == 0) ∷ (R.mul 1 a == a) ∷ (R.mul a 1 == a) ∷ []

abbrev two : Ring → ℕ → ℕ → List Bool
two R a b = nat_lt (R.add a b) R.q ∷ nat_lt (R.mul a b) R.q ∷ (R.add a b == R.add b a) ∷ []

abbrev three : Ring → ℕ → ℕ → ℕ → List Bool
three R a b c =
    (R.add (R.add a b) c == R.add a (R.add b c))
    ∷ (R.mul (R.mul a b) c == R.mul a (R.mul b c))
    ∷ (R.mul a (R.add b c) == R.add (R.mul a b) (R.mul a c))
    ∷ (R.mul (R.add a b) c == R.add (R.mul a c) (R.mul b c))
    ∷ []

abbrev tests : Ring → List Bool
tests R =
    nat_le 2 R.q
    ∷ nat_le R.q 16
    ∷ all R.q (λ a. conj (one R a))
    ∷ all₂ R.q (λ a b. conj (two R a b))
    ∷ all₃ R.q (λ a b c. conj (three R a b c))
    ∷ []

abbrev pub test : Ring → Bool
test R = conj (tests R)

pub rules_by_test : (R : Ring) → T (test R) → RingRules R
rules_by_test R t =
    let t₁ : (a : ℕ) → a < R.q → T (conj (one R a)) = at R.q (λ a. conj (one R a)) (pick (tests R) 2 t) in
    let t₂ : (a b : ℕ) → a < R.q → b < R.q → T (conj (two R a b)) = at₂ R.q (λ a b. conj (two R a b)) (pick (tests R) 3 t) in
    let t₃ : (a b c : ℕ) → a < R.q → b < R.q → c < R.q → T (conj (three R a b c)) = at₃ R.q (λ a b c. conj (three R a b c)) (pick (tests R) 4 t) in
    record {
      low = leb→le _ _ (pick (tests R) 0 t);
      high = leb→le _ _ (pick (tests R) 1 t);
      add_below = λ a b ha hb. ltb→lt _ _ (pick (two R a b) 0 (t₂ a b ha hb));
      neg_below = λ a ha. ltb→lt _ _ (pick (one R a) 0 (t₁ a ha));
      mul_below = λ a b ha hb. ltb→lt _ _ (pick (two R a b) 1 (t₂ a b ha hb));
      add_assoc = λ a b c ha hb hc. eqb→eq _ _ (pick (three R a b c) 0 (t₃ a b c ha hb hc));
      add_comm = λ a b ha hb. eqb→eq _ _ (pick (two R a b) 2 (t₂ a b ha hb));
      zero-add = λ a ha. eqb→eq _ _ (pick (one R a) 1 (t₁ a ha));
      add-neg = λ a ha. eqb→eq _ _ (pick (one R a) 2 (t₁ a ha));
      mul_assoc = λ a b c ha hb hc. eqb→eq _ _ (pick (three R a b c) 1 (t₃ a b c ha hb hc));
      one-mul = λ a ha. eqb→eq _ _ (pick (one R a) 3 (t₁ a ha));
      mul-one = λ a ha. eqb→eq _ _ (pick (one R a) 4 (t₁ a ha));
      mul-add = λ a b c ha hb hc. eqb→eq _ _ (pick (three R a b c) 2 (t₃ a b c ha hb hc));
      add-mul = λ a b c ha hb hc. eqb→eq _ _ (pick (three R a b c) 3 (t₃ a b c ha hb hc));
    }
