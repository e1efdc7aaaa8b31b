-- Parts of lists.
use Rattle.std.proofs.Common.{◌≡◌, ℕ, ◌+◌, List, ◌++◌, length, take, sym, ap, ◌∙◌}
use Rattle.std.proofs.Math.Seq.{take-append_seam, take-append-add}

-- a word of two parts, whose rest does not count
pub two_parts : (n k : ℕ) (a b y z : List ℕ) → length a ≡ k → length a + length b ≡ n → take n (take k (a ++ y) ++ (b ++ z)) ≡ a ++ b
two_parts n k a b y z e f =
    ap (λ (l : List ℕ). take n (l ++ (b ++ z))) (ap (λ (m : ℕ). take m (a ++ y)) (sym e) ∙ take-append_seam a y)
    ∙ ap (λ (m : ℕ). take m (a ++ (b ++ z))) (sym f)
    ∙ take-append-add a (b ++ z) (length b)
    ∙ ap (λ (l : List ℕ). a ++ l) (take-append_seam b z)
