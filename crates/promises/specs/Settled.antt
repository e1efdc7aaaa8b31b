-- A call of correct has at most one outcome for what it is handed, and blocks have at most one tally.
use Rattle.std.specs.Prelude.{◌≡◌, ℕ, List, Result}
use Rattle.faults.specs.Refusal.{Refusal}
use Rattle.promises.specs.Scheme.{Plan, Scheme, scheme, Handed, Counts}
use Rattle.promises.specs.Calls.{Correcting, Corrects}
use Rattle.promises.specs.Promise.{Counting, Passed}

abbrev pub correction : Handed → List ℕ → List ℕ → Result (ℕ × ℕ) Refusal → List ℕ → Correcting
correction h v before answer after = record { handed = h; block = v; before = before; answer = answer; after = after }

-- What a call of correct is handed, and the tally before it, settle its answer, the output and the tally after it.
abbrev pub Settled : Type 0
Settled =
    (S : Scheme) (c : Counts) (h : Handed) (v before : List ℕ) (a b : Result (ℕ × ℕ) Refusal) (w u : List ℕ) (after later : Counts)
    → Corrects S c (correction h v before a w) after → Corrects S c (correction h v before b u) later → (a ≡ b) × (w ≡ u) × (after ≡ later)

-- The blocks settle their tally.
abbrev pub OneTally : Type 0
OneTally =
    (D : Plan) (trial : Handed) → Passed D trial
    → (vs : List (List ℕ)) (c d : Counts) → Counting (scheme D trial) trial vs c → Counting (scheme D trial) trial vs d → c ≡ d
