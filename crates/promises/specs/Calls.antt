-- The calls on a live scheme, as data, and what each of them does.
use Rattle.std.specs.Prelude.{◌≡◌, ℕ, zero, suc, ◌+◌, ◌-◌, ◌*◌, ◌<◌, Bool, cond, ◌&&◌, List, [], ◌∷◌, length, Some, None, Ok, Err, Option, Result, MatchOption, ◌==◌, nat_lt}
use Rattle.std.specs.Option.{option_map, option_or}
use Rattle.faults.specs.Refusal.{Refusal, refuse}
use Rattle.codes.specs.Code.{Code, code, codeword, distance, candidate, Succeeds, First}
use Rattle.promises.specs.Scheme.{Scheme, Handed, Counts, none}
use Rattle.promises.specs.Trial.{excess}

-- A call of encode: what it is handed, the message, the output before it, its answer, the output after it.
pub record Encoding : Type 0 where
  pub handed : Handed
  pub message : List ℕ
  pub before : List ℕ
  pub answer : Result (Unit {0}) Refusal
  pub after : List ℕ

-- A call of correct, with the block; its answer is a distance and the number of an attempt.
pub record Correcting : Type 0 where
  pub handed : Handed
  pub block : List ℕ
  pub before : List ℕ
  pub answer : Result (ℕ × ℕ) Refusal
  pub after : List ℕ

-- A call; of close, its answer.
pub data Call : Type 0 where
  encode : Encoding → Call
  correct : Correcting → Call
  close : Counts → Call

-- The code that a scheme makes of what a call is handed.
abbrev pub code_of : Scheme → Handed → Code
code_of S h = code h.ring S.n S.k h.rows

-- Refusal 13 does not meet the call: the kind has the scheme's q, the list its length and count, and the rows are k × (n - k) codes.
abbrev pub fits : Scheme → Handed → Bool
fits S h = h.ring.q == S.q && (h.list.places == S.n && (h.list.count == S.m && length h.rows == S.k * (S.n - S.k)))

-- Refusal 14 does not meet it: the input has its size, and the output n symbols.
abbrev pub sized : Scheme → ℕ → List ℕ → List ℕ → Bool
sized S size input output = length input == size && length output == S.n

-- The first of refusals 13, 14 and 15 that meets a call, if any; 15 names the first symbol that is not below q.
abbrev pub objection : Scheme → Handed → ℕ → List ℕ → List ℕ → Option Refusal
objection S h size input output =
    cond (fits S h) (cond (sized S size input output) (option_map (λ p. refuse 15 p 0) (excess S.q input)) (Some (refuse 14 0 0))) (Some (refuse 13 0 0))

-- Encode is refused and the output stays, or the output becomes the message's codeword.
abbrev pub Encodes : Scheme → Encoding → Type 0
Encodes S x =
    MatchOption (objection S x.handed S.k x.message x.before)
    ((x.answer ≡ Ok tt) × (x.after ≡ codeword (code_of S x.handed) x.message))
    (λ r. (x.answer ≡ Err r) × (x.after ≡ x.before))

-- The tally with one more block, corrected at a distance: clean at distance 0, else mended.
abbrev pub found : ℕ → Counts → Counts
found zero c = record { blocks = c.blocks + 1; clean = c.clean + 1; mended = c.mended; lost = c.lost; symbols = c.symbols }
found (suc d) c = record { blocks = c.blocks + 1; clean = c.clean; mended = c.mended + 1; lost = c.lost; symbols = c.symbols + suc d }

-- The tally with one more block, lost.
abbrev pub missed : Counts → Counts
missed c = record { blocks = c.blocks + 1; clean = c.clean; mended = c.mended; lost = c.lost + 1; symbols = c.symbols }

-- Attempt i is the first success: the output becomes its word, the answer is how far that is from the block, and i.
pub record Finds (S : Scheme) (c : Counts) (x : Correcting) (next : Counts) (i : ℕ) : Type 0 where
  pub within : i < S.m
  pub first : First (code_of S x.handed) S.t x.handed.list.target x.block i
  pub word : x.after ≡ candidate (code_of S x.handed) (x.handed.list.target i) x.block
  pub answers : x.answer ≡ Ok (distance S.n x.block x.after, i)
  pub tally : next ≡ found (distance S.n x.block x.after) c

-- Every attempt fails: refusal 17, the output stays, and the block is counted as lost.
pub record Loses (S : Scheme) (c : Counts) (x : Correcting) (next : Counts) : Type 0 where
  pub none_succeeds : (i : ℕ) → i < S.m → Succeeds (code_of S x.handed) S.t (x.handed.list.target i) x.block → ⊥
  pub answers : x.answer ≡ Err (refuse 17 0 0)
  pub word : x.after ≡ x.before
  pub tally : next ≡ missed c

-- Refusal r: output and tally stay.
pub record Refuses (c : Counts) (x : Correcting) (next : Counts) (r : Refusal) : Type 0 where
  pub answers : x.answer ≡ Err r
  pub word : x.after ≡ x.before
  pub tally : next ≡ c

-- The first of refusals 13 to 16 that meets a call of correct after so many well-formed blocks, if any.
abbrev pub reason : Scheme → ℕ → Correcting → Option Refusal
reason S came x = option_or (objection S x.handed S.n x.block x.before) (cond (nat_lt came 1000000) None (Some (refuse 16 0 0)))

-- What a call of correct does, from the tally c to the tally `next`: one of three things.
pub data Corrects (S : Scheme) (c : Counts) (x : Correcting) (next : Counts) : Type 0 where
  refuses : (r : Refusal) → reason S c.blocks x ≡ Some r → Refuses c x next r → Corrects S c x next
  finds : reason S c.blocks x ≡ None → (i : ℕ) → Finds S c x next i → Corrects S c x next
  loses : reason S c.blocks x ≡ None → Loses S c x next → Corrects S c x next

-- Close answers the tally, and counting starts again from nothing.
abbrev pub Closes : Counts → Counts → Counts → Type 0
Closes c answer next = (answer ≡ c) × (next ≡ none)

-- Withdraw answers the tally; the scheme is used up.
abbrev pub Withdraws : Counts → Counts → Type 0
Withdraws c answer = answer ≡ c

-- What any call does, from the tally c to the tally `next`.
abbrev pub Does : Scheme → Counts → Call → Counts → Type 0
Does S c (encode x) next = Encodes S x × (next ≡ c)
Does S c (correct x) next = Corrects S c x next
Does S c (close answer) next = Closes c answer next

-- A run of calls on a scheme that has just gone live, the newest call first, and the tally that it leaves.
abbrev pub Runs : Scheme → List Call → Counts → Type 0
Runs S [] next = next ≡ none
Runs S (call ∷ past) next = (c : Counts) × Runs S past c × Does S c call next
