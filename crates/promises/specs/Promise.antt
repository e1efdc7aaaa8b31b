-- The promise of a live scheme, over all runs of calls.
-- To read it: `(w : A) → P` says P of every w, `(w : A) × P` that there is a w with P, `P → ⊥` that P fails, `cond b x y` is x where b is true and else y,
-- `x ∷ xs` a list with its first element, `Ok a` an answer and `Err r` a refusal. A word is a list of symbols.
use Rattle.std.specs.Prelude.{◌≡◌, ℕ, ◌+◌, ◌<◌, ◌≤◌, Bool, true, cond, not, ◌&&◌, List, [], ◌∷◌, length, is_some, Some, None, Ok, Err, ◌≢◌, nat_lt}
use Rattle.symbols.specs.Ring.{RingRules}
use Rattle.faults.specs.Refusal.{Refusal, refuse}
use Rattle.codes.specs.Code.{Symbols, Codeword, codeword, distance, Near, First}
use Rattle.codes.specs.Serviceable.{Serviceable}
use Rattle.promises.specs.Scheme.{Plan, Scheme, scheme, Handed, Counts}
use Rattle.promises.specs.Trial.{verdict}
use Rattle.promises.specs.Calls.{Encoding, Correcting, Call, encode, correct, close, code_of, fits, objection, reason, Withdraws, Runs}

-- A block handed to correct is well formed if none of the refusals 13, 14 and 15 meets it and there is room for it:
-- of the well-formed blocks, at most 999,999 are ahead of it in the stretch since the scheme went live or was last closed.
abbrev pub formed : Scheme → ℕ → Correcting → Bool
formed S came x = not (is_some (objection S x.handed S.n x.block x.before)) && nat_lt came 1000000

-- The well-formed blocks of that stretch, the newest first. In a list of calls the newest stands first too: in `call ∷ past`, `past` is what came before the call.
abbrev pub blocks : Scheme → List Call → List (List ℕ)
blocks S [] = []
blocks S (close answer ∷ past) = []
blocks S (encode x ∷ past) = blocks S past
blocks S (correct x ∷ past) = cond (formed S (length (blocks S past)) x) (x.block ∷ blocks S past) (blocks S past)

abbrev pub WellFormed : Scheme → List Call → Correcting → Type 0
WellFormed S past x = formed S (length (blocks S past)) x ≡ true

-- What a call is handed means what the trial's means: equal rows, a kind with equal sums and products of the codes below q, a list with equal targets.
pub record Same (S : Scheme) (trial h : Handed) : Type 0 where
  pub rows : h.rows ≡ trial.rows
  pub sums : (a b : ℕ) → a < S.q → b < S.q → h.ring.add a b ≡ trial.ring.add a b
  pub products : (a b : ℕ) → a < S.q → b < S.q → h.ring.mul a b ≡ trial.ring.mul a b
  pub targets : (i p : ℕ) → i < S.m → p < S.n → h.list.target i p ≡ trial.list.target i p

-- A call is handed the trial's rows, kind and list, or is turned away by refusal 13.
abbrev pub Alike : Scheme → Handed → Handed → Type 0
Alike S trial h = fits S h ≡ true → Same S trial h

-- The premise on the callers, for the tally: each correct since the start or the last close is such a call.
abbrev pub Faithful : Scheme → Handed → List Call → Type 0
Faithful S trial [] = Unit {0}
Faithful S trial (encode x ∷ past) = Faithful S trial past
Faithful S trial (correct x ∷ past) = Alike S trial x.handed × Faithful S trial past
Faithful S trial (close answer ∷ past) = Unit {0}

-- The word w is a codeword of the trial's code and differs from v at no more than t places.
abbrev pub Within : Scheme → Handed → List ℕ → List ℕ → Type 0
Within S trial v w = Near (code_of S trial) S.t v w

-- How a well-formed block fares.
pub record Served (S : Scheme) (trial : Handed) (x : Correcting) : Type 0 where
  -- If some codeword lies within t places of it, the call has an answer;
  pub answers_when : (w : List ℕ) → Within S trial x.block w → (d : ℕ) × (i : ℕ) × (x.answer ≡ Ok (d, i))
  -- if the call has an answer, the output holds such a codeword,
  pub only_when : (d i : ℕ) → x.answer ≡ Ok (d, i) → Within S trial x.block x.after
  -- and no other word is one;
  pub the_only : (d i : ℕ) → x.answer ≡ Ok (d, i) → (w : List ℕ) → Within S trial x.block w → w ≡ x.after
  -- the answer's first number says at how many places the two differ,
  pub its_distance : (d i : ℕ) → x.answer ≡ Ok (d, i) → d ≡ distance S.n x.block x.after
  -- its second number is the earliest attempt that succeeds.
  pub first_attempt : (d i : ℕ) → x.answer ≡ Ok (d, i) → (i < S.m) × First (code_of S trial) S.t trial.list.target x.block i
  -- So a block that came from the codeword of a message, with at most t symbols changed, becomes that codeword again.
  pub restores : (u : List ℕ) → Symbols S.q S.k u → distance S.n x.block (codeword (code_of S trial) u) ≤ S.t
      → (d : ℕ) × (i : ℕ) × (x.answer ≡ Ok (d, i)) × (x.after ≡ codeword (code_of S trial) u)
  -- With no such codeword, the call is refused as 17 and the output stays.
  pub otherwise : ((w : List ℕ) → Within S trial x.block w → ⊥) → (x.answer ≡ Err (refuse 17 0 0)) × (x.after ≡ x.before)

-- The word w is such a codeword, and not v itself.
abbrev pub Another : Scheme → Handed → List ℕ → List ℕ → Type 0
Another S trial v w = Within S trial v w × (w ≢ v)

-- So many of the blocks have the property P.
pub data HowMany (P : List ℕ → Type 0) : List (List ℕ) → ℕ → Type 0 where
  nothing : HowMany P [] 0
  one_more : {v : List ℕ} {vs : List (List ℕ)} {n : ℕ} → P v → HowMany P vs n → HowMany P (v ∷ vs) (n + 1)
  no_more : {v : List ℕ} {vs : List (List ℕ)} {n : ℕ} → (P v → ⊥) → HowMany P vs n → HowMany P (v ∷ vs) n

-- The sum of the numbers d that belong to the blocks v by D v d; a block may have none.
pub data Summed (D : List ℕ → ℕ → Type 0) : List (List ℕ) → ℕ → Type 0 where
  empty : Summed D [] 0
  adds : {v : List ℕ} {vs : List (List ℕ)} {s d : ℕ} → D v d → Summed D vs s → Summed D (v ∷ vs) (s + d)
  skips : {v : List ℕ} {vs : List (List ℕ)} {s : ℕ} → ((d : ℕ) → D v d → ⊥) → Summed D vs s → Summed D (v ∷ vs) s

-- The tally c is that of the blocks vs:
pub record Counting (S : Scheme) (trial : Handed) (vs : List (List ℕ)) (c : Counts) : Type 0 where
  -- it has them all, and each under one of three heads;
  pub all : c.blocks ≡ length vs
  pub parts : c.blocks ≡ c.clean + c.mended + c.lost
  -- clean: the block is a codeword;
  pub clean_ones : HowMany (Codeword (code_of S trial)) vs c.clean
  -- mended: a codeword that is not the block itself lies within t places of it;
  pub mended_ones : HowMany (λ v. (w : List ℕ) × Another S trial v w) vs c.mended
  -- lost: no codeword lies within t places of it;
  pub lost_ones : HowMany (λ v. (w : List ℕ) → Within S trial v w → ⊥) vs c.lost
  -- symbols: over the mended blocks, the sum of the places where block and codeword differ.
  pub symbols_sum : Summed (λ v d. (w : List ℕ) × Another S trial v w × (d ≡ distance S.n v w)) vs c.symbols

-- How a call of encode fares: a message within its rules gets its codeword, and a refusal leaves the output.
pub record Encoded (S : Scheme) (trial : Handed) (x : Encoding) : Type 0 where
  pub writes : objection S x.handed S.k x.message x.before ≡ None → (x.answer ≡ Ok tt) × (x.after ≡ codeword (code_of S trial) x.message)
  pub refuses : (r : Refusal) → objection S x.handed S.k x.message x.before ≡ Some r → (x.answer ≡ Err r) × (x.after ≡ x.before)

-- The promise. A run is all calls since the scheme went live, the newest first, with the tally c that they leave. What is said of the
-- newest call holds of each call, since every shorter run is a run.
pub record Promise (S : Scheme) (trial : Handed) : Type 0 where
  -- refusal 13 does not meet the trial's own rows, kind and list;
  pub accepts : fits S trial ≡ true
  -- the code and the list serve for t errors;
  pub serviceable : Serviceable (code_of S trial) S.t S.m trial.list.target
  -- every well-formed block, handed over with the trial's rows, kind and list, fares as said above;
  pub serves : (past : List Call) (x : Correcting) (c : Counts) → Runs S (correct x ∷ past) c → Alike S trial x.handed → WellFormed S past x → Served S trial x
  -- every other block is refused, by the first of 13 to 16 that meets it, and the output stays;
  pub refuses : (past : List Call) (x : Correcting) (c : Counts) → Runs S (correct x ∷ past) c → (WellFormed S past x → ⊥)
      → (r : Refusal) × (reason S (length (blocks S past)) x ≡ Some r) × (x.answer ≡ Err r) × (x.after ≡ x.before)
  -- encode fares as said above;
  pub encodes : (past : List Call) (x : Encoding) (c : Counts) → Runs S (encode x ∷ past) c → Alike S trial x.handed → Encoded S trial x
  -- the tally is that of the well-formed blocks since the start or the last close,
  pub counts : (calls : List Call) (c : Counts) → Runs S calls c → Faithful S trial calls → Counting S trial (blocks S calls) c
  -- it is what close answers,
  pub closes : (past : List Call) (answer c : Counts) → Runs S (close answer ∷ past) c → Faithful S trial past → Counting S trial (blocks S past) answer
  -- and what withdraw answers.
  pub withdraws : (calls : List Call) (answer c : Counts) → Runs S calls c → Faithful S trial calls → Withdraws c answer → Counting S trial (blocks S calls) answer

-- A draft with information and check places, and what its trial was handed, which no refusal of the trial meets.
pub record Passed (D : Plan) (trial : Handed) : Type 0 where
  pub rules : RingRules trial.ring
  pub some : 0 < D.k
  pub order : D.k < D.n
  pub verdict_none : verdict D trial ≡ None

-- Every code over every ring, with every list, that passes a trial keeps the promise.
abbrev pub Law : Type 0
Law = (D : Plan) (trial : Handed) → Passed D trial → Promise (scheme D trial) trial
