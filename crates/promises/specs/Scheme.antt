-- Drafts, live schemes and what their calls are handed, as records of numbers and meanings.
use Rattle.std.specs.Prelude.{ℕ, ◌^◌, cond, ◌&&◌, List, Some, None, Option, nat_le, nat_lt}
use Rattle.faults.specs.Refusal.{Refusal, refuse}
use Rattle.symbols.specs.Ring.{Ring}
use Rattle.lists.specs.Meaning.{Meaning}
use Rattle.codes.specs.Code.{Code, code}

-- What a draft holds: n places, the first k of them information places, up to t errors, q symbols.
pub record Plan : Type 0 where
  pub n : ℕ
  pub k : ℕ
  pub t : ℕ
  pub q : ℕ

abbrev pub plan : ℕ → ℕ → ℕ → ℕ → Plan
plan n k t q = record { n = n; k = k; t = t; q = q }

-- What a call is handed for reading: the ring of its kind, the check rows, what its list means.
pub record Handed : Type 0 where
  pub ring : Ring
  pub rows : List ℕ
  pub list : Meaning

abbrev pub handing : Ring → List ℕ → Meaning → Handed
handing R given M = record { ring = R; rows = given; list = M }

-- The code that a draft makes of what a call is handed.
abbrev pub draft_code : Plan → Handed → Code
draft_code D h = code h.ring D.n D.k h.rows

-- The first of refusals 3, 4 and 5 that meets the numbers of a draft, if any:
-- n from 2 to 64, k from 1 to 16 and below n; t from 1 to 5; at most 65,536 messages.
abbrev pub draft_refusal : ℕ → ℕ → ℕ → ℕ → Option Refusal
draft_refusal n k t q =
    cond (nat_le 2 n && nat_le n 64 && nat_le 1 k && nat_le k 16 && nat_lt k n)
    (cond (nat_le 1 t && nat_le t 5)
    (cond (nat_le (q ^ k) 65536) None (Some (refuse 5 0 0)))
    (Some (refuse 4 0 0)))
    (Some (refuse 3 0 0))

-- What a live scheme keeps of its trial: the numbers of its draft, and the number m of permutations.
pub record Scheme : Type 0 where
  pub n : ℕ
  pub k : ℕ
  pub t : ℕ
  pub q : ℕ
  pub m : ℕ

-- The scheme of a draft and what its trial was handed.
abbrev pub scheme : Plan → Handed → Scheme
scheme D h = record { n = D.n; k = D.k; t = D.t; q = D.q; m = h.list.count }

-- A tally.
pub record Counts : Type 0 where
  pub blocks : ℕ
  pub clean : ℕ
  pub mended : ℕ
  pub lost : ℕ
  pub symbols : ℕ

abbrev pub none : Counts
none = record { blocks = 0; clean = 0; mended = 0; lost = 0; symbols = 0 }
