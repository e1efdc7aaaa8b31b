-- What becomes of the worked schemes, by the definitions of the calls.
use Rattle.std.specs.Prelude.{◌≡◌, ℕ, zero, suc, List, [], ◌∷◌, Some, None, Ok, Err}
use Rattle.faults.specs.Refusal.{refuse}
use Rattle.promises.specs.Scheme.{draft_refusal}
use Rattle.files.specs.Contents.{ListForm, table, shifts, Contents}
use Rattle.files.specs.Layout.{contents_of}
use Rattle.opening.specs.Opening.{scheme_refusal}
use Rattle.host.specs.Hosted.{Called}
use Rattle.worked.specs.declared.Schemes.{Schemes}

-- The binary code: 7 places, 4 of them information places, residues 2, the check rows 110, 011, 111, 101; for t errors, with a list of count c.
abbrev pub binary_code : ℕ → ℕ → ListForm → Contents
binary_code t c list =
    record { family = 0; base = 2; n = 7; k = 4; t = t; count = c; rows = 1 ∷ 1 ∷ 0 ∷ 0 ∷ 1 ∷ 1 ∷ 1 ∷ 1 ∷ 1 ∷ 1 ∷ 0 ∷ 1 ∷ []; list = list }

-- A code of one information place, for one error, with shifts of step 1.
abbrev pub one_symbol : ℕ → ℕ → ℕ → ℕ → List ℕ → Contents
one_symbol family base n c row = record { family = family; base = base; n = n; k = 1; t = 1; count = c; rows = row; list = shifts 1 }

-- What the files and the blocks are.
pub record Given (s : Schemes) : Type 0 where
  -- the binary code with 5 shifts of step 1, with 3 and with 2 of step 3, for 2 errors, and with the identity and the swap of places 0 and 1
  pub binary : contents_of s.binary ≡ binary_code 1 5 (shifts 1)
  pub three_shifts : contents_of s.three_shifts ≡ binary_code 1 3 (shifts 3)
  pub two_shifts : contents_of s.two_shifts ≡ binary_code 1 2 (shifts 3)
  pub two_errors : contents_of s.two_errors ≡ binary_code 2 5 (shifts 1)
  pub swapped : contents_of s.swapped ≡ binary_code 1 2 (table (0 ∷ 1 ∷ 2 ∷ 3 ∷ 4 ∷ 5 ∷ 6 ∷ 1 ∷ 0 ∷ 2 ∷ 3 ∷ 4 ∷ 5 ∷ 6 ∷ []))
  -- residues 3, 4 places, the check rows 22, 21, the table 0123, 1203, 2013
  pub ternary : contents_of s.ternary
      ≡ record { family = 0; base = 3; n = 4; k = 2; t = 1; count = 3; rows = 2 ∷ 2 ∷ 2 ∷ 1 ∷ []; list = table (0 ∷ 1 ∷ 2 ∷ 3 ∷ 1 ∷ 2 ∷ 0 ∷ 3 ∷ 2 ∷ 0 ∷ 1 ∷ 3 ∷ []) }
  -- the check row 23, under two-power 2 and under residues 4; a bit sent four times
  pub polynomials : contents_of s.polynomials ≡ one_symbol 1 2 3 3 (2 ∷ 3 ∷ [])
  pub counting : contents_of s.counting ≡ one_symbol 0 4 3 3 (2 ∷ 3 ∷ [])
  pub repeated : contents_of s.repeated ≡ one_symbol 0 2 4 2 (1 ∷ 1 ∷ 1 ∷ [])
  -- the blocks, and what they become
  pub damaged : s.damaged ≡ 1 ∷ 1 ∷ 1 ∷ 0 ∷ 1 ∷ 0 ∷ 0 ∷ []
  pub mended : s.mended ≡ 0 ∷ 1 ∷ 1 ∷ 0 ∷ 1 ∷ 0 ∷ 0 ∷ []
  pub ternary_damaged : s.ternary_damaged ≡ 2 ∷ 1 ∷ 1 ∷ 0 ∷ []
  pub ternary_mended : s.ternary_mended ≡ 1 ∷ 1 ∷ 1 ∷ 0 ∷ []
  pub halved : s.halved ≡ 1 ∷ 1 ∷ 0 ∷ 0 ∷ []
  -- n, k, t and q of the drafts
  pub draft : s.draft ≡ (7, 4, 1, 16)
  pub large_draft : s.large_draft ≡ (7, 5, 1, 16)

-- the output before a call: so many bytes, here all 9
abbrev pub nines : ℕ → List ℕ
nines zero = []
nines (suc n) = 9 ∷ nines n

-- What becomes of them.
pub record Worked (s : Schemes) : Type 0 where
  pub given : Given s
  -- live, and the block becomes the codeword at distance 1, by attempt 4
  pub binary : Called s.binary s.damaged (nines 7) (Ok (1, 4)) s.mended
  -- live
  pub three_shifts : scheme_refusal s.three_shifts ≡ None
  -- place 0 is cleared by neither of two shifts
  pub two_shifts : scheme_refusal s.two_shifts ≡ Some (refuse 12 1 0)
  -- the message 0001 has a codeword too light for 2 errors
  pub two_errors : scheme_refusal s.two_errors ≡ Some (refuse 10 1 0)
  -- permutation 1 does not keep the codeword of unit message 0
  pub swapped : scheme_refusal s.swapped ≡ Some (refuse 11 1 0)
  -- live, and the block becomes the codeword at distance 1, by attempt 2
  pub ternary : Called s.ternary s.ternary_damaged (nines 4) (Ok (1, 2)) s.ternary_mended
  -- live under the product of polynomials, and too light under counting modulo 4
  pub polynomials : scheme_refusal s.polynomials ≡ None
  pub counting : scheme_refusal s.counting ≡ Some (refuse 10 2 0)
  -- live, and the block is lost: the output stays
  pub repeated : Called s.repeated s.halved (nines 4) (Err (refuse 17 0 0)) (nines 4)
  -- a draft, and one with more than 65,536 messages
  pub draft : draft_refusal s.draft.0 s.draft.1 s.draft.2 s.draft.3 ≡ None
  pub large_draft : draft_refusal s.large_draft.0 s.large_draft.1 s.large_draft.2 s.large_draft.3 ≡ Some (refuse 5 0 0)
