-- What a trial answers: the first of refusals 6 to 12 that meets a draft and what the trial is handed, or none.
use Rattle.std.specs.Prelude.{ℕ, ◌-◌, ◌*◌, cond, not, ◌&&◌, List, length, Some, None, Option, ◌==◌, nat_le, slice_index}
use Rattle.std.specs.Option.{option_map, option_or}
use Rattle.faults.specs.Refusal.{Refusal, refuse}
use Rattle.codes.specs.Search.{least}
use Rattle.codes.specs.Sets.{bits, uncleared}
use Rattle.codes.specs.Offenders.{bad_entry, light, unkept}
use Rattle.codes.specs.Serviceable.{Serviceable}
use Rattle.promises.specs.Scheme.{Plan, Handed, draft_code}

-- 6: a kind whose q is not the draft's, or rows that are not k × (n - k) codes.
abbrev pub mismatch : Plan → Handed → Option Refusal
mismatch D h = cond (h.ring.q == D.q && length h.rows == D.k * (D.n - D.k)) None (Some (refuse 6 0 0))

-- the index of the first symbol that is not below q
abbrev pub excess : ℕ → List ℕ → Option ℕ
excess q w = least (λ p. nat_le q (slice_index w p)) 0 (length w)

-- 7: the first row code of q or more.
abbrev pub bad_row : Plan → Handed → Option Refusal
bad_row D h = option_map (λ p. refuse 7 p 0) (excess D.q h.rows)

-- 8: a list whose length is not n, or an empty one.
abbrev pub bad_list : Plan → Handed → Option Refusal
bad_list D h = cond (h.list.places == D.n && not (h.list.count == 0)) None (Some (refuse 8 0 0))

-- 9: the first list entry that is no permutation, and the first position that shows it.
abbrev pub no_permutation : Plan → Handed → Option Refusal
no_permutation D h = option_map (λ x. refuse 9 x.0 x.1) (bad_entry D.n h.list.count h.list.target)

-- 10: the smallest non-zero message whose codeword has at most 2t non-zero symbols.
abbrev pub light_message : Plan → Handed → Option Refusal
light_message D h = option_map (λ x. refuse 10 x 0) (light (draft_code D h) (2 * D.t))

-- 11: the first permutation that takes the codeword of a unit message to no codeword, and the first such unit message.
abbrev pub not_kept : Plan → Handed → Option Refusal
not_kept D h = option_map (λ x. refuse 11 x.0 x.1) (unkept (draft_code D h) h.list.count h.list.target)

-- 12: the first set of exactly t places, in dictionary order, that no permutation clears.
abbrev pub not_cleared : Plan → Handed → Option Refusal
not_cleared D h = option_map (λ s. refuse 12 (bits s) 0) (uncleared D.n D.k D.t h.list.count h.list.target)

-- 6 to 9: what the trial is handed is not fit to be tried.
abbrev pub unfit : Plan → Handed → Option Refusal
unfit D h = option_or (mismatch D h) (option_or (bad_row D h) (option_or (bad_list D h) (no_permutation D h)))

-- 10 to 12: it is tried and fails.
abbrev pub fails : Plan → Handed → Option Refusal
fails D h = option_or (light_message D h) (option_or (not_kept D h) (not_cleared D h))

-- The first refusal of a trial, if any.
abbrev pub verdict : Plan → Handed → Option Refusal
verdict D h = option_or (unfit D h) (fails D h)

-- The code and the list serve for the draft's t errors.
abbrev pub Serves : Plan → Handed → Type 0
Serves D h = Serviceable (draft_code D h) D.t h.list.count h.list.target

-- P holds exactly when Q does.
abbrev pub Exactly : Type 0 → Type 0 → Type 0
Exactly P Q = (P → Q) × (Q → P)
