-- What the contents of a scheme file mean: a kind, a list, the numbers of a draft; and which refusal keeps them from going live.
use Rattle.std.specs.Prelude.{ℕ, ◌/◌, ◌%◌, cond, ◌&&◌, List, length, Some, None, Option, ◌==◌, nat_le}
use Rattle.std.specs.Option.{option_or}
use Rattle.faults.specs.Refusal.{Refusal, refuse}
use Rattle.symbols.specs.Ring.{Ring, residues}
use Rattle.symbols.specs.Polynomials.{two_power}
use Rattle.lists.specs.Meaning.{Meaning, table as table_of, shifts as shifts_of, multiplied}
use Rattle.files.specs.Contents.{ListForm, table, shifts, multiplier, Contents}
use Rattle.files.specs.Layout.{contents_of}
use Rattle.files.specs.Limits.{file_refusal}
use Rattle.promises.specs.Scheme.{Plan, plan, Handed, handing, draft_refusal}
use Rattle.promises.specs.Trial.{verdict}

-- the ring of a file's kind: residues b in family 0, else two-power w
abbrev pub ring_of : ℕ → ℕ → Ring
ring_of family base = cond (family == 0) (residues base) (two_power base)

-- 1: b from 2 to 16, w from 2 to 4
abbrev pub kind_refusal : ℕ → ℕ → Option Refusal
kind_refusal family base = cond (nat_le 2 base && nat_le base (cond (family == 0) 16 4)) None (Some (refuse 1 0 0))

-- what a list form means, for n places and the count c
abbrev pub meaning_of : ℕ → ℕ → ListForm → Meaning
meaning_of n c (table bytes) = table_of n bytes
meaning_of n c (shifts step) = shifts_of n step c
meaning_of n c (multiplier step factor powers) = multiplied factor powers (shifts_of n step c)

-- 2: a table of whole rows of 1 to 64 places, at most 512 of them; the other forms are lists for all their numbers
abbrev pub list_refusal : ℕ → ListForm → Option Refusal
list_refusal n (table bytes) = cond (nat_le 1 n && nat_le n 64 && length bytes % n == 0 && nat_le (length bytes / n) 512) None (Some (refuse 2 0 0))
list_refusal n (shifts step) = None
list_refusal n (multiplier step factor powers) = None

-- what the calls of the file's scheme are handed
abbrev pub handed_of : Contents → Handed
handed_of x = handing (ring_of x.family x.base) x.rows (meaning_of x.n x.count x.list)

-- the numbers of its draft
abbrev pub plan_of : Contents → Plan
plan_of x = plan x.n x.k x.t (ring_of x.family x.base).q

-- the first refusal on the way from a kind and a list to a live scheme: that of the draft, then that of the trial
abbrev pub live_refusal : Plan → Handed → Option Refusal
live_refusal D h = option_or (draft_refusal D.n D.k D.t D.q) (verdict D h)

-- the first refusal on the way from contents to a live scheme: of the kind, the list, the draft, the trial
abbrev pub contents_refusal : Contents → Option Refusal
contents_refusal x =
    option_or (kind_refusal x.family x.base) (option_or (list_refusal x.n x.list) (live_refusal (plan_of x) (handed_of x)))

-- the first refusal on the way from a file's bytes to its live scheme: of the file, then of its contents
abbrev pub scheme_refusal : List ℕ → Option Refusal
scheme_refusal file = option_or (file_refusal file) (contents_refusal (contents_of file))
