-- Document 01, Temperature: the exact fit of demand 3, in which nothing is rounded.
use Rattle.std.specs.Prelude.{cond, List, [], ◌∷◌, ℕ, suc, ◌+◌, ◌/◌, ℤ, pos, negsuc, neg_ℤ, ◌*ℤ◌}
use Rattle.std.proofs.Math.Option.{Option, none, some}
use Rattle.std.specs.Int.Signed.{lt_z}
use Rattle.fraction.specs.Fraction.{Fraction, whole, parts, plus, times, over}
use Rattle.weight.specs.Weight.{ideal_of, units}
use Rattle.bicubic.specs.Bicubic.{coefficient}
use Rattle.bicubic.specs.Exact.{exact_bicubic, exact_exponent}
use Rattle.fit.specs.Fit.{Transition, Piece, alone, joint}

-- ---- document 02, request 3: printed numbers
-- a piece as its listing prints it: its numbers are whole units of 10^-10, or where a listing has more digits hundredths of them
pub data Printed : Type 0 where
  in_units : Piece → Printed
  in_hundredths : Piece → Printed

-- hundredths to the nearest unit, a tie away from zero
abbrev pub nearest : ℤ → ℤ
nearest (pos n) = pos ((n + 50) / 100)
nearest (negsuc n) = neg_ℤ (pos ((suc n + 50) / 100))

abbrev pub nearest_of : List ℤ → List ℤ
nearest_of [] = []
nearest_of (c ∷ cs) = nearest c ∷ nearest_of cs

abbrev pub nearest_piece : Piece → Piece
nearest_piece (alone a) = alone (nearest_of a)
nearest_piece (joint a b t) = joint (nearest_of a) (nearest_of b) (record { sign = t.sign; limit = t.limit; terms = nearest_of t.terms })

-- the piece that is worked with
abbrev pub rounded : Printed → Piece
rounded (in_units p) = p
rounded (in_hundredths p) = nearest_piece p

-- ---- the exact fit
-- an exact number kept within m of 0
abbrev pub exact_kept : Option ℕ → Fraction → Fraction
exact_kept none q = q
exact_kept (some m) q =
    cond (lt_z (pos m *ℤ pos q.bottom) q.top) (whole (pos m))
    (cond (lt_z q.top (neg_ℤ (pos m) *ℤ pos q.bottom)) (whole (neg_ℤ (pos m))) q)

-- a list's numbers, each an s-th part of a unit
abbrev pub in_parts : ℕ → List ℤ → ℕ → Fraction
in_parts s k i = parts s (coefficient k i)

-- the unrounded exponent of a transition, in units
abbrev pub exact_exponent_of : ℕ → Transition → ℤ → ℤ → Fraction
exact_exponent_of s t y z = exact_kept t.limit (exact_exponent (in_parts s t.terms) y z)

-- A alone, or with B times the ideal weight for n terms at the unrounded exponent; in units
abbrev pub exact_of : ℕ → Piece → ℕ → ℤ → ℤ → Fraction
exact_of s (alone a) n y z = exact_bicubic (in_parts s a) y z
exact_of s (joint a b t) n y z =
    plus (exact_bicubic (in_parts s a) y z) (times (exact_bicubic (in_parts s b) y z) (ideal_of t.sign n (over units (exact_exponent_of s t y z))))

abbrev pub exact_fit : Printed → ℕ → ℤ → ℤ → Fraction
exact_fit (in_units p) n y z = exact_of 1 p n y z
exact_fit (in_hundredths p) n y z = exact_of 100 p n y z
