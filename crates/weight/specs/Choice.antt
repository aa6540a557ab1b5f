-- The program's choice among the weights that document 01 allows: the exact function that the code computes.
-- A reader need believe nothing here: the law `weight_is` of proofs/Near says that it is a weight as specs/Weight defines one.
--
-- Method: q = i/16 + r with r below 1/16. With c = scale / e^(i/16) and v = scale · e^r the weight 1 / (1 + e^q) is c / (c + v).
-- Of a minus transition, 1 / (e^q - 1) is c / (v - c): good from q = 1.9 on (the law `minus_is` of proofs/Minus).
use Rattle.std.specs.Prelude.{Bool, true, false, List, [], ◌∷◌, ℕ, suc, ◌+◌, ◌-◌, ◌*◌, ◌/◌, ◌%◌, ◌≤◌, ltb, ℤ, pos, negsuc, neg_ℤ, nat_abs, get_or}
use Rattle.weight.specs.Weight.{units, Sign, one_plus, one_minus}

-- what stands for 1 in the sums and in the tables
abbrev pub scale : ℕ
scale = 180000000000

-- scale / e^n for n from 0 to 23, rounded up
abbrev pub wholes : List ℕ
wholes =
    180000000000 ∷ 66218299411 ∷ 24360350983 ∷ 8961672307 ∷ 3296815000 ∷ 1212830460 ∷ 446175392 ∷ 164138754 ∷
    60383274 ∷ 22213765 ∷ 8171988 ∷ 3006307 ∷ 1105959 ∷ 406860 ∷ 149676 ∷ 55063 ∷
    20257 ∷ 7452 ∷ 2742 ∷ 1009 ∷ 372 ∷ 137 ∷ 51 ∷ 19 ∷ []

-- scale / e^(j/16) for j from 0 to 15, rounded up
abbrev pub sixteenths : List ℕ
sixteenths =
    180000000000 ∷ 169094351307 ∷ 158849442466 ∷ 149225241273 ∷ 140184140953 ∷ 131690813211 ∷ 123712070183 ∷ 116216734758 ∷
    109175518749 ∷ 102560908452 ∷ 96347057134 ∷ 90509684035 ∷ 85025979494 ∷ 79874515815 ∷ 75035163543 ∷ 70489012802 ∷ []

-- scale / e^(i/16), a little above it
unfoldable pub inverse : ℕ → ℕ
inverse i = get_or wholes (i / 16) 0 * get_or sixteenths (i % 16) 0 / scale + 1

-- scale · r^j / j! for j from 2 to 6, with r in units: each rounded down, from an earlier one by r or by the square of r.
-- The term 1 is 18 · r, exactly.
unfoldable pub square : ℕ → ℕ
square r = r * r / units

unfoldable pub second : ℕ → ℕ
second r = 18 * r * r / 20000000000

unfoldable pub third : ℕ → ℕ
third r = second r * r / 30000000000

unfoldable pub fourth : ℕ → ℕ
fourth r = second r * square r / 120000000000

unfoldable pub fifth : ℕ → ℕ
fifth r = third r * square r / 200000000000

unfoldable pub sixth : ℕ → ℕ
sixth r = fourth r * square r / 300000000000

-- scale · e^r, a little below it
unfoldable pub exponential : ℕ → ℕ
exponential r = scale + 18 * r + second r + third r + fourth r + fifth r + sixth r

-- c parts of g, in units; g is rounded to hundreds, so that 64 bits hold all
abbrev pub portion : ℕ → ℕ → ℕ
portion c g = c * 100000000 / ((g + 50) / 100)

-- c parts of c + v
unfoldable pub share : ℕ → ℕ → ℕ
share c v = portion c (c + v)

-- a where the test holds, else 0
abbrev pub or_zero : Bool → ℕ → ℕ
or_zero true a = a
or_zero false a = 0

-- the weight at u ≥ 0 units: from 24 on it is 0
unfoldable pub weight_above : ℕ → ℕ
weight_above u = or_zero (ltb u 240000000000) (share (inverse (u / 625000000)) (exponential (u % 625000000)))

-- the weight at q units: below 0 it is 1 minus that of -q
unfoldable pub weight_of : ℤ → ℤ
weight_of (pos u) = pos (weight_above u)
weight_of (negsuc u) = pos (units - weight_above (suc u))

-- c parts of v - c
unfoldable pub minus_share : ℕ → ℕ → ℕ
minus_share c v = portion c (v - c)

-- 1 / (S - 1) at u units, from 1.9 on
unfoldable pub minus_above : ℕ → ℕ
minus_above u = or_zero (ltb u 240000000000) (minus_share (inverse (u / 625000000)) (exponential (u % 625000000)))

-- either of them, and where it is good
abbrev pub above_by : Bool → ℕ → ℕ
above_by false u = weight_above u
above_by true u = minus_above u

abbrev pub FarEnough : Bool → ℕ → Type 0
FarEnough false u = Unit
FarEnough true u = 19000000000 ≤ u

-- the weight of a minus transition at q units: 1 / (1 - S), or S / (S - 1), which is 1 more than 1 / (S - 1)
unfoldable pub minus_of : ℤ → ℤ
minus_of (pos u) = neg_ℤ (pos (minus_above u))
minus_of (negsuc u) = pos (units + minus_above (suc u))

-- by the sign of the transition
abbrev pub weight_by : Sign → ℤ → ℤ
weight_by one_plus q = weight_of q
weight_by one_minus q = minus_of q

-- the exponents that a choice of weights serves: every one of a plus transition, and from 1.9 on, either way, of a minus transition,
-- nearer to 0 than which no listing's piece has one
abbrev pub Served : Sign → ℤ → Type 0
Served one_plus q = Unit
Served one_minus q = 19000000000 ≤ nat_abs q
