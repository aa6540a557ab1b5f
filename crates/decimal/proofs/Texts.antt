-- A number's digits are what std writes, for the numbers of 64 bits.
use Rattle.std.proofs.Common.{◌≡◌, ℕ, suc, ◌^◌, ◌≤◌, ◌<◌, ℤ, pos, negsuc, nat_abs, List, ◌∷◌, length, ap, w64, arith}
use Rattle.std.specs.Int.RustNames.{FitsSigned}
use Rattle.std.specs.Fmt.{decimal, signed_decimal}
use Rattle.std.proofs.lemmas.Fmt.{decimal_from_appends, length-decimal-le, length-decimal-le_succ}
use borrow.Author.Tests.{lt-ltb, le-ltb}
use Rattle.decimal.specs.Decimal.{digits, natural, whole}

pub natural_text : (n : ℕ) → n < 2 ^ 64 → natural n ≡ decimal n
unfolding natural digits
natural_text n h =
    decimal_from_appends digits (record { one = λ k m l. simp (lt-ltb m 10 l); more = λ k m l. simp (le-ltb m 10 l) }) (suc n) n h (omega (arith, length-decimal-le_succ n h))

pub whole_text : (z : ℤ) → FitsSigned w64 z → whole z ≡ signed_decimal z
unfolding whole
whole_text (pos n) f = let l = f.sfits in natural_text n (omega arith)
whole_text (negsuc n) f = let l = f.sfits in ap (λ (t : List ℕ). 45 ∷ t) (natural_text (suc n) (omega arith))

-- the most bytes that there are
pub natural_short : (n : ℕ) → n < 10 ^ 19 → length (natural n) ≤ 19
natural_short n h = omega (arith, ap length (natural_text n (omega arith)), length-decimal-le 19 n (omega arith) h (omega arith))

pub whole_short : (z : ℤ) → nat_abs z < 10 ^ 19 → length (whole z) ≤ 20
unfolding whole
whole_short (pos n) h = omega (arith, natural_short n h)
whole_short (negsuc n) h = omega (arith, natural_short (suc n) h)

pub column_short : (z : ℤ) → FitsSigned w64 z → length (whole z) ≤ 20
column_short (pos n) f = let l = f.sfits in whole_short (pos n) (omega arith)
column_short (negsuc n) f = let l = f.sfits in whole_short (negsuc n) (omega arith)
