-- A number rounded to the nearest unit is within 1 of the printed one, and the same where the printed one is whole.
use mathlib.Core.Bool.{Bool, true, false, ◌&&◌, cond}
use mathlib.Core.List.{List, [], ◌∷◌}
use mathlib.Core.Path.{◌≡◌, refl, sym, subst}
use Prim.Native.Nat.{ℕ, zero, suc, ◌+◌, ◌*◌, ◌/◌, ◌%◌, ◌≤◌, ◌<◌}
use native.Mathlib.Nat.{div-add-mod', lt-div-mul-add, div-mul-le_self, lt_of_mul-lt-mul_right}
use native.Mathlib.Omega.{arith}
use lib.Dec.{T, eqb, lit<}
use borrow.Author.Tests.{eqb-true}
use lib.IntN.{ℤ, pos, negsuc, neg_ℤ, nat_abs}
use Rattle.integer.specs.Z.{zs, ≤-by}
use Rattle.fraction.specs.Fraction.{Within, parts}
use Rattle.quotient.proofs.Machine.{both}
use Rattle.bicubic.specs.Bicubic.{coefficient}
use Rattle.bicubic.proofs.Near.{Stands}
use Rattle.fit.specs.Exact.{nearest, nearest_of, in_parts}

-- ---- the tie goes away from zero, either way, and less than a tie to zero
pub record Ties : Type 0 where
  pub up : nearest (pos 50) ≡ pos 1
  pub down : nearest (negsuc 49) ≡ negsuc 0
  pub below : nearest (pos 49) ≡ pos 0
  pub above : nearest (negsuc 48) ≡ pos 0
  -- the one number of the listings that has such digits: -3.32714E-06
  pub printed : nearest (neg_ℤ (pos 3327140)) ≡ neg_ℤ (pos 33271)

pub ties : Ties
ties = record { up = refl; down = refl; below = refl; above = refl; printed = refl }

-- ---- how far off
unfoldable pub all_whole : List ℤ → Bool
all_whole [] = true
all_whole (c ∷ cs) = eqb (nat_abs c % 100) 0 && all_whole cs

abbrev pub off : List ℤ → ℕ
off k = cond (all_whole k) 0 1

-- n hundredths to the nearest
module _ (n : ℕ) where
  from_below : (n + 50) / 100 * 100 ≤ n + 50
  from_below = div-mul-le_self (n + 50) 100

  from_above : n + 50 < (n + 50) / 100 * 100 + 100
  from_above = lt-div-mul-add {a = n + 50} {b = 100} (lit< tt)

  whole_stays : n % 100 ≡ 0 → (n + 50) / 100 * 100 ≡ n
  whole_stays e =
      let k : ℕ = n / 100 in
      let j : ℕ = (n + 50) / 100 in
      let w : k * 100 + n % 100 ≡ n = div-add-mod' n 100 in
      let i : k * 100 < (j + 1) * 100 = omega (arith, from_above) in
      let l : j * 100 < (k + 1) * 100 = omega (arith, from_below) in
      omega (arith, lt_of_mul-lt-mul_right 100 i, lt_of_mul-lt-mul_right 100 l)

nearest_1 : (c : ℤ) → Within 1 (nearest c) (parts 100 c)
nearest_1 (pos n) =
    record { proper = record { some = lit< tt }; low = ≤-by (search zs) (omega (arith, from_below n)); high = ≤-by (search zs) (omega (arith, from_above n)) }
nearest_1 (negsuc n) =
    record { proper = record { some = lit< tt }; low = ≤-by (search zs) (omega (arith, from_above (suc n))); high = ≤-by (search zs) (omega (arith, from_below (suc n))) }

nearest_0 : (c : ℤ) → nat_abs c % 100 ≡ 0 → Within 0 (nearest c) (parts 100 c)
nearest_0 (pos n) e =
    record { proper = record { some = lit< tt }; low = ≤-by (search zs) (omega (arith, whole_stays n e)); high = ≤-by (search zs) (omega (arith, whole_stays n e)) }
nearest_0 (negsuc n) e =
    record { proper = record { some = lit< tt }; low = ≤-by (search zs) (omega (arith, whole_stays (suc n) e)); high = ≤-by (search zs) (omega (arith, whole_stays (suc n) e)) }

-- ---- over a list
at_place : (k : List ℤ) (i : ℕ) → coefficient (nearest_of k) i ≡ nearest (coefficient k i)
at_place [] i = refl
at_place (c ∷ cs) zero = refl
at_place (c ∷ cs) (suc i) = at_place cs i

is_true : (b : Bool) → T b → b ≡ true
is_true true t = refl
is_true false t = absurd t

whole_at : (k : List ℤ) → T (all_whole k) → (i : ℕ) → nat_abs (coefficient k i) % 100 ≡ 0
unfolding all_whole
whole_at [] t i = refl
whole_at (c ∷ cs) t zero = eqb-true (nat_abs c % 100) 0 (is_true (eqb (nat_abs c % 100) 0) (both (eqb (nat_abs c % 100) 0) (all_whole cs) t).0)
whole_at (c ∷ cs) t (suc i) = whole_at cs (both (eqb (nat_abs c % 100) 0) (all_whole cs) t).1 i

pub reads : (k : List ℤ) → Stands (off k) (nearest_of k) (in_parts 100 k)
reads k i = rw (at_place k i) (go (all_whole k) refl)
  where
    go : (b : Bool) → all_whole k ≡ b → Within (cond b 0 1) (nearest (coefficient k i)) (parts 100 (coefficient k i))
    go true e = nearest_0 (coefficient k i) (whole_at k (subst T (sym e) tt) i)
    go false e = nearest_1 (coefficient k i)
