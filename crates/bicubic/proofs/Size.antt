-- How large a bicubic can be: the sum of its coefficients' sizes times the powers of the box.
use mathlib.Core.List.{List}
use Prim.Native.Nat.{ℕ, ◌+◌, ◌*◌, ◌/◌, ◌≤◌}
use native.Mathlib.Nat.{mul-le-mul, le_refl, le_trans, lt-div-mul-add}
use native.Mathlib.Omega.{arith}
use lib.Dec.{lit<}
use lib.IntN.{ℤ, nat_abs, ◌+ℤ◌, ◌*ℤ◌}
use Rattle.integer.specs.Laws.{abs-+, abs-*}
use Rattle.quotient.specs.Mul.{mul}
use Rattle.bicubic.specs.Bicubic.{coefficient, gas1, gas2, gas3, gas4, bicubic}
use Rattle.quotient.proofs.Floors.{quotient_upto}

-- whole units that hold so many millionths
abbrev pub ceiling : ℕ → ℕ
ceiling x = (x + 999999) / 1000000

pub ceiling_holds : (x : ℕ) → x ≤ ceiling x * 1000000
ceiling_holds x = omega (arith, lt-div-mul-add {a = x + 999999} {b = 1000000} (lit< tt))

-- the sum over the box |Y| up to a, |Z| up to b, in millionths, of coefficients whose sizes are up to c 0, c 1, ..
unfoldable pub size : ℕ → ℕ → (ℕ → ℕ) → ℕ
size a b c =
    (c 0 + ceiling (c 1 * a))
    + ceiling ((c 2 + ceiling (c 3 * a)) * b)
    + ceiling (ceiling ((c 4 + ceiling (c 5 * b) + ceiling (c 6 * a)) * a) * a)
    + ceiling (ceiling ((c 7 + ceiling (c 8 * a) + ceiling (c 9 * b)) * b) * b)

-- a record, since nat_abs shows no argument
pub record Upto (s : ℕ) (x : ℤ) : Type 0 where
  pub most : nat_abs x ≤ s

pub upto_plus : {x y : ℤ} {s t : ℕ} → Upto s x → Upto t y → Upto (s + t) (x +ℤ y)
upto_plus {x} {y} h k = record { most = omega (arith, abs-+ x y) }

pub upto_mul : (l : ℕ) (y : ℤ) → nat_abs y ≤ l → {x : ℤ} {s : ℕ} → Upto s x → Upto (ceiling (s * l)) (mul x y)
unfolding mul
upto_mul l y h {x} {s} k =
    record {
      most =
          quotient_upto (x *ℤ y) (ceiling (s * l)) 1000000 (lit< tt)
          (le_trans (rw abs-* (mul-le-mul k.most h)) (ceiling_holds (s * l)));
    }

module _ (a b : ℕ) (y z : ℤ) (hy : nat_abs y ≤ a) (hz : nat_abs z ≤ b) where
  by_y : {x : ℤ} {s : ℕ} → Upto s x → Upto (ceiling (s * a)) (mul x y)
  by_y h = upto_mul a y hy h

  by_z : {x : ℤ} {s : ℕ} → Upto s x → Upto (ceiling (s * b)) (mul x z)
  by_z h = upto_mul b z hz h

  bicubic_upto : (k : List ℤ) (c : ℕ → ℕ) → ((i : ℕ) → Upto (c i) (coefficient k i)) → Upto (size a b c) (bicubic k y z)
  unfolding size bicubic gas1 gas2 gas3 gas4
  bicubic_upto k c h =
      upto_plus
      (upto_plus
      (upto_plus (upto_plus (h 0) (by_y (h 1))) (by_z (upto_plus (h 2) (by_y (h 3)))))
      (by_y (by_y (upto_plus (upto_plus (h 4) (by_z (h 5))) (by_y (h 6))))))
      (by_z (by_z (upto_plus (upto_plus (h 7) (by_y (h 8))) (by_z (h 9)))))

  -- by the coefficients' own sizes
  pub bicubic_size : (k : List ℤ) → nat_abs (bicubic k y z) ≤ size a b (λ i. nat_abs (coefficient k i))
  bicubic_size k = (bicubic_upto k (λ i. nat_abs (coefficient k i)) (λ i. record { most = le_refl _ })).most

  -- by one size for all
  pub bicubic_size_all : (k : List ℤ) (s : ℕ) → ((i : ℕ) → nat_abs (coefficient k i) ≤ s) → nat_abs (bicubic k y z) ≤ size a b (λ i. s)
  bicubic_size_all k s h = (bicubic_upto k (λ i. s) (λ i. record { most = h i })).most
