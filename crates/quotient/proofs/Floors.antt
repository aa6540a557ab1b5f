-- Quotients that are rounded down: of a product whose first factor is split, of a quotient, and how large they are.
use mathlib.Core.Path.{◌≡◌, sym, ap, subst}
use Prim.Native.Nat.{ℕ, ◌+◌, ◌-◌, ◌*◌, ◌/◌, ◌≤◌, ◌<◌}
use native.Mathlib.Nat.{le-suc, div-mul-le_self, lt-div-mul-add, lt_of_mul-lt-mul_right, div-div-eq-div-mul, div-le_of_le-mul}
use native.Mathlib.Omega.{arith}
use lib.IntN.{ℤ, pos, negsuc, nat_abs, ◌+ℤ◌, ◌-ℤ◌, ◌*ℤ◌}
use lib.Signed.{shr_z}
use Rattle.integer.specs.Z.{zs, v}
use Rattle.integer.specs.Laws.{abs_by, abs_is}
use Rattle.integer.specs.Floor.{Down, down, down_unique, down_by, down_lo_of, down_hi_of}

-- a quotient that is named
pub is_down : {q : ℤ} (a : ℤ) (m : ℕ) → 0 < m → q ≡ shr_z a m → Down q a m
is_down a m h e = subst (λ (q : ℤ). Down q a m) (sym e) (down a m h)

-- with any h for the first factor's quotient
pub split : (a b h s : ℤ) (m : ℕ) → 0 < m → s ≡ shr_z ((a -ℤ h *ℤ pos m) *ℤ b) m → h *ℤ b +ℤ s ≡ shr_z (a *ℤ b) m
split a b h s m hm e =
    let va = v a in let vb = v b in let vh = v h in let vs = v s in
    let d : Down s ((a -ℤ h *ℤ pos m) *ℤ b) m = is_down ((a -ℤ h *ℤ pos m) *ℤ b) m hm e in
    down_unique (a *ℤ b) m hm
    (down_by (search zs) (search zs)
    (omega (arith, down_lo_of (search zs) (search zs) d))
    (omega (arith, down_hi_of (search zs) (search zs) d)))

-- a quotient of a quotient
pub twice : (x : ℤ) (m n : ℕ) → shr_z (shr_z x m) n ≡ shr_z x (m * n)
twice (pos x) m n = ap pos (div-div-eq-div-mul x m n)
twice (negsuc x) m n = ap negsuc (div-div-eq-div-mul x m n)

-- ---- sizes
pub quotient_mono : (m : ℕ) {a b : ℕ} → 0 < m → a ≤ b → a / m ≤ b / m
quotient_mono m {a} {b} h k =
    let l : (a / m) * m < (b / m + 1) * m = omega (arith, div-mul-le_self a m, lt-div-mul-add {a = b} h) in
    omega (arith, lt_of_mul-lt-mul_right m l)

pub quotient_size : (a : ℤ) (m : ℕ) → 0 < m → nat_abs (shr_z a m) ≤ nat_abs a / m + 1
quotient_size (pos a) m h = omega arith
quotient_size (negsuc a) m h = omega (arith, quotient_mono m h (le-suc a))

pub rest_size : (a h : ℤ) (m : ℕ) → Down h a m → nat_abs (a -ℤ h *ℤ pos m) < m
rest_size a h m d =
    let va = v a in let vh = v h in
    let some : 1 ≤ m = omega (arith, d.lo, d.hi) in
    omega (arith, abs_by (a -ℤ h *ℤ pos m) (search zs) (m - 1) (omega (arith, d.lo, d.hi)) (omega (arith, d.lo, d.hi)))

pub product_size : (h a : ℤ) (m : ℕ) → Down h a m → nat_abs h * m ≤ nat_abs a + m
product_size (pos h) a m d = omega (arith, d.lo, d.hi, abs_is a)
product_size (negsuc h) a m d = omega (arith, d.lo, d.hi, abs_is a)

-- of a number of at most s times m
pub quotient_upto : (x : ℤ) (s m : ℕ) → 0 < m → nat_abs x ≤ s * m → nat_abs (shr_z x m) ≤ s
quotient_upto (pos x) s m h k = div-le_of_le-mul m (omega arith)
quotient_upto (negsuc x) s m h k =
    let l : (x / m) * m < s * m = omega (arith, div-mul-le_self x m) in lt_of_mul-lt-mul_right m l
