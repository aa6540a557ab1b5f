-- Powers: of a product, of a power, their order, those of ten, and two bounds of Bernoulli's kind. Assumes nothing.
use mathlib.Core.Path.{◌≡◌, refl, sym, ap, ◌∙◌}
use mathlib.Core.Bool.{Bool, true, false}
use Prim.Native.Nat.{ℕ, zero, suc, ◌+◌, ◌*◌, ◌^◌, ◌≤◌, ◌<◌}
use native.Mathlib.Nat.{mul-le-mul_left, mul-le-mul_right, pow-le-pow_left, pow-lt-pow_left, pow-le-pow_right, pow-zero, pow-suc, mul-zero, mul-suc, mul_comm, one-le-pow}
use native.Mathlib.Omega.{arith}
use lib.Dec.{leb, lit<}
use borrow.Author.Tests.{leb-true, leb-false}
use lib.Pow.{pow-add}

pub mul_pow : (a b n : ℕ) → (a * b) ^ n ≡ a ^ n * b ^ n
mul_pow a b zero = rw (pow-zero (a * b), pow-zero a, pow-zero b)
mul_pow a b (suc n) = rw (pow-suc (a * b) n, pow-suc a n, pow-suc b n, mul_pow a b n) (omega arith)

pub pow_mul : (a m n : ℕ) → a ^ (m * n) ≡ (a ^ m) ^ n
pow_mul a m zero = rw (mul-zero m, pow-zero a, pow-zero (a ^ m))
pow_mul a m (suc n) = rw (mul-suc m n, pow-add a (m * n) m, pow-suc (a ^ m) n, pow_mul a m n)

pub pow_one : (a : ℕ) → a ^ 1 ≡ a
pow_one a = pow-suc a 0 ∙ rw (pow-zero a) (omega arith)

pub one_pow : (n : ℕ) → 1 ^ n ≡ 1
one_pow zero = pow-zero 1
one_pow (suc n) = pow-suc 1 n ∙ rw (one_pow n)

pub pow_swap : (a m n : ℕ) → (a ^ m) ^ n ≡ (a ^ n) ^ m
pow_swap a m n = sym (pow_mul a m n) ∙ ap (λ (e : ℕ). a ^ e) (mul_comm m n) ∙ pow_mul a n m

pub lt_pow : (x y q : ℕ) → 0 < q → x < y → x ^ q < y ^ q
lt_pow x y q p h = pow-lt-pow_left h (λ e. omega arith)

-- a root keeps the order
pub le_root : (x y q : ℕ) → 0 < q → x ^ q ≤ y ^ q → x ≤ y
le_root x y q p h = go (leb x y) refl
  where
    go : (b : Bool) → leb x y ≡ b → x ≤ y
    go true e = omega (arith, leb-true x y e)
    go false e = let l : y < x = omega (arith, leb-false x y e) in omega (arith, lt_pow y x q p l)

pub lt_root : (x y q : ℕ) → x ^ q < y ^ q → x < y
lt_root x y q h = go (leb y x) refl
  where
    go : (b : Bool) → leb y x ≡ b → x < y
    go true e = let l : y ≤ x = omega (arith, leb-true y x e) in omega (arith, pow-le-pow_left l q)
    go false e = omega (arith, leb-false y x e)

pub ten_pos : (a : ℕ) → 0 < 10 ^ a
ten_pos a = one-le-pow a 10 (lit< tt)

-- powers of ten lie as their exponents do
pub ten_lt : (a b : ℕ) → a < b → 10 ^ a < 10 ^ b
ten_lt a b h = omega (arith, rw (pow-suc 10 a) at (pow-le-pow_right {n = 10} (lit< tt) h), ten_pos a)

pub lt_of_ten : (a b : ℕ) → 10 ^ a < 10 ^ b → a < b
lt_of_ten a b h = go (leb b a) refl
  where
    go : (c : Bool) → leb b a ≡ c → a < b
    go true e = let l : b ≤ a = omega (arith, leb-true b a e) in omega (arith, pow-le-pow_right {n = 10} (lit< tt) l)
    go false e = omega (arith, leb-false b a e)

-- 1 + q / w is at most (1 + 1 / w) ^ q
pub bernoulli : (w q : ℕ) → (w + q) * w ^ q ≤ w * (w + 1) ^ q
bernoulli w zero = rw (pow-zero w, pow-zero (w + 1)) (omega arith)
bernoulli w (suc q) =
    rw (pow-suc w q, pow-suc (w + 1) q)
    (let ih = bernoulli w q in
    omega (arith, mul-le-mul_right (w + 1) ih))

-- (1 + 1 / s) ^ c is at most (s + 1) / (s + 1 - c)
pub bernoulli_inverse : (s c r : ℕ) → c + r ≡ s + 1 → (s + 1) ^ c * r ≤ s ^ c * (s + 1)
bernoulli_inverse s zero r h = rw (pow-zero (s + 1), pow-zero s) (omega arith)
bernoulli_inverse s (suc c) r h =
    rw (pow-suc (s + 1) c, pow-suc s c)
    (let ih = bernoulli_inverse s c (r + 1) (omega arith) in
    let le : r ≤ s = omega arith in
    omega (arith, mul-le-mul_left ((s + 1) ^ c) le, mul-le-mul_left s ih))
