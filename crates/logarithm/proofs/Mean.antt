-- The weighted mean of two numbers against the product of their powers: it is at least that, and by how much at most. Assumes nothing.
use mathlib.Core.Path.{◌≡◌, refl, sym, ap, ◌∙◌, subst}
use Prim.Native.Nat.{ℕ, ◌+◌, ◌-◌, ◌*◌, ◌^◌, ◌≤◌, ◌<◌}
use native.Mathlib.Nat.{le_trans, mul-le-mul, mul-le-mul_left, mul-le-mul_right, pow-le-pow_left, pow-le-pow_right, mul_comm, mul-pos, one-le-pow, le_of_mul-le-mul_right}
use native.Mathlib.Omega.{arith}
use mathlib.Core.Bool.{Bool, true, false}
use lib.Dec.{leb, lit<, lit≤}
use borrow.Author.Tests.{leb-true, leb-false}
use lib.Pow.{pow-add}
use Rattle.logarithm.proofs.Powers.{mul_pow, pow_mul, pow_swap, le_root, bernoulli, bernoulli_inverse}

-- ---- the mean of u, q times, and u + p + q, p times, is u + p

pub mean : (u p q : ℕ) → 0 < u → u ^ q * (u + p + q) ^ p ≤ (u + p) ^ (p + q)
mean u p q o =
    let w = u + p in
    let wp : 0 < w = omega arith in
    let a = rw (mul_pow (w + q) (w ^ q) p, mul_pow w ((w + 1) ^ q) p, pow_swap w q p, pow_swap (w + 1) q p) at (pow-le-pow_left (bernoulli w q) p) in
    let b = rw (mul_pow ((w + 1) ^ p) u q, mul_pow (w ^ p) w q) at (pow-le-pow_left (less ((w + 1) ^ p) (w ^ p) (bernoulli_inverse w p (u + 1) (omega arith))) q) in
    rw (pow-add w p q) (cancel ((w + q) ^ p) (u ^ q) ((w ^ p) ^ q) (w ^ p) (((w + 1) ^ p) ^ q) (w ^ q) (one-le-pow q (w ^ p) (one-le-pow p w wp)) a b)
  where
    less : (x y : ℕ) → x * (u + 1) ≤ y * (u + p + 1) → x * u ≤ y * (u + p)
    less x y h =
        let l : (u + p + 1) * u ≤ (u + p) * (u + 1) = omega arith in
        le_of_mul-le-mul_right {k = u + 1} (omega (arith, mul-le-mul_right u h, mul-le-mul_left y l)) (omega arith)

    cancel : (X U P A C Q : ℕ) → 0 < P → X * P ≤ A * C → C * U ≤ P * Q → U * X ≤ A * Q
    cancel X U P A C Q o a b = le_of_mul-le-mul_right {k = P} (omega (arith, mul-le-mul_left U a, mul-le-mul_left A b)) o

-- ---- and the power of n + r is not much more

pow_rc : (a r c : ℕ) → (a ^ r) ^ c ≡ a ^ (c * r)
pow_rc a r c = sym (pow_mul a r c) ∙ ap (λ (e : ℕ). a ^ e) (mul_comm r c)

mean_gap : (n r c t m : ℕ) → 0 < n → c + r ≡ t + 1 → m * (t + 1) ≤ n * n
    → (n + r) ^ (c + r) * m ^ (c * r) ≤ n ^ c * (n + t + 1) ^ r * (m + 1) ^ (c * r)
mean_gap n r c t m o e h =
    let a = rw (mul_pow (n + r) (n ^ r) c, mul_pow n ((n + 1) ^ r) c, pow_rc n r c, pow_rc (n + 1) r c) at (pow-le-pow_left (bernoulli n r) c) in
    let b = rw (mul_pow ((n + t + 1) ^ c) (n + r) r, mul_pow ((n + t) ^ c) (n + t + 1) r, ← (pow_mul (n + t + 1) c r), ← (pow_mul (n + t) c r)) at (pow-le-pow_left (bernoulli_inverse (n + t) c (n + r) (omega arith)) r) in
    let l : (n + 1) * (n + t) * m ≤ n * (n + t + 1) * (m + 1) = omega arith in
    let d = rw (mul_pow ((n + 1) * (n + t)) m (c * r), mul_pow (n + 1) (n + t) (c * r), mul_pow (n * (n + t + 1)) (m + 1) (c * r), mul_pow n (n + t + 1) (c * r)) at (pow-le-pow_left l (c * r)) in
    rw (pow-add (n + r) c r)
    (cancel ((n + r) ^ c) ((n + r) ^ r) (n ^ (c * r)) ((n + 1) ^ (c * r)) ((n + t) ^ (c * r)) ((n + t + 1) ^ (c * r)) (m ^ (c * r)) ((m + 1) ^ (c * r)) (n ^ c) ((n + t + 1) ^ r)
    (mul-pos (one-le-pow (c * r) n o) (one-le-pow (c * r) (n + t + 1) (omega arith))) a b d)
  where
    cancel : (X W A B C D M M' N S : ℕ) → 0 < A * D → X * A ≤ N * B → D * W ≤ C * S → B * C * M ≤ A * D * M' → X * W * M ≤ N * S * M'
    cancel X W A B C D M M' N S o a b d =
        le_of_mul-le-mul_right {k = A * D} (omega (arith, mul-le-mul_right M (mul-le-mul a b), mul-le-mul_left (N * S) d)) o

gap_most : (m q e f s R x y : ℕ) → q + s ≡ m + 1 → 0 < s → 0 < m → (m + 1) * f ≤ e * s → x + y ≡ q * R → (m + 1) ^ x * f ^ R ≤ m ^ x * e ^ R
gap_most m q e f s R x y i sp mp h j =
    let a = less ((m + 1) ^ q) (m ^ q) (bernoulli_inverse m q s i) in
    let b = rw (mul_pow ((m + 1) ^ q) f R, mul_pow (m ^ q) e R, ← (pow_mul (m + 1) q R), ← (pow_mul m q R), ← j, pow-add (m + 1) x y, pow-add m x y) at (pow-le-pow_left a R) in
    let l : m ≤ m + 1 = omega arith in
    cancel ((m + 1) ^ x) ((m + 1) ^ y) (m ^ x) (m ^ y) (f ^ R) (e ^ R) (one-le-pow y m mp) (pow-le-pow_left l y) b
  where
    less : (u v : ℕ) → u * s ≤ v * (m + 1) → u * f ≤ v * e
    less u v g = le_of_mul-le-mul_right {k = s} (omega (arith, mul-le-mul_right f g, mul-le-mul_left v h)) sp

    cancel : (A B C D F E : ℕ) → 0 < D → D ≤ B → A * B * F ≤ C * D * E → A * F ≤ C * E
    cancel A B C D F E o l b = le_of_mul-le-mul_right {k = D} (omega (arith, mul-le-mul_left (A * F) l)) o

-- 4 * c * r is at most (c + r) ^ 2
quarter : (c r q : ℕ) → c + r ≡ 4 * q → c * r ≤ q * (c + r)
quarter c r q e = go (leb c r) refl
  where
    four : (c t : ℕ) → 4 * (c * (c + t)) ≤ (c + (c + t)) * (c + (c + t))
    four c t = omega arith

    grown : (c r t : ℕ) → r ≡ c + t → 4 * (c * r) ≤ (c + r) * (c + r)
    grown c r t i = subst (λ (x : ℕ). 4 * (c * x) ≤ (c + x) * (c + x)) (sym i) (four c t)

    go : (b : Bool) → leb c r ≡ b → c * r ≤ q * (c + r)
    go true i =
        let l : c ≤ r = omega (arith, leb-true c r i) in
        omega (arith, grown c r (r - c) (omega arith), ap (λ (x : ℕ). x * (c + r)) e)
    go false i =
        let l : r ≤ c = omega (arith, leb-false c r i) in
        omega (arith, grown r c (c - r) (omega arith), ap (λ (x : ℕ). x * (c + r)) e)

-- a unit of v is a part in 1024 at most
pub above : (v r c q : ℕ) → 1024 ≤ v → 0 < q → c + r ≡ 4 * q
    → (v * (c + r) + r) ^ (c + r) * 4194303 ^ (c + r) ≤ (v * (c + r)) ^ c * ((v + 1) * (c + r)) ^ r * 4194304 ^ (c + r)
above v r c q l o e =
    let R = c + r in
    let n = v * R in
    let m = 1048576 * R in
    let t = R - 1 in
    let et : c + r ≡ t + 1 = omega arith in
    let np : 0 < n = mul-pos (le_trans (lit≤ tt) l) (omega arith) in
    let mn : m * (t + 1) ≤ n * n = rw (← et) (omega (arith, mul-le-mul (mul-le-mul_right R l) (mul-le-mul_right R l))) in
    let en : n + t + 1 ≡ (v + 1) * R = omega arith in
    let a = rw en at (mean_gap n r c t m np et mn) in
    let i : q + (4194303 * q + 1) ≡ m + 1 = omega arith in
    let h : (m + 1) * 4194303 ≤ 4194304 * (4194303 * q + 1) = omega arith in
    let mp : 0 < m = omega arith in
    let sp : 0 < 4194303 * q + 1 = omega arith in
    let x = c * r in
    let j : x + (q * R - x) ≡ q * R = omega (arith, quarter c r q e) in
    let b = gap_most m q 4194304 4194303 (4194303 * q + 1) R x (q * R - x) i sp mp h j in
    cancel ((n + r) ^ R) (m ^ x) ((m + 1) ^ x) (n ^ c * ((v + 1) * R) ^ r) (4194303 ^ R) (4194304 ^ R) (one-le-pow x m mp) a b
  where
    cancel : (X M M' N F E : ℕ) → 0 < M → X * M ≤ N * M' → M' * F ≤ M * E → X * F ≤ N * E
    cancel X M M' N F E o a b = le_of_mul-le-mul_right {k = M} (omega (arith, mul-le-mul_right F a, mul-le-mul_left N b)) o

-- ---- in logarithms: g lies between a, c times, and b, r times

pub mean_low : (Z A B X a b g c r : ℕ) → 0 < c + r → 10 ^ a * Z ≤ A → 10 ^ b * Z ≤ B → A ^ c * B ^ r ≤ X ^ (c + r) → g * (c + r) ≤ a * c + b * r
    → 10 ^ g * Z ≤ X
mean_low Z A B X a b g c r o x y m l =
    le_root (10 ^ g * Z) X (c + r) o
    (rw (mul_pow (10 ^ g) Z (c + r), ← (pow_mul 10 g (c + r)), pow-add Z c r)
    (step (10 ^ (g * (c + r))) (10 ^ (a * c)) (10 ^ (b * r)) (Z ^ c) (Z ^ r) (A ^ c) (B ^ r) (X ^ (c + r))
    (rw (← (pow-add 10 (a * c) (b * r))) (pow-le-pow_right {n = 10} (lit< tt) l))
    (rw (mul_pow (10 ^ a) Z c, ← (pow_mul 10 a c)) at (pow-le-pow_left x c))
    (rw (mul_pow (10 ^ b) Z r, ← (pow_mul 10 b r)) at (pow-le-pow_left y r)) m))
  where
    step : (G P Q S T A B X : ℕ) → G ≤ P * Q → P * S ≤ A → Q * T ≤ B → A * B ≤ X → G * (S * T) ≤ X
    step G P Q S T A B X l x y m = omega (arith, mul-le-mul_right (S * T) l, mul-le-mul x y)

pub mean_high : (Z A B X E F a b h g c r : ℕ) → 0 < c + r → 0 < F → A ≤ 10 ^ a * Z → B ≤ 10 ^ b * Z → E ≤ 10 ^ h * F
    → X ^ (c + r) * F ^ (c + r) ≤ A ^ c * B ^ r * E ^ (c + r) → a * c + b * r + h * (c + r) ≤ g * (c + r)
    → X ≤ 10 ^ g * Z
mean_high Z A B X E F a b h g c r o f x y z m l =
    le_root X (10 ^ g * Z) (c + r) o
    (rw (mul_pow (10 ^ g) Z (c + r), ← (pow_mul 10 g (c + r)), pow-add Z c r)
    (step (10 ^ (g * (c + r))) (10 ^ (a * c)) (10 ^ (b * r)) (10 ^ (h * (c + r))) (Z ^ c) (Z ^ r) (A ^ c) (B ^ r) (X ^ (c + r)) (E ^ (c + r)) (F ^ (c + r))
    (one-le-pow (c + r) F f)
    (rw (← (pow-add 10 (a * c) (b * r)), ← (pow-add 10 (a * c + b * r) (h * (c + r)))) (pow-le-pow_right {n = 10} (lit< tt) l))
    (rw (mul_pow (10 ^ a) Z c, ← (pow_mul 10 a c)) at (pow-le-pow_left x c))
    (rw (mul_pow (10 ^ b) Z r, ← (pow_mul 10 b r)) at (pow-le-pow_left y r))
    (rw (mul_pow (10 ^ h) F (c + r), ← (pow_mul 10 h (c + r))) at (pow-le-pow_left z (c + r))) m))
  where
    step : (G P Q H S T A B X E F : ℕ) → 0 < F → P * Q * H ≤ G → A ≤ P * S → B ≤ Q * T → E ≤ H * F → X * F ≤ A * B * E → X ≤ G * (S * T)
    step G P Q H S T A B X E F o l x y z m =
        le_of_mul-le-mul_right {k = F} (omega (arith, mul-le-mul_right (S * T * F) l, mul-le-mul (mul-le-mul x y) z)) o
