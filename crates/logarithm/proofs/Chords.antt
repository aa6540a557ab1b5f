-- The chord between two points of the table: below the logarithm, and at most 1,039 units of 10 ^ -10 below. Assumes nothing.
use mathlib.Core.Path.{◌≡◌, refl, ap, ◌∙◌, subst}
use Prim.Native.Nat.{ℕ, ◌+◌, ◌-◌, ◌*◌, ◌/◌, ◌^◌, ◌≤◌, ◌<◌}
use native.Mathlib.Nat.{mul-le-mul, mul-le-mul_right, pow-le-pow_left, mul-pos, one-le-pow}
use native.Mathlib.Omega.{arith}
use lib.Dec.{lit<}
use lib.ListN.{get_or}
use Rattle.logarithm.specs.Choice.{points, rises, chord_of}
use Rattle.logarithm.proofs.Powers.{mul_pow, pow_swap}
use Rattle.logarithm.proofs.Mean.{mean, above, mean_low, mean_high}
use Rattle.logarithm.proofs.Bounds.{Lo, Hi}
use Rattle.logarithm.proofs.Points.{Segment, segment_at, room}

wide : (G s v R k : ℕ) → G * s ^ k ≤ v ^ k → G * (s * R) ^ k ≤ (v * R) ^ k
wide G s v R k h = rw (mul_pow s R k, mul_pow v R k) (omega (arith, mul-le-mul_right (R ^ k) h))

narrow : (G s v R k : ℕ) → v ^ k ≤ G * s ^ k → (v * R) ^ k ≤ G * (s * R) ^ k
narrow G s v R k h = rw (mul_pow s R k, mul_pow v R k) (omega (arith, mul-le-mul_right (R ^ k) h))

chord_low : (k s v r c a b g : ℕ) → 0 < v → 0 < c + r → Lo k a v s → Lo k b (v + 1) s → g * (c + r) ≤ a * c + b * r → Lo k g (v * (c + r) + r) (s * (c + r))
unfolding Lo
chord_low k s v r c a b g o p x y l =
    let R = c + r in
    let n = v * R in
    let e : n + r + c ≡ (v + 1) * R = omega arith in
    let i : r + c ≡ c + r = omega arith in
    let m₀ = rw (e, i) at (mean n r c (mul-pos o p)) in
    let m = rw (mul_pow (n ^ c) (((v + 1) * R) ^ r) k, pow_swap n c k, pow_swap ((v + 1) * R) r k, pow_swap (n + r) R k) at (pow-le-pow_left m₀ k) in
    mean_low ((s * R) ^ k) (n ^ k) (((v + 1) * R) ^ k) ((n + r) ^ k) a b g c r p (wide (10 ^ a) s v R k x) (wide (10 ^ b) s (v + 1) R k y) m l

chord_high : (k s v r c q a b h g : ℕ) → 1024 ≤ v → 0 < q → c + r ≡ 4 * q → Hi k a v s → Hi k b (v + 1) s → Hi k h 4194304 4194303
    → a * c + b * r + h * (c + r) ≤ g * (c + r) → Hi k g (v * (c + r) + r) (s * (c + r))
unfolding Hi
chord_high k s v r c q a b h g o p e x y z l =
    let R = c + r in
    let n = v * R in
    let Rp : 0 < R = omega arith in
    let m = rw (mul_pow ((n + r) ^ R) (4194303 ^ R) k, mul_pow (n ^ c * ((v + 1) * R) ^ r) (4194304 ^ R) k, mul_pow (n ^ c) (((v + 1) * R) ^ r) k, pow_swap n c k, pow_swap ((v + 1) * R) r k, pow_swap (n + r) R k, pow_swap 4194303 R k, pow_swap 4194304 R k) at (pow-le-pow_left (above v r c q o p e) k) in
    mean_high ((s * R) ^ k) (n ^ k) (((v + 1) * R) ^ k) ((n + r) ^ k) (4194304 ^ k) (4194303 ^ k) a b h g c r Rp (one-le-pow k 4194303 (lit< tt))
    (narrow (10 ^ a) s v R k x) (narrow (10 ^ b) s (v + 1) R k y) z m l

lo_chord : (k s v R r c a b g : ℕ) → c + r ≡ R → 0 < v → 0 < R → Lo k a v s → Lo k b (v + 1) s → g * R ≤ a * c + b * r → Lo k g (v * R + r) (s * R)
lo_chord k s v R r c a b g e o p x y l =
    subst (λ (q : ℕ). Lo k g (v * q + r) (s * q)) e (chord_low k s v r c a b g o (rw e p) x y (rw e l))

hi_chord : (k s v R r c q a b h g : ℕ) → c + r ≡ R → R ≡ 4 * q → 1024 ≤ v → 0 < q → Hi k a v s → Hi k b (v + 1) s → Hi k h 4194304 4194303
    → a * c + b * r + h * R ≤ g * R → Hi k g (v * R + r) (s * R)
hi_chord k s v R r c q a b h g e f o p x y z l =
    subst (λ (q : ℕ). Hi k g (v * q + r) (s * q)) e (chord_high k s v r c q a b h g o p (e ∙ f) x y z (rw e l))

-- what a chord gives, for the numbers from v to v + 1
pub record Chord (i r g : ℕ) : Type 0 where
  pub low : Lo 10000000000 g ((1024 + i) * 4294967296 + r) 4398046511104
  pub high : Hi 10000000000 (g + 1039) ((1024 + i) * 4294967296 + r + 1) 4398046511104
  pub most : g ≤ 200000000

-- the slope is small, so the product fits
pub slope_most : (r d : ℕ) → r < 4294967296 → d ≤ 10000000 → r * d ≤ 42949672960000000
slope_most r d h l = omega (arith, mul-le-mul {n₁ = r} {m₁ = d} {n₂ = 4294967296} {m₂ = 10000000} (omega arith) l)

-- the chord stays below its right end
slope_under : (r d : ℕ) → r < 4294967296 → r * d / 4294967296 ≤ d
slope_under r d h = omega (arith, mul-le-mul_right d (le h))
  where
    le : {r : ℕ} → r < 4294967296 → r ≤ 4294967296
    le h = omega arith

on_chord : (i r a d : ℕ) → r < 4294967296 → Segment i a d → Chord i r (a + r * d / 4294967296)
on_chord i r a d h s =
    let m = r * d / 4294967296 in
    let c : ℕ = 4294967296 - r in
    let c' : ℕ = 4294967295 - r in
    let v : ℕ = 1024 + i in
    let lo : m * 4294967296 ≤ r * d = omega arith in
    let hi : r * d < m * 4294967296 + 4294967296 = omega arith in
    let rc : c + r ≡ 4294967296 = omega arith in
    let rc' : c' + (r + 1) ≡ 4294967296 = omega arith in
    let under : (a + m) * 4294967296 ≤ a * c + (a + d) * r = omega (arith, ap (λ (x : ℕ). a * x) rc) in
    let over : (a + 1) * c' + (a + d + 1) * (r + 1) + 1036 * 4294967296 ≤ (a + m + 1039) * 4294967296 =
    omega (arith, s.small, ap (λ (x : ℕ). a * x) rc') in
    let ev : v * 4294967296 + (r + 1) ≡ v * 4294967296 + r + 1 = omega arith in
    record {
      low = lo_chord 10000000000 1024 v 4294967296 r c a (a + d) (a + m) rc (omega arith) (lit< tt) s.left_low s.right_low under;
      high = subst (λ (x : ℕ). Hi 10000000000 (a + m + 1039) x 4398046511104) ev
          (hi_chord 10000000000 1024 v 4294967296 (r + 1) c' 1073741824 (a + 1) (a + d + 1) 1036 (a + m + 1039) rc' refl (omega arith) (lit< tt) s.left_high s.right_high room over);
      most = omega (arith, slope_under r d h, s.most);
    }

pub chord_is : (i r : ℕ) → i < 32 → r < 4294967296 → Chord i r (chord_of i r)
unfolding chord_of
chord_is i r hi hr = on_chord i r (get_or points i 0) (get_or rises i 0) hr (segment_at i hi)
