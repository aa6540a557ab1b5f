-- The ideal weight of a minus transition moves by at most half of what its argument moves, where S is at least 4: from 1.5 on.
-- So a weight that is near the ideal one at a rounded exponent is near the ideal one at the exact exponent.
use mathlib.Core.Path.{◌≡◌, ap, ◌∙◌, subst}
use Prim.Native.Nat.{ℕ, zero, suc, ◌+◌, ◌*◌, ◌^◌, ◌≤◌, ◌<◌}
use native.Mathlib.Nat.{le_refl, mul-le-mul_left, mul-le-mul_right, mul-pos, mul_comm, le_trans, one-le-pow, pow-succ'}
use native.Mathlib.Omega.{arith}
use lib.IntN.{ℤ, pos, negsuc, neg_ℤ, nat_abs}
use Rattle.integer.specs.Z.{up, dn, neg_up, neg_dn, zs, v, ≤-of}
use Rattle.integer.specs.Laws.{abs_neg}
use Rattle.fraction.specs.Fraction.{Fraction, Within, whole, parts, times}
use Rattle.weight.specs.Weight.{num, den, excess, minus_top, ideal_minus}
use Rattle.weight.proofs.Series.{pow_one, den_pos, num_mono, num_lip, sum_more, den_scaled, num_scaled}
use Rattle.weight.proofs.Tail.{sum_least}
use Rattle.weight.proofs.Lipschitz.{Moves, falls, cancel}
use Rattle.weight.proofs.Moved.{Weighed, closer, closer', by_low, by_high, q_low, q_high}
use Rattle.weight.proofs.Minus.{whole_sum}

-- ---- from 1.5 on the sum is at least 4
cube : (b u : ℕ) → 3 * b ≤ 2 * u → 4 * den b 3 ≤ num b u 3
unfolding num den
cube b u h = rw (pow-succ' u 2, pow-succ' u 1, pow_one u) by_terms
  where
    by_terms : 4 * (1 * (1 * b) * (2 * b) * (3 * b)) ≤ ((1 * (1 * b) + u) * (2 * b) + u * u) * (3 * b) + u * (u * u)
    by_terms = omega (arith, mul-le-mul_left (b * b) h, mul-le-mul_left (u * b) h, mul-le-mul_left (u * u) h)

four : (b u n : ℕ) → 0 < b → 3 * b ≤ 2 * u → 3 ≤ n → 4 * den b n ≤ num b u n
four b u n p h l = omega (arith, sum_least b 4 1 u u 3 n p (omega (arith, cube b u h)) (le_refl u) l)

three : (b u n : ℕ) → 0 < b → 3 * b ≤ 2 * u → 3 ≤ n → 3 * den b n ≤ excess b u n
three b u n p h l = omega (arith, four b u n p h l)

-- ---- over one bottom b: D / x is 1 / (S - 1)
core : (b d D m x y : ℕ) → y ≤ x + m → m * b ≤ d * (D + y) → 3 * D ≤ x → x ≤ y → Moves b d D x D y
core b d D m x y h k l e =
    omega (arith, mul-le-mul_left (2 * b * D) h, mul-le-mul_left (2 * D) k, mul-le-mul_left (d * y) l, mul-le-mul_left (d * D) (le_trans l e))

rises : (b a d n : ℕ) → 3 * den b n ≤ excess b a n → 3 ≤ n → Moves b d (den b n) (excess b a n) (den b n) (excess b (a + d) n)
rises b a d zero h l = let f : ⊥ = omega arith in absurd f
rises b a d (suc n) h l =
    let q : ℕ = num b (a + d) n in
    let x : ℕ = excess b a (suc n) in
    let y : ℕ = excess b (a + d) (suc n) in
    core b d (den b (suc n)) (suc n * (d * q)) x y
    (omega (arith, num_lip b a d n, whole_sum b a (suc n), whole_sum b (a + d) (suc n)))
    (omega (arith, mul-le-mul_left d (sum_more b (a + d) n), ap (λ (t : ℕ). d * t) (whole_sum b (a + d) (suc n))))
    h
    (omega (arith, num_mono b (suc n) {u = a} {v = a + d} (omega arith), whole_sum b a (suc n), whole_sum b (a + d) (suc n)))

one_bottom : (n b d u w : ℕ) → 3 ≤ n → 3 * den b n ≤ excess b u n → w ≤ u + d → Moves b d (den b n) (excess b u n) (den b n) (excess b w n)
one_bottom n b d u w l h k = falls b d (den b n) u w (λ v. excess b v n) (λ m. rises b u m n h l) (λ i. omega (arith, num_mono b n i)) k

-- ---- over two bottoms: u / a is u·b / a·b
excess_scaled : (n u b c : ℕ) → excess (b * c) (u * c) n ≡ excess b u n * c ^ n
excess_scaled n u b c =
    omega (arith, den_scaled b c n, num_scaled b u c n, whole_sum (b * c) (u * c) n, ap (λ (x : ℕ). x * c ^ n) (whole_sum b u n))

two_bottoms : (n a b d u w : ℕ) → 0 < a → 0 < b → 3 ≤ n → 3 * a ≤ 2 * u → w * a ≤ u * b + d
    → Moves (a * b) d (den a n) (excess a u n) (den b n) (excess b w n)
two_bottoms n a b d u w ha hb l h k =
    cancel (a * b) d (den a n) (excess a u n) (den b n) (excess b w n) (b ^ n) (a ^ n) (one-le-pow n b hb) (one-le-pow n a ha)
    (subst (λ (x : ℕ). Moves (a * b) d (den a n * b ^ n) (excess a u n * b ^ n) x (excess b w n * a ^ n)) den_is
    (subst (λ (x : ℕ). Moves (a * b) d (den a n * b ^ n) (excess a u n * b ^ n) (den (a * b) n) x) excess_is
    (subst (λ (x : ℕ). Moves (a * b) d x (excess a u n * b ^ n) (den (a * b) n) (excess (a * b) (w * a) n)) (den_scaled a b n)
    (subst (λ (x : ℕ). Moves (a * b) d (den (a * b) n) x (den (a * b) n) (excess (a * b) (w * a) n)) (excess_scaled n u a b)
    (one_bottom n (a * b) d (u * b) (w * a) l (three (a * b) (u * b) n (mul-pos ha hb) (omega (arith, mul-le-mul_right b h)) l) k)))))
  where
    den_is : den (a * b) n ≡ den b n * a ^ n
    den_is = ap (λ (x : ℕ). den x n) (mul_comm a b) ∙ den_scaled b a n

    excess_is : excess (a * b) (w * a) n ≡ excess b w n * a ^ n
    excess_is = ap (λ (x : ℕ). excess x (w * a) n) (mul_comm a b) ∙ excess_scaled n w b a

-- ---- m / u and g / r·u are at most e / u apart, and both are at least 1.5
module _ (n u e m g r : ℕ) (hu : 0 < u) (hr : 0 < r) (l : 3 ≤ n) (far : 3 * u + 2 * e ≤ 2 * m) (low : m * r ≤ g + e * r) (high : g ≤ (m + e) * r) where
  abbrev D : ℕ
  D = den u n

  abbrev x : ℕ
  x = excess u m n

  abbrev D' : ℕ
  D' = den (r * u) n

  abbrev x' : ℕ
  x' = excess (r * u) g n

  down_by : 2 * u * (D * x') ≤ 2 * u * (D' * x) + e * (x * x')
  down_by =
      closer u r e D x D' x' hu hr
      (two_bottoms n u (r * u) (u * (e * r)) m g hu (mul-pos hr hu) l (omega arith) (omega (arith, mul-le-mul_right u high)))

  up_by : 2 * u * (D' * x) ≤ 2 * u * (D * x') + e * (x * x')
  up_by =
      closer' u r e D x D' x' hu hr
      (two_bottoms n (r * u) u (u * (e * r)) g m (mul-pos hr hu) hu l (omega (arith, mul-le-mul_right r far)) (omega (arith, mul-le-mul_right u low)))

  -- the same for S / (S - 1)
  down_whole : 2 * u * (num u m n * x') ≤ 2 * u * (num (r * u) g n * x) + e * (x * x')
  down_whole =
      omega (
        arith,
        down_by,
        ap (λ (t : ℕ). u * t * x') (whole_sum u m n),
        ap (λ (t : ℕ). u * t * x) (whole_sum (r * u) g n),
      )

  up_whole : 2 * u * (num (r * u) g n * x) ≤ 2 * u * (num u m n * x') + e * (x * x')
  up_whole =
      omega (
        arith,
        up_by,
        ap (λ (t : ℕ). u * t * x') (whole_sum u m n),
        ap (λ (t : ℕ). u * t * x) (whole_sum (r * u) g n),
      )

-- the exact exponent too is at least 1.5
exact_far : (u e : ℕ) (q z : ℤ) (b : ℕ) → 3 * u + 2 * e ≤ 2 * nat_abs q → up q * b + dn z ≤ up z + (dn q + e) * b → up z + dn q * b ≤ dn z + (up q + e) * b
    → 3 * (b * u) ≤ 2 * nat_abs z
exact_far u e (pos m) (pos g) b far low high = omega (arith, mul-le-mul_right b far)
exact_far u e (pos m) (negsuc g) b far low high = omega (arith, mul-le-mul_right b far)
exact_far u e (negsuc m) (pos g) b far low high = omega (arith, mul-le-mul_right b far)
exact_far u e (negsuc m) (negsuc g) b far low high = omega (arith, mul-le-mul_right b far)

-- so its ideal weight is proper, and at most 2 in size
pub record Sized (n : ℕ) (z : ℤ) (b : ℕ) : Type 0 where
  pub some : 0 < excess b (nat_abs z) n
  pub most : nat_abs (minus_top n z b) ≤ 2 * excess b (nat_abs z) n

sized : (n : ℕ) (z : ℤ) (b : ℕ) → 0 < b → 3 ≤ n → 3 * b ≤ 2 * nat_abs z → Sized n z b
sized n (pos u) b p l h =
    record { some = omega (arith, three b u n p h l, den_pos b n p); most = rw (abs_neg (pos (den b n))) (omega (arith, three b u n p h l)) }
sized n (negsuc u) b p l h =
    record {
      some = omega (arith, three b (suc u) n p h l, den_pos b n p);
      most = omega (arith, three b (suc u) n p h l, whole_sum b (suc u) n);
    }

pub minus_size : (n u e : ℕ) → 0 < u → 3 ≤ n → (q : ℤ) (f : Fraction) → Within e q f → 3 * u + 2 * e ≤ 2 * nat_abs q → Sized n f.top (f.bottom * u)
minus_size n u e hu l q f r far =
    sized n f.top (f.bottom * u) (mul-pos r.proper.some hu) l (exact_far u e q f.top f.bottom far (q_low q f r) (q_high q f r))

-- what is near -t / d, by what is near t / d
turned : (c u t d : ℕ) (w : ℤ) → 2 * (u * t) + 2 * (up w * d) ≤ (2 * dn w + c) * d → 2 * (dn w * d) ≤ 2 * (u * t) + (2 * up w + c) * d → Weighed c u w (neg_ℤ (pos t)) d
turned c u t d w h k = record { low = rw (neg_up (pos t), neg_dn (pos t)) (omega arith); high = rw (neg_up (pos t), neg_dn (pos t)) (omega arith) }

-- ---- with the signs: z / b rounds to q, both in parts of 1 / u
module _ (n u k e : ℕ) (w : ℤ) (hu : 0 < u) (l : 3 ≤ n) where
  signed : (q z : ℤ) (b : ℕ) → 0 < b → 3 * u + 2 * e ≤ 2 * nat_abs q
      → up q * b + dn z ≤ up z + (dn q + e) * b → up z + dn q * b ≤ dn z + (up q + e) * b
      → Within k w (times (whole (pos u)) (ideal_minus n (parts u q)))
      → Weighed (2 * k + e) u w (minus_top n z (b * u)) (excess (b * u) (nat_abs z) n)
  unfolding ideal_minus
  signed (pos m) (pos g) b hb far low high near =
      let vw = v w in
      let s : 0 < excess u m n = omega (arith, near.proper.some) in
      let i : u * den u n + up w * excess u m n ≤ (dn w + k) * excess u m n = omega (arith, ≤-of (search zs) near.low) in
      let j : dn w * excess u m n ≤ u * den u n + (up w + k) * excess u m n = omega (arith, ≤-of (search zs) near.high) in
      turned (2 * k + e) u (den (b * u) n) (excess (b * u) g n) w
      (by_low u k e (dn w) (up w) (den u n) (excess u m n) (den (b * u) n) (excess (b * u) g n) s i
      (up_by n u e m g b hu hb l far (omega arith) (omega arith)))
      (by_high u k e (dn w) (up w) (den u n) (excess u m n) (den (b * u) n) (excess (b * u) g n) s j
      (down_by n u e m g b hu hb l far (omega arith) (omega arith)))
  signed (pos m) (negsuc g) b hb far low high near =
      let h : e + 1 ≤ m = omega arith in
      let f : ⊥ = omega (arith, mul-le-mul_right b h) in absurd f
  signed (negsuc m) (pos g) b hb far low high near =
      let h : e + 1 ≤ suc m = omega arith in
      let f : ⊥ = omega (arith, mul-le-mul_right b h) in absurd f
  signed (negsuc m) (negsuc g) b hb far low high near =
      let vw = v w in
      let s : 0 < excess u (suc m) n = omega (arith, near.proper.some) in
      let i : u * num u (suc m) n + dn w * excess u (suc m) n ≤ (up w + k) * excess u (suc m) n = omega (arith, ≤-of (search zs) near.high) in
      let j : up w * excess u (suc m) n ≤ u * num u (suc m) n + (dn w + k) * excess u (suc m) n = omega (arith, ≤-of (search zs) near.low) in
      record {
        low =
            omega (
              arith,
              by_low u k e (up w) (dn w) (num u (suc m) n) (excess u (suc m) n) (num (b * u) (suc g) n) (excess (b * u) (suc g) n) s i
                  (up_whole n u e (suc m) (suc g) b hu hb l far (omega arith) (omega arith)),
            );
        high =
            omega (
              arith,
              by_high u k e (up w) (dn w) (num u (suc m) n) (excess u (suc m) n) (num (b * u) (suc g) n) (excess (b * u) (suc g) n) s j
                  (down_whole n u e (suc m) (suc g) b hu hb l far (omega arith) (omega arith)),
            );
      }

  pub moved_minus : (q : ℤ) (f : Fraction) → Within e q f → 3 * u + 2 * e ≤ 2 * nat_abs q → Within k w (times (whole (pos u)) (ideal_minus n (parts u q)))
      → Weighed (2 * k + e) u w (minus_top n f.top (f.bottom * u)) (excess (f.bottom * u) (nat_abs f.top) n)
  moved_minus q f r far near = signed q f.top f.bottom r.proper.some far (q_low q f r) (q_high q f r) near
