-- How far a rounded value is from its exact fraction, built along the value: over any coefficients.
use mathlib.Core.Path.{◌≡◌, sym, ap₂, subst, subst₂}
use mathlib.Core.List.{List}
use Prim.Native.Nat.{ℕ, suc, ◌+◌, ◌*◌, ◌≤◌, ◌<◌}
use native.Mathlib.Nat.{mul-pos, mul_comm, mul-le-mul_right, mul-le-mul_left}
use native.Mathlib.Omega.{arith}
use lib.Dec.{lit<}
use lib.IntN.{ℤ, pos, negsuc, nat_abs, ◌+ℤ◌, ◌-ℤ◌, ◌*ℤ◌}
use lib.Signed.{◌≤ℤ◌, shr_z}
use Rattle.integer.specs.Z.{up, dn, Rep, zs, v, rep*, rep_pos, rep_negsuc, ≤-by, ≤-of, ≡-by}
use Rattle.integer.specs.Laws.{*ℤ-mono}
use Rattle.integer.specs.Floor.{Down, down, down_lo_of, down_hi_of}
use Rattle.fraction.specs.Fraction.{Fraction, Within, whole, parts, plus, minus, times, over}
use Rattle.quotient.specs.Mul.{mul}
use Rattle.bicubic.specs.Bicubic.{coefficient, gas1, gas2, gas3, gas4, bicubic, exponent}
use Rattle.bicubic.specs.Exact.{millionths, exactly, exact_gas1, exact_gas2, exact_gas3, exact_gas4, exact_bicubic, exact_exponent}

-- the two sides, in naturals
low_of : {k : ℕ} {w : ℤ} {f : Fraction} → Within k w f → up w * f.bottom + dn f.top ≤ up f.top + (dn w + k) * f.bottom
low_of {k} {w} {f} h = let vw = v w in let vt = v f.top in omega (arith, ≤-of (search zs) h.low)

high_of : {k : ℕ} {w : ℤ} {f : Fraction} → Within k w f → up f.top + dn w * f.bottom ≤ dn f.top + (up w + k) * f.bottom
high_of {k} {w} {f} h = let vw = v w in let vt = v f.top in omega (arith, ≤-of (search zs) h.high)

pub near_whole : (z : ℤ) → Within 0 z (whole z)
near_whole z =
    let vz = v z in record { proper = record { some = lit< tt }; low = ≤-by (search zs) (omega arith); high = ≤-by (search zs) (omega arith) }

pub near_plus : {c d : ℕ} {x y : ℤ} {f g : Fraction} → Within c x f → Within d y g → Within (c + d) (x +ℤ y) (plus f g)
near_plus {c} {d} {x} {y} {f} {g} h k =
    let vx = v x in let vy = v y in let vf = v f.top in let vg = v g.top in
    record {
      proper = record { some = mul-pos h.proper.some k.proper.some };
      low = ≤-by (search zs depth 9) (omega (arith, mul-le-mul_right g.bottom (low_of h), mul-le-mul_right f.bottom (low_of k)));
      high = ≤-by (search zs depth 9) (omega (arith, mul-le-mul_right g.bottom (high_of h), mul-le-mul_right f.bottom (high_of k)));
    }

-- a value of at most k away is at most more away
pub near_more : {c d : ℕ} {w : ℤ} {f : Fraction} → c ≤ d → Within c w f → Within d w f
near_more {c} {d} {w} {f} h k =
    let vw = v w in let vt = v f.top in
    let r = mul-le-mul_right f.bottom h in
    record { proper = k.proper; low = ≤-by (search zs) (omega (arith, low_of k)); high = ≤-by (search zs) (omega (arith, high_of k)) }

-- a product loses less than 1, and what was lost before grows at most m times, for a factor of at most m millions
module _ (c m : ℕ) (x : ℤ) (f : Fraction) (h : Within c x f) where
  by_pos : (a : ℕ) → a ≤ m * 1000000 → (q : ℤ) → Down q (x *ℤ pos a) 1000000 → Within (m * c + 1) q (times f (parts 1000000 (pos a)))
  by_pos a ha q d =
      let vx = v x in let vq = v q in let vf = v f.top in
      let b = f.bottom in
      let lo = mul-le-mul_right b (down_lo_of vq (rep* vx (rep_pos a)) d) in
      let hi = mul-le-mul_right b (down_hi_of vq (rep* vx (rep_pos a)) d) in
      let room = mul-le-mul_left (c * b) ha in
      record {
        proper = record { some = mul-pos h.proper.some (lit< tt) };
        low = ≤-by (search zs depth 9) (omega (arith, mul-le-mul_right a (low_of h)));
        high = ≤-by (search zs depth 9) (omega (arith, mul-le-mul_right a (high_of h)));
      }

  by_neg : (a : ℕ) → suc a ≤ m * 1000000 → (q : ℤ) → Down q (x *ℤ negsuc a) 1000000 → Within (m * c + 1) q (times f (parts 1000000 (negsuc a)))
  by_neg a ha q d =
      let vx = v x in let vq = v q in let vf = v f.top in
      let b = f.bottom in
      let lo = mul-le-mul_right b (down_lo_of vq (rep* vx (rep_negsuc a)) d) in
      let hi = mul-le-mul_right b (down_hi_of vq (rep* vx (rep_negsuc a)) d) in
      let room = mul-le-mul_left (c * b) ha in
      record {
        proper = record { some = mul-pos h.proper.some (lit< tt) };
        low = ≤-by (search zs depth 9) (omega (arith, mul-le-mul_right (suc a) (high_of h)));
        high = ≤-by (search zs depth 9) (omega (arith, mul-le-mul_right (suc a) (low_of h)));
      }

pub near_mul : {c : ℕ} {x : ℤ} {f : Fraction} (m : ℕ) (y : ℤ) → nat_abs y ≤ m * 1000000 → Within c x f → Within (m * c + 1) (mul x y) (times f (millionths y))
unfolding mul
near_mul {c} {x} {f} m (pos a) ha h = by_pos c m x f h a ha (shr_z (x *ℤ pos a) 1000000) (down (x *ℤ pos a) 1000000 (lit< tt))
near_mul {c} {x} {f} m (negsuc a) ha h = by_neg c m x f h a ha (shr_z (x *ℤ negsuc a) 1000000) (down (x *ℤ negsuc a) 1000000 (lit< tt))

-- what a bicubic loses for |Y| up to m and |Z| up to n, in whole units, of coefficients that are e off: less than 1 a product, and what was lost before grows
abbrev pub bicubic_loss : ℕ → ℕ → ℕ → ℕ
bicubic_loss e m n =
    (e + (m * e + 1)) + (n * (e + (m * e + 1)) + 1) + (m * (m * (e + (n * e + 1) + (m * e + 1)) + 1) + 1) + (n * (n * (e + (m * e + 1) + (n * e + 1)) + 1) + 1)

-- what an exponent loses
abbrev pub exponent_loss : ℕ → ℕ → ℕ → ℕ
exponent_loss e m n = e + (m * e + 1) + (n * e + 1) + (n * (m * e + 1) + 1)

-- coefficients and what they stand for, each at most e off
abbrev pub Stands : ℕ → List ℤ → (ℕ → Fraction) → Type 0
Stands e k f = (i : ℕ) → Within e (coefficient k i) (f i)

pub stands : (k : List ℤ) → Stands 0 k (exactly k)
stands k i = near_whole (coefficient k i)

-- for |Y| up to m and |Z| up to n, in whole units
module _ (e m n : ℕ) (y z : ℤ) (hy : nat_abs y ≤ m * 1000000) (hz : nat_abs z ≤ n * 1000000) (k : List ℤ) (f : ℕ → Fraction) (h : Stands e k f) where
  one_y : (i : ℕ) → Within (m * e + 1) (mul (coefficient k i) y) (times (f i) (millionths y))
  one_y i = near_mul m y hy (h i)

  one_z : (i : ℕ) → Within (n * e + 1) (mul (coefficient k i) z) (times (f i) (millionths z))
  one_z i = near_mul n z hz (h i)

  pub bicubic_near : Within (bicubic_loss e m n) (bicubic k y z) (exact_bicubic f y z)
  unfolding bicubic gas1 gas2 gas3 gas4 exact_bicubic exact_gas1 exact_gas2 exact_gas3 exact_gas4
  bicubic_near =
      near_plus
      (near_plus
      (near_plus (near_plus (h 0) (one_y 1)) (near_mul n z hz (near_plus (h 2) (one_y 3))))
      (near_mul m y hy (near_mul m y hy (near_plus (near_plus (h 4) (one_z 5)) (one_y 6)))))
      (near_mul n z hz (near_mul n z hz (near_plus (near_plus (h 7) (one_y 8)) (one_z 9))))

  pub exponent_near : Within (exponent_loss e m n) (exponent k y z) (exact_exponent f y z)
  unfolding exponent exact_exponent
  exponent_near = near_plus (near_plus (near_plus (h 0) (one_y 1)) (one_z 2)) (near_mul n z hz (one_y 3))

-- rounded down
pub near_down : (x : ℤ) (m : ℕ) → 0 < m → Within 1 (shr_z x m) (parts m x)
near_down x m h = of (shr_z x m) (down x m h)
  where
    of : (q : ℤ) → Down q x m → Within 1 q (parts m x)
    of q d =
        let vq = v q in let vx = v x in
        record { proper = record { some = h }; low = ≤-by (search zs) (omega (arith, d.lo)); high = ≤-by (search zs) (omega (arith, d.hi)) }

-- r times a value over m, rounded down
pub near_scaled : (r m c e : ℕ) {x : ℤ} {f : Fraction} → 0 < m → r * c + m ≤ e * m → Within c x f → Within e (shr_z (pos r *ℤ x) m) (over m (times (whole (pos r)) f))
near_scaled r m c e {x} {f} h room k = of (shr_z (pos r *ℤ x) m) (down (pos r *ℤ x) m h)
  where
    of : (q : ℤ) → Down q (pos r *ℤ x) m → Within e q (over m (times (whole (pos r)) f))
    of q d =
        let vq = v q in let vx = v x in let vt = v f.top in
        let b = f.bottom in
        let lo = mul-le-mul_right b (down_lo_of vq (rep* (rep_pos r) vx) d) in
        let hi = mul-le-mul_right b (down_hi_of vq (rep* (rep_pos r) vx) d) in
        let space = mul-le-mul_right b room in
        record {
          proper = record { some = mul-pos (mul-pos (lit< tt) k.proper.some) h };
          low = ≤-by (search zs depth 9) (omega (arith, mul-le-mul_left r (low_of k)));
          high = ≤-by (search zs depth 9) (omega (arith, mul-le-mul_left r (high_of k)));
        }

-- ---- the straight line between two values, in naturals: F and G over B, x and y the values, q the rounded rise, at U of U + E
module _ (c U E xp xn yp yn qp qn f f' g g' : ℕ) where
  sum_low : xp * E + f' ≤ f + (xn + c) * E → yp * U + g' ≤ g + (yn + c) * U
      → qp * (U + E) + (yn + xp) * U ≤ (yp + xn) * U + qn * (U + E)
      → (xp + qp) * (U + E) + (f' + g') ≤ f + g + (xn + qn + (c + 1)) * (U + E)
  sum_low h k d = omega arith

  sum_high : f + xn * E ≤ f' + (xp + c) * E → g + yn * U ≤ g' + (yp + c) * U
      → (yp + xn) * U + qn * (U + E) ≤ qp * (U + E) + (U + E) + (yn + xp) * U
      → f + g + (xn + qn) * (U + E) ≤ f' + g' + (xp + qp + (c + 1)) * (U + E)
  sum_high h k d = omega arith

module _ (c B u e xp xn yp yn qp qn Fp Fn Gp Gn : ℕ) where
  line_low : xp * B + Fn ≤ Fp + (xn + c) * B → yp * B + Gn ≤ Gp + (yn + c) * B
      → qp * (u + e) + (yn + xp) * u ≤ (yp + xn) * u + qn * (u + e)
      → (xp + qp) * (u * B + e * B) + (Fn * e + Gn * u) ≤ Fp * e + Gp * u + (xn + qn + (c + 1)) * (u * B + e * B)
  line_low h k d =
      let h' : xp * (e * B) + Fn * e ≤ Fp * e + (xn + c) * (e * B) = omega (arith, mul-le-mul_right e h) in
      let k' : yp * (u * B) + Gn * u ≤ Gp * u + (yn + c) * (u * B) = omega (arith, mul-le-mul_right u k) in
      let d' : qp * (u * B + e * B) + (yn + xp) * (u * B) ≤ (yp + xn) * (u * B) + qn * (u * B + e * B) = omega (arith, mul-le-mul_right B d) in
      sum_low c (u * B) (e * B) xp xn yp yn qp qn (Fp * e) (Fn * e) (Gp * u) (Gn * u) h' k' d'

  line_high : Fp + xn * B ≤ Fn + (xp + c) * B → Gp + yn * B ≤ Gn + (yp + c) * B
      → (yp + xn) * u + qn * (u + e) ≤ qp * (u + e) + (u + e) + (yn + xp) * u
      → Fp * e + Gp * u + (xn + qn) * (u * B + e * B) ≤ Fn * e + Gn * u + (xp + qp + (c + 1)) * (u * B + e * B)
  line_high h k d =
      let h' : Fp * e + xn * (e * B) ≤ Fn * e + (xp + c) * (e * B) = omega (arith, mul-le-mul_right e h) in
      let k' : Gp * u + yn * (u * B) ≤ Gn * u + (yp + c) * (u * B) = omega (arith, mul-le-mul_right u k) in
      let d' : (yp + xn) * (u * B) + qn * (u * B + e * B) ≤ qp * (u * B + e * B) + (u * B + e * B) + (yn + xp) * (u * B) = omega (arith, mul-le-mul_right B d) in
      sum_high c (u * B) (e * B) xp xn yp yn qp qn (Fp * e) (Fn * e) (Gp * u) (Gn * u) h' k' d'

-- the same in whole numbers
module _ (C B U E : ℕ) (x q F G : ℤ) where
  whole_low : (up x + up q) * (U * B + E * B) + (dn F * E + dn G * U) ≤ up F * E + up G * U + (dn x + dn q + C) * (U * B + E * B)
      → (((x +ℤ q) -ℤ pos C) *ℤ pos (B * (U + E))) ≤ℤ (F *ℤ pos (U + E) +ℤ (G -ℤ F) *ℤ pos U)
  whole_low h = let vx = v x in let vq = v q in let vF = v F in let vG = v G in ≤-by (search zs depth 9) (omega arith)

  whole_high : up F * E + up G * U + (dn x + dn q) * (U * B + E * B) ≤ dn F * E + dn G * U + (up x + up q + C) * (U * B + E * B)
      → (F *ℤ pos (U + E) +ℤ (G -ℤ F) *ℤ pos U) ≤ℤ (((x +ℤ q) +ℤ pos C) *ℤ pos (B * (U + E)))
  whole_high h = let vx = v x in let vq = v q in let vF = v F in let vG = v G in ≤-by (search zs depth 9) (omega arith)

-- an end, at the common bottom B
end_low : (c B : ℕ) (x F : ℤ) → ((x -ℤ pos c) *ℤ pos B) ≤ℤ F → up x * B + dn F ≤ up F + (dn x + c) * B
end_low c B x F h = let vx = v x in let vF = v F in omega (arith, ≤-of (search zs) h)

end_high : (c B : ℕ) (x F : ℤ) → F ≤ℤ ((x +ℤ pos c) *ℤ pos B) → up F + dn x * B ≤ dn F + (up x + c) * B
end_high c B x F h = let vx = v x in let vF = v F in omega (arith, ≤-of (search zs) h)

-- products by whole numbers regroup
regroup : (z : ℤ) (m n : ℕ) → (z *ℤ pos m) *ℤ pos n ≡ z *ℤ pos (m * n)
regroup z m n = let vz = v z in ≡-by (search zs) (omega arith)

-- the straight line's fraction
module _ (u w a b : ℕ) (s t : ℤ) where
  between : Fraction
  between = plus (parts a s) (times (minus (parts b t) (parts a s)) (parts w (pos u)))

  bottom_is : between.bottom ≡ (a * b) * (w * a)
  unfolding between
  bottom_is = omega arith

  top_is : between.top ≡ (s *ℤ pos b) *ℤ pos (w * a) +ℤ (t *ℤ pos a -ℤ s *ℤ pos b) *ℤ pos (u * a)
  unfolding between
  top_is = ap₂ ◌+ℤ◌ left (regroup (t *ℤ pos a -ℤ s *ℤ pos b) u a)
    where
      left : s *ℤ pos (b * a * w) ≡ (s *ℤ pos b) *ℤ pos (w * a)
      left = let vs = v s in ≡-by (search zs) (omega arith)

-- what was lost at the ends is not added up, and the last floor loses less than 1
module _ (c u e : ℕ) (x y q : ℤ) (f g : Fraction) (k : Within c x f) (l : Within c y g) (d : Down q ((y -ℤ x) *ℤ pos u) (u + e)) where
  a : ℕ
  a = f.bottom

  b : ℕ
  b = g.bottom

  F : ℤ
  F = f.top *ℤ pos b

  G : ℤ
  G = g.top *ℤ pos a

  rise_low : up q * (u * a + e * a) + (dn y + up x) * (u * a) ≤ (up y + dn x) * (u * a) + dn q * (u * a + e * a)
  rise_low =
      let vq = v q in let vx = v x in let vy = v y in
      let r : Rep ((y -ℤ x) *ℤ pos u) = search zs in
      let lo : up q * (u + e) + (dn y + up x) * u ≤ (up y + dn x) * u + dn q * (u + e) = omega (arith, down_lo_of vq r d) in
      omega (arith, mul-le-mul_right a lo)

  rise_high : (up y + dn x) * (u * a) + dn q * (u * a + e * a) ≤ up q * (u * a + e * a) + (u * a + e * a) + (dn y + up x) * (u * a)
  rise_high =
      let vq = v q in let vx = v x in let vy = v y in
      let r : Rep ((y -ℤ x) *ℤ pos u) = search zs in
      let hi : (up y + dn x) * u + dn q * (u + e) ≤ up q * (u + e) + (u + e) + (dn y + up x) * u = omega (arith, down_hi_of vq r d) in
      omega (arith, mul-le-mul_right a hi)

  f_low : ((x -ℤ pos c) *ℤ pos (a * b)) ≤ℤ F
  unfolding a b F
  f_low = subst (λ (z : ℤ). z ≤ℤ (f.top *ℤ pos g.bottom)) (regroup (x -ℤ pos c) f.bottom g.bottom) (*ℤ-mono g.bottom k.low)

  f_high : F ≤ℤ ((x +ℤ pos c) *ℤ pos (a * b))
  unfolding a b F
  f_high = subst (λ (z : ℤ). (f.top *ℤ pos g.bottom) ≤ℤ z) (regroup (x +ℤ pos c) f.bottom g.bottom) (*ℤ-mono g.bottom k.high)

  g_low : ((y -ℤ pos c) *ℤ pos (a * b)) ≤ℤ G
  unfolding a b G
  g_low =
      subst (λ (n : ℕ). ((y -ℤ pos c) *ℤ pos n) ≤ℤ (g.top *ℤ pos f.bottom)) (mul_comm g.bottom f.bottom)
      (subst (λ (z : ℤ). z ≤ℤ (g.top *ℤ pos f.bottom)) (regroup (y -ℤ pos c) g.bottom f.bottom) (*ℤ-mono f.bottom l.low))

  g_high : G ≤ℤ ((y +ℤ pos c) *ℤ pos (a * b))
  unfolding a b G
  g_high =
      subst (λ (n : ℕ). (g.top *ℤ pos f.bottom) ≤ℤ ((y +ℤ pos c) *ℤ pos n)) (mul_comm g.bottom f.bottom)
      (subst (λ (z : ℤ). (g.top *ℤ pos f.bottom) ≤ℤ z) (regroup (y +ℤ pos c) g.bottom f.bottom) (*ℤ-mono f.bottom l.high))

  wide : u * a + e * a ≡ (u + e) * a
  wide = omega arith

  low_end : (((x +ℤ q) -ℤ pos (c + 1)) *ℤ pos ((a * b) * ((u + e) * a))) ≤ℤ (F *ℤ pos ((u + e) * a) +ℤ (G -ℤ F) *ℤ pos (u * a))
  low_end =
      subst (λ (n : ℕ). (((x +ℤ q) -ℤ pos (c + 1)) *ℤ pos ((a * b) * n)) ≤ℤ (F *ℤ pos n +ℤ (G -ℤ F) *ℤ pos (u * a))) wide
      (whole_low (c + 1) (a * b) (u * a) (e * a) x q F G
      (line_low c (a * b) (u * a) (e * a) (up x) (dn x) (up y) (dn y) (up q) (dn q) (up F) (dn F) (up G) (dn G) (end_low c (a * b) x F f_low) (end_low c (a * b) y G g_low) rise_low))

  high_end : (F *ℤ pos ((u + e) * a) +ℤ (G -ℤ F) *ℤ pos (u * a)) ≤ℤ (((x +ℤ q) +ℤ pos (c + 1)) *ℤ pos ((a * b) * ((u + e) * a)))
  high_end =
      subst (λ (n : ℕ). (F *ℤ pos n +ℤ (G -ℤ F) *ℤ pos (u * a)) ≤ℤ (((x +ℤ q) +ℤ pos (c + 1)) *ℤ pos ((a * b) * n))) wide
      (whole_high (c + 1) (a * b) (u * a) (e * a) x q F G
      (line_high c (a * b) (u * a) (e * a) (up x) (dn x) (up y) (dn y) (up q) (dn q) (up F) (dn F) (up G) (dn G) (end_high c (a * b) x F f_high) (end_high c (a * b) y G g_high) rise_high))

  line_near : 0 < u + e → Within (c + 1) (x +ℤ q) (plus f (times (minus g f) (parts (u + e) (pos u))))
  unfolding a b F G between
  line_near h =
      record {
        proper = record { some = mul-pos k.proper.some (mul-pos (mul-pos l.proper.some k.proper.some) h) };
        low =
            subst₂ (λ (n : ℕ) (z : ℤ). (((x +ℤ q) -ℤ pos (c + 1)) *ℤ pos n) ≤ℤ z)
            (sym (bottom_is u (u + e) f.bottom g.bottom f.top g.top)) (sym (top_is u (u + e) f.bottom g.bottom f.top g.top)) low_end;
        high =
            subst₂ (λ (n : ℕ) (z : ℤ). z ≤ℤ (((x +ℤ q) +ℤ pos (c + 1)) *ℤ pos n))
            (sym (bottom_is u (u + e) f.bottom g.bottom f.top g.top)) (sym (top_is u (u + e) f.bottom g.bottom f.top g.top)) high_end;
      }

pub near_straight : {c : ℕ} {x y : ℤ} {f g : Fraction} (u e : ℕ) → 0 < u + e → Within c x f → Within c y g
    → Within (c + 1) (x +ℤ shr_z ((y -ℤ x) *ℤ pos u) (u + e)) (plus f (times (minus g f) (parts (u + e) (pos u))))
near_straight {c} {x} {y} {f} {g} u e h k l = line_near c u e x y (shr_z ((y -ℤ x) *ℤ pos u) (u + e)) f g k l (down ((y -ℤ x) *ℤ pos u) (u + e) h) h
