-- A number that is near an exact one stays as near where both are kept within m of 0.
use mathlib.Core.Bool.{Bool, true, false, not, cond}
use mathlib.Core.Option.{Option, none, some}
use mathlib.Core.Path.{◌≡◌, refl, sym, subst}
use Prim.Native.Nat.{ℕ, ◌+◌, ◌*◌, ◌≤◌, ◌<◌}
use native.Mathlib.Nat.{mul-le-mul_right, lt_of_mul-lt-mul_right}
use native.Mathlib.Omega.{arith}
use lib.Dec.{T, lit<}
use lib.IntN.{ℤ, pos, neg_ℤ, ◌*ℤ◌}
use lib.Signed.{◌≤ℤ◌, ◌<ℤ◌, lt_z, lt_z_yes, lt_z_no}
use Rattle.integer.specs.Z.{up, dn, neg_up, neg_dn, zs, v, ≤-by, ≤-of, <-of}
use Rattle.fraction.specs.Fraction.{Fraction, Within, whole}
use Rattle.fit.specs.Fit.{kept_in}
use Rattle.fit.specs.Exact.{exact_kept}

yes : (a b : ℤ) → lt_z a b ≡ true → a <ℤ b
yes a b e = lt_z_yes (subst T (sym e) tt)

no : (a b : ℤ) → lt_z a b ≡ false → b ≤ℤ a
no a b e = lt_z_no {a = a} {b = b} (subst (λ (c : Bool). T (not c)) (sym e) tt)

-- what a comparison with exact numbers says of whole ones
cancel : (b x y : ℕ) → x * b < (y + 1) * b → x < y + 1
cancel b x y h = lt_of_mul-lt-mul_right b h

module _ (e m : ℕ) (q : ℤ) (f : Fraction) (h : Within e q f) where
  abbrev b : ℕ
  b = f.bottom

  abbrev t : ℤ
  t = f.top

  some_b : 0 < b
  some_b = h.proper.some

  low : up q * b + dn t ≤ up t + (dn q + e) * b
  low = let vq = v q in let vt = v t in omega (arith, ≤-of (search zs) h.low)

  high : up t + dn q * b ≤ dn t + (up q + e) * b
  high = let vq = v q in let vt = v t in omega (arith, ≤-of (search zs) h.high)

  -- where q lies, and where f does
  q_over : pos m <ℤ q → (m + dn q + 1) * b ≤ up q * b
  q_over l = let vq = v q in mul-le-mul_right b (omega (arith, <-of (search zs) l))

  q_under : q <ℤ neg_ℤ (pos m) → (up q + m + 1) * b ≤ dn q * b
  q_under l = let vq = v q in mul-le-mul_right b (omega (arith, <-of (search zs) l))

  q_most : q ≤ℤ pos m → up q * b ≤ (m + dn q) * b
  q_most l = let vq = v q in mul-le-mul_right b (omega (arith, ≤-of (search zs) l))

  q_least : neg_ℤ (pos m) ≤ℤ q → dn q * b ≤ (up q + m) * b
  q_least l = let vq = v q in mul-le-mul_right b (omega (arith, ≤-of (search zs) l))

  t_over : (pos m *ℤ pos b) <ℤ t → m * b + dn t < up t
  t_over l = let vt = v t in omega (arith, <-of (search zs) l)

  t_under : t <ℤ (neg_ℤ (pos m) *ℤ pos b) → up t + m * b < dn t
  t_under l = let vt = v t in omega (arith, <-of (search zs) l)

  t_most : t ≤ℤ (pos m *ℤ pos b) → up t ≤ m * b + dn t
  t_most l = let vt = v t in omega (arith, ≤-of (search zs) l)

  t_least : (neg_ℤ (pos m) *ℤ pos b) ≤ℤ t → dn t ≤ up t + m * b
  t_least l = let vt = v t in omega (arith, ≤-of (search zs) l)

  -- a whole number y beside x, from what is known of both times b
  whole_near : (x y : ℤ) → ((up x + dn y) * b) < ((up y + dn x + e + 1) * b) → ((up y + dn x) * b) < ((up x + dn y + e + 1) * b) → Within e x (whole y)
  whole_near x y k l =
      let vx = v x in let vy = v y in
      let i = cancel b (up x + dn y) (up y + dn x + e) k in
      let j = cancel b (up y + dn x) (up x + dn y + e) l in
      record { proper = record { some = lit< tt }; low = ≤-by (search zs) (omega arith); high = ≤-by (search zs) (omega arith) }

  part_near : (x : ℤ) → up x * b + dn t ≤ up t + (dn x + e) * b → up t + dn x * b ≤ dn t + (up x + e) * b → Within e x f
  part_near x k l =
      let vx = v x in let vt = v t in
      record { proper = h.proper; low = ≤-by (search zs) (omega arith); high = ≤-by (search zs) (omega arith) }

  abbrev kept : Bool → Bool → ℤ
  kept o u = cond o (pos m) (cond u (neg_ℤ (pos m)) q)

  abbrev exact : Bool → Bool → Fraction
  exact o u = cond o (whole (pos m)) (cond u (whole (neg_ℤ (pos m))) f)

  go : (o u o' u' : Bool) → lt_z (pos m) q ≡ o → lt_z q (neg_ℤ (pos m)) ≡ u → lt_z (pos m *ℤ pos b) t ≡ o' → lt_z t (neg_ℤ (pos m) *ℤ pos b) ≡ u'
      → Within e (kept o u) (exact o' u')
  go true u true u' x y z w = whole_near (pos m) (pos m) (omega (arith, some_b)) (omega (arith, some_b))
  go true u false true x y z w =
      let i = q_over (yes _ _ x) in
      let j = t_under (yes _ _ w) in
      whole_near (pos m) (neg_ℤ (pos m)) (rw (neg_up (pos m), neg_dn (pos m)) (omega (arith, some_b, low))) (rw (neg_up (pos m), neg_dn (pos m)) (omega (arith, some_b)))
  go true u false false x y z w =
      let i = q_over (yes _ _ x) in
      let j = t_most (no _ _ z) in
      part_near (pos m) (omega (arith, low)) (omega arith)
  go false true true u' x y z w =
      let i = q_under (yes _ _ y) in
      let j = t_over (yes _ _ z) in
      whole_near (neg_ℤ (pos m)) (pos m) (rw (neg_up (pos m), neg_dn (pos m)) (omega (arith, some_b))) (rw (neg_up (pos m), neg_dn (pos m)) (omega (arith, some_b, high)))
  go false true false true x y z w =
      whole_near (neg_ℤ (pos m)) (neg_ℤ (pos m)) (omega (arith, some_b)) (omega (arith, some_b))
  go false true false false x y z w =
      let i = q_under (yes _ _ y) in
      let j = t_least (no _ _ w) in
      part_near (neg_ℤ (pos m)) (rw (neg_up (pos m), neg_dn (pos m)) (omega arith)) (rw (neg_up (pos m), neg_dn (pos m)) (omega (arith, high)))
  go false false true u' x y z w =
      let i = q_most (no _ _ x) in
      let j = t_over (yes _ _ z) in
      whole_near q (pos m) (omega (arith, some_b)) (omega (arith, high))
  go false false false true x y z w =
      let i = q_least (no _ _ y) in
      let j = t_under (yes _ _ w) in
      whole_near q (neg_ℤ (pos m)) (rw (neg_up (pos m), neg_dn (pos m)) (omega (arith, low))) (rw (neg_up (pos m), neg_dn (pos m)) (omega (arith, some_b)))
  go false false false false x y z w = h

pub kept_near : (e : ℕ) (l : Option ℕ) (q : ℤ) (f : Fraction) → Within e q f → Within e (kept_in l q) (exact_kept l f)
kept_near e none q f h = h
kept_near e (some m) q f h = go e m q f h (lt_z (pos m) q) (lt_z q (neg_ℤ (pos m))) (lt_z (pos m *ℤ pos f.bottom) f.top) (lt_z f.top (neg_ℤ (pos m) *ℤ pos f.bottom)) refl refl refl refl
