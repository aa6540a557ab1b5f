-- An exponent over a box: it is affine in Y and in Z, so that its four corners bound it.
use mathlib.Core.Bool.{Bool, true, false, ◌&&◌, ◌||◌}
use mathlib.Core.List.{List}
use mathlib.Core.Option.{Option, none, some}
use mathlib.Core.Path.{◌≡◌, refl, sym, subst}
use Prim.Native.Nat.{ℕ, ◌+◌, ◌*◌, ◌≤◌}
use native.Mathlib.Nat.{mul-le-mul_left, le_trans}
use native.Mathlib.Omega.{arith}
use lib.Dec.{T}
use lib.IntN.{ℤ, pos, negsuc, neg_ℤ, nat_abs, ◌+ℤ◌, ◌-ℤ◌, ◌*ℤ◌}
use lib.Signed.{◌≤ℤ◌, le_z, le_z_yes}
use Rattle.integer.specs.Z.{zs, v, ≤→, ≤-by, ≤-of, ≡-by}
use Rattle.integer.specs.Laws.{abs_is}
use Rattle.integer.specs.Ring.{ring}
use Rattle.fraction.specs.Fraction.{Within}
use Rattle.quotient.proofs.Machine.{both}
use Rattle.weight.specs.Weight.{Sign, one_plus, one_minus}
use Rattle.weight.specs.Choice.{Served}
use Rattle.bicubic.specs.Bicubic.{coefficient, exponent}
use Rattle.bicubic.specs.Exact.{exactly, exact_exponent}
use Rattle.bicubic.proofs.Near.{exponent_loss, stands, exponent_near}
use Rattle.bicubic.proofs.Size.{ceiling, ceiling_holds}
use Rattle.fit.specs.Fit.{Piece, alone, joint, kept_in}
use Rattle.fit.specs.Edge.{ServedAt}
use Rattle.fit.proofs.Box.{Box, InBox, y_reach, z_reach, y_within, z_within}

-- ---- a function that is affine in x lies between its values at two ends
affine_least : (p s k a b x : ℤ) → a ≤ℤ x → x ≤ℤ b → k ≤ℤ (p +ℤ s *ℤ a) → k ≤ℤ (p +ℤ s *ℤ b) → k ≤ℤ (p +ℤ s *ℤ x)
affine_least p (pos t) k a b x l m h i =
    let vp = v p in let vk = v k in let va = v a in let vx = v x in
    ≤-by (search zs) (omega (arith, ≤-of (search zs) h, mul-le-mul_left t (≤→ l)))
affine_least p (negsuc t) k a b x l m h i =
    let vp = v p in let vk = v k in let vb = v b in let vx = v x in
    ≤-by (search zs) (omega (arith, ≤-of (search zs) i, mul-le-mul_left (t + 1) (≤→ m)))

affine_most : (p s k a b x : ℤ) → a ≤ℤ x → x ≤ℤ b → (p +ℤ s *ℤ a) ≤ℤ k → (p +ℤ s *ℤ b) ≤ℤ k → (p +ℤ s *ℤ x) ≤ℤ k
affine_most p (pos t) k a b x l m h i =
    let vp = v p in let vk = v k in let vb = v b in let vx = v x in
    ≤-by (search zs) (omega (arith, ≤-of (search zs) i, mul-le-mul_left t (≤→ m)))
affine_most p (negsuc t) k a b x l m h i =
    let vp = v p in let vk = v k in let va = v a in let vx = v x in
    ≤-by (search zs) (omega (arith, ≤-of (search zs) h, mul-le-mul_left (t + 1) (≤→ l)))

-- ---- the exponent of four terms, in parts of 10^-12 of a unit
abbrev pub scaled_exponent : List ℤ → ℤ → ℤ → ℤ
scaled_exponent c y z =
    coefficient c 0 *ℤ pos 1000000000000
    +ℤ coefficient c 1 *ℤ y *ℤ pos 1000000
    +ℤ coefficient c 2 *ℤ z *ℤ pos 1000000
    +ℤ coefficient c 3 *ℤ y *ℤ z

-- affine in Z at a Y, and in Y at a Z
in_z : (a b d e y z m n : ℤ) → a *ℤ n +ℤ b *ℤ y *ℤ m +ℤ d *ℤ z *ℤ m +ℤ e *ℤ y *ℤ z ≡ (a *ℤ n +ℤ b *ℤ y *ℤ m) +ℤ (d *ℤ m +ℤ e *ℤ y) *ℤ z
in_z a b d e y z m n = simp ring

in_y : (a b d e y z m n : ℤ) → a *ℤ n +ℤ b *ℤ y *ℤ m +ℤ d *ℤ z *ℤ m +ℤ e *ℤ y *ℤ z ≡ (a *ℤ n +ℤ d *ℤ z *ℤ m) +ℤ (b *ℤ m +ℤ e *ℤ z) *ℤ y
in_y a b d e y z m n = simp ring

-- ---- what holds at both ends of an affine function and so between them holds over a box where it does at the four corners
abbrev corners : (ℤ → Bool) → List ℤ → Box → Bool
corners test c b =
    (test (scaled_exponent c b.y_from b.z_from) && test (scaled_exponent c b.y_to b.z_from))
    && (test (scaled_exponent c b.y_from b.z_to) && test (scaled_exponent c b.y_to b.z_to))

module _ (R : ℤ → Type 0) (amid : (p s a b x : ℤ) → a ≤ℤ x → x ≤ℤ b → R (p +ℤ s *ℤ a) → R (p +ℤ s *ℤ b) → R (p +ℤ s *ℤ x)) (c : List ℤ) where
  abbrev at : ℤ → ℤ → Type 0
  at y z = R (scaled_exponent c y z)

  abbrev base_y : ℤ → ℤ
  base_y z = coefficient c 0 *ℤ pos 1000000000000 +ℤ coefficient c 2 *ℤ z *ℤ pos 1000000

  abbrev slope_y : ℤ → ℤ
  slope_y z = coefficient c 1 *ℤ pos 1000000 +ℤ coefficient c 3 *ℤ z

  y_form : (y z : ℤ) → scaled_exponent c y z ≡ base_y z +ℤ slope_y z *ℤ y
  y_form y z = in_y (coefficient c 0) (coefficient c 1) (coefficient c 2) (coefficient c 3) y z (pos 1000000) (pos 1000000000000)

  along_y : (a b y z : ℤ) → a ≤ℤ y → y ≤ℤ b → at a z → at b z → at y z
  along_y a b y z h k p q = subst R (sym (y_form y z)) (amid (base_y z) (slope_y z) a b y h k (subst R (y_form a z) p) (subst R (y_form b z) q))

  abbrev base_z : ℤ → ℤ
  base_z y = coefficient c 0 *ℤ pos 1000000000000 +ℤ coefficient c 1 *ℤ y *ℤ pos 1000000

  abbrev slope_z : ℤ → ℤ
  slope_z y = coefficient c 2 *ℤ pos 1000000 +ℤ coefficient c 3 *ℤ y

  z_form : (y z : ℤ) → scaled_exponent c y z ≡ base_z y +ℤ slope_z y *ℤ z
  z_form y z = in_z (coefficient c 0) (coefficient c 1) (coefficient c 2) (coefficient c 3) y z (pos 1000000) (pos 1000000000000)

  along_z : (a b y z : ℤ) → a ≤ℤ z → z ≤ℤ b → at y a → at y b → at y z
  along_z a b y z h k p q = subst R (sym (z_form y z)) (amid (base_z y) (slope_z y) a b z h k (subst R (z_form y a) p) (subst R (z_form y b) q))

  over_box : (test : ℤ → Bool) → ((x : ℤ) → T (test x) → R x) → (b : Box) → T (corners test c b) → (y z : ℤ) → InBox b y z → at y z
  over_box test told b t y z i =
      let e : ℤ → ℤ → ℤ = scaled_exponent c in
      let p = both (test (e b.y_from b.z_from) && test (e b.y_to b.z_from)) (test (e b.y_from b.z_to) && test (e b.y_to b.z_to)) t in
      let f = both (test (e b.y_from b.z_from)) (test (e b.y_to b.z_from)) p.0 in
      let g = both (test (e b.y_from b.z_to)) (test (e b.y_to b.z_to)) p.1 in
      along_z b.z_from b.z_to y z i.z_least i.z_most
      (along_y b.y_from b.y_to y b.z_from i.y_least i.y_most (told _ f.0) (told _ f.1))
      (along_y b.y_from b.y_to y b.z_to i.y_least i.y_most (told _ g.0) (told _ g.1))

-- ---- from the exact exponent to the rounded one
exact_top : (c : List ℤ) (y z : ℤ) → (exact_exponent (exactly c) y z).top ≡ scaled_exponent c y z *ℤ pos 1000000000000
unfolding exact_exponent
exact_top c y z = by (coefficient c 0) (coefficient c 1) (coefficient c 2) (coefficient c 3)
  where
    by : (a b d e : ℤ)
        → ((a *ℤ pos 1000000 +ℤ b *ℤ y *ℤ pos 1) *ℤ pos 1000000 +ℤ d *ℤ z *ℤ pos 1000000) *ℤ pos 1000000000000 +ℤ e *ℤ y *ℤ z *ℤ pos 1000000000000
        ≡ (a *ℤ pos 1000000000000 +ℤ b *ℤ y *ℤ pos 1000000 +ℤ d *ℤ z *ℤ pos 1000000 +ℤ e *ℤ y *ℤ z) *ℤ pos 1000000000000
    by a b d e = let va = v a in let vb = v b in let vd = v d in let ve = v e in let vy = v y in let vz = v z in ≡-by (search zs depth 12) (omega arith)

-- q, e off, where the exact exponent, s in parts of 10^-12, is beyond k units on one side of 0
over_k : (q s : ℤ) (e k : ℕ) → (s *ℤ pos 1000000000000) ≤ℤ ((q +ℤ pos e) *ℤ pos 1000000000000000000000000) → pos ((k + e) * 1000000000000) ≤ℤ s → k ≤ nat_abs q
over_k q s e k h l = let vq = v q in let vs = v s in omega (arith, ≤-of (search zs) h, ≤-of (search zs) l, abs_is q)

under_k : (q s : ℤ) (e k : ℕ) → ((q -ℤ pos e) *ℤ pos 1000000000000000000000000) ≤ℤ (s *ℤ pos 1000000000000) → s ≤ℤ neg_ℤ (pos ((k + e) * 1000000000000)) → k ≤ nat_abs q
under_k q s e k h l = let vq = v q in let vs = v s in omega (arith, ≤-of (search zs) h, ≤-of (search zs) l, abs_is q)

module _ (c : List ℤ) (b : Box) where
  abbrev loss : ℕ
  loss = exponent_loss 0 (ceiling (y_reach b)) (ceiling (z_reach b))

  near : (y z : ℤ) → InBox b y z → Within loss (exponent c y z) (exact_exponent (exactly c) y z)
  near y z i =
      exponent_near 0 (ceiling (y_reach b)) (ceiling (z_reach b)) y z (le_trans (y_within i) (ceiling_holds (y_reach b))) (le_trans (z_within i) (ceiling_holds (z_reach b)))
      c (exactly c) (stands c)

  -- so far from 0 that the rounded exponent is at least k
  abbrev far : ℕ → ℤ
  far k = pos ((k + loss) * 1000000000000)

  -- all four corners above, or all below
  abbrev pub is_beyond : ℕ → Bool
  is_beyond k = corners (λ x. le_z (far k) x) c b || corners (λ x. le_z x (neg_ℤ (far k))) c b

  pub beyond : (k : ℕ) → T (is_beyond k) → (y z : ℤ) → InBox b y z → k ≤ nat_abs (exponent c y z)
  unfolding exact_exponent
  beyond k t y z i = go (corners (λ x. le_z (far k) x) c b) refl t
    where
      go : (o : Bool) → corners (λ x. le_z (far k) x) c b ≡ o → T (o || corners (λ x. le_z x (neg_ℤ (far k))) c b) → k ≤ nat_abs (exponent c y z)
      go true e u =
          over_k (exponent c y z) (scaled_exponent c y z) loss k (subst (λ (x : ℤ). x ≤ℤ ((exponent c y z +ℤ pos loss) *ℤ pos 1000000000000000000000000)) (exact_top c y z) (near y z i).high)
          (over_box (λ (x : ℤ). far k ≤ℤ x) (λ p s a b x. affine_least p s (far k) a b x) c (λ x. le_z (far k) x) (λ x t. le_z_yes t) b (subst T (sym e) tt) y z i)
      go false e u =
          under_k (exponent c y z) (scaled_exponent c y z) loss k (subst (λ (x : ℤ). ((exponent c y z -ℤ pos loss) *ℤ pos 1000000000000000000000000) ≤ℤ x) (exact_top c y z) (near y z i).low)
          (over_box (λ (x : ℤ). x ≤ℤ neg_ℤ (far k)) (λ p s a b x. affine_most p s (neg_ℤ (far k)) a b x) c (λ x. le_z x (neg_ℤ (far k))) (λ x t. le_z_yes t) b u y z i)

-- ---- a piece's exponent is one that a weight serves, wherever Y and Z lie in its box
abbrev serves_sign : Sign → Option ℕ → List ℤ → Box → Bool
serves_sign one_plus l c b = true
serves_sign one_minus none c b = is_beyond c b 19000000000
serves_sign one_minus (some m) c b = false

abbrev pub serves : Box → Piece → Bool
serves b (alone a) = true
serves b (joint a c t) = serves_sign t.sign t.limit t.terms b

serves_sign_lem : (s : Sign) (l : Option ℕ) (c : List ℤ) (b : Box) → T (serves_sign s l c b) → (y z : ℤ) → InBox b y z → Served s (kept_in l (exponent c y z))
serves_sign_lem one_plus l c b t y z i = tt
serves_sign_lem one_minus none c b t y z i = beyond c b 19000000000 t y z i
serves_sign_lem one_minus (some m) c b t y z i = absurd t

pub served : (b : Box) (p : Piece) → T (serves b p) → (y z : ℤ) → InBox b y z → ServedAt p y z
served b (alone a) t y z i = tt
served b (joint a c t) u y z i = serves_sign_lem t.sign t.limit t.terms b u y z i
