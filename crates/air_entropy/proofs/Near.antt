-- The entropy is within 3 of the exact one: within 2 outside the strips and at a strip's edges, and the straight line adds less than 1.
use mathlib.Core.Bool.{Bool, true, false, cond, not}
use mathlib.Core.List.{List}
use Rattle.std.specs.Prelude.{Option, Some, None}
use mathlib.Core.Path.{◌≡◌, refl, sym, ap, ◌∙◌, subst₂}
use Prim.Native.Nat.{ℕ, ◌+◌, ◌-◌, ◌*◌, ◌^◌, ◌≤◌, ◌<◌}
use native.Mathlib.Omega.{arith}
use lib.Dec.{T, lit<, lit≤}
use lib.IntN.{ℤ, pos, neg_ℤ, nat_abs, ◌+ℤ◌, ◌-ℤ◌, ◌*ℤ◌}
use lib.Signed.{◌≤ℤ◌, ◌<ℤ◌, le_z, lt_z, le_z_yes, lt_z_yes, lt_z_no, shr_z}
use Rattle.integer.specs.Z.{up, dn, zs, v, ≤→, <→, →≤, ≡-by}
use Rattle.integer.specs.Laws.{≤ℤ-trans}
use Rattle.fraction.specs.Fraction.{Within, whole, parts, plus, minus, times, over}
use Rattle.bicubic.specs.Bicubic.{bicubic}
use Rattle.bicubic.specs.Exact.{exactly, exact_bicubic}
use Rattle.bicubic.proofs.Near.{near_whole, near_plus, near_more, near_down, near_scaled, stands, bicubic_near, near_straight}
use Rattle.bands.specs.declared.Band.{Band}
use Rattle.bands.specs.declared.Band.TheVariants.{Low, Middle, High}
use Rattle.bands.specs.declared.Strip.{Strip}
use Rattle.bands.specs.Bands.{band_of, low_edge, high_edge, inside, around, strip_of}
use Rattle.tgas2_entropy.specs.Entropy.{entropy_coefficients, entropy_limit}
use Rattle.perfect.specs.Perfect.{R}
use Rattle.air_entropy.specs.Entropy.{rise, perfect_entropy, fitted_entropy, entropy_at, entropy_of, above_limit}
use Rattle.air.specs.Join.{joined, exact_joined, any_place}
use Rattle.air_entropy.specs.Claim.{exact_entropy_at, exact_entropy}
use Rattle.air.proofs.Tests.{and_left, and_right, not_left, is_true, abs_of}
use Rattle.air.proofs.Ranges.{YRange}

pub plain_near : (y z : ℤ) → nat_abs y ≤ 7000000 → nat_abs z ≤ 4000000 → Within 2 (entropy_at y z) (exact_entropy_at y z)
unfolding entropy_at perfect_entropy fitted_entropy exact_entropy_at
plain_near y z hy hz = go (le_z z (pos 650000))
  where
    x : ℤ
    x = rise y z *ℤ pos R *ℤ pos 2302585

    k : List ℤ
    k = entropy_coefficients (band_of y)

    below : Within 2 (pos 67792004 +ℤ shr_z x (2 * 10 ^ 10)) (plus (whole (pos 67792004)) (parts (2 * 10 ^ 10) x))
    below = near_more (lit≤ tt) (near_plus (near_whole (pos 67792004)) (near_down x (2 * 10 ^ 10) (lit< tt)))

    above : Within 2 (shr_z (pos R *ℤ bicubic (entropy_coefficients (band_of y)) y z) (10 ^ 8)) (over (10 ^ 8) (times (whole (pos R)) (exact_bicubic (exactly (entropy_coefficients (band_of y))) y z)))
    above = near_scaled R (10 ^ 8) 149 2 (lit< tt) (lit≤ tt) (bicubic_near 0 7 4 y z hy hz k (exactly k) (stands k))

    go : (b : Bool)
        → Within 2
        (cond b (pos 67792004 +ℤ shr_z x (2 * 10 ^ 10)) (shr_z (pos R *ℤ bicubic (entropy_coefficients (band_of y)) y z) (10 ^ 8)))
        (cond b (plus (whole (pos 67792004)) (parts (2 * 10 ^ 10) x)) (over (10 ^ 8) (times (whole (pos R)) (exact_bicubic (exactly (entropy_coefficients (band_of y))) y z))))
    go true = below
    go false = above

-- ---- the straight line
lt_le : {p q : ℤ} → p <ℤ q → p ≤ℤ q
lt_le h = →≤ (omega (arith, <→ h))

-- a difference that is not negative
sub_pos : (p q : ℤ) → p ≤ℤ q → q -ℤ p ≡ pos ((up q + dn p) - (up p + dn q))
sub_pos p q h = let vp = v p in let vq = v q in ≡-by (search zs) (omega (arith, ≤→ h))

on_line : (s : Strip) (y z : ℤ) → s.low <ℤ y → y <ℤ s.high → nat_abs s.low ≤ 7000000 → nat_abs s.high ≤ 7000000 → nat_abs z ≤ 4000000
    → Within 3 (joined (Some s) (λ v. entropy_at v z) y) (exact_joined (Some s) (λ v. exact_entropy_at v z) y)
on_line s y z h k hp hq hz =
    let p : ℤ = s.low in
    let q : ℤ = s.high in
    let u : ℕ = (up y + dn p) - (up p + dn y) in
    let e : ℕ = (up q + dn y) - (up y + dn q) in
    let i : up p + dn y < up y + dn p = <→ h in
    let j : up y + dn q < up q + dn y = <→ k in
    let l : p ≤ℤ q = →≤ (omega arith) in
    let width : nat_abs (q -ℤ p) ≡ u + e = ap nat_abs (sub_pos p q l) ∙ omega arith in
    subst₂ (λ (t : ℤ) (w : ℕ). Within 3 (entropy_at p z +ℤ shr_z ((entropy_at q z -ℤ entropy_at p z) *ℤ t) w) (plus (exact_entropy_at p z) (times (minus (exact_entropy_at q z) (exact_entropy_at p z)) (parts w t))))
    (sym (sub_pos p y (lt_le h))) (sym width)
    (near_straight u e (omega arith) (plain_near p z hp hz) (plain_near q z hq hz))

-- ---- bounds
limit_most : (b : Band) (z : ℤ) → T (not (lt_z (entropy_limit b) z)) → z ≤ℤ pos 3690000
limit_most Low z t = lt_z_no t
limit_most Middle z t = ≤ℤ-trans {b = pos 3400000} (lt_z_no t) (le_z_yes tt)
limit_most High z t = ≤ℤ-trans {b = pos 3000000} (lt_z_no t) (le_z_yes tt)

z_small : (y z : ℤ) → neg_ℤ (pos 1000000) ≤ℤ z → T (not (above_limit y z)) → nat_abs z ≤ 4000000
z_small y z h t = abs_of 999999 3690000 z h (limit_most (band_of y) z t) 4000000 (lit≤ tt) (lit≤ tt)

in_strip : (c : ℤ) (w : ℕ) (y z : ℤ) → nat_abs (c -ℤ pos w) ≤ 7000000 → nat_abs (c +ℤ pos w) ≤ 7000000 → neg_ℤ (pos 1000000) ≤ℤ z
    → inside c w y ≡ true → T (not (any_place (Some (around c w)) (λ v. above_limit v z) y))
    → Within 3 (joined (Some (around c w)) (λ v. entropy_at v z) y) (exact_joined (Some (around c w)) (λ v. exact_entropy_at v z) y)
in_strip c w y z hp hq hz e t =
    let p : ℤ = c -ℤ pos w in
    let q : ℤ = c +ℤ pos w in
    on_line (around c w) y z (lt_z_yes (and_left (lt_z p y) (lt_z y q) (is_true e))) (lt_z_yes (and_right (lt_z p y) (lt_z y q) (is_true e))) hp hq
    (z_small p z hz (not_left (above_limit p z) (above_limit q z) t))

-- where the carried logarithms of an accepted entropy lie
pub record EntropyBox (y z : ℤ) : Type 0 where
  pub density : YRange y
  pub least : neg_ℤ (pos 1000000) ≤ℤ z
  pub most : T (not (any_place (strip_of y) (λ v. above_limit v z) y))

-- the distance of s from the exact entropy
pub entropy_near : (y z : ℤ) → EntropyBox y z → Within 3 (entropy_of y z) (exact_entropy y z)
entropy_near y z box = go (inside low_edge 25000 y) (inside high_edge 5000 y) refl refl box.most
  where
    y_small : nat_abs y ≤ 7000000
    y_small = abs_of 6999999 3000000 y box.density.least box.density.most 7000000 (lit≤ tt) (lit≤ tt)

    strip : Bool → Bool → Option Strip
    strip p q = cond p (Some (around low_edge 25000)) (cond q (Some (around high_edge 5000)) None)

    go : (p q : Bool) → inside low_edge 25000 y ≡ p → inside high_edge 5000 y ≡ q → T (not (any_place (strip p q) (λ v. above_limit v z) y)) → Within 3 (joined (strip p q) (λ v. entropy_at v z) y) (exact_joined (strip p q) (λ v. exact_entropy_at v z) y)
    go true q e₁ e₂ t = in_strip low_edge 25000 y z (lit≤ tt) (lit≤ tt) box.least e₁ t
    go false true e₁ e₂ t = in_strip high_edge 5000 y z (lit≤ tt) (lit≤ tt) box.least e₂ t
    go false false e₁ e₂ t = near_more (lit≤ tt) (plain_near y z y_small (z_small y z box.least t))
