-- Keeping an exponent within a limit of 24 or more changes no weight: from 24 on each is 0 or 1.
use mathlib.Core.Bool.{Bool, true, false, cond}
use mathlib.Core.Option.{Option, none, some}
use mathlib.Core.Path.{◌≡◌, refl, sym, ap, ◌∙◌}
use Prim.Native.Nat.{ℕ, zero, suc, ◌≤◌, ◌-◌, ◌/◌, ◌%◌}
use native.Mathlib.Omega.{arith}
use borrow.Author.Tests.{le-ltb, ltb-true}
use lib.Dec.{T, ltb, leb, leb→le}
use lib.IntN.{ℤ, pos, negsuc}
use Rattle.weight.specs.Weight.{units}
use Rattle.weight.specs.Choice.{or_zero, share, inverse, exponential, weight_above, weight_of, weight_by}
use Rattle.fit.specs.declared.Form.{Form}
use Rattle.fit.specs.declared.Form.TheVariants.{Plus, Kept}
use Rattle.fit.specs.Fit.{kept_in}
use Rattle.fit.specs.Edge.{sign_of, limit_of}
use mathlib.Core.Logic.{◌⊎◌, inl, inr}

far : (u : ℕ) → 240000000000 ≤ u → weight_above u ≡ 0
unfolding weight_above
far u h = ap (λ (b : Bool). or_zero b (share (inverse (u / 625000000)) (exponential (u % 625000000)))) (le-ltb u 240000000000 h)

-- m is the limit less one, as a negative number has it
same_within : (m : ℕ) → 240000000000 ≤ suc m → (q : ℤ) → weight_of (kept_in (some (suc m)) q) ≡ weight_of q
unfolding weight_of
same_within m least (pos u) = go (ltb (suc m) u) refl
  where
    go : (b : Bool) → ltb (suc m) u ≡ b → weight_of (cond b (pos (suc m)) (pos u)) ≡ weight_of (pos u)
    go true e = ap (λ (n : ℕ). pos n) (far (suc m) least ∙ sym (far u (omega (arith, ltb-true (suc m) u e))))
    go false e = refl
same_within m least (negsuc u) = go (ltb m u) refl
  where
    go : (b : Bool) → ltb m u ≡ b → weight_of (cond b (negsuc m) (negsuc u)) ≡ weight_of (negsuc u)
    go true e = ap (λ (n : ℕ). pos (units - n)) (far (suc m) least ∙ sym (far (suc u) (omega (arith, ltb-true m u e))))
    go false e = refl

-- no limit, or one of 24 or more
abbrev pub is_far : Option ℕ → Bool
is_far none = true
is_far (some m) = leb 240000000000 m

pub same_kept : (l : Option ℕ) → T (is_far l) → (q : ℤ) → weight_of (kept_in l q) ≡ weight_of q
same_kept none t q = refl
same_kept (some zero) t q = absurd t
same_kept (some (suc m)) t q = same_within m (leb→le 240000000000 (suc m) t) q

-- so a plus transition has the weight of its exponent, kept or not
pub plus_kept : (f : Form) (q : ℤ) → (f ≡ Plus) ⊎ (f ≡ Kept) → weight_of q ≡ weight_by (sign_of f) (kept_in (limit_of f) q)
plus_kept f q (inl e) = rw e refl
plus_kept f q (inr e) = rw e (sym (same_kept (limit_of Kept) tt q))
