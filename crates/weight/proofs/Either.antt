-- Both kinds of transition at once: the program's choice is a weight, and a weight at a rounded exponent is near the ideal one at the exact exponent.
use mathlib.Core.Path.{◌≡◌, refl}
use Prim.Native.Nat.{ℕ, suc, ◌+◌, ◌*◌, ◌≤◌, ◌<◌}
use native.Mathlib.Nat.{mul-pos}
use native.Mathlib.Omega.{arith}
use lib.Dec.{lit<}
use lib.IntN.{ℤ, pos, negsuc, nat_abs}
use Rattle.integer.specs.Z.{≤→}
use Rattle.integer.specs.Laws.{abs_neg}
use Rattle.fraction.specs.Fraction.{Fraction, Within, parts, over}
use Rattle.weight.specs.Weight.{units, tolerance, Sign, one_plus, one_minus, excess, minus_top, ideal_minus, ideal_of, IsWeightOf}
use Rattle.weight.specs.Choice.{minus_above, weight_of, minus_of, weight_by, Served}
use Rattle.weight.proofs.Lipschitz.{weight_top, weight_bottom, ideal_is, weight_some, weight_most}
use Rattle.weight.proofs.Moved.{Weighed, moved}
use Rattle.weight.proofs.Near.{weight_is, above_most}
use Rattle.weight.proofs.Minus.{minus_is, minus_most}
use Rattle.weight.proofs.MinusMoved.{moved_minus, minus_size}

pub choice_is : (s : Sign) (q : ℤ) → Served s q → IsWeightOf s tolerance q (weight_by s q)
choice_is one_plus q h = weight_is q
choice_is one_minus q h = minus_is q h

pub choice_most : (s : Sign) (q : ℤ) → Served s q → nat_abs (weight_by s q) ≤ 12000000000
unfolding weight_of minus_of
choice_most one_plus (pos u) h = omega (arith, above_most u)
choice_most one_plus (negsuc u) h = omega arith
choice_most one_minus (pos u) h = rw (abs_neg (pos (minus_above u))) (omega (arith, minus_most u h))
choice_most one_minus (negsuc u) h = omega (arith, minus_most (suc u) h)

-- how large an ideal weight may be
abbrev pub factor_of : Sign → ℕ
factor_of one_plus = 1
factor_of one_minus = 2

-- an exponent that rounds to q, e units away at most, is one whose ideal weight moves by at most half of what it moves:
-- every one of a plus transition, and from 1.5 on, either way, of a minus transition
abbrev pub Settled : Sign → ℕ → ℤ → Type 0
Settled one_plus e q = Unit
Settled one_minus e q = 3 * units + 2 * e ≤ 2 * nat_abs q

-- the ideal weight at f units is top / bottom, which is not too large; and w, a weight within k at what f rounds to, e units away at most, is near it
pub record Ideal (s : Sign) (n k e : ℕ) (w : ℤ) (f : Fraction) : Type 0 where
  pub top : ℤ
  pub bottom : ℕ
  pub is : ideal_of s n (over units f) ≡ parts bottom top
  pub some : 0 < bottom
  pub most : nat_abs top ≤ factor_of s * bottom
  pub weighed : Weighed (2 * k + e) units w top bottom

pub ideal_near : (s : Sign) (n k e : ℕ) (w q : ℤ) (f : Fraction) → 128 ≤ n → Within e q f → Settled s e q → IsWeightOf s k q w → Ideal s n k e w f
unfolding ideal_minus
ideal_near one_plus n k e (negsuc w) q f l r h i = let no : ⊥ = omega (arith, ≤→ i.least) in absurd no
ideal_near one_plus n k e (pos w) q f l r h i =
    let b : ℕ = f.bottom * units in
    record {
      top = pos (weight_top n f.top b);
      bottom = weight_bottom n f.top b;
      is = ideal_is n (over units f);
      some = weight_some n f.top b (mul-pos r.proper.some (lit< tt));
      most = omega (arith, weight_most n f.top b);
      weighed = moved n units k e w q f (lit< tt) r (i.near n l);
    }
ideal_near one_minus n k e w q f l r h i =
    let size = minus_size n units e (lit< tt) (omega arith) q f r h in
    record {
      top = minus_top n f.top (f.bottom * units);
      bottom = excess (f.bottom * units) (nat_abs f.top) n;
      is = refl;
      some = size.some;
      most = size.most;
      weighed = moved_minus n units k e w (lit< tt) (omega arith) q f r h (i.near n l);
    }
