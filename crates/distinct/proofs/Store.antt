-- Lists of zeros, and what holds of each element of a list after a store. Assumes nothing.
use mathlib.Core.Bool.{Bool, true, false}
use mathlib.Core.List.{List}
use mathlib.Core.Path.{◌≡◌, refl}
use Prim.Native.Nat.{ℕ, zero, suc, ◌<◌}
use borrow.Author.Tests.{eqb-true, eqb-false}
use lib.Dec.{eqb}
use lib.ListN.{length, get_or, set, replicate, length-replicate}
use lib.Seq.{get_or-set_same, get_or-set_other}
use Rattle.distinct.specs.Chain.{NoLinks}

zeros : (n j : ℕ) → ◌≡◌ {A = ℕ} (get_or (replicate n 0) j 0) 0
zeros zero j = refl
zeros (suc n) zero = refl
zeros (suc n) (suc j) = zeros n j

pub no_links : (n : ℕ) → NoLinks n (replicate n 0)
no_links n = record { long = length-replicate {A = ℕ} n 0; none = zeros n }

module _ (P : ℕ → Type 0) (l : List ℕ) (i v k : ℕ) (inside : i < length l) (stored : k ≡ i → P v) (other : (k ≡ i → ⊥) → P (get_or l k 0)) where
  by_place : (b : Bool) → eqb k i ≡ b → P (get_or (set l i v) k 0)
  by_place true e = rw (eqb-true k i e, get_or-set_same l i v 0 inside) (stored (eqb-true k i e))
  by_place false e = rw (get_or-set_other l i k v 0 (eqb-false k i e)) (other (eqb-false k i e))

  pub after_store : P (get_or (set l i v) k 0)
  after_store = by_place (eqb k i) refl
