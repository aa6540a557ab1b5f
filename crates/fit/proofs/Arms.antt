-- The arms of a choice among pieces: the piece of an arm is the one that was asked for, at what the machine has of Y and Z.
use mathlib.Core.List.{List, []}
use mathlib.Core.Path.{◌≡◌, sym, ap, ◌∙◌, subst}
use Prim.Native.Nat.{ℕ}
use lib.IntN.{ℤ}
use lib.ListN.{get_or}
use mir.Syntax.{w64}
use mir.Val.{SFits, to_z, of_z}
use Rattle.integer.proofs.Machine.{back}
use Rattle.weight.specs.Choice.{weight_by}
use Rattle.fit.specs.declared.Edge.{Edge}
use Rattle.fit.specs.Fit.{Piece, alone}
use Rattle.fit.specs.Edge.{edge_with, Workable}

-- of a table, by its index
pub same_piece : (ks : List Piece) {i j : ℕ} → i ≡ j → get_or ks i (alone []) ≡ get_or ks j (alone [])
same_piece ks e = ap (λ (n : ℕ). get_or ks n (alone [])) e

module _ {p q : Piece} {y z : ℤ} (e : p ≡ q) (fy : SFits w64 y) (fz : SFits w64 z) where
  pub arm_takes : Workable p y z → Workable q (to_z w64 (of_z w64 y)) (to_z w64 (of_z w64 z))
  arm_takes h = rw (back fy, back fz) (subst (λ (k : Piece). Workable k y z) e h)

  pub arm_gives : {r : Edge} → r ≡ edge_with weight_by q (to_z w64 (of_z w64 y)) (to_z w64 (of_z w64 z)) → r ≡ edge_with weight_by p y z
  arm_gives h = (rw (back fy, back fz) at h) ∙ ap (λ (k : Piece). edge_with weight_by k y z) (sym e)
