-- The listing by what `begin` answers: the line of a refusal, or all lines.
-- Assumes nothing.
use Rattle.std.specs.Prelude.{Ok, Result}
use mathlib.Core.Bool.{Bool, true, false}
use mathlib.Core.List.{List, []}
use mathlib.Core.Path.{◌≡◌, refl, sym, ◌∙◌}
use Prim.Native.Nat.{ℕ}
use native.Mathlib.Omega.{arith}
use borrow.Author.Tests.{le-leb}
use lib.Dec.{eqb, ltb}
use lib.ListN.{length}
use Rattle.air.specs.Choices.{chosen}
use Rattle.octets.specs.Room.{fitting, outcome_of}
use Rattle.sheet.specs.Sheet.{sheet_of, number_of}
use Rattle.name_list.specs.Lines.{lines_of}
use Rattle.report_refusal.specs.Refusal.{refusal_of}
use Rattle.report_refusal.proofs.Cases.{either, not_empty}
use Rattle.report.specs.Listing.{lines_by, listing_by}

empty_fits : (room : ℕ) → outcome_of (fitting room []) ≡ Ok 0
empty_fits room = rw (le-leb 0 room (omega arith))

-- the listing by the refusal that `begin` answers with: that line alone, or else all lines
module _ (sheet list : List ℕ) (room : ℕ) (r : Result ℕ ℕ) (e : r ≡ outcome_of (fitting room (refusal_of sheet list))) where
  abbrev number : ℕ
  number = number_of (sheet_of sheet)

  abbrev lines : List ℕ
  lines = lines_by chosen sheet (lines_of list)

  pub one_line : (r ≡ Ok 0 → ⊥) → refusal_of sheet list ≡ listing_by chosen sheet list
  unfolding refusal_of listing_by
  one_line z = go (eqb number 0) (ltb 65536 (length list)) e
    where
      go : (accepted long : Bool) → r ≡ outcome_of (fitting room (either number [] accepted long)) → either number [] accepted long ≡ either number lines accepted long
      go true true h = refl
      go true false h = absurd (z (h ∙ empty_fits room))
      go false long h = refl

  pub all_lines : r ≡ Ok 0 → (refusal_of sheet list ≡ []) × (listing_by chosen sheet list ≡ lines)
  unfolding refusal_of listing_by
  all_lines d = go (eqb number 0) (ltb 65536 (length list)) (sym d ∙ e)
    where
      go : (accepted long : Bool) → Ok 0 ≡ outcome_of (fitting room (either number [] accepted long))
          → (either number [] accepted long ≡ []) × (either number lines accepted long ≡ lines)
      go true false h = (refl, refl)
      go true true h = absurd (not_empty (either number [] true true) room (omega arith) h)
      go false long h = absurd (not_empty (either number [] false long) room (omega arith) h)
