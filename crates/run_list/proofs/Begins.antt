-- The whole listing by how it begins: the line of a refusal is all of it, or it is all lines.
use Rattle.std.specs.Prelude.{Ok, Err}
use mathlib.Core.List.{List}
use mathlib.Core.Path.{◌≡◌, refl}
use Prim.Native.Nat.{ℕ, ◌<◌}
use native.Mathlib.Omega.{arith}
use borrow.Author.Tests.{le-leb}
use lib.ListN.{length}
use Rattle.air.specs.Choices.{chosen}
use Rattle.octets.specs.Room.{fitting, written, outcome_of}
use Rattle.name_list.specs.Lines.{lines_of}
use Rattle.report_refusal.specs.Refusal.{refusal_of}
use Rattle.report.specs.Listing.{lines_by, listing_by}
use Rattle.report.proofs.Cases.{one_line, all_lines}

module _ (sheet list : List ℕ) (room : ℕ) where
  -- too little room for the line of a refusal, or that line
  pub short_line : (k : ℕ) → Err k ≡ outcome_of (fitting room (refusal_of sheet list)) → refusal_of sheet list ≡ listing_by chosen sheet list
  short_line k e = one_line sheet list room (Err k) e (λ z. let m : ◌≡◌ {A = ℕ} 0 1 = cc in omega arith)

  pub whole_line : (n : ℕ) → 0 < n → Ok n ≡ outcome_of (fitting room (refusal_of sheet list)) → refusal_of sheet list ≡ listing_by chosen sheet list
  whole_line n h e = one_line sheet list room (Ok n) e (λ z. let m : n ≡ 0 = cc in omega arith)

  -- no refusal: nothing is written yet
  pub nothing_written : (out last : List ℕ) → length out ≡ room → Ok 0 ≡ outcome_of (fitting room (refusal_of sheet list)) → last ≡ written (fitting room (refusal_of sheet list)) out → last ≡ out
  nothing_written out last l e w = rw ((all_lines sheet list room (Ok 0) e refl).0, le-leb 0 room (omega arith)) at w

  pub lines_all : Ok 0 ≡ outcome_of (fitting room (refusal_of sheet list)) → listing_by chosen sheet list ≡ lines_by chosen sheet (lines_of list)
  lines_all e = (all_lines sheet list room (Ok 0) e refl).1
