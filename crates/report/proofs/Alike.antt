-- The listing takes from a sheet its number and its searches alone.
use mathlib.Core.List.{List, [], ◌∷◌, ◌++◌}
use mathlib.Core.Path.{◌≡◌, refl, ap₂}
use Prim.Native.Nat.{ℕ}
use Rattle.air.specs.Choices.{Choices}
use Rattle.air.specs.Held.{Held}
use Rattle.sheet.specs.Sheet.{sheet_of, number_of}
use Rattle.calculator.specs.Search.{search_by}
use Rattle.line.specs.Line.{line}
use Rattle.name_list.specs.Lines.{lines_of}
use Rattle.report_refusal.specs.Refusal.{listing_for}
use Rattle.report.specs.Listing.{lines_by, listing_by}

module _ (c : Choices) (s t : List ℕ) (searches : (spelling : List ℕ) → search_by c s spelling ≡ search_by c t spelling) where
  same_lines : (ns : List (List ℕ)) → lines_by c s ns ≡ lines_by c t ns
  unfolding lines_by
  same_lines [] = refl
  same_lines (n ∷ ns) = ap₂ (λ (h : Held) (out : List ℕ). line n h ++ out) (searches n) (same_lines ns)

  pub same_listing : number_of (sheet_of s) ≡ number_of (sheet_of t) → (input : List ℕ) → listing_by c s input ≡ listing_by c t input
  unfolding listing_by
  same_listing e input = ap₂ (λ (k : ℕ) (out : List ℕ). listing_for k input out) e (same_lines (lines_of input))
