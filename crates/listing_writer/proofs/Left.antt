-- What is left of a listing after some of its parts.
-- Assumes nothing.
use mathlib.Core.Bool.{Bool, true, false}
use mathlib.Core.List.{List, [], ◌++◌}
use mathlib.Core.Path.{◌≡◌, refl, sym, ap, ◌∙◌}
use Prim.Native.Nat.{ℕ, ◌+◌, ◌≤◌}
use native.Mathlib.Omega.{arith}
use borrow.Author.Tests.{ltb-false}
use lib.Dec.{eqb, ltb}
use lib.ListN.{length, take, drop, length-append, length-drop}
use lib.Seq.{take_at, drop_at, drop-drop}
use Rattle.air.specs.Choices.{chosen}
use Rattle.sheet.specs.Sheet.{sheet_of, number_of}
use Rattle.name_list.specs.Lines.{lines_of}
use Rattle.report_refusal.specs.Refusal.{refusal_of}
use Rattle.report.specs.Listing.{lines_by, listing_by}
use Rattle.report.specs.Steps.{Part}
use Rattle.report_refusal.proofs.Cases.{either}
use Rattle.report.proofs.Output.{lines_append, none_left}
use Rattle.listing_output.specs.Output.{Next}

not_refused : (number : ℕ) (ls : List ℕ) (accepted long : Bool) → either number [] accepted long ≡ [] → (either number ls accepted long ≡ ls) × (long ≡ false)
not_refused number ls true false e = (refl, refl)
not_refused number ls true true e = let f : ⊥ = omega (arith, ap length e) in absurd f
not_refused number ls false long e = let f : ⊥ = omega (arith, ap length e) in absurd f

-- the lines of the names from a place on
abbrev lines : List ℕ → List ℕ → ℕ → List ℕ
lines sheet list start = lines_by chosen sheet (lines_of (drop start list))

-- `done` bytes of the listing are written, and the lines from `start` on are left
pub record Left (sheet list : List ℕ) (start done : ℕ) : Type 0 where
  pub inside : done ≤ length (listing_by chosen sheet list)
  pub rest : drop done (listing_by chosen sheet list) ≡ lines sheet list start

module _ (sheet list : List ℕ) (e : refusal_of sheet list ≡ []) where
  -- a listing without a refusal has only lines
  pub all_left : Left sheet list 0 0
  unfolding listing_by refusal_of
  all_left =
      let n : ℕ = number_of (sheet_of sheet) in
      record { inside = omega arith; rest = (not_refused n (lines sheet list 0) (eqb n 0) (ltb 65536 (length list)) e).0 }

  pub list_short : length list ≤ 65536
  unfolding refusal_of
  list_short = let n : ℕ = number_of (sheet_of sheet) in ltb-false 65536 (length list) (not_refused n [] (eqb n 0) (ltb 65536 (length list)) e).1

module _ {sheet list : List ℕ} {start done : ℕ} (l : Left sheet list start done) where
  pub all_written : length list ≤ start → done ≡ length (listing_by chosen sheet list)
  unfolding lines_by
  all_written h =
      let e : lines sheet list start ≡ [] = ap (lines_by chosen sheet) (none_left list start h) in
      omega (arith, l.inside, length-drop done (listing_by chosen sheet list), ap length (l.rest ∙ e))

  module _ {room last : List ℕ} {next len : ℕ} (p : Part sheet list room last start next len) where
    abbrev text : List ℕ
    text = lines_by chosen sheet p.done

    front : take len last ≡ text
    front = ap (take len) p.holds ∙ take_at text (drop (length text) room) len (sym p.here)

    split : drop done (listing_by chosen sheet list) ≡ text ++ lines sheet list next
    split = l.rest ∙ ap (lines_by chosen sheet) p.names ∙ lines_append sheet p.done (lines_of (drop next list))

    pub part_size : length (take len last) ≡ len
    part_size = ap length front ∙ sym p.here

    pub part_next : Next (listing_by chosen sheet list) done (take len last)
    part_next =
        let n : ℕ = length (take len last) in
        front ∙ sym (ap (take n) split ∙ take_at text (lines sheet list next) n (sym (ap length front)))

    pub part_left : Left sheet list next (done + len)
    part_left =
        let listing : List ℕ = listing_by chosen sheet list in
        let after : List ℕ = lines sheet list next in
        record {
          inside = omega (arith, l.inside, length-drop done listing, ap length split, length-append text after, p.here);
          rest = sym (drop-drop len done listing) ∙ ap (drop len) split ∙ drop_at text after len (sym p.here);
        }
