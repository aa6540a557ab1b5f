-- What the program writes is the listing, whatever its parts are.
-- Assumes nothing.
use Rattle.std.specs.Prelude.{Ok, Result}
use mathlib.Core.List.{List, ◌++◌}
use mathlib.Core.Path.{◌≡◌, refl, sym, ap, ap₂, ◌∙◌, subst}
use Prim.Native.Nat.{ℕ, ◌≤◌}
use native.Mathlib.Omega.{arith}
use borrow.Author.Tests.{le-leb}
use lib.ListN.{length, take, drop}
use lib.Seq.{take_at}
use Rattle.air.specs.Choices.{chosen}
use Rattle.air.proofs.Lawful.{lawful}
use Rattle.octets.specs.Room.{Text, fitting, written, outcome_of}
use Rattle.name_list.specs.Lines.{lines_of}
use Rattle.report_refusal.specs.Refusal.{refusal_of}
use Rattle.report.specs.Listing.{lines_by, listing_by, IsListing}
use Rattle.report.specs.Steps.{Parts, none, more, Output, refusal, lines}
use Rattle.report.proofs.Output.{lines_append, none_left}
use Rattle.report_refusal.proofs.Cases.{done_fits}
use Rattle.report.proofs.Cases.{one_line, all_lines}
use Rattle.report.proofs.Allowed.{listing_allowed}

module _ (sheet list : List ℕ) where
  -- parts from a place on make the lines from there on
  parts_text : {start : ℕ} {out : List ℕ} → Parts sheet list start out → out ≡ lines_by chosen sheet (lines_of (drop start list))
  unfolding lines_by
  parts_text {start} (none h) = sym (ap (lines_by chosen sheet) (none_left list start h))
  parts_text (more {room} {last} {rest} {start} {next} {len} p ps) =
      let t : List ℕ = lines_by chosen sheet p.done in
      ap₂ ◌++◌ (ap (take len) p.holds ∙ take_at t (drop (length t) room) len (sym p.here)) (parts_text ps)
      ∙ sym (ap (lines_by chosen sheet) p.names ∙ lines_append sheet p.done (lines_of (drop next list)))

  -- a room of 71 bytes is always enough for `begin`
  pub answered : (room : List ℕ) (r : Result ℕ ℕ) → length (refusal_of sheet list) ≤ 71 → 71 ≤ length room → r ≡ outcome_of (fitting (length room) (refusal_of sheet list)) → r ≡ Ok (length (refusal_of sheet list))
  answered room r h k e = rw (le-leb (length (refusal_of sheet list)) (length room) (omega arith)) at e

  -- `begin` answered r and left `last` in the room
  module _ (room last : List ℕ) (w : last ≡ written (fitting (length room) (refusal_of sheet list)) room) where
    pub whole : {r : Result ℕ ℕ} {out : List ℕ} → r ≡ outcome_of (fitting (length room) (refusal_of sheet list)) → Output sheet list last r out → out ≡ listing_by chosen sheet list
    whole e (refusal {n} h) =
        let t = refusal_of sheet list in
        let d = done_fits t (length room) n e in
        ap (take n) (w ∙ ap (λ (x : Text). written x room) d.2)
        ∙ take_at t (drop (length t) room) n (sym d.0)
        ∙ one_line sheet list (length room) (Ok n) e (λ z. let m : n ≡ 0 = cc in omega arith)
    whole e (lines ps) = parts_text ps ∙ sym (all_lines sheet list (length room) (Ok 0) e refl).1

    -- and document 01 allows it
    pub output_allowed : {r : Result ℕ ℕ} {out : List ℕ} → r ≡ outcome_of (fitting (length room) (refusal_of sheet list)) → Output sheet list last r out → IsListing sheet list out
    output_allowed e o = subst (IsListing sheet list) (sym (whole e o)) (listing_allowed chosen lawful sheet list)
