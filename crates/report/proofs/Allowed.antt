-- What lawful choices make of a sheet and a list is an output that document 01 allows.
-- Assumes nothing.
use Rattle.std.specs.Prelude as rust
use mathlib.Core.List.{List, [], ◌∷◌, ◌++◌}
use mathlib.Core.Path.{◌≡◌, refl, ap, subst}
use Prim.Native.Nat.{ℕ}
use lib.IntN.{ℤ}
use native.Mathlib.Omega.{arith}
use Rattle.sheet_search.specs.Find.{Lookup}
use Rattle.air.specs.declared.Answer.{Answer}
use Rattle.air.specs.declared.Answer.TheVariants.{Judged, Shows}
use Rattle.air.specs.declared.Answer.TheVariants as a
use Rattle.air.specs.declared.Logs.{Logs}
use Rattle.air.specs.declared.Edges.{Edges}
use Rattle.air.specs.declared.Ends.{Ends}
use Rattle.air.specs.Held.{Held, held, refuses, judges, shows}
use Rattle.air.specs.Choices.{Choices, Lawful}
use Rattle.state.specs.State.{answer_by}
use Rattle.kind.specs.Kind.{kind_of}
use Rattle.calculator.specs.Search.{answer_at, search_by}
use Rattle.calculator.proofs.Demand3.{search_allowed}
use Rattle.line.specs.Line.{line}
use Rattle.name_list.specs.Lines.{lines_of}
use Rattle.refusal.specs.Numbered.{number_for}
use Rattle.state.proofs.Shapes.{Shapes, made_has}
use Rattle.report.specs.Named.{ValueOrNamed}
use Rattle.report.proofs.Named.{Named, by, LookupNamed, is_err, is_ok, located}
use Rattle.report.specs.Listing.{lines_by, listing_by, Lines, done, next, IsListing}

-- an answer that holds h, which has a value or the number of a refusal
pub record Holder (h : Held) : Type 0 where
  pub answer : Answer
  pub holds : held answer ≡ h
  pub named : ValueOrNamed h

refusal : {n : ℕ} → Named n → Holder (refuses n)
refusal {n} r = record { answer = a.Refused (number_for r.refusal); holds = ap refuses r.is; named = λ e. (r.refusal, r.is) }

judged : {n k : ℕ} {l : Logs} {e : Edges} → Named n → Holder (judges n k l e)
judged {n} {k} {l} {e} r = record { answer = Judged k (number_for r.refusal) l e; holds = ap (λ (m : ℕ). judges m k l e) r.is; named = λ e. (r.refusal, r.is) }

shown : {k : ℕ} {l : Logs} {e : Edges} {s : rust.Option Ends} {v : ℤ} → Holder (shows k l e s v)
shown = record { answer = Shows _ _ _ _ _; holds = refl; named = λ e. let f : ◌≡◌ {A = ℕ} 0 1 = cc in absurd (omega arith) }

-- whatever is held for a state, an answer holds it
pub holders : Shapes Holder
holders = record { refused = λ r. refusal (by r); judged = λ r. judged (by r); unfitted = shown; one = shown; two = shown }

module _ (c : Choices) where
  -- an answer to a state
  pub state : (kind first second : ℕ) → Holder (answer_by c kind first second)
  unfolding answer_by
  state kind first second = made_has holders c (kind_of kind) first second

  found : {f : Lookup} → LookupNamed f → Holder (answer_at c f)
  found (is_err r) = refusal (by r)
  found (is_ok {r = x}) = state x.kind x.first x.second

  -- and to a search
  pub searched : (sheet spelling : List ℕ) → Holder (search_by c sheet spelling)
  unfolding search_by
  searched sheet spelling = found (located sheet spelling)

module _ (c : Choices) (law : Lawful c) (sheet : List ℕ) where
  lines : (ns : List (List ℕ)) → Lines sheet ns (lines_by c sheet ns)
  unfolding lines_by
  lines [] = done
  lines (n ∷ ns) =
      let h = searched c sheet n in
      subst (λ (x : Held). Lines sheet (n ∷ ns) (line n x ++ lines_by c sheet ns)) h.holds
      (next h.answer (search_allowed c law sheet n h.answer h.holds) (lines ns))

  pub listing_allowed : (input : List ℕ) → IsListing sheet input (listing_by c sheet input)
  unfolding listing_by
  listing_allowed input = record { lines = lines_by c sheet (lines_of input); allowed = lines (lines_of input); is = refl }
