-- What C gets is made of an answer that document 01 allows.
use Rattle.std.specs.Prelude.{Ok, Err}
use mathlib.Core.Bool.{Bool, true, false, cond}
use mathlib.Core.List.{List, [], ◌∷◌}
use mathlib.Core.Path.{◌≡◌, refl, sym, ap, subst, ◌∙◌}
use Prim.Native.Nat.{ℕ, zero, suc, ◌≤◌, ◌<◌}
use native.Mathlib.Omega.{arith}
use borrow.Author.Tests.{ltb-true, ltb-false}
use lib.Dec.{ltb}
use lib.ListN.{length}
use Rattle.sheet_search.specs.Find.{Lookup}
use Rattle.octets.specs.Room.{fitting, written, outcome_of}
use Rattle.octets.proofs.Told.{fits}
use Rattle.name.specs.Spelling.{spelled}
use Rattle.sheet_record.specs.declared.Record.{Record}
use Rattle.sheet_record.specs.Front.{name_in}
use Rattle.sheet.specs.Sheet.{Sheet, records, sheet_of}
use Rattle.sheet_walk.specs.Records.{record_in}
use Rattle.air.specs.Choices.{chosen}
use Rattle.air.specs.Held.{Held, held}
use Rattle.state.specs.State.{IsAnswer, answer_by}
use Rattle.state.proofs.State.{allowed}
use Rattle.air.proofs.Lawful.{lawful}
use Rattle.calculator.specs.Search.{IsSearch, search_by}
use Rattle.calculator.proofs.Demand3.{search_allowed}
use Rattle.line.specs.Line.{line, line_of}
use Rattle.report.specs.Listing.{listing_by}
use Rattle.report.proofs.Allowed.{state, searched, listing_allowed}
use Rattle.walk.specs.declared.Walk.{Walk}
use Rattle.walk.specs.declared.Step.{Step}
use Rattle.walk.specs.Walk.{line_at, step_by, stepped, step_of}
use Rattle.walk.specs.Allowed.{IsStep}
use Rattle.mark.specs.Mark.{mark_of}
use Rattle.flat.specs.declared.CAnswer.{CAnswer}
use Rattle.flat.specs.Flat.{flat}
use Rattle.flat_parts.specs.declared.CMark.{CMark}
use Rattle.flat_parts.specs.declared.CText.{CText}
use Rattle.flat_parts.specs.Flat.{flat_mark, flat_text}
use Rattle.c_laws.specs.Texts.{line_in, listing_in}
use Rattle.c_laws.specs.Allowed.{MadeOf, IsFlatAnswer, IsFlatSearch, IsFlatMark, IsFlatLine, IsFlatListing, IsFlatStep}

-- whatever is made of the program's answer to a state, or to a search
of_state : {A : Type 0} (make : Held → A) (kind first second : ℕ) (x : A) → x ≡ make (answer_by chosen kind first second)
    → MadeOf (IsAnswer kind first second) (λ a. make (held a)) x
of_state make kind first second x e =
    let h = state chosen kind first second in
    record { from = h.answer; allowed = allowed chosen lawful kind first second h.answer h.holds; is = e ∙ sym (ap make h.holds) }

of_search : {A : Type 0} (make : Held → A) (sheet spelling : List ℕ) (x : A) → x ≡ make (search_by chosen sheet spelling)
    → MadeOf (IsSearch sheet spelling) (λ a. make (held a)) x
of_search make sheet spelling x e =
    let h = searched chosen sheet spelling in
    record { from = h.answer; allowed = search_allowed chosen lawful sheet spelling h.answer h.holds; is = e ∙ sym (ap make h.holds) }

-- the struct of an answer, to a state and to a search, and a mark
pub answer_made : (kind first second : ℕ) (c : CAnswer) → c ≡ flat (answer_by chosen kind first second) → IsFlatAnswer kind first second c
answer_made kind first second c e = of_state flat kind first second c e

module _ (sheet spelling : List ℕ) where
  pub search_made : (c : CAnswer) → c ≡ flat (search_by chosen sheet spelling) → IsFlatSearch sheet spelling c
  search_made c e = of_search flat sheet spelling c e

  pub mark_made : (c : CMark) → c ≡ flat_mark (mark_of (search_by chosen sheet spelling)) → IsFlatMark sheet spelling c
  mark_made c e = of_search (λ h. flat_mark (mark_of h)) sheet spelling c e

-- a line, and a listing, in lent room
module _ (sheet names room last : List ℕ) (c : CText) where
  pub line_made : c ≡ flat_text (outcome_of (line_in (length room) sheet names)) → last ≡ written (line_in (length room) sheet names) room → IsFlatLine sheet names room last c
  line_made e w =
      record {
        text = line_in (length room) sheet names;
        allowed = of_search (λ h. fitting (length room) (line names h)) sheet names (line_in (length room) sheet names) refl;
        is = e;
        holds = w;
      }

  pub listing_made : c ≡ flat_text (outcome_of (listing_in (length room) sheet names)) → last ≡ written (listing_in (length room) sheet names) room → IsFlatListing sheet names room last c
  listing_made e w =
      record {
        text = listing_in (length room) sheet names;
        allowed = record { from = listing_by chosen sheet names; allowed = listing_allowed chosen lawful sheet names; is = refl };
        is = e;
        holds = w;
      }

-- a step of a walk
none_left : (rs : List Record) (i : ℕ) {k : ℕ} → record_in rs i ≡ Err k → length rs ≤ i
unfolding record_in
none_left [] i e = omega arith
none_left (r ∷ rs) zero e = let f : ◌≡◌ {A = ℕ} 0 1 = cc in absurd (omega arith)
none_left (r ∷ rs) (suc i) e = omega (arith, none_left rs i e)

step_allowed : (s : List ℕ) (w : Walk) (room : ℕ) → IsStep s w room (stepped chosen s w room)
unfolding stepped
step_allowed s w room = go (sheet_of s) refl
  where
    next : (rs : List Record) → sheet_of s ≡ records rs → w.given < w.count → (f : Lookup) → record_in rs w.given ≡ f → IsStep s w room (fitting room (line_at chosen s f))
    next rs p l (Err k) e = subst (IsStep s w room) (sym (fits room [] (omega arith))) (IsStep.past p (none_left rs w.given e))
    next rs p l (Ok r) e =
        let h = state chosen r.kind r.first r.second in
        subst (λ (x : Held). IsStep s w room (fitting room (line_of (spelled (name_in s r)) x))) h.holds
        (IsStep.line h.answer p l e (allowed chosen lawful r.kind r.first r.second h.answer h.holds))

    walked : (rs : List Record) → sheet_of s ≡ records rs → (b : Bool) → ltb w.given w.count ≡ b
        → IsStep s w room (fitting room (cond b (line_at chosen s (record_in rs w.given)) []))
    walked rs p true q = next rs p (ltb-true w.given w.count q) (record_in rs w.given) refl
    walked rs p false q = subst (IsStep s w room) (sym (fits room [] (omega arith))) (IsStep.over p (ltb-false w.given w.count q))

    go : (t : Sheet) → sheet_of s ≡ t → IsStep s w room (step_by chosen t s w room)
    go (Sheet.refused k) p = IsStep.own p
    go (records rs) p = walked rs p (ltb w.given w.count) refl

pub step_made : (s : List ℕ) (w : Walk) (room last : List ℕ) (r : Step) → r ≡ step_of w (stepped chosen s w (length room)) → last ≡ written (stepped chosen s w (length room)) room
    → IsFlatStep s w room last r
step_made s w room last r e h = record { text = stepped chosen s w (length room); allowed = step_allowed s w (length room); is = e; holds = h }
