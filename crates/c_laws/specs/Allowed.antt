-- What C gets is made of an answer that document 01 allows: the free answers are fixed no further than that.
use Rattle.std.specs.Prelude.{List, ◌≡◌, ℕ, length}
use Rattle.octets.specs.Room.{Text, fitting, written, outcome_of}
use Rattle.air.specs.Held.{held}
use Rattle.state.specs.State.{IsAnswer}
use Rattle.mark.specs.Mark.{mark_of}
use Rattle.calculator.specs.Search.{IsSearch}
use Rattle.line.specs.Line.{line}
use Rattle.report.specs.Listing.{IsListing}
use Rattle.walk.specs.declared.Walk.{Walk}
use Rattle.walk.specs.declared.Step.{Step}
use Rattle.walk.specs.Walk.{step_of}
use Rattle.walk.specs.Allowed.{IsStep}
use Rattle.flat.specs.declared.CAnswer.{CAnswer}
use Rattle.flat_parts.specs.declared.CMark.{CMark}
use Rattle.flat_parts.specs.declared.CText.{CText}
use Rattle.flat.specs.Flat.{flat}
use Rattle.flat_parts.specs.Flat.{flat_mark, flat_text}

-- x is made of something that is allowed
pub record MadeOf {S A : Type 0} (Allowed : S → Type 0) (make : S → A) (x : A) : Type 0 where
  pub from : S
  pub allowed : Allowed from
  pub is : x ≡ make from

-- the struct of an answer: to a search, and to a state handed in
abbrev pub IsFlatSearch : List ℕ → List ℕ → CAnswer → Type 0
IsFlatSearch sheet spelling c = MadeOf (IsSearch sheet spelling) (λ a. flat (held a)) c

abbrev pub IsFlatAnswer : ℕ → ℕ → ℕ → CAnswer → Type 0
IsFlatAnswer kind first second c = MadeOf (IsAnswer kind first second) (λ a. flat (held a)) c

-- the mark of an answer to a search
abbrev pub IsFlatMark : List ℕ → List ℕ → CMark → Type 0
IsFlatMark sheet spelling c = MadeOf (IsSearch sheet spelling) (λ a. flat_mark (mark_of (held a))) c

-- a text that is allowed, written to lent room or refused: `last` is the room afterwards
pub record InRoom (Allowed : Text → Type 0) (room last : List ℕ) (c : CText) : Type 0 where
  pub text : Text
  pub allowed : Allowed text
  pub is : c ≡ flat_text (outcome_of text)
  pub holds : last ≡ written text room

-- the line of an answer to a search, and a whole listing of such lines
abbrev pub IsFlatLine : List ℕ → List ℕ → List ℕ → List ℕ → CText → Type 0
IsFlatLine sheet spelling room last c = InRoom (MadeOf (IsSearch sheet spelling) (λ a. fitting (length room) (line spelling (held a)))) room last c

abbrev pub IsFlatListing : List ℕ → List ℕ → List ℕ → List ℕ → CText → Type 0
IsFlatListing sheet names room last c = InRoom (MadeOf (IsListing sheet names) (fitting (length room))) room last c

-- a step of a walk: what is told, and the room afterwards, by a text that is allowed
pub record IsFlatStep (s : List ℕ) (w : Walk) (room last : List ℕ) (r : Step) : Type 0 where
  pub text : Text
  pub allowed : IsStep s w (length room) text
  pub is : r ≡ step_of w text
  pub holds : last ≡ written text room
