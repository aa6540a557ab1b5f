-- Demand 3, and that what lawful choices make of a search is allowed.
use Rattle.std.specs.Prelude.{Ok, Err}
use mathlib.Core.List.{List, Memᴰ}
use mathlib.Core.Path.{◌≡◌, ap, ◌∙◌, subst}
use Prim.Native.Nat.{ℕ}
use lib.Dec.{lit≤}
use Rattle.sheet_search.specs.Find.{Lookup}
use Rattle.octets.specs.Room.{text}
use Rattle.name.specs.Name.{name_of}
use Rattle.sheet_record.specs.declared.Record.{Record}
use Rattle.sheet_record.specs.Layout.{layout_of}
use Rattle.sheet_record.specs.Front.{name_in}
use Rattle.sheet.specs.Sheet.{records, sheet_of}
use Rattle.sheet_search.proofs.Locate.{finds}
use Rattle.air.specs.declared.Answer.{Answer}
use Rattle.air.specs.Held.{held}
use Rattle.air.specs.Choices.{Choices, Lawful, chosen}
use Rattle.state.specs.State.{IsAnswer, Accepted}
use Rattle.state.proofs.State.{allowed, accurate, no_refusal, not_refused_accepted}
use Rattle.air.proofs.Lawful.{lawful}
use Rattle.calculator.specs.Search.{locate, locate_in, locate_name, AnswerAt, IsSearch, answer_at, search_by}
use Rattle.calculator.specs.Demand3.{Answered, Demand3, SearchDemand3}

-- all that demand 3 says holds of an allowed answer that is accepted, and of one that is no refusal
pub answered : (kind first second : ℕ) (a : Answer) → IsAnswer kind first second a → Accepted kind first second a → Answered kind first second a
answered kind first second a it ok =
    record {
      answer = it;
      no_refusal = no_refusal 128 kind first second a (accurate 128 (lit≤ tt) kind first second a ok it);
      accurate = λ n h. accurate n h kind first second a ok it;
    }

pub unless_refused_lem : (kind first second : ℕ) (a : Answer) → IsAnswer kind first second a → (held a).number ≡ 0 → Answered kind first second a
unless_refused_lem kind first second a it zero = answered kind first second a it (not_refused_accepted kind first second a it zero)

-- any valid spelling of a record's name finds that record
pub locates : (s : List ℕ) (rs : List Record) (r : Record) (spelling : List ℕ)
    → sheet_of s ≡ records rs → Memᴰ r rs → name_of spelling ≡ text (name_in s r) → locate s spelling ≡ Ok r
unfolding locate
locates s rs r spelling e m k = ap (locate_in s spelling) e ∙ ap (locate_name s rs) k ∙ (finds layout_of s rs r e m).found

pub demand3 : Demand3
unfolding IsSearch
demand3 s rs r spelling a e m k searched ok =
    answered r.kind r.first r.second a (subst (λ (f : Lookup). AnswerAt f a) (locates s rs r spelling e m k) searched) ok

allowed_at : (c : Choices) → Lawful c → (f : Lookup) (a : Answer) → held a ≡ answer_at c f → AnswerAt f a
allowed_at c law (Err n) a e = e
allowed_at c law (Ok r) a e = allowed c law r.kind r.first r.second a e

-- what lawful choices make of a search is an answer that document 01 allows
pub search_allowed : (c : Choices) → Lawful c → (s spelling : List ℕ) (a : Answer) → held a ≡ search_by c s spelling → IsSearch s spelling a
unfolding IsSearch search_by
search_allowed c law s spelling a e = allowed_at c law (locate s spelling) a e

-- demand 3 of the search's own contract
pub search_demand3 : SearchDemand3
search_demand3 s rs r spelling a e m k searched ok = demand3 s rs r spelling a e m k (search_allowed chosen lawful s spelling a searched) ok
