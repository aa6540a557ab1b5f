-- An allowed answer without a value is refused by a refusal's number.
use Rattle.std.specs.Prelude.{[]}
use mathlib.Core.Option.{none}
use mathlib.Core.Path.{◌≡◌, refl, sym, subst}
use native.Mathlib.Omega.{arith}
use Rattle.refusal.proofs.Apart.{never_zero}
use Rattle.kind.specs.Kind.{kind_of}
use Rattle.air.specs.declared.Answer.{Answer}
use Rattle.air.specs.declared.Answer.TheVariants.{Refused}
use Rattle.air.specs.Held.{held, refuses}
use Rattle.state.specs.State.{IsAnswer}
use Rattle.state.proofs.Shapes.{allowed_has}
use Rattle.sheet_search.specs.Find.{Lookup}
use Rattle.sheet.specs.Sheet.{sheet_by}
use Rattle.calculator.specs.Search.{AnswerAt, IsSearch, locate}
use Rattle.report.specs.Named.{ValueOrNamed, StateNamed, SearchNamed}
use Rattle.report.proofs.Named.{LookupNamed, is_err, is_ok, located}
use Rattle.report.proofs.Allowed.{holders}

pub state_named : StateNamed
unfolding IsAnswer
state_named kind first second a x = (allowed_has holders (kind_of kind) first second (held a) x).named

found : {f : Lookup} (a : Answer) → LookupNamed f → AnswerAt f a → ValueOrNamed (held a)
found a (is_err r) x = subst ValueOrNamed (sym x) (λ e. (r, refl))
found a (is_ok {r = y}) x = state_named y.kind y.first y.second a x

pub search_named : SearchNamed
unfolding IsSearch
search_named s spelling a x = found a (located s spelling) x

-- both premises are met by an unknown kind and by an empty sheet, and 0 is no refusal's number
pub refused_state : IsAnswer 0 0 0 (Refused 6) × ((held (Refused 6)).value ≡ none)
unfolding IsAnswer
refused_state = (refl, refl)

pub refused_search : IsSearch [] [] (Refused 2) × ((held (Refused 2)).value ≡ none)
unfolding IsSearch locate sheet_by
refused_search = (refl, refl)

pub unnamed_0 : ValueOrNamed (refuses 0) → ⊥
unnamed_0 f = let r = f refl in absurd (omega (arith, r.1, never_zero r.0))
