-- `evaluate::evaluate` follows the kind; what the choices make is allowed.
use mathlib.Core.Path.{◌≡◌, sym, ap, ◌∙◌}
use Prim.Native.Nat.{ℕ}
use native.Mathlib.Omega.{arith}
use Rattle.std.proofs.Common.{rules}
use Rattle.std.specs.Prelude.{Option, Some, None, Result, Ok, Err}
use Rattle.refusal.specs.declared.Refusal.{Refusal}
use Rattle.refusal.specs.declared.Refusal.TheVariants.{UnknownKind}
use Rattle.refusal.specs.Numbered.{number_for}
use Rattle.kind.specs.declared.Kind.{Kind}
use Rattle.kind.specs.declared.Kind.TheVariants.{Temperature, Entropy, Pressure}
use Rattle.kind.specs.Kind.{kind_of, named}
use Rattle.air.specs.declared.Answer.{Answer}
use Rattle.air.specs.declared.Answer.TheVariants.{Refused}
use Rattle.air.specs.Held.{Held, held, refuses}
use Rattle.air.specs.Choices.{chosen}
use Rattle.state.specs.State.{property_of, answer_by, IsAnswer}
use Rattle.air.specs.Property.{held_by}
use Rattle.state.proofs.State.{allowed}
use Rattle.air.proofs.Lawful.{lawful}
use Rattle.evaluate.proofs.evaluate.Goals as goal

some_kind : (o : Option Kind) (k : Kind) → Ok k ≡ named o → Some k ≡ o
some_kind None k e = let f : ◌≡◌ {A = ℕ} 0 1 = cc in absurd (omega arith)
some_kind (Some j) k e = let h : k ≡ j = cc in ap Some h

-- what the kind makes is what the choices hold, and allowed
module _ (kind first second : ℕ) {r : Result Kind Refusal} {j : Kind} (k : Kind) (told : r ≡ named (kind_of kind)) (ok : r ≡ Ok j) (is : j ≡ k) where
  made : {h : Held} → h ≡ held_by chosen (property_of (Some k)) first second → h ≡ answer_by chosen kind first second
  unfolding answer_by
  made e = e ∙ ap (λ (x : Option Kind). held_by chosen (property_of x) first second) (some_kind (kind_of kind) k (ap Ok (sym is) ∙ sym ok ∙ told))

  is_answer : (a : Answer) → held a ≡ held_by chosen (property_of (Some k)) first second → IsAnswer kind first second a
  is_answer a e = allowed chosen lawful kind first second a (made e)

no_kind : (o : Option Kind) {q : Refusal} → Err q ≡ named o → (first second : ℕ) → refuses (number_for q) ≡ held_by chosen (property_of o) first second
no_kind None {q} e first second = let h : q ≡ UnknownKind = cc in ap (λ (x : Refusal). refuses (number_for x)) h
no_kind (Some k) e first second = let f : ◌≡◌ {A = ℕ} 0 1 = cc in absurd (omega arith)

-- what is told of no kind is its refusal's number
module _ (kind first second : ℕ) {r : Result Kind Refusal} {q : Refusal} (told : r ≡ named (kind_of kind)) (is : r ≡ Err q) where
  refused : {n : ℕ} → n ≡ number_for q → refuses n ≡ answer_by chosen kind first second
  unfolding answer_by
  refused e = ap refuses e ∙ no_kind (kind_of kind) (sym is ∙ told) first second

  is_refused : (n : ℕ) → n ≡ number_for q → IsAnswer kind first second (Refused n)
  is_refused n e = allowed chosen lawful kind first second (Refused n) (refused e)

pub returns-in-Err-clause-result_value : goal.returns-in-Err-clause-result_value
returns-in-Err-clause-result_value c = refused c.args.kind c.args.first c.args.second c.try_from.ensures c.in-Err.is (search rules)

pub returns-in-Err-clause-answer : goal.returns-in-Err-clause-answer
returns-in-Err-clause-answer c = is_refused c.args.kind c.args.first c.args.second c.try_from.ensures c.in-Err.is _ (search rules)

pub returns-in-Ok-Temperature-clause-result_value : goal.returns-in-Ok-Temperature-clause-result_value
returns-in-Ok-Temperature-clause-result_value c = made c.args.kind c.args.first c.args.second Temperature c.try_from.ensures c.in-Ok-Temperature.is c.in-Ok-Temperature.field-0-is (search rules)

pub returns-in-Ok-Temperature-clause-answer : goal.returns-in-Ok-Temperature-clause-answer
returns-in-Ok-Temperature-clause-answer c = is_answer c.args.kind c.args.first c.args.second Temperature c.try_from.ensures c.in-Ok-Temperature.is c.in-Ok-Temperature.field-0-is _ (search rules)

pub returns-in-Ok-Entropy-clause-result_value : goal.returns-in-Ok-Entropy-clause-result_value
returns-in-Ok-Entropy-clause-result_value c = made c.args.kind c.args.first c.args.second Entropy c.try_from.ensures c.in-Ok-Entropy.is c.in-Ok-Entropy.field-0-is (search rules)

pub returns-in-Ok-Entropy-clause-answer : goal.returns-in-Ok-Entropy-clause-answer
returns-in-Ok-Entropy-clause-answer c = is_answer c.args.kind c.args.first c.args.second Entropy c.try_from.ensures c.in-Ok-Entropy.is c.in-Ok-Entropy.field-0-is _ (search rules)

pub returns-in-Ok-Pressure-clause-result_value : goal.returns-in-Ok-Pressure-clause-result_value
returns-in-Ok-Pressure-clause-result_value c = made c.args.kind c.args.first c.args.second Pressure c.try_from.ensures c.in-Ok-Pressure.is c.in-Ok-Pressure.field-0-is (search rules)

pub returns-in-Ok-Pressure-clause-answer : goal.returns-in-Ok-Pressure-clause-answer
returns-in-Ok-Pressure-clause-answer c = is_answer c.args.kind c.args.first c.args.second Pressure c.try_from.ensures c.in-Ok-Pressure.is c.in-Ok-Pressure.field-0-is _ (search rules)
