-- Demand 3 of what `eas_search` and `eas_evaluate` give: what is carried is what is held, and demand 3 of the answer does the rest.
use mathlib.Core.Option.{Option, none, some}
use mathlib.Core.Path.{◌≡◌, sym, ap, ◌∙◌, subst}
use Prim.Native.Nat.{ℕ}
use Rattle.kind.specs.Kind.{kind_of}
use Rattle.sheet_record.specs.declared.Record.{Record}
use Rattle.air.specs.declared.Answer.{Answer}
use Rattle.air.specs.Held.{Held, held}
use Rattle.air.specs.Property.{Property, AcceptedAny}
use Rattle.state.specs.State.{property_of, Accepted}
use Rattle.calculator.specs.Demand3.{Answered}
use Rattle.calculator.proofs.Demand3.{demand3, unless_refused_lem}
use Rattle.calculator.proofs.FoundName.{search_answered}
use Rattle.flat.specs.declared.CAnswer.{CAnswer}
use Rattle.flat.specs.Flat.{flat}
use Rattle.flat.specs.Back.{held_in}
use Rattle.flat.proofs.Back.{settled, back, flat_keeps_all}
use Rattle.c_laws.specs.Demand3.{FlatAccepted, FlatAnswered, FlatDemand3, SearchUnlessRefused, StateUnlessRefused}

-- a state is accepted by its logarithms and fits alone
accepted_held : (o : Option Property) (v w : ℕ) (h : Held) → AcceptedAny o v w (settled h) → AcceptedAny o v w h
accepted_held none v w h x = x
accepted_held (some k) v w h x = record { no_10 = x.no_10; no_11 = x.no_11; by_logs_lem = x.by_logs_lem; by_fit_lem = x.by_fit_lem }

-- what is carried is what is held
accepted : (r : Record) (a : Answer) (c : CAnswer) → c ≡ flat (held a) → FlatAccepted r c → Accepted r.kind r.first r.second a
unfolding Accepted
accepted r a c e x =
    let o = property_of (kind_of r.kind) in
    accepted_held o r.first r.second (held a) (subst (AcceptedAny o r.first r.second) (ap held_in e ∙ back (held a)) x)

-- the number of an answer is the struct's
same_number : (a : Answer) (c : CAnswer) → c ≡ flat (held a) → c.number ≡ (held a).number
same_number a c e = ap (λ (h : Held). h.number) (ap held_in e ∙ back (held a))

flat_answered : (kind first second : ℕ) (a : Answer) (c : CAnswer) → c ≡ flat (held a) → Answered kind first second a → FlatAnswered kind first second c
flat_answered kind first second a c e d =
    record {
      no_refusal = same_number a c e ∙ d.no_refusal;
      answer = a;
      is = e;
      carries = ap held_in e ∙ flat_keeps_all kind first second a d.answer;
      answered = d;
    }

pub flat_demand3 : FlatDemand3
flat_demand3 s rs r spelling c e m k w x =
    flat_answered r.kind r.first r.second w.from c w.is (demand3 s rs r spelling w.from e m k w.allowed (accepted r w.from c w.is x))

pub search_unless_refused : SearchUnlessRefused
search_unless_refused s spelling c w zero =
    let f = search_answered s spelling w.from w.allowed (sym (same_number w.from c w.is) ∙ zero) in
    record {
      rs = f.rs;
      r = f.r;
      reads = f.reads;
      member = f.member;
      named = f.named;
      answered = flat_answered f.r.kind f.r.first f.r.second w.from c w.is f.answered;
    }

pub state_unless_refused : StateUnlessRefused
state_unless_refused kind first second c w zero =
    flat_answered kind first second w.from c w.is
    (unless_refused_lem kind first second w.from w.allowed (sym (same_number w.from c w.is) ∙ zero))
