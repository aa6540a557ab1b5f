-- What a walk's beginning and a step give, case by case.
use Rattle.std.specs.Prelude.{Err}
use mathlib.Core.Bool.{Bool, true, cond}
use mathlib.Core.List.{List, [], ◌∷◌}
use mathlib.Core.Option.{Option, none, some}
use mathlib.Core.Path.{◌≡◌, refl, sym, ap, ◌∙◌}
use Prim.Native.Nat.{ℕ, ◌+◌, ◌-◌, ◌≤◌, ◌<◌}
use native.Mathlib.Omega.{arith}
use borrow.Author.Tests.{lt-ltb, le-ltb, le-leb}
use lib.IntN.{ℤ}
use lib.ListN.{length, take, drop, length-drop}
use lib.Seq.{length-take-le}
use Rattle.sheet_search.specs.Find.{Lookup}
use Rattle.refusal.specs.declared.Refusal.{Refusal}
use Rattle.refusal.specs.Numbered.{number_for}
use Rattle.refusal.proofs.Apart.{never_zero}
use Rattle.octets.specs.Bytes.{number_at}
use Rattle.octets.specs.Room.{Text, refused, text, fitting, written, outcome_of}
use Rattle.octets.proofs.Told.{fits}
use Rattle.name.specs.Spelling.{spelled}
use Rattle.air.specs.Choices.{Choices}
use Rattle.air.specs.Held.{Held}
use Rattle.state.specs.State.{answer_by}
use Rattle.air.specs.declared.Logs.{Logs}
use Rattle.sheet_record.specs.Layout.{layout_in}
use Rattle.sheet_record.specs.Front.{name_in}
use Rattle.sheet_record.specs.declared.Record.{Record}
use Rattle.sheet.specs.Sheet.{Sheet, records, sheet_of, number_of, records_of, Accepted}
use Rattle.sheet.proofs.Counted.{accepted_records, accepted_count}
use Rattle.sheet_search.proofs.Locate.{Fit}
use Rattle.sheet_walk.specs.Records.{record_in, record_by, record_of}
use Rattle.line.specs.Line.{line_of, rest_by, value_rest, refusal_rest}
use Rattle.walk.specs.Walk.{begun_by, line_of_record, line_at, next_line, step_by, stepped, step_of}
use Rattle.name.specs.Name.{is_length}
use Rattle.walk.specs.Parts.{Named, advanced}
use Rattle.walk.specs.declared.Walk.{Walk}
use Rattle.walk.specs.declared.Begun.{Begun}

abbrev begun : ℕ → ℕ → Begun
begun number count = record { number = number; walk = record { given = 0; count = count } }

pub begun_refused : (s : List ℕ) (n : ℕ) → n ≡ number_of (sheet_of s) → (n ≡ 0 → ⊥) → begun n 0 ≡ begun_by (sheet_of s)
begun_refused s n e z = go (sheet_of s) e
  where
    go : (t : Sheet) → n ≡ number_of t → begun n 0 ≡ begun_by t
    go (Sheet.refused k) h = ap (λ (i : ℕ). begun i 0) h
    go (records rs) h = absurd (z h)

pub begun_counted : (s : List ℕ) (n : ℕ) → Accepted s → n ≡ number_at 2 s 5 → begun 0 n ≡ begun_by (sheet_of s)
begun_counted s n a e = ap (begun 0) (e ∙ sym (accepted_count s a)) ∙ sym (ap begun_by (accepted_records s a))

-- a record that has a number is named in its sheet
pub fit_named : (s : List ℕ) (r : Record) → Fit (layout_in s) s r → Named s r
fit_named s r f = record { inside = omega (arith, f.inside.fits); sized = rw (le-leb 1 r.len f.named, le-leb r.len 40 f.short) }

-- a step by its sheet, its walk and its record
module _ (c : Choices) (s : List ℕ) (w : Walk) (room : ℕ) where
  pub step_own : (k : ℕ) → k ≡ number_of (sheet_of s) → (k ≡ 0 → ⊥) → stepped c s w room ≡ refused k
  unfolding stepped
  step_own k e z = go (sheet_of s) e
    where
      go : (t : Sheet) → k ≡ number_of t → step_by c t s w room ≡ refused k
      go (Sheet.refused n) h = ap refused (sym h)
      go (records rs) h = absurd (z h)

  -- a refused sheet's own number, and the room as it was
  pub own_value : (r : Refusal) → number_for r ≡ number_of (sheet_of s) → Err (number_for r) ≡ outcome_of (stepped c s w room)
  own_value r e = sym (ap outcome_of (step_own (number_for r) e (λ z. omega (arith, z, never_zero r))))

  pub own_room : (r : Refusal) (out : List ℕ) → number_for r ≡ number_of (sheet_of s) → out ≡ written (stepped c s w room) out
  own_room r out e = sym (ap (λ (t : Text). written t out) (step_own (number_for r) e (λ z. omega (arith, z, never_zero r))))

  module _ (a : Accepted s) where
    step_is : stepped c s w room ≡ fitting room (next_line c s (records_of (sheet_of s)) w)
    unfolding stepped
    step_is = ap (λ (t : Sheet). step_by c t s w room) (accepted_records s a)

    -- the walk has given all that it counted
    pub step_over : w.count ≤ w.given → stepped c s w room ≡ text []
    step_over h = step_is ∙ ap (λ (b : Bool). fitting room (cond b (line_at c s (record_in (records_of (sheet_of s)) w.given)) [])) (le-ltb w.given w.count h) ∙ fits room [] (omega arith)

    -- or else by the record that comes next
    pub step_at : w.given < w.count → (f : Lookup) → f ≡ record_of s w.given → stepped c s w room ≡ fitting room (line_at c s f)
    step_at h f e =
        step_is
        ∙ ap (λ (b : Bool). fitting room (cond b (line_at c s (record_in (records_of (sheet_of s)) w.given)) [])) (lt-ltb w.given w.count h)
        ∙ ap (λ (g : Lookup). fitting room (line_at c s g)) (sym (e ∙ ap (λ (t : Sheet). record_by t w.given) (accepted_records s a)))

-- what is told of a step, by what became of its text
pub told : (w : Walk) (t : Text) → step_of w t ≡ advanced w (outcome_of t)
told w (refused k) = refl
told w (text []) = refl
told w (text (b ∷ t)) = refl

-- a line has bytes
rest_some : (number letter : ℕ) (l : Option Logs) (v : Option ℤ) → length (rest_by number letter l v) ≡ 0 → ⊥
unfolding value_rest refusal_rest
rest_some number letter (some l) (some v) e = omega arith
rest_some number letter (some l) none e = omega arith
rest_some number letter none v e = omega arith

line_some : (name : List ℕ) (h : Held) → length (line_of name h) ≡ 0 → ⊥
line_some [] h e = rest_some h.number h.letter h.logs h.value e
line_some (b ∷ name) h e = omega arith

pub record_some : (c : Choices) (s : List ℕ) (r : Record) → length (line_of_record c s r) ≡ 0 → ⊥
record_some c s r = line_some (spelled (name_in s r)) (answer_by c r.kind r.first r.second)

-- the part that is lent of a record is its name
pub name_is : (s : List ℕ) (r : Record) → take (r.start + r.len - r.start) (drop r.start s) ≡ name_in s r
name_is s r = let e : r.start + r.len - r.start ≡ r.len = omega arith in ap (λ (n : ℕ). take n (drop r.start s)) e

pub name_sized : (s : List ℕ) (r : Record) → Named s r → is_length (length (take (r.start + r.len - r.start) (drop r.start s))) ≡ true
name_sized s r h =
    ap (λ (x : List ℕ). is_length (length x)) (name_is s r)
    ∙ ap is_length (length-take-le r.len (drop r.start s) (omega (arith, length-drop r.start s, h.inside)))
    ∙ h.sized
