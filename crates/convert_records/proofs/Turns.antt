-- One record more: of those that are written, and of those that are looked at.
use mathlib.Core.Bool.{Bool, true, false, ◌&&◌, and-false, and_assoc}
use mathlib.Core.Option.{Option, some}
use mathlib.Core.List.{List, [], ◌∷◌, ◌++◌, Memᴰ, append_assoc, append-nil}
use mathlib.Core.Path.{◌≡◌, refl, sym, ap, ap₂, ◌∙◌, subst}
use Prim.Native.Nat.{ℕ, zero, suc, ◌+◌, ◌-◌, ◌≤◌, ◌<◌}
use native.Mathlib.Numerals.{unary_clauses}
use native.Mathlib.Omega.{arith}
use lib.Dec.{eqb}
use lib.Seq.{length-take-le}
use lib.ListN.{length, get_or, take, drop, length-append, length-drop}
use Rattle.std.specs.Prelude.{Some, slice_get, Ok}
use Rattle.std.proofs.lemmas.List.{take_more}
use Rattle.std.proofs.lemmas.Option.{slice_get_within, get_or_from_slice_get}
use Rattle.octets.specs.Bytes.{number_at}
use Rattle.octets.specs.Room.{text, written, put_at}
use Rattle.octets.proofs.Room.{Begun, begun, begun_more, put_twice}
use Rattle.sheet_record.specs.Layout.{layout_in, layout_of}
use Rattle.sheet_record.specs.Front.{Tailed, values_end, front_of, record_at, past, behind, entry_at, stands_at}
use Rattle.sheet_record.specs.declared.Record.{Record}
use Rattle.sheet.proofs.Places.{seven}
use Rattle.sheet.specs.Sheet.{sheet_of, records_of, Accepted}
use Rattle.sheet.specs.Structure.{fault_from}
use Rattle.sheet.proofs.Walk.{records_from}
use Rattle.sheet.proofs.Counted.{accepted_records}
use Rattle.sheet_search.specs.Find.{Inside}
use Rattle.sheet_search.proofs.Locate.{finds}
use Rattle.sheet_remark.specs.Remark.{remark_at, remark_in}
use Rattle.sheet_remark.proofs.Remarks.{whole_is}
use Rattle.convert_records.specs.Records.{empty_remark, record_bytes, record_as, records_as, header_as, bare}
use Rattle.convert_records.proofs.Next.{Next, next, values_inside, reading}

-- a record by its number is one of the records
among : (rs : List Record) (i : ℕ) (r : Record) → slice_get rs i ≡ Some r → Memᴰ r rs
among [] i r e = cc
among (q ∷ rs) zero r e = let p : r ≡ q = cc in Memᴰ.head p
among (q ∷ rs) (suc i) r e = Memᴰ.tail (among rs i r e)

-- the first records with one more
taken : (rs : List Record) (i : ℕ) (r : Record) → slice_get rs i ≡ Some r → take (i + 1) rs ≡ take i rs ++ (r ∷ [])
taken rs i r e = take_more rs i r (slice_get_within rs i r e) ∙ ap (λ (q : Record). take i rs ++ (q ∷ [])) (get_or_from_slice_get rs i r r e)

-- a record of an accepted sheet lies in it
pub inside : (s : List ℕ) → Accepted s → (i : ℕ) (r : Record) → slice_get (records_of (sheet_of s)) i ≡ Some r → Inside s (Ok r)
unfolding layout_in
inside s a i r e = (finds layout_of s (records_of (sheet_of s)) r (accepted_records s a) (among (records_of (sheet_of s)) i r e)).fit.inside

-- three texts in turn
pub put_thrice : (room a b c mid late last : List ℕ) (at next end : ℕ)
    → at ≤ length room
    → mid ≡ put_at room at a
    → next ≡ at + length a
    → late ≡ put_at mid next b
    → end ≡ next + length b
    → last ≡ put_at late end c
    → last ≡ put_at room at (a ++ (b ++ c))
put_thrice room a b c mid late last at next end h m n l e p =
    let i : at + length a + length b ≡ at + length (a ++ b) = omega (arith, length-append a b) in
    p
    ∙ rw (e, l, m, n) (rw (put_twice room a b at h, i) (put_twice room (a ++ b) c at h))
    ∙ ap (put_at room at) (append_assoc a b c)

-- where the writing stands: the records in front of a place are in the room behind its header, and those that are left make the rest
pub record Putting (w : ℕ) (s whole room : List ℕ) (from left at : ℕ) (out : List ℕ) : Type 0 where
  pub fault : fault_from (layout_in s) s left from ≡ 0
  pub done : List ℕ
  pub split : whole ≡ done ++ records_as w s (records_from (layout_in s) s left from)
  pub begun : Begun room (take 7 room ++ done) at out

pub put_begins : (w : ℕ) (s room : List ℕ) (count : ℕ) → Accepted s → count ≡ number_at 2 s 5 → 7 ≤ length room
    → Putting w s (records_as w s (records_of (sheet_of s))) room 7 count 7 room
put_begins w s room count a e h =
    let i = reading s count a e in
    record {
      fault = i.fault;
      done = [];
      split = ap (records_as w s) i.records_are;
      begun = rw (append-nil (take 7 room)) (begun room 7 h);
    }

-- the record at the place is put next: what that needs, and where the writing stands then
pub record Coming (w : ℕ) (s whole room : List ℕ) (from left at : ℕ) (out : List ℕ) : Type 0 where
  pub stands : stands_at (layout_in s) s from left ≡ true
  pub short : get_or s from 0 < 256
  pub fits : from + 18 + get_or s from 0 ≤ length s
  pub space : at + length (record_as w s (entry_at s from)) ≤ 7 + length whole
  pub more : (place fewer next : ℕ) (last : List ℕ)
      → place ≡ behind from (front_of (layout_in s) (drop from s))
      → fewer + 1 ≡ left
      → next ≡ at + length (record_as w s (entry_at s from))
      → last ≡ put_at out at (record_as w s (entry_at s from))
      → Putting w s whole room place fewer next last

module _ {w : ℕ} {s whole room : List ℕ} {from left at : ℕ} {out : List ℕ} (p : Putting w s whole room from left at out) (h : 7 + length whole ≤ length room) where
  behind_header : at ≡ 7 + length p.done
  behind_header = omega (arith, p.begun.here, length-append (take 7 room) p.done, length-take-le 7 room (omega arith))

  all_done : left ≡ 0 → whole ≡ p.done
  unfolding records_as records_from
  all_done z = p.split ∙ ap (λ (n : ℕ). p.done ++ records_as w s (records_from (layout_in s) s n from)) z ∙ append-nil p.done

  pub put_all : left ≡ 0 → out ≡ put_at room 7 whole
  put_all z =
      let d = all_done z in
      let n : at ≡ 7 + length whole = omega (arith, behind_header, ap length d) in
      p.begun.holds
      ∙ append_assoc (take 7 room) p.done (drop at room)
      ∙ ap₂ (λ (x : List ℕ) (k : ℕ). take 7 room ++ (x ++ drop k room)) (sym d) n

  module _ (l : 0 < left) where
    here : Next (layout_in s) s from left
    here = next (layout_in s) s from left l p.fault

    entry : record_at from here.fields ≡ entry_at s from
    entry = ap (record_at from) here.sound.is

    abbrev one : List ℕ
    one = record_as w s (entry_at s from)

    abbrev later : ℕ → List ℕ
    later place = records_as w s (records_from (layout_in s) s (left - 1) place)

    split_next : whole ≡ p.done ++ (one ++ later (past from here.fields))
    unfolding records_as
    split_next =
        p.split
        ∙ ap (λ (rs : List Record). p.done ++ records_as w s rs) here.records
        ∙ ap (λ (x : List ℕ). p.done ++ x) (sym (append_assoc (record_bytes s (record_at from here.fields)) (empty_remark w) (later (past from here.fields))))
        ∙ ap (λ (r : Record). p.done ++ (record_as w s r ++ later (past from here.fields))) entry

    pub put_next : Coming w s whole room from left at out
    put_next =
        record {
          stands = here.stands;
          short = omega (arith, here.sound.short, here.sound.len_is);
          fits = values_inside (layout_in s) s from here.fields here.sound;
          space = omega (arith, behind_header, ap length split_next, length-append p.done (one ++ later (past from here.fields)), length-append one (later (past from here.fields)));
          more = λ place fewer next last e k n o.
              let i : place ≡ past from here.fields = e ∙ here.behind_is in
              let m : fewer ≡ left - 1 = omega arith in
              rw (i, m)
              (record {
                fault = here.fault;
                done = p.done ++ one;
                split = split_next ∙ sym (append_assoc p.done one (later (past from here.fields)));
                begun = subst (λ (x : List ℕ). Begun room x next last) (append_assoc (take 7 room) p.done one) (begun_more room (take 7 room ++ p.done) at out one next last p.begun n o);
              });
        }

-- the remark of a record that lies in the sheet is what follows its values, but for the length byte
pub remark_len : (end n : ℕ) → (remark_at end (some n)).len ≡ n - 1
remark_len end zero = omega arith
remark_len end (suc n) = simp unary_clauses

pub remark_behind : (s : List ℕ) (r : Record) (n : ℕ) → Inside s (Ok r) → Tailed s (values_end r) n → (remark_in s r).len ≡ n - 1
remark_behind s r n w t =
    ap (λ (o : Option ℕ). (remark_at (values_end r) o).len) w.tailed ∙ remark_len (values_end r) w.tail ∙ ap (λ (k : ℕ). k - 1) (sym (whole_is s (values_end r) w n t))

-- a record that has a remark, and one more that has none
pub bare_found : (s : List ℕ) (rs : List Record) (i : ℕ) (r : Record) → slice_get rs i ≡ Some r → eqb (remark_in s r).len 0 ≡ false → bare s rs ≡ false
unfolding bare
bare_found s [] i r e f = cc
bare_found s (q ∷ rs) zero r e f = let p : q ≡ r = cc in rw (p, f)
bare_found s (q ∷ rs) (suc i) r e f = rw (bare_found s rs i r e f) (and-false (eqb (remark_in s q).len 0))

pub bare_none : (s : List ℕ) → bare s [] ≡ true
unfolding bare
bare_none s = refl

bare_both : (s : List ℕ) (rs qs : List Record) → bare s (rs ++ qs) ≡ bare s rs && bare s qs
unfolding bare
bare_both s [] qs = refl
bare_both s (r ∷ rs) qs =
    ap (λ (b : Bool). eqb (remark_in s r).len 0 && b) (bare_both s rs qs) ∙ sym (and_assoc (eqb (remark_in s r).len 0) (bare s rs) (bare s qs))

pub bare_more : (s : List ℕ) (rs : List Record) (i : ℕ) (r : Record) → slice_get rs i ≡ Some r → bare s (take i rs) ≡ true → eqb (remark_in s r).len 0 ≡ true → bare s (take (i + 1) rs) ≡ true
unfolding bare
bare_more s rs i r e b f = ap (bare s) (taken rs i r e) ∙ bare_both s (take i rs) (r ∷ []) ∙ rw (b, f)

-- a header takes seven bytes of a room
pub header_length : (w : ℕ) (s : List ℕ) → 7 ≤ length s → length (header_as w s) ≡ 7
header_length w s h = omega (arith, length-take-le 2 (drop 5 s) (omega (arith, length-drop 5 s)))

module _ (w : ℕ) (s recs room : List ℕ) (a : Accepted s) (l : length (header_as w s ++ recs) ≤ length room) where
  pub header_room : 7 + length recs ≤ length room
  header_room = omega (arith, header_length w s (seven s a), length-append (header_as w s) recs)

  -- and the records then make the sheet
  pub put_whole : (out last : List ℕ) → out ≡ header_as w s ++ drop 7 room → last ≡ put_at out 7 recs → last ≡ written (text (header_as w s ++ recs)) room
  put_whole out last e l =
      let n = header_length w s (seven s a) in
      let b : Begun room (header_as w s) 7 out = record { here = sym n; holds = e } in
      let c = begun_more room (header_as w s) 7 out recs (7 + length recs) last b refl l in
      c.holds ∙ ap (λ (i : ℕ). (header_as w s ++ recs) ++ drop i room) c.here
