-- Records of one version beside the same ones in another, with empty remarks in both.
use mathlib.Core.Bool.{Bool, true, false, cond, ◌&&◌}
use mathlib.Core.List.{List, [], ◌∷◌, ◌++◌}
use mathlib.Core.Option.{none, some}
use mathlib.Core.Path.{◌≡◌, refl, sym, ap, ap₂, ◌∙◌}
use Prim.Native.Nat.{ℕ, zero, suc, ◌+◌, ◌-◌}
use native.Mathlib.Omega.{arith}
use borrow.Author.Tests.{eqb-true, eq-eqb}
use lib.Dec.{eqb, leb}
use lib.ListN.{length, get_or, take, drop, length-append, length-drop, take-append-drop}
use lib.Seq.{drop-drop, take_at, drop_at, drop-append_seam, get_or-drop, length-take-le}
use Rattle.octets.specs.Bytes.{part}
use Rattle.octets.proofs.Stores.{dropped}
use Rattle.sheet_record.specs.Layout.{Layout, layout_in, layout_of, or_plain}
use Rattle.sheet_record.specs.Front.{record_at, past}
use Rattle.sheet_record.specs.declared.Record.{Record}
use Rattle.sheet_record.proofs.Tails.{whole_remark}
use Rattle.sheet.specs.Structure.{fault_from}
use Rattle.sheet.proofs.Walk.{records_from}
use Rattle.sheet.proofs.Entries.{Entries, entries_from}
use Rattle.sheet.proofs.Heads.{in_front, entries_past}
use Rattle.convert_records.specs.Records.{empty_remark, record_bytes, records_as, bare}
use Rattle.convert_records.proofs.Next.{Next, next, bytes_are}
use Rattle.convert.proofs.Next.{empty_most, remark_length}

-- the versions that are converted
pub data Version : ℕ → Type 0 where
  one : Version 1
  two : Version 2

abbrev pub layout : ℕ → Layout
layout v = or_plain (layout_of v)

-- m records of version v beside m of version w: n is a length byte, `body` the name, the kind and the two values
pub data Paired (v w : ℕ) : ℕ → List ℕ → List ℕ → Type 0 where
  done : Paired v w 0 [] []
  more :
      {m : ℕ} {u x : List ℕ} (n : ℕ) (body : List ℕ)
      → length body ≡ n + 17
      → Paired v w m u x
      → Paired v w (suc m) (n ∷ (body ++ (empty_remark v ++ u))) (n ∷ (body ++ (empty_remark w ++ x)))

pub flip : {v w m : ℕ} {u x : List ℕ} → Paired v w m u x → Paired w v m x u
flip done = done
flip (more n body l p) = more n body l (flip p)

-- version 2 has a byte more for each record
pub pair_length : {m : ℕ} {u x : List ℕ} → Paired 1 2 m u x → length x ≡ length u + m
pair_length done = refl
pair_length (more {m} {u} {x} n body l p) = omega (arith, length-append body u, length-append body (0 ∷ x), pair_length p)

-- an empty remark is a whole tail
empty_tail : {v : ℕ} → Version v → (u : List ℕ) → (layout v).tail (empty_remark v ++ u) ≡ some (length (empty_remark v))
empty_tail one u = refl
empty_tail two u = whole_remark [] u

-- both say the same
pub pair_entries : {v w : ℕ} → Version v → Version w → {m : ℕ} {u x : List ℕ} → Paired v w m u x → entries_from (layout v) m u ≡ entries_from (layout w) m x
unfolding entries_from
pair_entries a b done = refl
pair_entries {v} {w} a b (more {m} {u} {x} n body l p) =
    entries_past (layout v) m n body (empty_remark v) u l (empty_tail a u)
    ∙ ap (λ (es : Entries). in_front n body (some es)) (pair_entries a b p)
    ∙ sym (entries_past (layout w) m n body (empty_remark w) x l (empty_tail b x))

-- what follows a second value where the remark is empty
empty_rest : {v : ℕ} → Version v → (rest : List ℕ) (t : ℕ) → (layout v).tail rest ≡ some t → t - 1 ≡ 0 → rest ≡ empty_remark v ++ drop t rest
empty_rest one rest t e z = let k : 0 ≡ t = cc in ap (λ (i : ℕ). drop i rest) k
empty_rest two [] t e z = let f : ◌≡◌ {A = ℕ} 0 1 = cc in absurd (omega arith)
empty_rest two (b ∷ u) t e z = go (leb b (length u)) e
  where
    go : (c : Bool) → cond c (some (suc b)) none ≡ some t → b ∷ u ≡ 0 ∷ drop t (b ∷ u)
    go true h =
        let k : suc b ≡ t = cc in
        let y : b ≡ 0 = omega arith in
        let j : 1 ≡ t = omega arith in
        ap (λ (i : ℕ). i ∷ u) y ∙ ap (λ (i : ℕ). 0 ∷ drop i (b ∷ u)) j
    go false h = let f : ◌≡◌ {A = ℕ} 0 1 = cc in absurd (omega arith)

pub and_true : (a b : Bool) → a && b ≡ true → (a ≡ true) × (b ≡ true)
and_true true b e = (refl, e)
and_true false b e = (cc, cc)

no_more : (s : List ℕ) (at : ℕ) → (b : Bool) → eqb at (length s) ≡ b → ◌≡◌ {A = ℕ} (cond b 0 4) 0 → drop at s ≡ []
no_more s at true p e = dropped at s (omega (arith, eqb-true at (length s) p))
no_more s at false p e = absurd (omega arith)

-- the record at a place of a sheet, by its bytes: the length byte, the name, the kind and two values, and what follows them
module _ (s : List ℕ) (at m : ℕ) (here : Next (layout_in s) s at (suc m)) where
  body : List ℕ
  body = part s (at + 1) (here.fields.len + 17)

  body_length : length body ≡ here.fields.len + 17
  unfolding body
  body_length = length-take-le (here.fields.len + 17) (drop (at + 1) s) (omega (arith, here.sound.fits, length-drop (at + 1) s))

  behind_values : drop (18 + get_or s at 0) (drop at s) ≡ drop (at + 18 + get_or s at 0) s
  behind_values =
      let e : at + (18 + get_or s at 0) ≡ at + 18 + get_or s at 0 = omega arith in
      drop-drop (18 + get_or s at 0) at s ∙ ap (λ (i : ℕ). drop i s) e

  behind_tail_lem : drop here.fields.tail (drop (at + 18 + get_or s at 0) s) ≡ drop (past at here.fields) s
  behind_tail_lem =
      let e : at + 18 + get_or s at 0 + here.fields.tail ≡ past at here.fields = omega (arith, here.sound.len_is) in
      drop-drop here.fields.tail (at + 18 + get_or s at 0) s ∙ ap (λ (i : ℕ). drop i s) e

  front_is : drop at s ≡ record_bytes s (record_at at here.fields) ++ drop (at + 18 + get_or s at 0) s
  front_is =
      sym (take-append-drop (18 + get_or s at 0) (drop at s))
      ∙ ap₂ (λ (x y : List ℕ). x ++ y) (bytes_are (layout_in s) s at here.fields here.sound) behind_values

  -- the records from there on, and that nothing ends their reading
  less : suc m - 1 ≡ m
  less = omega arith

  records_are : records_from (layout_in s) s (suc m) at ≡ record_at at here.fields ∷ records_from (layout_in s) s m (past at here.fields)
  records_are = here.records ∙ ap (λ (k : ℕ). record_at at here.fields ∷ records_from (layout_in s) s k (past at here.fields)) less

  fault_is : fault_from (layout_in s) s m (past at here.fields) ≡ 0
  fault_is = ap (λ (k : ℕ). fault_from (layout_in s) s k (past at here.fields)) (sym less) ∙ here.fault

  bare_is : bare s (records_from (layout_in s) s (suc m) at) ≡ eqb (here.fields.tail - 1) 0 && bare s (records_from (layout_in s) s m (past at here.fields))
  unfolding bare
  bare_is =
      ap (bare s) records_are
      ∙ ap (λ (k : ℕ). eqb k 0 && bare s (records_from (layout_in s) s m (past at here.fields))) (remark_length s at here.fields here.sound)

  -- where it has no remark, an empty one stands in front of the next
  pair_step : {v w : ℕ} → Version v → layout_in s ≡ layout v
      → bare s (records_from (layout_in s) s (suc m) at) ≡ true
      → (bare s (records_from (layout_in s) s m (past at here.fields)) ≡ true
      → Paired v w m (drop (past at here.fields) s) (records_as w s (records_from (layout_in s) s m (past at here.fields))))
      → Paired v w (suc m) (drop at s) (records_as w s (records_from (layout_in s) s (suc m) at))
  unfolding records_as body
  pair_step {v} {w} k y b ih =
      let o = and_true (eqb (here.fields.tail - 1) 0) (bare s (records_from (layout_in s) s m (past at here.fields))) (sym bare_is ∙ b) in
      let rest : List ℕ = drop (at + 18 + get_or s at 0) s in
      let tailed : (layout v).tail rest ≡ some here.fields.tail = ap (λ (z : Layout). z.tail rest) (sym y) ∙ here.sound.tailed in
      let e : drop at s ≡ here.fields.len ∷ (body ++ (empty_remark v ++ drop (past at here.fields) s)) =
      front_is
      ∙ ap (λ (x : List ℕ). here.fields.len ∷ (body ++ x))
      (empty_rest k rest here.fields.tail tailed (eqb-true (here.fields.tail - 1) 0 o.0) ∙ ap (λ (x : List ℕ). empty_remark v ++ x) behind_tail_lem) in
      rw (e, records_are) (more here.fields.len body body_length (ih o.1))

  -- beside a record that begins with n and a body, and has an empty remark
  module _ {w : ℕ} (k : Version w) (y : layout_in s ≡ layout w) (n : ℕ) (b x : List ℕ) (l : length b ≡ n + 17) (e : drop at s ≡ n ∷ (b ++ (empty_remark w ++ x))) where
    length_is : get_or s at 0 ≡ n
    length_is = ap (λ (i : ℕ). get_or s i 0) (omega arith) ∙ sym (get_or-drop at s 0 0) ∙ ap (λ (z : List ℕ). get_or z 0 0) e

    size : 18 + get_or s at 0 ≡ length (n ∷ b)
    size = omega (arith, length_is)

    same_bytes : record_bytes s (record_at at here.fields) ≡ n ∷ b
    same_bytes =
        sym (bytes_are (layout_in s) s at here.fields here.sound)
        ∙ ap (take (18 + get_or s at 0)) e
        ∙ take_at (n ∷ b) (empty_remark w ++ x) (18 + get_or s at 0) (sym size)

    same_rest : drop (at + 18 + get_or s at 0) s ≡ empty_remark w ++ x
    same_rest = sym behind_values ∙ ap (drop (18 + get_or s at 0)) e ∙ drop_at (n ∷ b) (empty_remark w ++ x) (18 + get_or s at 0) (sym size)

    tail_is : here.fields.tail ≡ length (empty_remark w)
    tail_is =
        let o : some here.fields.tail ≡ some (length (empty_remark w)) =
        sym here.sound.tailed ∙ ap₂ (λ (z : Layout) (r : List ℕ). z.tail r) y same_rest ∙ empty_tail k x in
        cc

    next_is : drop (past at here.fields) s ≡ x
    next_is = sym behind_tail_lem ∙ ap₂ (λ (i : ℕ) (r : List ℕ). drop i r) tail_is same_rest ∙ drop-append_seam (empty_remark w) x

    no_remark : bare s (records_from (layout_in s) s (suc m) at) ≡ bare s (records_from (layout_in s) s m (past at here.fields))
    no_remark =
        bare_is
        ∙ ap (λ (c : Bool). c && bare s (records_from (layout_in s) s m (past at here.fields))) (eq-eqb (here.fields.tail - 1) 0 (omega (arith, tail_is, empty_most w)))

    returned_step : (v : ℕ) (u : List ℕ) → records_as v s (records_from (layout_in s) s m (past at here.fields)) ≡ u
        → records_as v s (records_from (layout_in s) s (suc m) at) ≡ n ∷ (b ++ (empty_remark v ++ u))
    unfolding records_as
    returned_step v u i = ap (records_as v s) records_are ∙ ap₂ (λ (z r : List ℕ). z ++ (empty_remark v ++ r)) same_bytes i

-- the records of a sheet from a place on, none of which has a remark, beside the same in another version
pair_none : {v w : ℕ} (s : List ℕ) (at : ℕ) → fault_from (layout_in s) s 0 at ≡ 0 → Paired v w 0 (drop at s) (records_as w s (records_from (layout_in s) s 0 at))
unfolding fault_from records_from records_as
pair_none s at e = rw (no_more s at (eqb at (length s)) refl e) done

pub pair : {v w : ℕ} → Version v → (s : List ℕ) → layout_in s ≡ layout v → (m at : ℕ) → fault_from (layout_in s) s m at ≡ 0
    → bare s (records_from (layout_in s) s m at) ≡ true → Paired v w m (drop at s) (records_as w s (records_from (layout_in s) s m at))
pair k s y zero at e b = pair_none s at e
pair k s y (suc m) at e b =
    let h : Next (layout_in s) s at (suc m) = next (layout_in s) s at (suc m) (omega arith) e in
    pair_step s at m h k y b (λ c. pair k s y m (past at h.fields) (fault_is s at m h) c)

-- records of a sheet that have a partner: they have no remark, and in the partner's version they are the partner
pub record Returned (v : ℕ) (s : List ℕ) (rs : List Record) (u : List ℕ) : Type 0 where
  pub bare : bare s rs ≡ true
  pub same : records_as v s rs ≡ u

returned_none : (v : ℕ) (s : List ℕ) (at : ℕ) → Returned v s (records_from (layout_in s) s 0 at) []
unfolding records_from records_as bare
returned_none v s at = record { bare = refl; same = refl }

pub returned : {v w m : ℕ} {u x : List ℕ} → Version w → (s : List ℕ) → layout_in s ≡ layout w → (at : ℕ) → Paired v w m u x → drop at s ≡ x
    → fault_from (layout_in s) s m at ≡ 0 → Returned v s (records_from (layout_in s) s m at) u
returned {v} k s y at done e h = returned_none v s at
returned {v} k s y at (more {m} {u} {x} n body l p) e h =
    let i : Next (layout_in s) s at (suc m) = next (layout_in s) s at (suc m) (omega arith) h in
    let r = returned k s y (past at i.fields) p (next_is s at m i k y n body x l e) (fault_is s at m i) in
    record {
      bare = no_remark s at m i k y n body x l e ∙ r.bare;
      same = returned_step s at m i k y n body x l e v u r.same;
    }
