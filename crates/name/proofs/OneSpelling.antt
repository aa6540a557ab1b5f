-- A name has one canonical spelling, the one that is written.
-- Assumes nothing.
use mathlib.Core.Bool.{Bool, true, false, cond, not, ◌&&◌, ◌||◌}
use mathlib.Core.List.{List, [], ◌∷◌, ◌++◌}
use mathlib.Core.Path.{◌≡◌, refl, sym, ap, ◌∙◌, subst}
use Prim.Native.Nat.{ℕ, ◌+◌, ◌*◌, ◌/◌, ◌%◌, ◌<◌}
use native.Mathlib.Decide.{dec_lt}
use native.Mathlib.Omega.{arith}
use borrow.Author.Tests.{eqb-true}
use lib.Dec.{T, ltb, eqb, ltb→lt}
use lib.ListN.{length}
use Rattle.octets.specs.Bytes.{Bytes, no_byte, byte}
use Rattle.octets.specs.Room.{text, refused}
use Rattle.name.specs.Spelling.{within, unreserved, hex_value, is_hex, hex_digit, is_form, spelled_byte, spelled, Reading, wrong, bytes, push, reading}
use Rattle.name.specs.Name.{is_length, judged, name_of}
use Rattle.name.specs.Laws.{upper_hex, Canonical, end, raw, percent, ReadThenWrite, OneName}
use Rattle.name.proofs.Ranges.{along, inside, reserved, as_true, as_false, is_true, is_false}
use Rattle.name.proofs.RoundTrip.{plain_read, form_read, written_value, write_then_read}

-- ---- what is read is bytes
unreserved_byte : (x : ℕ) → unreserved x ≡ true → x < 256
unreserved_byte x e = go (dec_lt x 256)
  where
    go : Dec (x < 256) → x < 256
    go (yes h) = h
    go (no h) = let r = reserved x (omega arith) in absurd (subst T (sym e ∙ r) tt)

and_both : (a b : Bool) → (a && b) ≡ true → (T a) × (T b)
and_both true true e = (tt, tt)
and_both true false e = absurd (subst T (sym e) tt)
and_both false b e = absurd (subst T (sym e) tt)

form_byte : (x h l : ℕ) → is_form x h l ≡ true → hex_value h * 16 + hex_value l < 256
form_byte x h l e =
    let u = (and_both (eqb x 37) (is_hex h && is_hex l) e).1 in
    let v = and_both (is_hex h) (is_hex l) (as_true (is_hex h && is_hex l) u) in
    let a : hex_value h < 16 = ltb→lt (hex_value h) 16 v.0 in
    let b : hex_value l < 16 = ltb→lt (hex_value l) 16 v.1 in
    omega arith

-- what a push that gives bytes was of
record Pushed (b : ℕ) (r : Reading) (bs : List ℕ) : Type 0 where
  rest : List ℕ
  read : r ≡ bytes rest
  whole : bs ≡ b ∷ rest

pushed : (b : ℕ) (r : Reading) (bs : List ℕ) → push b r ≡ bytes bs → Pushed b r bs
pushed b wrong bs e = absurd (cc)
pushed b (bytes rest) bs e = record { rest = rest; read = refl; whole = cc }

more_bytes : (b : ℕ) (r : Reading) (bs : List ℕ) → b < 256 → ((cs : List ℕ) → r ≡ bytes cs → Bytes cs) → push b r ≡ bytes bs → Bytes bs
more_bytes b r bs h ih e = let k = pushed b r bs e in subst Bytes (sym k.whole) (byte h (ih k.rest k.read))

not_wrong : (bs : List ℕ) → wrong ≡ bytes bs → Bytes bs
not_wrong bs e = absurd (cc)

reads_bytes : (s bs : List ℕ) → reading s ≡ bytes bs → Bytes bs
unfolding reading
reads_bytes [] bs e = let p : [] ≡ bs = cc in subst Bytes p no_byte
reads_bytes (x ∷ []) bs e = go (unreserved x) refl e
  where
    go : (a : Bool) → unreserved x ≡ a → cond a (bytes (x ∷ [])) wrong ≡ bytes bs → Bytes bs
    go true u h = let p : x ∷ [] ≡ bs = cc in subst Bytes p (byte (unreserved_byte x u) no_byte)
    go false u h = not_wrong bs h
reads_bytes (x ∷ (h ∷ [])) bs e = go (reads_bytes (h ∷ [])) (unreserved x) refl e
  where
    go : ((cs : List ℕ) → reading (h ∷ []) ≡ bytes cs → Bytes cs) → (a : Bool) → unreserved x ≡ a → cond a (push x (reading (h ∷ []))) wrong ≡ bytes bs → Bytes bs
    go ih true u k = more_bytes x (reading (h ∷ [])) bs (unreserved_byte x u) ih k
    go ih false u k = not_wrong bs k
reads_bytes (x ∷ (h ∷ (l ∷ r))) bs e = go (reads_bytes (h ∷ (l ∷ r))) (reads_bytes r) (unreserved x) (is_form x h l) refl refl e
  where
    go : ((cs : List ℕ) → reading (h ∷ (l ∷ r)) ≡ bytes cs → Bytes cs)
        → ((cs : List ℕ) → reading r ≡ bytes cs → Bytes cs)
        → (a b : Bool)
        → unreserved x ≡ a
        → is_form x h l ≡ b
        → cond a (push x (reading (h ∷ (l ∷ r)))) (cond b (push (hex_value h * 16 + hex_value l) (reading r)) wrong) ≡ bytes bs
        → Bytes bs
    go ih jh true b u w k = more_bytes x (reading (h ∷ (l ∷ r))) bs (unreserved_byte x u) ih k
    go ih jh false true u w k = more_bytes (hex_value h * 16 + hex_value l) (reading r) bs (form_byte x h l w) jh k
    go ih jh false false u w k = not_wrong bs k

-- ---- what is written is canonical, and nothing else that reads to it is
digit_upper : (n : ℕ) → n < 16 → T (upper_hex (hex_digit n))
digit_upper n h = is_true (along (λ m. upper_hex (hex_digit m)) 0 16 tt n (omega arith) (omega arith))

-- a digit is the one that is written for its value
abbrev is_own : ℕ → Bool
is_own x = ltb (hex_value x) 16 && eqb (hex_digit (hex_value x)) x

upper_own : (x : ℕ) → T (upper_hex x) → is_own x ≡ true
unfolding hex_value
upper_own x t = go (within 48 57 x) (within 65 70 x) refl refl t
  where
    go : (a b : Bool) → within 48 57 x ≡ a → within 65 70 x ≡ b → T (a || b) → is_own x ≡ true
    go true b p q u = let i = inside 48 57 x p in along is_own 48 10 tt x i.0 (omega (arith, i.1))
    go false true p q u = let i = inside 65 70 x q in along is_own 65 6 tt x i.0 (omega (arith, i.1))
    go false false p q u = absurd u

upper_digit : (x : ℕ) → T (upper_hex x) → (hex_value x < 16) × (hex_digit (hex_value x) ≡ x)
upper_digit x t =
    let k = and_both (ltb (hex_value x) 16) (eqb (hex_digit (hex_value x)) x) (upper_own x t) in
    (ltb→lt (hex_value x) 16 k.0, eqb-true (hex_digit (hex_value x)) x (as_true (eqb (hex_digit (hex_value x)) x) k.1))

canonical_byte : (b : ℕ) {t : List ℕ} → b < 256 → (u : Bool) → unreserved b ≡ u → Canonical t → Canonical (spelled_byte b ++ t)
unfolding spelled_byte
canonical_byte b {t} h true e c =
    subst (λ (k : Bool). Canonical (cond k (b ∷ []) (37 ∷ hex_digit (b / 16) ∷ hex_digit (b % 16) ∷ []) ++ t)) (sym e) (raw (is_true e) c)
canonical_byte b {t} h false e c =
    subst (λ (k : Bool). Canonical (cond k (b ∷ []) (37 ∷ hex_digit (b / 16) ∷ hex_digit (b % 16) ∷ []) ++ t)) (sym e)
    (percent (digit_upper (b / 16) (omega arith)) (digit_upper (b % 16) (omega arith)) (subst (λ (n : ℕ). T (not (unreserved n))) (sym (written_value b h)) (is_false e)) c)

canonical : {bs : List ℕ} → Bytes bs → Canonical (spelled bs)
unfolding spelled
canonical no_byte = end
canonical (byte {b = b} h t) = canonical_byte b h (unreserved b) refl (canonical t)

spelled_raw : (b : ℕ) → T (unreserved b) → spelled_byte b ≡ b ∷ []
unfolding spelled_byte
spelled_raw b t = simp (as_true (unreserved b) t)

spelled_percent : (h l : ℕ) → T (upper_hex h) → T (upper_hex l) → T (not (unreserved (hex_value h * 16 + hex_value l)))
    → spelled_byte (hex_value h * 16 + hex_value l) ≡ 37 ∷ h ∷ l ∷ []
unfolding spelled_byte
spelled_percent h l p q t =
    let u = upper_digit h p in
    let v = upper_digit l q in
    let a : (hex_value h * 16 + hex_value l) / 16 ≡ hex_value h = omega (arith, v.0) in
    let b : (hex_value h * 16 + hex_value l) % 16 ≡ hex_value l = omega (arith, v.0) in
    simp (as_false (unreserved (hex_value h * 16 + hex_value l)) t, a, b, u.1, v.1)

only : {s : List ℕ} → Canonical s → (bs : List ℕ) → reading s ≡ bytes bs → s ≡ spelled bs
unfolding reading spelled
only end bs e = let p : [] ≡ bs = cc in subst (λ (x : List ℕ). [] ≡ spelled x) p refl
only (raw {b = b} {s = s} t c) bs e =
    let k = pushed b (reading s) bs (sym (plain_read b s (as_true (unreserved b) t)) ∙ e) in
    ap (λ (x : List ℕ). b ∷ x) (only c k.rest k.read)
    ∙ ap (λ (x : List ℕ). x ++ spelled k.rest) (sym (spelled_raw b t))
    ∙ ap spelled (sym k.whole)
only (percent {h = h} {l = l} {s = s} p q t c) bs e =
    let k = pushed (hex_value h * 16 + hex_value l) (reading s) bs (sym (form_read h l s (upper_digit h p).0 (upper_digit l q).0) ∙ e) in
    ap (λ (x : List ℕ). 37 ∷ (h ∷ (l ∷ x))) (only c k.rest k.read)
    ∙ ap (λ (x : List ℕ). x ++ spelled k.rest) (sym (spelled_percent h l p q t))
    ∙ ap spelled (sym k.whole)

-- ---- a name that is read
record Named (r : Reading) (name : List ℕ) : Type 0 where
  read : r ≡ bytes name
  sized : T (is_length (length name))

named : (r : Reading) (name : List ℕ) → judged r ≡ text name → Named r name
named wrong name e = absurd (cc)
named (bytes bs) name e = go (is_length (length bs)) refl e
  where
    go : (b : Bool) → is_length (length bs) ≡ b → cond b (text bs) (refused 8) ≡ text name → Named (bytes bs) name
    go true u h = let p : bs ≡ name = cc in record { read = ap bytes p; sized = subst (λ (x : List ℕ). T (is_length (length x))) p (is_true u) }
    go false u h = absurd (cc)

-- what a spelling reads to is 1 to 40 bytes
pub name_valid : (s name : List ℕ) → name_of s ≡ text name → (Bytes name) × T (is_length (length name))
unfolding name_of
name_valid s name e = let k = named (reading s) name e in (reads_bytes s name k.read, k.sized)

pub read_then_write : ReadThenWrite
unfolding name_of
read_then_write s name e =
    let k = named (reading s) name e in
    let v = name_valid s name e in
    let w = write_then_read name v.0 v.1 in
    (w.0, canonical v.0, w.1, λ c. only c name k.read)

pub one_name : OneName
one_name s t a b p q = (ap spelled, λ e. let x = (read_then_write s a p).2 in let y = (read_then_write t b q).2 in let z : text a ≡ text b = sym x ∙ ap name_of e ∙ y in cc)
