-- The lines that a part has written so far.
-- Assumes nothing.
use mathlib.Core.List.{List, [], ◌∷◌, ◌++◌, append_assoc, append-nil}
use mathlib.Core.Path.{◌≡◌, refl, sym, ap, ◌∙◌, subst}
use Prim.Native.Nat.{ℕ, ◌+◌, ◌≤◌}
use native.Mathlib.Omega.{arith}
use lib.ListN.{length, take, drop, length-append, length-drop}
use lib.Seq.{take_at, drop-append-add, drop-drop}
use Rattle.air.specs.Choices.{chosen}
use Rattle.calculator.specs.Search.{search_by}
use Rattle.line.specs.Line.{line}
use Rattle.octets.specs.Room.{text, written}
use Rattle.octets.proofs.Stores.{dropped}
use Rattle.name_list.specs.Lines.{lines_from, lines_of}
use Rattle.report.specs.Listing.{lines_by}
use Rattle.report.specs.Steps.{NextLine, Part}

-- behind the end of a list there is no line
no_lines : lines_of [] ≡ []
unfolding lines_from
no_lines = refl

pub none_left : (list : List ℕ) (start : ℕ) → length list ≤ start → lines_of (drop start list) ≡ []
none_left list start h = ap lines_of (dropped start list h) ∙ no_lines

-- the line of one name
abbrev pub one : List ℕ → List ℕ → List ℕ
one sheet spelled = line spelled (search_by chosen sheet spelled)

pub lines_append : (sheet : List ℕ) (a b : List (List ℕ)) → lines_by chosen sheet (a ++ b) ≡ lines_by chosen sheet a ++ lines_by chosen sheet b
unfolding lines_by
lines_append sheet [] b = refl
lines_append sheet (n ∷ ns) b =
    ap (λ (l : List ℕ). one sheet n ++ l) (lines_append sheet ns b)
    ∙ sym (append_assoc (one sheet n) (lines_by chosen sheet ns) (lines_by chosen sheet b))

-- how many bytes the lines from a place on have
abbrev pub left : List ℕ → List ℕ → ℕ → ℕ
left sheet list start = length (lines_by chosen sheet (lines_of (drop start list)))

pub left_next : (sheet list : List ℕ) (start next : ℕ) (x : List ℕ) → NextLine sheet list start next x → left sheet list start ≡ length x + left sheet list next
unfolding lines_by
left_next sheet list start next x f =
    ap (λ (ns : List (List ℕ)). length (lines_by chosen sheet ns)) f.names
    ∙ length-append (one sheet f.name) (lines_by chosen sheet (lines_of (drop next list)))
    ∙ ap (λ (n : ℕ). n + left sheet list next) (sym (ap length f.text))

pub left_none : (sheet list : List ℕ) (start : ℕ) → length list ≤ start → left sheet list start ≡ 0
unfolding lines_by
left_none sheet list start h = ap (λ (ns : List (List ℕ)). length (lines_by chosen sheet ns)) (none_left list start h)

lines_one : (sheet n : List ℕ) → lines_by chosen sheet (n ∷ []) ≡ one sheet n
unfolding lines_by
lines_one sheet n = append-nil (one sheet n)

pub part_none : (sheet list room : List ℕ) (start : ℕ) → Part sheet list room room start start 0
unfolding lines_by
part_none sheet list room start = record { done = []; names = refl; holds = refl; here = refl; inside = omega arith }

module _ (sheet list room out : List ℕ) (first start at : ℕ) (p : Part sheet list room out first start at) where
  abbrev before : List ℕ
  before = lines_by chosen sheet p.done

  pub part_room : length out ≡ length room
  part_room = omega (arith, ap length p.holds, length-append before (drop (length before) room), length-drop (length before) room, p.here, p.inside)

  -- what was written and what is left make the whole
  pub part_left : left sheet list first ≡ at + left sheet list start
  part_left =
      ap (λ (ns : List (List ℕ)). length (lines_by chosen sheet ns)) p.names
      ∙ ap length (lines_append sheet p.done (lines_of (drop start list)))
      ∙ length-append before (lines_by chosen sheet (lines_of (drop start list)))
      ∙ ap (λ (n : ℕ). n + left sheet list start) (sym p.here)

  module _ (next : ℕ) (x : List ℕ) (f : NextLine sheet list start next x) (k : at + length x ≤ length room) (last : List ℕ)
      (q : last ≡ take at out ++ (one sheet f.name ++ drop (at + length x) out)) where
    abbrev name : List ℕ
    name = f.name

    after : lines_by chosen sheet (p.done ++ (name ∷ [])) ≡ before ++ one sheet name
    after = lines_append sheet p.done (name ∷ []) ∙ ap (λ (l : List ℕ). before ++ l) (lines_one sheet name)

    size : at + length x ≡ length (before ++ one sheet name)
    size = omega (arith, p.here, ap length f.text, length-append before (one sheet name))

    front : take at out ≡ before
    front = ap (take at) p.holds ∙ take_at before (drop (length before) room) at (sym p.here)

    behind : drop (at + length x) out ≡ drop (at + length x) room
    behind =
        let h : out ≡ before ++ drop at room = p.holds ∙ ap (λ (n : ℕ). before ++ drop n room) (sym p.here) in
        ap (drop (at + length x)) h
        ∙ subst (λ (m : ℕ). drop (m + length x) (before ++ drop at room) ≡ drop (length x) (drop at room)) (sym p.here) (drop-append-add before (drop at room) (length x))
        ∙ drop-drop (length x) at room

    grown : last ≡ (before ++ one sheet name) ++ drop (at + length x) room
    grown =
        q
        ∙ ap (λ (y : List ℕ). y ++ (one sheet name ++ drop (at + length x) out)) front
        ∙ ap (λ (y : List ℕ). before ++ (one sheet name ++ y)) behind
        ∙ sym (append_assoc before (one sheet name) (drop (at + length x) room))

    pub part_next : Part sheet list room last first next (at + length x)
    part_next =
        record {
          done = p.done ++ (name ∷ []);
          names =
              p.names
              ∙ ap (λ (ns : List (List ℕ)). p.done ++ ns) f.names
              ∙ sym (append_assoc p.done (name ∷ []) (lines_of (drop next list)));
          holds = rw after (grown ∙ ap (λ (n : ℕ). (before ++ one sheet name) ++ drop n room) size);
          here = rw after size;
          inside = k;
        }

-- a part that came to the end of the list has all lines
pub part_whole : (sheet list room out : List ℕ) (next len : ℕ) → Part sheet list room out 0 next len → length list ≤ next → out ≡ written (text (lines_by chosen sheet (lines_of list))) room
part_whole sheet list room out next len p h =
    let e : lines_of list ≡ p.done = p.names ∙ ap (λ (ns : List (List ℕ)). p.done ++ ns) (none_left list next h) ∙ append-nil p.done in
    p.holds ∙ ap (λ (ns : List (List ℕ)). written (text (lines_by chosen sheet ns)) room) (sym e)
