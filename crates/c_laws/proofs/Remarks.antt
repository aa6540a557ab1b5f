-- Sheets with one page are alike for C; request 5 over what C gets.
use Rattle.std.specs.Prelude.{Ok, Err}
use mathlib.Core.List.{List}
use mathlib.Core.Path.{◌≡◌, refl, sym, ap, subst, ◌∙◌}
use Prim.Native.Nat.{ℕ, ◌≤◌}
use native.Mathlib.Omega.{arith}
use lib.ListN.{length, drop, length-drop}
use lib.Seq.{length-take-le}
use Rattle.octets.specs.Bytes.{part}
use Rattle.octets.specs.Room.{fitting}
use Rattle.air.specs.Choices.{chosen}
use Rattle.air.specs.Held.{Held}
use Rattle.mark.specs.Mark.{mark_of}
use Rattle.line.specs.Line.{line}
use Rattle.sheet.specs.Sheet.{sheet_of}
use Rattle.sheet_search.specs.Find.{Lookup, Inside}
use Rattle.sheet_search.proofs.Pages.{page_of, Reply, missed, found, reply_of, reply_name, name_reply}
use Rattle.sheet_search.proofs.Remarks.{remarks_page}
use Rattle.sheet_remark.specs.Remark.{remark_of, remark_bytes}
use Rattle.sheet_walk.proofs.Pages.{same_record, numbered_inside}
use Rattle.convert.proofs.Remarks.{forward_aside}
use Rattle.calculator.specs.Search.{locate}
use Rattle.calculator.proofs.Demand3.{locates}
use Rattle.calculator.proofs.Located.{locate_inside}
use Rattle.calculator.proofs.Remarks.{same_answers}
use Rattle.calculator.proofs.Replies.{same_reply}
use Rattle.report.proofs.Alike.{same_listing}
use Rattle.walk.proofs.Pages.{same_begun, same_stepped}
use Rattle.flat.specs.Flat.{flat}
use Rattle.flat_parts.specs.declared.CPart.{CPart}
use Rattle.flat_parts.specs.declared.CRecord.{CRecord}
use Rattle.flat_parts.specs.Flat.{flat_found, flat_remark, flat_mark}
use Rattle.flat_parts.proofs.FoundPart.{found_part, remark_bytes_lem}
use Rattle.c_laws.specs.Remarks.{placeless, SameRecord, SameForC, FlatRemarksAside, FoundRemark}

-- a reply as C takes it, without a place
abbrev flat_reply : Reply → CRecord
flat_reply (missed k) = record { number = k; kind = 0; first = 0; second = 0; start = 0; length = 0 }
flat_reply (found e) = record { number = 0; kind = e.kind; first = e.first; second = e.second; start = 0; length = length e.name }

placeless_is : (s : List ℕ) (l : Lookup) → Inside s l → placeless (flat_found l) ≡ flat_reply (reply_of s l)
unfolding flat_found
placeless_is s (Err k) w = refl
placeless_is s (Ok r) w =
    let m : r.len ≤ length (drop r.start s) = omega (arith, w.fits, length-drop r.start s) in
    ap (λ (n : ℕ). record { number = 0; kind = r.kind; first = r.first; second = r.second; start = 0; length = n }) (sym (length-take-le r.len (drop r.start s) m))

same_flat : (s t : List ℕ) (l k : Lookup) → Inside s l → Inside t k → reply_of s l ≡ reply_of t k → SameRecord s t (flat_found l) (flat_found k)
same_flat s t l k v w e =
    record {
      fields = placeless_is s l v ∙ ap flat_reply e ∙ sym (placeless_is t k w);
      name = found_part s l ∙ name_reply s l ∙ ap reply_name e ∙ sym (found_part t k ∙ name_reply t k);
    }

pub same_for_c : (s t : List ℕ) → page_of s (sheet_of s) ≡ page_of t (sheet_of t) → SameForC s t
same_for_c s t e =
    let a = same_answers s t e in
    record {
      check = a.number;
      find = λ spelling. same_flat s t (locate s spelling) (locate t spelling) (locate_inside s spelling) (locate_inside t spelling) (same_reply s t spelling e);
      record_at_lem = λ i. same_flat s t _ _ (numbered_inside s i) (numbered_inside t i) (same_record s t e i);
      search = λ spelling. ap flat (a.search chosen spelling);
      plot = λ spelling. ap (λ (h : Held). flat_mark (mark_of h)) (a.search chosen spelling);
      line = λ room spelling. ap (λ (h : Held). fitting room (line spelling h)) (a.search chosen spelling);
      list = λ room names. ap (fitting room) (same_listing chosen s t (a.search chosen) a.number names);
      begin = same_begun s t e;
      next = same_stepped s t e chosen;
    }

pub flat_remarks_aside : FlatRemarksAside
flat_remarks_aside s t d = record { for_c = same_for_c s t (remarks_page s t d); refused_forward = forward_aside s t d }

pub found_remark : FoundRemark
unfolding flat_remark
found_remark s rs r spelling c e m k h =
    let l : c ≡ flat_remark (remark_of s (Ok r)) = h ∙ ap (λ (f : Lookup). flat_remark (remark_of s f)) (locates s rs r spelling e m k) in
    record {
      no_refusal = ap (λ (p : CPart). p.number) l;
      start_is = ap (λ (p : CPart). p.start) l;
      length_is = ap (λ (p : CPart). p.length) l;
      bytes = subst (λ (p : CPart). part s p.start p.length ≡ remark_bytes s (remark_of s (Ok r))) (sym l) (remark_bytes_lem s (remark_of s (Ok r)));
    }
