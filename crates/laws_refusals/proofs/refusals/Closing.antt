-- The body of a multipart behind its closing mark is a whole one.
use Prim.Native.Nat.{ℕ, suc, ◌+◌, ◌≤◌}
use mathlib.Core.Path.{◌≡◌, refl, sym, ap, subst, ◌∙◌}
use mathlib.Core.Bool.{Bool, true, false, true≢false}
use mathlib.Core.List.{List, [], ◌∷◌, ◌++◌, append_assoc}
use native.Mathlib.Omega.{arith}
use lib.ListN.{length, length-append}
use Rattle.rules_server.specs.Texts.{crlf, dashes}
use Rattle.rules_server.specs.Answers.{Cell, own, from, own_then, from_then, lines_then, dash_boundary}
use Rattle.rules_tablet.specs.Fields.{range_field, first_of}
use Rattle.rules_tablet.specs.Heads.{span_of}
use Rattle.rules_demands.specs.AcceptanceGrammar.{PartLines, Part, Rest, closed, further, empty_lines, Multipart-body}
use Rattle.laws_reader.proofs.own_answers.Parts.{own_length, from-length}
use Rattle.rules_demands.specs.RefusalParts.{part_opened, Announced, Marked, first, next}
use Rattle.laws_refusals.proofs.refusals.Leads.{own_append, own_before}
use Rattle.laws_refusals.proofs.refusals.Runs.{empty_before}

-- data, what follows it, and more
from-append : (p : ℕ) (l : List ℕ) (a c : List Cell) → from_then p l a ++ c ≡ from_then p l (a ++ c)
from-append p [] a c = refl
from-append p (x ∷ l) a c = ap (λ (r : List Cell). from p x ∷ r) (from-append (suc p) l a c)

module _ (n : ℕ) (b : List ℕ) (z : ℕ) where
  -- a mark, and behind it a part and further ones up to the end
  record PartsFrom (tail : List Cell) : Type 0 where
    pub rest : List Cell
    pub part : Part n b (own_then (dash_boundary b) tail) rest
    pub others : Rest n b rest

  -- what stands between two marks, and then the second one
  abbrev between : List (List ℕ) → List ℕ → List ℕ → List Cell → List Cell
  between fields v bytes tail = own_then (crlf ++ lines_then fields crlf) (from_then (first_of (range_field v)) bytes (own_then crlf (own_then (dash_boundary b) tail)))

  -- a part before the others
  one_part : (marked : List Cell) (fields : List (List ℕ)) (v bytes : List ℕ) (tail : List Cell) → Announced n b z marked fields v
      → length bytes ≡ span_of (range_field v) → Rest n b (own_then (dash_boundary b) tail)
      → PartsFrom (between fields v bytes tail)
  one_part marked fields v bytes tail a all r =
      record {
        rest = own_then (dash_boundary b) tail;
        part = record {
          fields = fields;
          range_value = v;
          bytes = bytes;
          lines = a.lines;
          span = all;
          text = sym (own_append (dash_boundary b) (crlf ++ lines_then fields crlf)
              (from_then (first_of (range_field v)) bytes (own_then crlf (own_then (dash_boundary b) tail))));
        };
        others = r;
      }

  -- the body up to and with a mark behind a part, and what follows
  between_is : (marked : List Cell) (fields : List (List ℕ)) (v bytes : List ℕ) (tail : List Cell)
      → (part_opened marked fields ++ from_then (first_of (range_field v)) bytes (own_then (crlf ++ dash_boundary b) [])) ++ tail ≡ marked
      ++ between fields v bytes tail
  between_is marked fields v bytes tail =
      let p = first_of (range_field v) in
      let lines = own_then (crlf ++ lines_then fields crlf) [] in
      let data_then = from_then p bytes (own_then (crlf ++ dash_boundary b) []) in
      append_assoc (marked ++ lines) data_then tail ∙ append_assoc marked lines (data_then ++ tail)
      ∙ ap (λ (c : List Cell). marked ++ c)
      (ap (λ (c : List Cell). lines ++ c) (from-append p bytes (own_then (crlf ++ dash_boundary b) []) tail
      ∙ ap (λ (c : List Cell). from_then p bytes (own 13 ∷ own 10 ∷ c)) (sym (own_before (dash_boundary b) tail)))
      ∙ sym (own_before (crlf ++ lines_then fields crlf) (from_then p bytes (own_then crlf (own_then (dash_boundary b) tail)))))

  -- up to and with a mark, and behind it parts up to the end
  whole_body : (parts : Bool) (cells : List Cell) (m : Marked n b z parts cells) (tail : List Cell) → PartsFrom tail → Multipart-body n b (cells ++ tail)
  whole_body parts cells (first lead few none_yet is) tail p =
      record {
        lead = lead;
        first = own_then (dash_boundary b) tail;
        rest = p.rest;
        few = few;
        part = p.part;
        others = p.others;
        text = ap (λ (c : List Cell). c ++ tail) (is ∙ empty_before lead (own_then (dash_boundary b) []))
            ∙ append_assoc (empty_lines lead []) (own_then (dash_boundary b) []) tail
            ∙ ap (λ (c : List Cell). empty_lines lead [] ++ c) (sym (own_before (dash_boundary b) tail))
            ∙ sym (empty_before lead (own_then (dash_boundary b) tail));
      }
  whole_body parts cells (next before marked fields v bytes m a all some-yet is) tail p =
      subst (Multipart-body n b) (sym (ap (λ (c : List Cell). c ++ tail) is ∙ between_is marked fields v bytes tail))
      (whole_body before marked m (between fields v bytes tail) (one_part marked fields v bytes tail a all (further p.rest p.part p.others)))

  -- up to and with the closing mark, and anything
  pub closed_body : (cells : List Cell) (m : Marked n b z true cells) (anything : List ℕ) → Multipart-body n b (cells ++ own_then (dashes ++ anything) [])
  closed_body cells m anything = go true cells m refl
    where
      go : (parts : Bool) (cells : List Cell) (m : Marked n b z parts cells) → parts ≡ true → Multipart-body n b (cells ++ own_then (dashes ++ anything) [])
      go parts cells (first lead few none_yet is) e = absurd (true≢false (sym e ∙ none_yet))
      go parts cells (next before marked fields v bytes m a all some-yet is) e =
          let tail = own_then (dashes ++ anything) [] in
          subst (Multipart-body n b) (sym (ap (λ (c : List Cell). c ++ tail) is ∙ between_is marked fields v bytes tail))
          (whole_body before marked m (between fields v bytes tail)
          (one_part marked fields v bytes tail a all (closed anything (sym (own_append (dash_boundary b) (dashes ++ anything) [])))))

  -- what follows a part has room for a closing mark
  rest_least : (cells : List Cell) → Rest n b cells → length b + 4 ≤ length cells
  rest_least cells (closed anything e) =
      let a = own_length (dash_boundary b ++ (dashes ++ anything)) [] in
      let d = length-append b (dashes ++ anything) in
      rw e (omega arith)
  rest_least cells (further rest a r) =
      let ih = rest_least rest r in
      let q = own_length (dash_boundary b ++ (crlf ++ lines_then a.fields crlf))
      (from_then (first_of (range_field a.range_value)) a.bytes (own_then crlf rest)) in
      let d = from-length (first_of (range_field a.range_value)) a.bytes (own_then crlf rest) in
      let m = length-append (dash_boundary b) (crlf ++ lines_then a.fields crlf) in
      rw a.text (omega arith)

  -- a whole body, up to and with its last mark, and what follows
  pub record ClosedAt (cells : List Cell) : Type 0 where
    pub before : List Cell
    pub marked : Marked n b z true before
    pub anything : List ℕ
    pub text : cells ≡ before ++ own_then (dashes ++ anything) []

  -- a part fits where others follow
  announced : (marked : List Cell) (fields : List (List ℕ)) (v bytes : List ℕ) (rest total : List Cell) → PartLines n fields v
      → length bytes ≡ span_of (range_field v) → Rest n b rest
      → total ≡ marked ++ own_then (crlf ++ lines_then fields crlf) (from_then (first_of (range_field v)) bytes (own_then crlf rest)) → length total ≡ z
      → Announced n b z marked fields v
  announced marked fields v bytes rest total lines span r is all =
      let p = first_of (range_field v) in
      let least = rest_least rest r in
      let d = from-length p bytes (own_then crlf rest) in
      let cut : total ≡ part_opened marked fields ++ from_then p bytes (own_then crlf rest) =
      is ∙ ap (λ (c : List Cell). marked ++ c) (own_before (crlf ++ lines_then fields crlf) (from_then p bytes (own_then crlf rest)))
      ∙ sym (append_assoc marked (own_then (crlf ++ lines_then fields crlf) []) (from_then p bytes (own_then crlf rest))) in
      let count = ap length cut ∙ length-append (part_opened marked fields) (from_then p bytes (own_then crlf rest)) in
      record { lines = lines; fit = omega (arith, count, d, least, all, span) }

  -- from a mark on, through the part behind it and the others
  walk : (rest : List Cell) → Rest n b rest → (parts : Bool) (marked : List Cell) → Marked n b z parts marked
      → (fields : List (List ℕ)) (v bytes : List ℕ) (total : List Cell) → PartLines n fields v
      → length bytes ≡ span_of (range_field v) → total ≡ marked
      ++ own_then (crlf ++ lines_then fields crlf) (from_then (first_of (range_field v)) bytes (own_then crlf rest)) → length total ≡ z → ClosedAt total
  walk rest (closed anything e) parts marked m fields v bytes total lines span is all =
      let tail = own_then (dashes ++ anything) [] in
      let a = announced marked fields v bytes rest total lines span (closed anything e) is all in
      let same : rest ≡ own_then (dash_boundary b) tail = e ∙ own_append (dash_boundary b) (dashes ++ anything) [] in
      record {
        before = part_opened marked fields ++ from_then (first_of (range_field v)) bytes (own_then (crlf ++ dash_boundary b) []);
        marked = next parts marked fields v bytes m a span refl refl;
        anything = anything;
        text = is ∙ ap (λ (c : List Cell). marked ++ own_then (crlf ++ lines_then fields crlf) (from_then (first_of (range_field v)) bytes (own_then crlf c))) same
            ∙ sym (between_is marked fields v bytes tail);
      }
  walk rest (further others q r) parts marked m fields v bytes total lines span is all =
      let a = announced marked fields v bytes rest total lines span (further others q r) is all in
      let tail = own_then (crlf ++ lines_then q.fields crlf) (from_then (first_of (range_field q.range_value)) q.bytes (own_then crlf others)) in
      let same : rest ≡ own_then (dash_boundary b) tail = q.text
      ∙ own_append (dash_boundary b) (crlf ++ lines_then q.fields crlf)
      (from_then (first_of (range_field q.range_value)) q.bytes (own_then crlf others)) in
      walk others r true (part_opened marked fields ++ from_then (first_of (range_field v)) bytes (own_then (crlf ++ dash_boundary b) []))
      (next parts marked fields v bytes m a span refl refl) q.fields q.range_value q.bytes total q.lines q.span
      (is ∙ ap (λ (c : List Cell). marked ++ own_then (crlf ++ lines_then fields crlf) (from_then (first_of (range_field v)) bytes (own_then crlf c))) same
      ∙ sym (between_is marked fields v bytes tail)) all

  -- a whole body is closed
  pub body_closed : (cells : List Cell) → Multipart-body n b cells → length cells ≡ z → ClosedAt cells
  body_closed cells a all =
      let q = a.part in
      let tail = own_then (crlf ++ lines_then q.fields crlf) (from_then (first_of (range_field q.range_value)) q.bytes (own_then crlf a.rest)) in
      let same : a.first ≡ own_then (dash_boundary b) tail = q.text
      ∙ own_append (dash_boundary b) (crlf ++ lines_then q.fields crlf)
      (from_then (first_of (range_field q.range_value)) q.bytes (own_then crlf a.rest)) in
      walk a.rest a.others false (empty_lines a.lead (own_then (dash_boundary b) [])) (first a.lead a.few refl refl) q.fields q.range_value
      q.bytes cells q.lines q.span
      (a.text ∙ ap (empty_lines a.lead) (same ∙ own_before (dash_boundary b) tail) ∙ empty_before a.lead (own_then (dash_boundary b) [] ++ tail)
      ∙ sym (append_assoc (empty_lines a.lead []) (own_then (dash_boundary b) []) tail)
      ∙ ap (λ (c : List Cell). c ++ tail) (sym (empty_before a.lead (own_then (dash_boundary b) [])))) all
