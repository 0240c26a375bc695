-- Our server's answer to a written request: a 206 whose parts are the ranges asked for; and to a GET without a Range: the whole file.
use Prim.Native.Nat.{ℕ, suc, ◌+◌, ◌-◌, ◌*◌, ◌≤◌, ◌<◌, min}
use native.Mathlib.Omega.{arith}
use mathlib.Core.Path.{◌≡◌, refl, sym, ◌∙◌, ap, ap₂}
use mathlib.Core.Logic.{◌⊎◌, inl, inr}
use mathlib.Core.Bool.{true, false, true≢false, and-false}
use mathlib.Core.List.Memᴰ
use mathlib.Core.List.{List, [], ◌∷◌, ◌++◌, map, append_assoc, append-nil}
use Rattle.std.specs.Prelude.{Option, None}
use lib.IntN.{ℤ}
use lib.ListN.{length, length-append, length-map}
use borrow.Author.Tests.{lt-ltb, le-ltb, lt-leb}
use Rattle.rules_server.specs.Limits.{max_file, max_range, max_specs, merge_gap}
use Rattle.rules_server.specs.Octets.{codes, trim}
use Rattle.rules_server.specs.Texts.{bytes_unit, get}
use Rattle.rules_server.specs.Numerals.{print}
use Rattle.rules_server.specs.Tags.{is_strong}
use Rattle.rules_server.specs.Ranges.{invalid, any_spec}
use Rattle.rules_server.specs.Parts.{near, place, gather, run_of, spec_runs}
use Rattle.rules_server.specs.Status.{Request, LastModified, Resource, range_value, failing, rows, decide, status_of}
use Rattle.rules_server.specs.Answers.{from_then, ok_answer, answer, partial_answer}
use Rattle.rules_server.specs.declared.Run.{Run}
use Rattle.rules_tablet.specs.Runs.{WellFormed}
use Rattle.rules_tablet.specs.Requests.{range_text, more_ranges, ranges_text, request_text}
use Rattle.laws_numerals.proofs.Laws.{print-length}
use Rattle.laws_server.proofs.grammar.Blanks.{padded}
use Rattle.laws_server.proofs.grammar.Reading.{grammar_read}
use Rattle.rules_demands.specs.Positions.{Each, Backward, Satisfiable, Some as SomeSpec}
use Rattle.rules_demands.specs.Demand2Server.{Wanted}
use Rattle.laws_server.proofs.Runs.{each_map}
use Rattle.laws_server.proofs.Asking.{backward_invalid, any_some}
use Rattle.laws_server.proofs.Demand2 as demand
use Rattle.rules_demands.specs.RequestReading.{range_in, request_in, span_spec}
use Rattle.laws_reader.proofs.read_back.ReadBack.{range_cut, read_back}

-- the runs of ranges that lie in the file are these ranges
specs-runs : (lo n : ℕ) (rs : List Run) → WellFormed lo n rs → spec_runs n (map span_spec rs) ≡ rs
specs-runs lo n [] w = refl
specs-runs lo n (r ∷ rs) w =
    let e : min r.last (n - 1) ≡ r.last = omega arith in
    let s : run_of n (span_spec r) ≡ r = λ i. record { first = r.first; last = e i } in
    rw (lt-ltb r.first n (omega arith)) (ap₂ ◌∷◌ s (specs-runs _ n rs w.3))

-- a run that lies behind the others with a position between goes last
place-last : (r : Run) (done : List Run) → Each (λ (q : Run). suc q.last < r.first) done → place merge_gap r done ≡ done ++ (r ∷ [])
unfolding near
place-last r [] h = refl
place-last r (q ∷ done) h =
    rw (lt-leb r.first (q.last + merge_gap) (omega arith), and-false) (ap (λ (l : List Run). q ∷ l) (place-last r done h.1))

-- a property of each of two lists
each_append : (P : Run → Type 0) (a b : List Run) → Each P a → Each P b → Each P (a ++ b)
each_append P [] b h k = k
each_append P (r ∷ a) b h k = (h.0, each_append P a b h.1 k)

-- so well-formed runs stay as they are
gather_formed : (lo n : ℕ) (rs done : List Run) → WellFormed lo n rs → Each (λ (q : Run). suc q.last < lo) done → gather merge_gap rs done ≡ done ++ rs
gather_formed lo n [] done w h = sym (append-nil done)
gather_formed lo n (r ∷ rs) done w h =
    rw (place-last r done (each_map done (λ q l. omega arith) h))
    (gather_formed (suc (suc r.last)) n rs (done ++ (r ∷ [])) w.3
    (each_append (λ (q : Run). suc q.last < suc (suc r.last)) done (r ∷ []) (each_map done (λ q l. omega arith) h) (omega arith, tt))
    ∙ append_assoc done (r ∷ []) rs)

-- none of them is backward
none-invalid : (lo n : ℕ) (rs : List Run) → WellFormed lo n rs → any_spec invalid (map span_spec rs) ≡ false
none-invalid lo n [] w = refl
none-invalid lo n (r ∷ rs) w = rw (le-ltb r.last r.first w.1) (none-invalid _ n rs w.3)

-- the most digits of a position in a file
abbrev digits : ℕ
digits = 13

-- a printed position has no more
print_bound : (p : ℕ) → p < max_file → length (print p) ≤ digits
print_bound p l = print-length digits p (omega arith) (omega arith)

-- a range is two of them and `-`
range_bound : (r : Run) → r.first < max_file → r.last < max_file → length (range_text r) ≤ 2 * digits + 1
unfolding range_text
range_bound r a b =
    let x = print_bound r.first a in
    let y = print_bound r.last b in
    let z = length-append (print r.first) (codes "-" ++ print r.last) in
    omega arith

-- each further range has a comma besides
more_bound : (lo n : ℕ) (rs : List Run) → n ≤ max_file → WellFormed lo n rs → length (more_ranges rs) ≤ length rs * (2 * digits + 2)
more_bound lo n [] m w = omega arith
more_bound lo n (r ∷ rs) m w =
    let x = range_bound r (omega arith) (omega arith) in
    let y = more_bound _ n rs m w.3 in
    let z = length-append (range_text r) (more_ranges rs) in
    omega arith

-- trimming leaves no more than there is
trim_bound : (l : List ℕ) → length (trim l) ≤ length l
trim_bound l =
    let p = padded l in
    let e = ap length p.text in
    let x = length-append p.front (trim l ++ p.back) in
    let y = length-append (trim l) p.back in
    omega arith

module _ (file tag media boundary : List ℕ) (modified : Option LastModified) (reference : ℤ) (r : Run) (rs : List Run)
    (strong : is_strong tag ≡ true) (small : length file ≤ max_file) (few : length (r ∷ rs) ≤ max_specs) (formed : WellFormed 0 (length file) (r ∷ rs)) where
  -- the request as it is read
  abbrev pub asked : Request
  asked = request_in (request_text (r ∷ rs) tag)

  -- the file with what the server says of it
  abbrev pub resource : Resource
  resource = record { file = file; tag = tag; media = media; boundary = boundary; modified = modified; reference = reference }

  -- its Range is short
  asked_short : length (range_value asked) ≤ max_range
  asked_short =
      let text = request_text (r ∷ rs) tag in
      let value : range_in text ≡ bytes_unit ++ ranges_text (r ∷ rs) = rw append-nil at (range_cut r rs tag []) in
      let a = trim_bound (range_in text) in
      let b = ap length value in
      let c = length-append (range_text r) (more_ranges rs) in
      let d = range_bound r (omega arith) (omega arith) in
      let e = more_bound _ (length file) rs small formed.3 in
      omega arith

  -- it is a request that demand 2 speaks of
  asked_wanted : Wanted asked resource (range_in (request_text (r ∷ rs) tag)) (map span_spec (r ∷ rs))
  unfolding failing
  asked_wanted =
      let back = read_back r rs tag strong in
      record {
        is_get = refl;
        ranged = refl;
        short = asked_short;
        well_formed = (grammar_read (range_in (request_text (r ∷ rs) tag))).sound (map span_spec (r ∷ rs)) back.ranges;
        few = rw length-map few;
        unfailing = rw (back.if_range_matches resource refl);
      }

  -- it is answered by a 206 of these ranges
  pub asked_answer : answer asked resource ≡ partial_answer resource (r ∷ rs)
  asked_answer =
      let n = length file in
      let v = range_in (request_text (r ∷ rs) tag) in
      let ss = map span_spec (r ∷ rs) in
      let w = asked_wanted in
      let not416 : status_of (decide asked resource) ≡ 416 → ⊥ = λ e. neither ((demand.refused asked resource v ss w).0 e) in
      let part = demand.partly asked resource v ss w not416 (λ z. omega arith) in
      demand.answered asked resource v ss w part
      ∙ ap (partial_answer resource) (demand.parts_for_lem asked resource v ss w ∙ ap (λ (qs : List Run). gather merge_gap qs []) (specs-runs 0 n (r ∷ rs) formed)
      ∙ gather_formed 0 n (r ∷ rs) [] formed tt)
    where
      -- no range ends before it begins, and the first is satisfiable
      neither : SomeSpec Backward (map span_spec (r ∷ rs)) ⊎ (SomeSpec (Satisfiable (length file)) (map span_spec (r ∷ rs)) → ⊥) → ⊥
      neither (inl h) = true≢false (sym (any_some invalid h.spec (map span_spec (r ∷ rs)) h.is_listed (backward_invalid h.spec h.holds))
          ∙ none-invalid 0 (length file) (r ∷ rs) formed)
      neither (inr h) = h (record { spec = span_spec r; is_listed = Memᴰ.head refl; holds = omega arith })

-- a GET without a Range is answered by the whole file
pub unranged_answer : (q : Request) (f : Resource) → q.method ≡ get → q.range ≡ None → answer q f ≡ ok_answer f (from_then 0 f.file [])
unfolding answer decide rows
unranged_answer q f g r = rw (g, r)
