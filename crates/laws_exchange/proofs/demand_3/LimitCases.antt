-- Demand 3 at the limits, for files of digits: nothing refuses our server's answers of them, so the copies at the limits are reached.
use Prim.Native.Nat.{ℕ, zero, suc, ◌+◌, ◌-◌, ◌*◌, ◌≤◌, ◌<◌}
use native.Mathlib.Omega.{arith}
use mathlib.Core.Path.{◌≡◌, refl, sym, ◌∙◌, ap}
use mathlib.Core.Bool.{Bool, true, false, and-false, false≢true}
use mathlib.Core.List.{List, [], ◌∷◌, ◌++◌, append-nil}
use Rattle.std.specs.Prelude.{None}
use lib.Dec.{leb, eqb}
use lib.ListN.{length, get_or, take, drop, length-append, length-take, length-replicate}
use lib.Seq.{drop-cons}
use borrow.Author.Tests.{leb-true, le-ltb, ne_eqb}
use Rattle.rules_server.specs.Limits.{max_file, max_specs}
use Rattle.rules_server.specs.Octets.{codes, line_feed, carriage_return, dash, digit_zero, is_digit, all, occurs}
use Rattle.rules_server.specs.Texts.{get, crlf}
use Rattle.rules_server.specs.Tags.{is_tag, bad_tag, bad_type, bad_boundary, is_multipart_type}
use Rattle.rules_server.specs.Calendar.{bad_time}
use Rattle.rules_server.specs.Status.{Request}
use Rattle.rules_server.specs.Answers.{from, head_then, own_then, dash_boundary, data_of, plain_answer, parts_for}
use Rattle.rules_server.specs.Refusals.{bad_method, bad_length, bad_times, delimiter_in_parts, delimiter_in_multipart, bad_delimiter, bad_room, refusal_rows, refusal}
use Rattle.rules_server.specs.declared.Run.{Run}
use Rattle.rules_tablet.specs.Limits.{max_runs, max_holes}
use Rattle.rules_tablet.specs.Copies.{no_hole}
use Rattle.rules_tablet.specs.Runs.{run}
use Rattle.rules_tablet.specs.Calls.{request_lines, request_call}
use Rattle.rules_demands.specs.Demand3Arrivals.{flat}
use Rattle.rules_demands.specs.Demand3Sessions.{Event, piece, delivered, Ours, Session}
use Rattle.rules_demands.specs.Demand3.{Start, Round, after_round, Complete}
use Rattle.rules_demands.specs.Demand3Cases.{tag, resource, reply, wants_all}
use Rattle.rules_demands.specs.Demand3Limits.{singly, SinglesFed, digits_file, odd_digits, even_digits, FirstAt, WholeFed, odd_behind, LimitsReached}
use Rattle.rules_demands.specs.RequestReading.{request_in}
use Rattle.rules_demands.specs.AnchorSamples.{dots, repeat}
use Rattle.laws_server.proofs.grammar.Bytes.{and_left, and_right, and_both, all-append}
use Rattle.laws_exchange.proofs.completion.Singles.{singles-count, fed_cells}
use Rattle.laws_reader.proofs.own_answers.Own.{own_tracks}
use Rattle.laws_reader.proofs.rules_kept.Demand1.{splits, fair_always, asking_always}
use Rattle.laws_exchange.proofs.completion.Round.{round_again}
use Rattle.laws_exchange.proofs.demand_3.Demand3.{demand_3}
use Rattle.laws_exchange.proofs.demand_3.Corollary.{never_mixed}
use Rattle.laws_exchange.proofs.demand_3.Limits.{complete_holes, two_needed_always, full_always}

-- a byte before the digits is none of them
digit_other : (c b : ℕ) → c < digit_zero → is_digit b ≡ true → eqb c b ≡ false
digit_other c b l h = ne_eqb c b (λ e. omega (arith, leb-true digit_zero b (and_left (leb digit_zero b) _ h)))

-- what the bytes of a text pass, those of a front of it pass
all-take : (p : ℕ → Bool) (k : ℕ) (l : List ℕ) → all p l ≡ true → all p (take k l) ≡ true
all-take p zero l h = refl
all-take p (suc k) [] h = refl
all-take p (suc k) (b ∷ l) h = and_both (p b) (all p (take k l)) (and_left (p b) (all p l) h) (all-take p k l (and_right (p b) (all p l) h))

-- and those behind a front
all-drop : (p : ℕ → Bool) (k : ℕ) (l : List ℕ) → all p l ≡ true → all p (drop k l) ≡ true
all-drop p zero l h = h
all-drop p (suc k) [] h = refl
all-drop p (suc k) (b ∷ l) h = all-drop p k l (and_right (p b) (all p l) h)

-- nothing that begins with CR occurs among digits
digits_clear : (m l : List ℕ) → all is_digit l ≡ true → occurs (carriage_return ∷ m) l ≡ false
digits_clear m [] h = refl
digits_clear m (b ∷ l) h =
    rw (digit_other carriage_return b (omega arith) (and_left (is_digit b) (all is_digit l) h)) (digits_clear m l (and_right (is_digit b) (all is_digit l) h))

-- nor does a delimiter among digits behind CR LF
data_clear : (boundary l : List ℕ) → all is_digit l ≡ true → occurs (crlf ++ dash_boundary boundary) (crlf ++ l) ≡ false
data_clear boundary [] h = refl
data_clear boundary (b ∷ l) h =
    rw (digit_other dash b (omega arith) (and_left (is_digit b) (all is_digit l) h))
    (digits_clear (line_feed ∷ dash_boundary boundary) (b ∷ l) h)

-- so no part of a file of digits has the delimiter
parts_clear : (boundary file : List ℕ) (rs : List Run) → all is_digit file ≡ true → delimiter_in_parts boundary file rs ≡ false
parts_clear boundary file [] h = refl
parts_clear boundary file (r ∷ rs) h =
    rw (data_clear boundary (data_of file r) (all-take is_digit (suc r.last - r.first) (drop r.first file) (all-drop is_digit r.first file h)))
    (parts_clear boundary file rs h)

-- nor has a part of a multipart
multipart_clear : (boundary file : List ℕ) (rs : List Run) → all is_digit file ≡ true → delimiter_in_multipart boundary file rs ≡ false
multipart_clear boundary file [] h = refl
multipart_clear boundary file (r ∷ []) h = refl
multipart_clear boundary file (r ∷ s ∷ rs) h = parts_clear boundary file (r ∷ s ∷ rs) h

-- GET is a method that is answered
get-answered : (m : List ℕ) → m ≡ get → bad_method m ≡ false
unfolding bad_method
get-answered m g = rw g

module _ (file : List ℕ) (digits : all is_digit file ≡ true) (small : length file ≤ max_file) where
  -- nothing refuses the answer to a GET, into a buffer of its length
  answered : (q : Request) → q.method ≡ get → refusal q (resource None file) (length (reply file q)) ≡ None
  unfolding bad_length is_tag bad_tag is_multipart_type bad_type bad_boundary bad_time bad_times bad_delimiter bad_room refusal_rows refusal
  answered q g =
      rw (
        get-answered q.method g,
        le-ltb max_file (length file) small,
        multipart_clear (codes "B") file (parts_for q (resource None file)) digits,
        and-false,
        le-ltb (length (reply file q)) (length (reply file q)) (omega arith),
      )

  -- the whole answer, in one piece
  abbrev whole : Request → List Event
  whole q = piece (reply file q) ∷ []

  -- it is ours
  abbrev from-ours : (q : Request) → q.method ≡ get → Ours file tag (delivered (whole q))
  from-ours q g = record {
    request = q;
    media = (resource None file).media;
    boundary = (resource None file).boundary;
    modified = (resource None file).modified;
    reference = (resource None file).reference;
    room = length (reply file q);
    is_get = g;
    answered = answered q g;
    rest = [];
    front = append-nil (delivered (whole q)) ∙ append-nil (reply file q);
  }

  -- our whole answer of single positions
  abbrev singles-fed : (a k : ℕ) → SinglesFed file tag a k (whole (singly tag a k))
  singles-fed a k = record { source = from-ours (singly tag a k) refl; is_to = refl; whole = refl }

  -- our whole answer to the request that a copy with holes left has just written
  next_round : (s : Session) → Start file tag s → length s.copy.runs ≤ max_runs - 1 → (Complete s → ⊥) → Round file tag s
  next_round s start few lacks =
      let out = request_lines s.copy in
      let q = request_in (request_call s.copy out) in
      record {
        out = out;
        asks = ((demand_3 file tag s (record { asks = []; answers = [] }) tt start).two few).written out lacks (omega arith);
        media = (resource None file).media;
        boundary = (resource None file).boundary;
        modified = (resource None file).modified;
        reference = (resource None file).reference;
        room = length (reply file q);
        answered = answered q refl;
        events = whole q;
        fully = append-nil (reply file q);
      }

  -- the cells of a plain 206 of one position
  point_cells : (p : ℕ) → p < length file → flat (plain_answer (resource None file) (run p p))
      ≡ own_then (head_then (plain_answer (resource None file) (run p p)) []) (from p (get_or file p 0) ∷ [])
  unfolding flat plain_answer
  point_cells p l =
      let one : suc p - p ≡ 1 = omega arith in
      rw (one, drop-cons file p 0 l)

  -- our whole answer of one position
  first_at : (p : ℕ) → p < length file → FirstAt file tag p
  first_at p l = record {
    events = whole (singly tag p 1);
    source = from-ours (singly tag p 1) refl;
    front = head_then (plain_answer (resource None file) (run p p)) [];
    byte = get_or file p 0;
    rest = [];
    cells = fed_cells file tag p 1 (whole (singly tag p 1)) refl small (omega arith) (omega arith) (omega arith) (singles-fed p 1) ∙ point_cells p l;
  }

  -- our whole answer to a GET without a Range
  whole-fed : WholeFed file tag
  whole-fed = record { events = whole wants_all; source = from-ours wants_all refl; unranged = refl; whole = refl }

-- digits so many times are digits
repeat-digits : (k : ℕ) (l : List ℕ) → all is_digit l ≡ true → all is_digit (repeat k l) ≡ true
repeat-digits zero l h = refl
repeat-digits (suc k) l h = all-append is_digit l (repeat k l) h (repeat-digits k l h)

-- a text that is not empty, so many times, has so many bytes at least
repeat_long : (k b : ℕ) (l : List ℕ) → k ≤ length (repeat k (b ∷ l))
repeat_long zero b l = omega arith
repeat_long (suc k) b l = omega (arith, repeat_long k b l, length-append l (repeat k (b ∷ l)))

-- a file of digits has only digits
file_digits : (k : ℕ) → all is_digit (digits_file k) ≡ true
file_digits k = all-take is_digit k (repeat k (codes "0123456789")) (repeat-digits k (codes "0123456789") refl)

-- and is as long as it should be
file_length : (k : ℕ) → length (digits_file k) ≡ k
file_length k = omega (arith, length-take k (repeat k (codes "0123456789")), repeat_long k digit_zero (codes "123456789"))

-- so is a buffer of dots
dots-length : (k : ℕ) → length (dots k) ≡ k
dots-length k = length-replicate {A = ℕ} k 46

pub limits_reached : LimitsReached
limits_reached =
    let m = suc (2 * max_holes) in
    let n = 2 * max_runs + 2 in
    let size = file_length n in
    let small : length odd_digits ≤ max_file = omega (arith, file_length m) in
    let small' : length even_digits ≤ max_file = omega arith in
    let fed = singles-fed odd_digits (file_digits m) small 1 max_holes in
    let low = singles-fed even_digits (file_digits n) small' 0 max_specs in
    let high = singles-fed even_digits (file_digits n) small' (2 * max_specs) (max_runs - max_specs) in
    let two = two_needed_always odd_digits tag (dots (length odd_digits)) _ refl (omega arith) (file_length m) (dots-length (length odd_digits)) fed in
    let odd = piece (reply odd_digits (singly tag 1 max_holes)) ∷ [] in
    let few : length (odd_behind odd).copy.runs ≤ max_runs - 1 = omega (arith, ap length two.runs ∙ singles-count 1 max_holes) in
    let lacks : Complete (odd_behind odd) → ⊥ = λ c. false≢true (
    sym (ap no_hole two.missing) ∙ (complete_holes (odd_behind odd).copy (length odd_digits) two.starts.rule two.starts.of_length).0 c) in
    let first = next_round odd_digits (file_digits m) small (odd_behind odd) two.starts few lacks in
    let again = round_again own_tracks splits fair_always asking_always odd_digits tag (odd_behind odd) two.starts few first in
    let middle = after_round odd_digits tag (odd_behind odd) first in
    let second = next_round odd_digits (file_digits m) small middle again.0 again.1 (two.lacks first) in
    let end = (round_again own_tracks splits fair_always asking_always odd_digits tag middle again.0 again.1 second).0 in
    let whole = (never_mixed odd_digits tag (after_round odd_digits tag middle second) (record { asks = []; answers = [] }) tt end).whole
    ((two.later first).completes second) in
    record {
      odd = odd;
      odd_fed = fed;
      two = two;
      first = first;
      second = second;
      whole = whole;
      lower = _;
      lower_fed = low;
      upper = _;
      upper_fed = high;
      full = full_always even_digits tag (dots (length even_digits)) _ _ refl (omega arith) (omega arith) small' (dots-length (length even_digits)) low high;
      apart = first_at even_digits (file_digits n) small' (2 * max_runs) (omega arith);
      all = whole-fed even_digits (file_digits n) small';
    }
