-- Calls that feed a fresh reader an answer in pieces give each report exactly when.
use Prim.Native.Nat.{ℕ, ◌+◌, ◌≤◌}
use mathlib.Core.Path.{◌≡◌, refl, sym, ap, ◌∙◌}
use mathlib.Core.Bool.{true, false, ◌&&◌, true≢false}
use mathlib.Core.List.{List, [], ◌∷◌, ◌++◌}
use lib.Dec.{leb}
use lib.ListN.{length}
use borrow.Author.Tests.{leb-true, eq-eqb}
use Rattle.rules_server.specs.Limits.{max_file, max_tag}
use Rattle.rules_server.specs.Octets.{is_nil}
use Rattle.rules_server.specs.Tags.{is_strong}
use Rattle.laws_server.proofs.grammar.Bytes.{and_left, and_right}
use Rattle.rules_server.specs.declared.Run.{Run}
use Rattle.rules_tablet.specs.Limits.{max_runs}
use Rattle.rules_tablet.specs.Runs.{well_formed}
use Rattle.rules_tablet.specs.Parsers.{Parser, report_of}
use Rattle.rules_tablet.specs.Feeding.{Held, Tablet, Fed, feed}
use Rattle.rules_tablet.specs.Calls.{State, copy_ok, fresh, reader_ok, Feeding, tablet_of, feeding_of, feedable, feed_call}
use Rattle.rules_tablet.specs.declared.Report.{Report}
use Rattle.rules_tablet.specs.declared.Report.TheVariants.{More, Finished as AtEnd, Refused as ByNumber}
use Rattle.laws_reader.proofs.storing.Bytes.{feed-none}
use Rattle.laws_reader.proofs.rules_kept.Pieces.{splits}
use Rattle.laws_reader.proofs.rules_kept.Calls.{fair_always}
use Rattle.rules_demands.specs.RefusalsExactly.{fed}
use Rattle.rules_demands.specs.RefusalsOfCalls.{joined, in_turn, call_pieces, PiecesAlike, held_by, CallsSay, CallsExactly}
use Rattle.laws_refusals.proofs.refusals.Reports.{stage_refused, stage_ended, stage_going, report_going}
use Rattle.laws_refusals.proofs.refusals.Refusing.{refuses_exactly}

-- a strong tag is not empty
tag-some : (tag : List ℕ) → is_strong tag ≡ true → is_nil tag ≡ false
tag-some [] e = absurd (true≢false (sym e))
tag-some (x ∷ l) e = refl

-- a call under the rules feeds
call_feeds : (c : State) (p : Parser) (buffer l : List ℕ) → feedable c p buffer ≡ true
    → feed_call c p buffer l ≡ feeding_of c (feed max_runs c.tag c.length l (tablet_of c p buffer))
unfolding feed_call
call_feeds c p buffer l e = rw e

-- two calls in a row are one with both pieces
two_calls : (c : State) (p : Parser) (buffer l m : List ℕ) → feedable c p buffer ≡ true
    → in_turn (feed_call c p buffer l) (feed_call (feed_call c p buffer l).copy (feed_call c p buffer l).reader (feed_call c p buffer l).buffer m)
    ≡ feed_call c p buffer (l ++ m)
two_calls c p buffer l m e =
    let one = feed max_runs c.tag c.length l (tablet_of c p buffer) in
    let again = (fair_always c p buffer l).rules e in
    let first = call_feeds c p buffer l e in
    let second = call_feeds (feed_call c p buffer l).copy (feed_call c p buffer l).reader (feed_call c p buffer l).buffer m again in
    let s = splits max_runs c.tag c.length l m (tablet_of c p buffer) in
    let two = feed max_runs c.tag c.length m one.tablet in
    ap (in_turn (feed_call c p buffer l)) second
    ∙ ap (λ (r : Feeding). in_turn r (feeding_of r.copy (feed max_runs r.copy.tag r.copy.length m (tablet_of r.copy r.reader r.buffer))))
    first
    ∙ ap (λ (x : Tablet). feeding_of c (record { tablet = x; taken = one.taken + two.taken })) (sym s.0)
    ∙ ap (λ (y : ℕ). feeding_of c (record { tablet = (feed max_runs c.tag c.length (l ++ m) (tablet_of c p buffer)).tablet; taken = y })) (sym s.1)
    ∙ sym (call_feeds c p buffer (l ++ m) e)

-- calls for pieces are one call for the pieces end to end
pub pieces_alike : PiecesAlike
pieces_alike [] c p buffer e = ap (feeding_of c) (sym (feed-none max_runs c.tag c.length (tablet_of c p buffer))) ∙ sym (call_feeds c p buffer [] e)
pieces_alike (l ∷ ls) c p buffer e =
    let r = feed_call c p buffer l in
    ap (in_turn r) (pieces_alike ls r.copy r.reader r.buffer ((fair_always c p buffer l).rules e)) ∙ two_calls c p buffer l (joined ls) e

module _ (c : State) (buffer : List ℕ) (pieces : List (List ℕ)) (met : copy_ok c ≡ true) (room : length buffer ≡ c.length) where
  -- feeding, as the calls do it
  abbrev feeding : Fed
  feeding = fed max_runs c.tag c.length (held_by c buffer) (joined pieces)

  -- copy, fresh reader and buffer meet their rules
  rules_met : feedable c fresh buffer ≡ true
  unfolding feedable reader_ok fresh
  rules_met = rw (met, eq-eqb (length buffer) c.length room)

  -- the calls feed the bytes end to end
  call_is : call_pieces c fresh buffer pieces ≡ feeding_of c feeding
  call_is = pieces_alike pieces c fresh buffer rules_met ∙ call_feeds c fresh buffer (joined pieces) rules_met

  -- the copy's tag, by its rule
  tag_rule : (is_nil c.tag ≡ false) × (length c.tag ≤ max_tag)
  unfolding copy_ok
  tag_rule =
      let a = is_strong c.tag && leb (length c.tag) max_tag in
      let b = a && leb c.length max_file in
      let d = b && leb (length c.runs) max_runs in
      let strong = and_left a (leb c.length max_file) (and_left b (leb (length c.runs) max_runs) (and_left d (well_formed 0 c.length c.runs) met)) in (
        tag-some c.tag (and_left (is_strong c.tag) (leb (length c.tag) max_tag) strong),
        leb-true (length c.tag) max_tag
            (and_right (is_strong c.tag) (leb (length c.tag) max_tag) strong),
      )

  -- what feeding leaves is what the calls say
  said : (report : Report) (i : ℕ) (last : Held) → report_of feeding.tablet.parser.stage ≡ report → feeding.taken ≡ i → feeding.tablet.held ≡ last
      → CallsSay c buffer pieces report i last
  said report i last e t h =
      record {
        report_is = ap (λ x. x.report) call_is ∙ e;
        taken_is = ap (λ x. x.taken) call_is ∙ t;
        runs_are = ap (λ x. x.copy.runs) call_is ∙ ap (λ (x : Held). x.runs) h;
        buffer_is = ap (λ x. x.buffer) call_is ∙ ap (λ (x : Held). x.bytes) h;
      }

  -- and back
  module _ (report : Report) (i : ℕ) (last : Held) (q : CallsSay c buffer pieces report i last) where
    -- the report
    report_back : report_of feeding.tablet.parser.stage ≡ report
    report_back = sym (ap (λ x. x.report) call_is) ∙ q.report_is

    -- the taken bytes
    taken_back : feeding.taken ≡ i
    taken_back = sym (ap (λ x. x.taken) call_is) ∙ q.taken_is

    -- what is held
    held_back : feeding.tablet.held ≡ last
    held_back =
        let r = sym (ap (λ x. x.copy.runs) call_is) ∙ q.runs_are in
        let b = sym (ap (λ x. x.buffer) call_is) ∙ q.buffer_is in
        both feeding.tablet.held last r b
      where
        both : (a d : Held) → a.runs ≡ d.runs → a.bytes ≡ d.bytes → a ≡ d
        both a d r b = ap (λ (x : List Run). record { runs = x; bytes = a.bytes }) r ∙ ap (λ (y : List ℕ). record { runs = d.runs; bytes = y }) b

-- each report of calls is given exactly when
pub calls_exactly : CallsExactly
calls_exactly c buffer pieces met room =
    let rule = tag_rule c buffer pieces met room in
    let x = refuses_exactly max_runs c.tag c.length (held_by c buffer) (joined pieces) rule.0 rule.1 in
    record {
      refused = λ i k last. (
        λ r. let f = (x.refused i k last).0 r in said c buffer pieces met room (ByNumber k) i last (ap report_of f.stage) f.taken f.holds,
        λ q. (x.refused i k last).1
            (record {
              stage = stage_refused (feeding c buffer pieces met room).tablet.parser.stage k (report_back c buffer pieces met room (ByNumber k) i last q);
              taken = taken_back c buffer pieces met room (ByNumber k) i last q;
              holds = held_back c buffer pieces met room (ByNumber k) i last q;
            }),
      );
      going = λ last. (
        λ r. let f = (x.going last).0 r in said c buffer pieces met room More (length (joined pieces)) last
            (report_going (feeding c buffer pieces met room).tablet.parser.stage f.stage) f.taken f.holds,
        λ q. (x.going last).1
            (record {
              stage = stage_going (feeding c buffer pieces met room).tablet.parser.stage
                  (report_back c buffer pieces met room More (length (joined pieces)) last q);
              taken = taken_back c buffer pieces met room More (length (joined pieces)) last q;
              holds = held_back c buffer pieces met room More (length (joined pieces)) last q;
            }),
      );
      ended = λ i last. (
        λ r. let f = (x.ended i last).0 r in said c buffer pieces met room AtEnd i last (ap report_of f.stage) f.taken f.holds,
        λ q. (x.ended i last).1
            (record {
              stage = stage_ended (feeding c buffer pieces met room).tablet.parser.stage (report_back c buffer pieces met room AtEnd i last q);
              taken = taken_back c buffer pieces met room AtEnd i last q;
              holds = held_back c buffer pieces met room AtEnd i last q;
            }),
      );
    }
