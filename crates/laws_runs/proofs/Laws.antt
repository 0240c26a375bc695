-- The laws of runs, together.
-- Assumes nothing.
use Rattle.rules_tablet.specs.RunLaws.{RunLaws}
use Rattle.laws_runs.proofs.Members.{test_true, true_test, member_below, unique}
use Rattle.laws_runs.proofs.Insert.{insert_formed, insert_member, insert_same, insert_count, insert_next, insert_before}
use Rattle.laws_runs.proofs.Scan.{scan_formed, scan_member, scan_is, scan_insert, scan_same}
use Rattle.laws_runs.proofs.Holes.{holes_formed, holes_member, holes_count}

-- each law is a lemma of its own
pub run_laws : RunLaws
run_laws = record {
  test_true = test_true;
  true_test = true_test;
  insert_formed = insert_formed;
  insert_member = insert_member;
  insert_same = insert_same;
  member_below = member_below;
  unique = unique;
  scan_formed = scan_formed;
  scan_member = scan_member;
  scan_is = scan_is;
  scan_insert = scan_insert;
  scan_same = scan_same;
  holes_formed = holes_formed;
  holes_member = holes_member;
  holes_count = holes_count;
  insert_count = insert_count;
  insert_next = insert_next;
  insert_before = insert_before;
}
