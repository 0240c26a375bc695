-- Demand 2, the tablet's half.
use Rattle.rules_demands.specs.Demand2Tablet.{Demand2Tablet}
use Rattle.laws_reader.proofs.read_back.ReadBack.{read_back}
use Rattle.laws_refusals.proofs.grammars.StatusLine.{status_lines-decided}
use Rattle.laws_refusals.proofs.grammars.FieldLine.{field_lines-decided}
use Rattle.laws_refusals.proofs.grammars.FieldNames.{names-decided, tag-lines-decided}
use Rattle.laws_refusals.proofs.grammars.ContentLength.{sizes_decided}
use Rattle.laws_refusals.proofs.grammars.Ranges.{content_ranges-decided}
use Rattle.laws_refusals.proofs.grammars.MultipartType.{multipart-types-decided}
use Rattle.laws_refusals.proofs.acceptance.Standing.{bytes_stand}
use Rattle.laws_refusals.proofs.refusals.Sound.{taken}
use Rattle.laws_refusals.proofs.refusals.Numbers.{numbers_always}
use Rattle.laws_refusals.proofs.refusals.Refusing.{refuses_exactly, one_outcome, only_acceptable}
use Rattle.laws_refusals.proofs.refusals.Calling.{pieces_alike, calls_exactly}
use Rattle.laws_exchange.proofs.demand_2.Accepting.{accepts_just}
use Rattle.laws_exchange.proofs.demand_2.Asking.{requests_read_back}
use Rattle.laws_exchange.proofs.demand_3.Served.{request_served}

pub demand_2_tablet : Demand2Tablet
demand_2_tablet = record {
  accepts = accepts_just;
  takes = taken;
  only = only_acceptable;
  status_lines = status_lines-decided;
  field_lines = field_lines-decided;
  names = names-decided;
  tag_lines = tag-lines-decided;
  sizes = sizes_decided;
  content_ranges = content_ranges-decided;
  multipart_types = multipart-types-decided;
  refuses = refuses_exactly;
  one_outcome = one_outcome;
  numbers = numbers_always;
  calls = calls_exactly;
  pieces = pieces_alike;
  stores = bytes_stand;
  asks = requests_read_back;
  reads_back = read_back;
  served = request_served;
}
