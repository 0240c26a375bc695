-- A request and a resource as the code passes them: what their slices hold.
use Rattle.std.specs.Prelude.{Option, option_map}
use Rattle.rules_server.specs.Status.{Request, LastModified, Resource}
use Rattle.rules_server.specs.declared.LastModified.{LastModified as GivenTime}
use Rattle.rules_server.specs.declared.Request.{Request as Asked}
use Rattle.rules_server.specs.declared.Resource.{Resource as Served}

abbrev pub time_of : GivenTime → LastModified
time_of m = record { time = m.time; strong = m.strong }

abbrev pub modified_of : Option GivenTime → Option LastModified
modified_of m = option_map time_of m

abbrev pub request_of : Asked → Request
request_of q = record {
  method = q.method.now;
  range = option_map (λ v. v.now) q.range;
  if_range = option_map (λ v. v.now) q.if_range;
}

abbrev pub resource_of : Served → Resource
resource_of f = record {
  file = f.file.now;
  tag = f.tag.now;
  media = f.media.now;
  boundary = f.boundary.now;
  modified = modified_of f.modified;
  reference = f.reference;
}
