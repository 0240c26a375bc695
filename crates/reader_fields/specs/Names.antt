-- What the code's names of fields mean.
use Rattle.rules_tablet.specs.Fields as fields
use Rattle.reader_fields.specs.declared.names.Name.{Name}
use Rattle.reader_fields.specs.declared.names.Name.TheVariants.{Etag, «Type» as TypeName, Range, Size, Transfer, Other}

-- the name that the enum of the code means
abbrev pub name_meaning : Name → fields.Name
name_meaning Etag = fields.etag
name_meaning TypeName = fields.type
name_meaning Range = fields.range
name_meaning Size = fields.size
name_meaning Transfer = fields.transfer
name_meaning Other = fields.other
