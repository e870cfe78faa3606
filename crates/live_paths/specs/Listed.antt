-- A name that is listed.
use Rattle.machine.specs.Command.{Name}
use Rattle.live_paths.specs.declared.listing.Named.{Named}

-- what it stands for
abbrev pub name_of : Named → Name
name_of named = record { name = named.name.items; number = named.number }
