-- What a slot that was read says.
use Rattle.model.specs.Slots as model
use Rattle.dirent.specs.declared.Slot.{Slot}
use Rattle.dirent.specs.declared.Slot.TheVariants.{Empty, Good, Bad}

-- the slot, with its name's bytes
abbrev pub seen : Slot → model.Slot
seen Empty = model.Empty
seen (Good number name) = model.Good number name.now
seen Bad = model.Bad
