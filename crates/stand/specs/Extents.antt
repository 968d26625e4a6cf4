-- A cell's three numbers as a size.
use Rattle.stand.specs.declared.Cell.{Cell}
use Rattle.stand.specs.declared.volume.Extent.{Extent}

abbrev pub extent_from : Cell → Extent
extent_from c = record { x = c.x; y = c.y; z = c.z }
