-- Answers as C gets them: a code, 0 for accepted, and the value; where a call is refused, all else is 0.
use Rattle.std.specs.Prelude.{ℕ, Bool, cond, pos}
use Rattle.stand.specs.Refusal.{Answer, gives, refused}
use Rattle.stand.specs.declared.Cell.{Cell}
use Rattle.stand.specs.declared.volume.Extent.{Extent}
use Rattle.exports.specs.declared.reply.Number.{Number}
use Rattle.exports.specs.declared.reply.Place.{Place}
use Rattle.exports.specs.declared.reply.Span.{Span}

abbrev pub no_cell : Cell
no_cell = record { x = pos 0; y = pos 0; z = pos 0 }

abbrev pub no_extent : Extent
no_extent = record { x = pos 0; y = pos 0; z = pos 0 }

abbrev pub replied : Answer ℕ → Number
replied (gives n) = record { code = 0; value = n }
replied (refused c) = record { code = c; value = 0 }

-- 1 for yes, 0 for no
abbrev pub replied_flag : Answer Bool → Number
replied_flag (gives b) = record { code = 0; value = cond b 1 0 }
replied_flag (refused c) = record { code = c; value = 0 }

abbrev pub replied_cell : Answer Cell → Place
replied_cell (gives p) = record { code = 0; cell = p }
replied_cell (refused c) = record { code = c; cell = no_cell }

abbrev pub replied_extent : Answer Extent → Span
replied_extent (gives e) = record { code = 0; extent = e }
replied_extent (refused c) = record { code = c; extent = no_extent }
