-- Steps of the walks; `given` is 1 for a step and 0 at the end.
use Rattle.stand.specs.Feed.{Next}
use Rattle.stand.specs.Feed as F
use Rattle.stand.specs.Refusal.{Answer, gives, refused}
use Rattle.stand.specs.Solids.{Solid}
use Rattle.stand.specs.Solids as S
use Rattle.std.specs.Prelude.{ℕ}
use Rattle.exports.specs.Reply.{no_cell}
use Rattle.exports.specs.declared.walk.ChunkGiven.{ChunkGiven}
use Rattle.exports.specs.declared.walk.SolidGiven.{SolidGiven}

abbrev pub no_chunk : ℕ → ChunkGiven
no_chunk c = record { code = c; given = 0; chunk = 0; next = 0 }

abbrev pub replied_chunk : Answer Next → ChunkGiven
replied_chunk (gives (F.chunk i g)) = record { code = 0; given = 1; chunk = i; next = g }
replied_chunk (gives F.end) = no_chunk 0
replied_chunk (refused c) = no_chunk c

abbrev pub no_solid : ℕ → SolidGiven
no_solid c = record { code = c; given = 0; cell = no_cell; finish = 0; next = 0 }

abbrev pub replied_solid : Answer Solid → SolidGiven
replied_solid (gives (S.solid p v i)) = record { code = 0; given = 1; cell = p; finish = v; next = i }
replied_solid (gives S.end) = no_solid 0
replied_solid (refused c) = no_solid c
