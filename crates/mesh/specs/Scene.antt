-- For the code: what a scene says, by the definitions' words.
use Rattle.std.specs.Prelude.{ℕ, Bool}
use Rattle.stand.specs.Edit.{look}
use Rattle.stand.specs.Shape.{Shape, shape_of}
use Rattle.stand.specs.declared.Cell.{Cell}
use Rattle.mesh.specs.Visible.{empty_beyond}
use Rattle.mesh.specs.declared.scene.Scene.{Scene}

abbrev pub shape_in : Scene → Shape
shape_in s = shape_of s.stand.header.volume

abbrev pub look_in : Scene → Cell → ℕ
look_in s = look (shape_in s) s.stand.cells.now

-- outside counts as empty
abbrev pub open_in : Scene → Bool
open_in s = empty_beyond s.beyond
