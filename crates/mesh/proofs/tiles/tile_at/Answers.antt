use Rattle.std.proofs.Common.{◌∙◌, arith}
use Rattle.mesh.proofs.Tables.{facing_read}
use Rattle.mesh.proofs.Tiling.{tile_index, tile_sums}
use Rattle.mesh.proofs.tiles.tile_at.Goals as goal

pub overflow_add-x : goal.overflow_add-x
overflow_add-x c =
    let a = c.args in
    omega (arith, (tile_sums a.p a.side.number a.d a.a a.b (c.to_axes-t.ensures ∙ facing_read a.side a.d a.a a.b) c.requires).x)

pub overflow_add-y : goal.overflow_add-y
overflow_add-y c =
    let a = c.args in
    omega (arith, (tile_sums a.p a.side.number a.d a.a a.b (c.to_axes-t.ensures ∙ facing_read a.side a.d a.a a.b) c.requires).y)

pub overflow_add-z : goal.overflow_add-z
overflow_add-z c =
    let a = c.args in
    omega (arith, (tile_sums a.p a.side.number a.d a.a a.b (c.to_axes-t.ensures ∙ facing_read a.side a.d a.a a.b) c.requires).z)

pub overflow_mul-row : goal.overflow_mul-row
overflow_mul-row c =
    let a = c.args in
    omega (arith, (tile_sums a.p a.side.number a.d a.a a.b (c.to_axes-t.ensures ∙ facing_read a.side a.d a.a a.b) c.requires).row)

pub overflow_add-row : goal.overflow_add-row
overflow_add-row c =
    let a = c.args in
    omega (arith, (tile_sums a.p a.side.number a.d a.a a.b (c.to_axes-t.ensures ∙ facing_read a.side a.d a.a a.b) c.requires).row)

pub overflow_mul-result : goal.overflow_mul-result
overflow_mul-result c =
    let a = c.args in
    omega (arith, (tile_sums a.p a.side.number a.d a.a a.b (c.to_axes-t.ensures ∙ facing_read a.side a.d a.a a.b) c.requires).all)

pub overflow_add-result : goal.overflow_add-result
overflow_add-result c =
    let a = c.args in
    omega (arith, (tile_sums a.p a.side.number a.d a.a a.b (c.to_axes-t.ensures ∙ facing_read a.side a.d a.a a.b) c.requires).all)

pub returns : goal.returns
returns c =
    let a = c.args in
    tile_index a.p a.side.number a.d a.a a.b (c.to_axes-t.ensures ∙ facing_read a.side a.d a.a a.b)
