use Rattle.std.proofs.Common.{rules, ◌≡◌, ◌++◌, ℕ, length, replicate, take, drop, subst}
use Rattle.mesh.specs.Scene.{open_in, shape_in}
use Rattle.mesh.specs.Tiles.{Cleared, part_of}
use Rattle.mesh.proofs.Called.{part-listed, part-short, part_small, wiped_cleared, wiped_is}
use Rattle.mesh.proofs.Made.{largest_is, part-below}
use Rattle.mesh.proofs.faces.mesh_part.Goals as goal

pub largest-want-requires : goal.largest-want-requires
largest-want-requires c = part-below c.args.p

pub returns-then-mask-want : goal.returns-then-mask-want
returns-then-mask-want c =
    let p = c.args.p in
    part_small (shape_in p.scene) _ (open_in p.scene) (part_of p) _ _ (largest_is p c.largest-want.ensures) c.if-mask-want.true

pub mesh_sides-made-requires : goal.mesh_sides-made-requires
mesh_sides-made-requires c =
    let m = c.args.mask.now in
    let w = c.largest-want.result in
    let e : c.fill.new.self ≡ replicate (length (take w m)) 0 = search rules in
    subst (λ (n : ℕ). Cleared n (c.fill.new.self ++ drop w m)) (largest_is c.args.p c.largest-want.ensures) (wiped_cleared w m c.if-mask-want.false (wiped_is w m c.if-mask-want.false e))

pub returns-then-list-made : goal.returns-then-list-made
returns-then-list-made c =
    let p = c.args.p in
    let m = c.args.mask.now in
    let w = c.largest-want.result in
    let e : c.fill.new.self ≡ replicate (length (take w m)) 0 = search rules in
    let k = c.mesh_sides-made in
    part-short (shape_in p.scene) _ (open_in p.scene) (part_of p) m c.args.list.now (largest_is p c.largest-want.ensures) c.if-mask-want.false (wiped_is w m c.if-mask-want.false e) k.ensures k.auto.list c.if-list-made.true

pub returns : goal.returns
returns c =
    let p = c.args.p in
    let m = c.args.mask.now in
    let w = c.largest-want.result in
    let e : c.fill.new.self ≡ replicate (length (take w m)) 0 = search rules in
    let k = c.mesh_sides-made in
    part-listed (shape_in p.scene) _ (open_in p.scene) (part_of p) m c.args.list.now (largest_is p c.largest-want.ensures) c.if-mask-want.false (wiped_is w m c.if-mask-want.false e) k.ensures k.auto.list c.if-list-made.false
