-- All panels of a part: C's struct, and mask and list after the call.
use Rattle.std.specs.Prelude.{ℕ, List, ℤ}
use Rattle.stand.specs.declared.volume.Volume.{Volume}
use Rattle.mesh.specs.Faces.{Meshed, Meshing, chunk_faces_call, faces_call}
use Rattle.mesh.specs.Faces as M
use Rattle.exports.specs.Rule.{bad_argument, named, rule_at}
use Rattle.exports.specs.declared.reply.Number.{Number}

pub record MeshReply : Type 0 where
  pub reply : Number
  pub mask : List ℕ
  pub list : List ℤ

abbrev pub mesh_reply_of : Number → List ℕ → List ℤ → MeshReply
mesh_reply_of n m l = record { reply = n; mask = m; list = l }

abbrev pub replied_panels : Meshed → Number
replied_panels (M.panels n) = record { code = 0; value = n }
replied_panels (M.refused c) = record { code = c; value = 0 }
replied_panels (M.short c n) = record { code = c; value = n }

abbrev pub mesh_reply : Meshing → MeshReply
mesh_reply x = mesh_reply_of (replied_panels x.answer) x.mask x.list

abbrev pub bad_mesh : List ℕ → List ℤ → MeshReply
bad_mesh m l = mesh_reply_of (record { code = bad_argument; value = 0 }) m l

unfoldable pub faces_reply : Volume → List ℕ → ℕ → List ℕ → List ℤ → MeshReply
faces_reply v cells rule m l = named (rule_at rule) (λ b. mesh_reply (faces_call v cells b m l)) (bad_mesh m l)

unfoldable pub chunk_faces_reply : Volume → List ℕ → ℕ → ℕ → List ℕ → List ℤ → MeshReply
chunk_faces_reply v cells i rule m l = named (rule_at rule) (λ b. mesh_reply (chunk_faces_call v cells i b m l)) (bad_mesh m l)
